-- A word with nothing against it makes what is spelled grow as the graph does.
use Rattle.std.proofs.Common.{◌≡◌, ℕ, List, [], ◌∷◌, ◌++◌, Bool, true, false, Option, Some, None}
use Rattle.std.proofs.Common.{length, refl, sym, ◌∙◌, ◌==◌, if◌then◌else◌}
use Rattle.std.specs.List.{IsDistinct}
use Rattle.std.proofs.lemmas.Bool.{eqb-true}
use Rattle.std.proofs.lemmas.List.{append-nil}
use Rattle.mc_angle.specs.Angle.{angle_of}
use Rattle.mc_model.specs.Names.{Name, name_eq, is_held, place_of}
use Rattle.mc_text.specs.declared.head.Head.{Head}
use Rattle.mc_text.specs.declared.head.Head.TheVariants.{In, N, E, M, X, Z, Out}
use Rattle.mc_text.specs.declared.point.Point.{Point}
use Rattle.mc_text.specs.Rules.{number_in}
use Rattle.mc_text.proofs.Numbers.{held-place, place-held}
use Rattle.mc_graph.specs.Building.{with_vertex, with_edge, with_angle}
use Rattle.mc_pattern.specs.Rules.{is_stranger}
use Rattle.mc_graph.specs.Rules.{has_angle, angle_rule}
use Rattle.mc_graph_text.specs.Roles.{role_of, is_measuring}
use Rattle.mc_graph_text.specs.Value.{Spelled}
use Rattle.mc_graph_text.specs.Judge.{angled, judge_by}
use Rattle.mc_graph_text.specs.Kept.{graph_so_far, IsSound, IsFirst, is_keeping, with_x, with_z}
use Rattle.mc_graph_text.specs.Kept.{next_graph}
use Rattle.mc_graph_text.proofs.Pairs.{spelled_with}
use Rattle.mc_graph_text.proofs.NameReads.{angled_at}
use Rattle.mc_graph_text.proofs.Growing.{AreHeld, vertex_more, edge_more, angle_more, x_more}
use Rattle.mc_graph_text.proofs.Growing.{z_more}
use Rattle.mc_graph_text.proofs.Grown.{IsGrown, IsStill, new_free, other_held, output_is, fixed_is}
use Rattle.mc_graph_text.proofs.Grown.{sound_vertex, sound_edge, sound_angle, sound_output, sound_x}
use Rattle.mc_graph_text.proofs.Grown.{sound_z}

are_held : (s : Spelled) → IsSound s → AreHeld s.names s.edges s.angles s.xs s.zs
are_held s h = record {
  ends = h.ends;
  other_ends = h.other_ends;
  angled = h.angled_held;
  fixed_x = h.xs_held;
  fixed_z = h.zs_held;
}

number-place : (names : List Name) (word : Name) (q : ℕ) → place_of names word ≡ Some q
    → number_in names word ≡ q
number-place names word q e = rw e refl

grown_vertex : (half : ℕ) (s : Spelled) (inputs : List Name) (word : Name) → IsSound s
    → is_held s.names word ≡ false
    → IsGrown half (record s { names = s.names ++ word ∷ []; inputs = inputs })
    (with_vertex (graph_so_far half s) word)
grown_vertex half s inputs word h new = record {
  graph = vertex_more half s.names s.edges s.angles s.xs s.zs word (are_held s h) new;
  sound = sound_vertex s inputs word h;
}

grown_edge : (half : ℕ) (s : Spelled) (a b : Name) (q : ℕ) → IsSound s → IsDistinct name_eq s.names
    → place_of s.names a ≡ Some q → is_held s.names b ≡ true
    → IsGrown half (record s { edges = s.edges ++ (a, b) ∷ [] })
    (with_edge (graph_so_far half s) q (number_in s.names b))
grown_edge half s a b q h distinct place held =
    let other = place-held s.names b held in record {
      graph = rw (number-place s.names b other.0 other.1)
          (edge_more half s.names s.edges s.angles s.xs s.zs a b q other.0 distinct place other.1);
      sound = sound_edge s a b h (held-place s.names a q place) held;
    }

grown_angle : (half : ℕ) (s : Spelled) (a w : Name) (q : ℕ) → IsSound s
    → IsDistinct name_eq s.names → place_of s.names a ≡ Some q → is_held (angled s) a ≡ false
    → s.outputs ≡ [] → s.xs ≡ [] → s.zs ≡ []
    → IsGrown half (record s { angles = s.angles ++ (a, w) ∷ [] })
    (with_angle (graph_so_far half s) q (angle_of half w))
grown_angle half s a w q h distinct place free outputs xs zs = record {
  graph = angle_more half s.names s.edges s.angles s.xs s.zs a w q distinct place free;
  sound = sound_angle s a w h (held-place s.names a q place) outputs xs zs;
}

grown_output : (half : ℕ) (s : Spelled) (word : Name) → IsSound s → IsStill s word
    → is_held s.outputs word ≡ false
    → IsGrown half (record s { outputs = s.outputs ++ word ∷ [] }) (graph_so_far half s)
grown_output half s word h still new = record {
  graph = refl;
  sound = sound_output s word h still new;
}

grown_x : (half : ℕ) (s : Spelled) (word : Name) → IsSound s → IsDistinct name_eq s.names
    → IsStill s word
    → IsGrown half (record s { xs = s.xs ++ word ∷ [] })
    (with_x (graph_so_far half s) (number_in s.names word))
grown_x half s word h distinct still =
    let place = place-held s.names word still.held in record {
      graph = rw (number-place s.names word place.0 place.1)
          (x_more half s.names s.edges s.angles s.xs s.zs word place.0 distinct place.1);
      sound = sound_x s word h still;
    }

grown_z : (half : ℕ) (s : Spelled) (word : Name) → IsSound s → IsDistinct name_eq s.names
    → IsStill s word
    → IsGrown half (record s { zs = s.zs ++ word ∷ [] })
    (with_z (graph_so_far half s) (number_in s.names word))
grown_z half s word h distinct still =
    let place = place-held s.names word still.held in record {
      graph = rw (number-place s.names word place.0 place.1)
          (z_more half s.names s.edges s.angles s.xs s.zs word place.0 distinct place.1);
      sound = sound_z s word h still;
    }

-- nothing is added
grown_same : (half : ℕ) (s : Spelled) → IsSound s → IsGrown half s (graph_so_far half s)
grown_same half s h = record { graph = refl; sound = h }

-- a vertex that may get an angle has none
abbrev two_rules : ℕ → ℕ → Bool → Bool → Option ℕ
two_rules m n a b = if a then Some m else (if b then Some n else None)

rule_free : (stranger angle : Bool) → two_rules 1 4 stranger angle ≡ None → angle ≡ false
rule_free true angle e = absurd (cc e)
rule_free false true e = absurd (cc e)
rule_free false false e = refl

no_angle_yet : (half : ℕ) (s : Spelled) (a : Name) (q : ℕ) → place_of s.names a ≡ Some q
    → angle_rule (graph_so_far half s) q ≡ None → is_held (angled s) a ≡ false
no_angle_yet half s a q place free =
    sym (angled_at half s a q place)
    ∙ rule_free (is_stranger (length s.names) q) (has_angle (graph_so_far half s) q) free

-- what is known before a word
pub record CanGrow (half : ℕ) (fixes : Bool) (s : Spelled) (p : Point) (first : Option Name)
    (number : ℕ) (word : Name) : Type 0 where
  pub sound : IsSound s
  pub distinct : IsDistinct name_eq s.names
  pub clean : judge_by fixes s first p.last (role_of p) word ≡ None
  pub keeps : p.count ≡ 2 → is_keeping p.head ≡ true → IsFirst s.names first number
  pub free : p.count ≡ 2 → is_measuring p.head ≡ true
      → angle_rule (graph_so_far half s) number ≡ None
  pub unlisted : is_measuring p.head ≡ true → (s.outputs ≡ []) × (s.xs ≡ []) × (s.zs ≡ [])

abbrev pub Grows : ℕ → Spelled → Point → Option Name → ℕ → Name → Type 0
Grows half s p first number word =
    IsGrown half (spelled_with p first word s) (next_graph half (graph_so_far half s) p number word)

-- the record word of the line
grows_record : (half : ℕ) (fixes : Bool) (s : Spelled) (p : Point) (first : Option Name)
    (number : ℕ) (word : Name) → CanGrow half fixes s p first number word → (p.count == 0) ≡ true
    → Grows half s p first number word
grows_record half fixes s p first number word c e =
    rw (
      e,
      append-nil s.names,
      append-nil s.inputs,
      append-nil s.edges,
      append-nil s.angles,
      append-nil s.outputs,
      append-nil s.xs,
      append-nil s.zs,
    ) (grown_same half s c.sound)

grows_in : (half : ℕ) (fixes : Bool) (s : Spelled) (p : Point) (first : Option Name)
    (number : ℕ) (word : Name) → CanGrow half fixes s p first number word → (p.count == 0) ≡ false
    → p.head ≡ Some In → Grows half s p first number word
grows_in half fixes s p first number word c e g =
    let clean = c.clean in
    let new = new_free s.names word (rw (e, g) at clean) in
    rw (
      e,
      g,
      append-nil s.edges,
      append-nil s.angles,
      append-nil s.outputs,
      append-nil s.xs,
      append-nil s.zs,
    ) (grown_vertex half s (s.inputs ++ word ∷ []) word c.sound new)

grows_n : (half : ℕ) (fixes : Bool) (s : Spelled) (p : Point) (first : Option Name)
    (number : ℕ) (word : Name) → CanGrow half fixes s p first number word → (p.count == 0) ≡ false
    → p.head ≡ Some N → (t : Bool) → (p.count == 1) ≡ t → Grows half s p first number word
grows_n half fixes s p first number word c e g true one =
    let clean = c.clean in
    let new = new_free s.names word (rw (e, g, one) at clean) in
    rw (
      e,
      g,
      append-nil s.inputs,
      append-nil s.edges,
      append-nil s.angles,
      append-nil s.outputs,
      append-nil s.xs,
      append-nil s.zs,
    ) (grown_vertex half s s.inputs word c.sound new)
grows_n half fixes s p first number word c e g false one =
    let clean = c.clean in
    let clean' = rw (e, g, one) at clean in
    absurd (cc clean')

-- a line whose second word counts; its first adds nothing
grows_first : (half : ℕ) (fixes : Bool) (s : Spelled) (p : Point) (first : Option Name)
    (number : ℕ) (word : Name) → CanGrow half fixes s p first number word
    → is_keeping p.head ≡ true → (p.count == 1) ≡ true → Grows half s p first number word
grows_first half fixes s p first number word c gate one =
    by_head p.head refl gate
  where
    count : p.count ≡ 1
    count = eqb-true p.count 1 one

    by_head : (h : Option Head) → p.head ≡ h → is_keeping h ≡ true
        → Grows half s p first number word
    by_head None g k = absurd (cc k)
    by_head (Some E) g k =
        rw (
          count,
          g,
          append-nil s.names,
          append-nil s.inputs,
          append-nil s.edges,
          append-nil s.angles,
          append-nil s.outputs,
          append-nil s.xs,
          append-nil s.zs,
        ) (grown_same half s c.sound)
    by_head (Some M) g k =
        rw (
          count,
          g,
          append-nil s.names,
          append-nil s.inputs,
          append-nil s.edges,
          append-nil s.angles,
          append-nil s.outputs,
          append-nil s.xs,
          append-nil s.zs,
        ) (grown_same half s c.sound)
    by_head (Some _) g k = absurd (cc k)

grows_e : (half : ℕ) (fixes : Bool) (s : Spelled) (p : Point) (first : Option Name)
    (number : ℕ) (word : Name) → CanGrow half fixes s p first number word → (p.count == 0) ≡ false
    → p.head ≡ Some E → (t u : Bool) → (p.count == 1) ≡ t → (p.count == 2) ≡ u
    → Grows half s p first number word
grows_e half fixes s p first number word c e g true u one two =
    grows_first half fixes s p first number word c (rw g refl) one
grows_e half fixes s p first number word c e g false true one two =
    let is = c.keeps (eqb-true p.count 2 two) (rw g refl) in
    let first_is = is.is in
    let clean = c.clean in
    let held = other_held s is.name word (rw (e, g, one, two, first_is) at clean) in
    rw (
      e,
      g,
      two,
      first_is,
      append-nil s.names,
      append-nil s.inputs,
      append-nil s.angles,
      append-nil s.outputs,
      append-nil s.xs,
      append-nil s.zs,
    ) (grown_edge half s is.name word number c.sound c.distinct is.place held)
grows_e half fixes s p first number word c e g false false one two =
    let clean = c.clean in
    let clean' = rw (e, g, one, two) at clean in
    absurd (cc clean')

grows_m : (half : ℕ) (fixes : Bool) (s : Spelled) (p : Point) (first : Option Name)
    (number : ℕ) (word : Name) → CanGrow half fixes s p first number word → (p.count == 0) ≡ false
    → p.head ≡ Some M → (t u : Bool) → (p.count == 1) ≡ t → (p.count == 2) ≡ u
    → Grows half s p first number word
grows_m half fixes s p first number word c e g true u one two =
    grows_first half fixes s p first number word c (rw g refl) one
grows_m half fixes s p first number word c e g false true one two =
    let is = c.keeps (eqb-true p.count 2 two) (rw g refl) in
    let first_is = is.is in
    let free = no_angle_yet half s is.name number is.place
    (c.free (eqb-true p.count 2 two) (rw g refl)) in
    let none = c.unlisted (rw g refl) in
    rw (
      e,
      g,
      two,
      first_is,
      append-nil s.names,
      append-nil s.inputs,
      append-nil s.edges,
      append-nil s.outputs,
      append-nil s.xs,
      append-nil s.zs,
    )
    (grown_angle half s is.name word number c.sound c.distinct is.place free none.0 none.1 none.2)
grows_m half fixes s p first number word c e g false false one two =
    let clean = c.clean in
    let clean' = rw (e, g, one, two) at clean in
    absurd (cc clean')

grows_out : (half : ℕ) (fixes : Bool) (s : Spelled) (p : Point) (first : Option Name)
    (number : ℕ) (word : Name) → CanGrow half fixes s p first number word → (p.count == 0) ≡ false
    → p.head ≡ Some Out → Grows half s p first number word
grows_out half fixes s p first number word c e g =
    let clean = c.clean in
    let is = output_is s word (rw (e, g) at clean) in
    rw (
      e,
      g,
      append-nil s.names,
      append-nil s.inputs,
      append-nil s.edges,
      append-nil s.angles,
      append-nil s.xs,
      append-nil s.zs,
    ) (grown_output half s word c.sound is.0 is.1)

grows_x : (half : ℕ) (fixes : Bool) (s : Spelled) (p : Point) (first : Option Name)
    (number : ℕ) (word : Name) → CanGrow half fixes s p first number word → (p.count == 0) ≡ false
    → p.head ≡ Some X → (t : Bool) → (p.count == 1) ≡ t → Grows half s p first number word
grows_x half fixes s p first number word c e g true one =
    let clean = c.clean in
    let is = fixed_is s s.xs word (rw (e, g, one) at clean) in
    rw (
      e,
      g,
      append-nil s.names,
      append-nil s.inputs,
      append-nil s.edges,
      append-nil s.angles,
      append-nil s.outputs,
      append-nil s.zs,
    ) (grown_x half s word c.sound c.distinct is)
grows_x half fixes s p first number word c e g false one =
    let clean = c.clean in
    let clean' = rw (e, g, one) at clean in
    absurd (cc clean')

grows_z : (half : ℕ) (fixes : Bool) (s : Spelled) (p : Point) (first : Option Name)
    (number : ℕ) (word : Name) → CanGrow half fixes s p first number word → (p.count == 0) ≡ false
    → p.head ≡ Some Z → (t : Bool) → (p.count == 1) ≡ t → Grows half s p first number word
grows_z half fixes s p first number word c e g true one =
    let clean = c.clean in
    let is = fixed_is s s.zs word (rw (e, g, one) at clean) in
    rw (
      e,
      g,
      append-nil s.names,
      append-nil s.inputs,
      append-nil s.edges,
      append-nil s.angles,
      append-nil s.outputs,
      append-nil s.xs,
    ) (grown_z half s word c.sound c.distinct is)
grows_z half fixes s p first number word c e g false one =
    let clean = c.clean in
    let clean' = rw (e, g, one) at clean in
    absurd (cc clean')

pub grows : (half : ℕ) (fixes : Bool) (s : Spelled) (p : Point) (first : Option Name) (number : ℕ)
    (word : Name) → CanGrow half fixes s p first number word → Grows half s p first number word
grows half fixes s p first number word c = by_count (p.count == 0) refl
  where
    by_head : (h : Option Head) → p.head ≡ h → (p.count == 0) ≡ false
        → Grows half s p first number word
    by_head None g e =
        let clean = c.clean in
        let clean' = rw (e, g) at clean in
        absurd (cc clean')
    by_head (Some In) g e = grows_in half fixes s p first number word c e g
    by_head (Some N) g e = grows_n half fixes s p first number word c e g (p.count == 1) refl
    by_head (Some E) g e =
        grows_e half fixes s p first number word c e g (p.count == 1) (p.count == 2) refl refl
    by_head (Some M) g e =
        grows_m half fixes s p first number word c e g (p.count == 1) (p.count == 2) refl refl
    by_head (Some Out) g e = grows_out half fixes s p first number word c e g
    by_head (Some X) g e = grows_x half fixes s p first number word c e g (p.count == 1) refl
    by_head (Some Z) g e = grows_z half fixes s p first number word c e g (p.count == 1) refl
    by_head (Some _) g e =
        let clean = c.clean in
        let clean' = rw (e, g) at clean in
        absurd (cc clean')

    by_count : (t : Bool) → (p.count == 0) ≡ t → Grows half s p first number word
    by_count true e = grows_record half fixes s p first number word c e
    by_count false e = by_head p.head refl e
