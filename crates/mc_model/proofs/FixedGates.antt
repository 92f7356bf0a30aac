-- The gates of fixed corrections do what the corrections do, doubled for each.
use Rattle.std.proofs.Common.{◌≡◌, ℕ, zero, suc, ◌+◌, Bool, true, false, cond, not, ◌&&◌, ◌||◌, map}
use Rattle.std.proofs.Common.{length, List, [], ◌∷◌, ◌++◌, refl, sym, ◌∙◌, ap, ap₂, subst, arith}
use Rattle.std.proofs.Common.{length-append, append_assoc}
use Rattle.std.specs.Prelude.{◌⊎◌, nat_eq, filter, flat_map, Option, unwrap_or}
use Rattle.std.proofs.lemmas.Bool.{eq-eqb, ne_eqb, cases_eq, cases_lt, cases_Bool, true≢false}
use Rattle.std.proofs.lemmas.Option.{slice_get_past}
use mathlib.Core.Path.{fun_ext}
use mathlib.Core.Logic.{inl, inr}
use Rattle.mc_model.specs.Numbers.{numbers_from, numbers_where, is_member}
use Rattle.mc_model.specs.Phase.{PhaseOps, PhaseLaws, turn, sign, doubled}
use Rattle.mc_model.specs.Bits.{◌⊻◌, Bits, replaced, parity, all_zero}
use Rattle.mc_model.specs.Signals.{value, one_signal}
use Rattle.mc_model.specs.Pattern.{Command, FixX, FixZ, Gate, J}
use Rattle.mc_model.specs.Amplitude.{Amps, start, act, after, amp, branch_map, zero_branch}
use Rattle.mc_model.specs.Amplitude.{act_gate, after_gates, circuit_table, placed}
use Rattle.mc_model.specs.Graph.{OpenGraph, size, Fixed, not_fixed, fixed_at, is_output}
use Rattle.mc_model.specs.Graph.{IsOpenGraph, graph_state, bare_measurement, where_fixed}
use Rattle.mc_model.specs.Graph.{corrections_at, fixed_corrections, zero_pattern}
use Rattle.mc_model.specs.Flow.{depth_of}
use Rattle.mc_model.specs.Made.{measuring_order, wire_of, is_first, cz_gate, extracted_gates}
use Rattle.mc_model.specs.Made.{fixed_gates, extracted_circuit}
use Rattle.mc_model.proofs.PhaseLemmas.{neg_neg, neg-sum, sign-sum}
use Rattle.mc_model.proofs.BitLemmas.{and_true, replaced_same, replaced_other, replaced_again}
use Rattle.mc_model.proofs.BitLemmas.{replaced_itself}
use Rattle.mc_model.proofs.AmplitudeLemmas.{after-append, gates-append}

-- ---- members of lists

member_first : (q : ℕ) (qs : List ℕ) → is_member (q ∷ qs) q ≡ true
member_first q qs = ap (λ (b : Bool). b || is_member qs q) (eq-eqb q q refl)

member_more : (q : ℕ) (qs : List ℕ) (k : ℕ) → is_member qs k ≡ true → is_member (q ∷ qs) k ≡ true
member_more q qs k e = ap (λ (b : Bool). nat_eq k q || b) e ∙ or_true (nat_eq k q)
  where
    or_true : (b : Bool) → (b || true) ≡ true
    or_true true = refl
    or_true false = refl

member_later : (q : ℕ) (qs : List ℕ) (k : ℕ) → (k ≡ q → ⊥) → is_member (q ∷ qs) k ≡ true →
    is_member qs k ≡ true
member_later q qs k other e = sym (ap (λ (b : Bool). b || is_member qs k) (ne_eqb k q other)) ∙ e

-- ---- settings that are placed on listed qubits

-- nothing is placed elsewhere
placed_elsewhere : (qs : List ℕ) (ys : List Bool) (k : ℕ) → is_member qs k ≡ false →
    placed qs ys k ≡ false
unfolding placed
placed_elsewhere [] ys k e = refl
placed_elsewhere (q ∷ qs) [] k e = refl
placed_elsewhere (q ∷ qs) (y ∷ ys) k e = elim (cases_eq k q) [
  | inl same ↦
      absurd (true≢false (sym (ap (λ (b : Bool). b || is_member qs k) (eq-eqb k q same)) ∙ e))
  | inr other ↦
      replaced_other (placed qs ys) q y k other
      ∙ placed_elsewhere qs ys k
      (sym (ap (λ (b : Bool). b || is_member qs k) (ne_eqb k q other)) ∙ e)
]

-- the bits of a setting, placed on the qubits themselves
placed_bits : (qs : List ℕ) (x : Bits) (k : ℕ) → is_member qs k ≡ true →
    placed qs (map x qs) k ≡ x k
unfolding placed
placed_bits [] x k e = absurd (true≢false (sym e))
placed_bits (q ∷ qs) x k e = elim (cases_eq k q) [
  | inl same ↦
      ap (replaced (placed qs (map x qs)) q (x q)) same
      ∙ replaced_same (placed qs (map x qs)) q (x q)
      ∙ ap x (sym same)
  | inr other ↦
      replaced_other (placed qs (map x qs)) q (x q) k other
      ∙ placed_bits qs x k (member_later q qs k other e)
]

-- the qubits of the list have wires of their own
abbrev pub AreApart : (ℕ → ℕ) → List ℕ → Type 0
AreApart w qs = (u v : ℕ) → is_member qs u ≡ true → is_member qs v ≡ true → w u ≡ w v → u ≡ v

apart_rest : (w : ℕ → ℕ) (q : ℕ) (qs : List ℕ) → AreApart w (q ∷ qs) → AreApart w qs
apart_rest w q qs apart u v eu ev e =
    apart u v (member_more q qs u eu) (member_more q qs v ev) e

-- the bit of a wire is that of its qubit
placed_on_wire : (w : ℕ → ℕ) (qs : List ℕ) (ys : List Bool) (u : ℕ) → AreApart w qs →
    is_member qs u ≡ true → placed (map w qs) ys (w u) ≡ placed qs ys u
unfolding placed
placed_on_wire w [] ys u apart e = absurd (true≢false (sym e))
placed_on_wire w (q ∷ qs) [] u apart e = refl
placed_on_wire w (q ∷ qs) (y ∷ ys) u apart e = elim (cases_eq u q) [
  | inl same ↦
      ap (λ (k : ℕ). replaced (placed (map w qs) ys) (w q) y (w k)) same
      ∙ replaced_same (placed (map w qs) ys) (w q) y
      ∙ sym (ap (replaced (placed qs ys) q y) same ∙ replaced_same (placed qs ys) q y)
  | inr other ↦
      replaced_other (placed (map w qs) ys) (w q) y (w u)
      (λ d. other (apart u q e (member_first q qs) d))
      ∙ placed_on_wire w qs ys u (apart_rest w q qs apart) (member_later q qs u other e)
      ∙ sym (replaced_other (placed qs ys) q y u other)
]

-- a wire of the list is that of a qubit
wire_of_member : (w : ℕ → ℕ) (qs : List ℕ) (k : ℕ) → is_member (map w qs) k ≡ true →
    (u : ℕ) × (is_member qs u ≡ true) × (k ≡ w u)
wire_of_member w [] k e = absurd (true≢false (sym e))
wire_of_member w (q ∷ qs) k e = elim (cases_eq k (w q)) [
  | inl here ↦ (q, member_first q qs, here)
  | inr other ↦
      let found =
      wire_of_member w qs k (member_later (w q) (map w qs) k other e) in
      (found.0, member_more q qs found.0 found.1, found.2)
]

wire_there : (w : ℕ → ℕ) (qs : List ℕ) (u : ℕ) → is_member qs u ≡ true →
    is_member (map w qs) (w u) ≡ true
wire_there w [] u e = absurd (true≢false (sym e))
wire_there w (q ∷ qs) u e = elim (cases_eq u q) [
  | inl here ↦
      ap (λ (b : Bool). b || is_member (map w qs) (w u)) (eq-eqb (w u) (w q) (ap w here))
  | inr other ↦
      member_more (w q) (map w qs) (w u) (wire_there w qs u (member_later q qs u other e))
]

-- one bit replaced, on the qubits and on their wires
replaced_placed : (qs : List ℕ) (ys : List Bool) (v : ℕ) (c : Bool) → is_member qs v ≡ true →
    replaced (placed qs ys) v c ≡ placed qs (map (replaced (placed qs ys) v c) qs)
replaced_placed qs ys v c e =
    let x : Bits = replaced (placed qs ys) v c in
    fun_ext λ k. elim (cases_Bool (is_member qs k)) [
      | inl there ↦ sym (placed_bits qs x k there)
      | inr gone ↦
          replaced_other (placed qs ys) v c k
          (λ d. true≢false (sym e ∙ ap (is_member qs) (sym d) ∙ gone))
          ∙ placed_elsewhere qs ys k gone
          ∙ sym (placed_elsewhere qs (map x qs) k gone)
    ]

replaced_wire : (w : ℕ → ℕ) (qs : List ℕ) (ys : List Bool) (v : ℕ) (c : Bool) → AreApart w qs →
    is_member qs v ≡ true →
    replaced (placed (map w qs) ys) (w v) c
    ≡ placed (map w qs) (map (replaced (placed qs ys) v c) qs)
replaced_wire w qs ys v c apart e =
    fun_ext λ k. elim (cases_Bool (is_member (map w qs) k)) [
      | inl there ↦
          let found = wire_of_member w qs k there in
          ap (replaced (placed (map w qs) ys) (w v) c) found.2
          ∙ on_wire found.0 found.1
          ∙ sym (ap (placed (map w qs) (map x qs)) found.2)
      | inr gone ↦
          replaced_other (placed (map w qs) ys) (w v) c k (λ d.
          true≢false (sym (wire_there w qs v e) ∙ ap (is_member (map w qs)) (sym d) ∙ gone))
          ∙ placed_elsewhere (map w qs) ys k gone
          ∙ sym (placed_elsewhere (map w qs) (map x qs) k gone)
    ]
  where
    x : Bits
    x = replaced (placed qs ys) v c

    on_wire : (u : ℕ) → is_member qs u ≡ true →
        replaced (placed (map w qs) ys) (w v) c (w u) ≡ placed (map w qs) (map x qs) (w u)
    on_wire u m =
        same (cases_eq u v)
        ∙ sym (placed_on_wire w qs (map x qs) u apart m ∙ placed_bits qs x u m)
      where
        same : (u ≡ v) ⊎ (u ≡ v → ⊥) → replaced (placed (map w qs) ys) (w v) c (w u) ≡ x u
        same (inl d) =
            ap (λ (k : ℕ). replaced (placed (map w qs) ys) (w v) c (w k)) d
            ∙ replaced_same (placed (map w qs) ys) (w v) c
            ∙ sym (ap x d ∙ replaced_same (placed qs ys) v c)
        same (inr ne) =
            replaced_other (placed (map w qs) ys) (w v) c (w u) (λ d. ne (apart u v m e d))
            ∙ placed_on_wire w qs ys u apart m
            ∙ sym (replaced_other (placed qs ys) v c u ne)

-- ---- two gates `J` are a correction, doubled

module _ {E : Type 0} (ops : PhaseOps E) (laws : PhaseLaws ops) where
  sums_to_second : (a b : E) →
      ops.add (ops.add a b) (ops.neg (ops.add a (ops.neg b))) ≡ ops.add b b
  sums_to_second a b =
      ap (ops.add (ops.add a b)) (neg-sum ops laws a (ops.neg b)
      ∙ ap (ops.add (ops.neg a)) (neg_neg ops laws b))
      ∙ ap (λ (c : E). ops.add c (ops.add (ops.neg a) b)) (laws.add_comm a b)
      ∙ cancel b a b
    where
      cancel : (c a b : E) → ops.add (ops.add c a) (ops.add (ops.neg a) b) ≡ ops.add c b
      cancel c a b =
          laws.add_assoc c a (ops.add (ops.neg a) b)
          ∙ ap (ops.add c)
          (sym (laws.add_assoc a (ops.neg a) b)
          ∙ ap (λ (d : E). ops.add d b) (laws.add_neg a)
          ∙ laws.add_comm ops.nought b ∙ laws.add_nought b)

  sums_to_first : (a b : E) → ops.add (ops.add a b) (ops.add a (ops.neg b)) ≡ ops.add a a
  sums_to_first a b =
      ap (ops.add (ops.add a b)) (laws.add_comm a (ops.neg b))
      ∙ laws.add_assoc a b (ops.add (ops.neg b) a)
      ∙ ap (ops.add a)
      (sym (laws.add_assoc b (ops.neg b) a)
      ∙ ap (λ (d : E). ops.add d a) (laws.add_neg b)
      ∙ laws.add_comm ops.nought a ∙ laws.add_nought a)

  sums_to_left : (a b : E) →
      ops.add (ops.add a b) (ops.neg (ops.add (ops.neg a) b)) ≡ ops.add a a
  sums_to_left a b =
      ap (ops.add (ops.add a b))
      (neg-sum ops laws (ops.neg a) b
      ∙ ap (λ (d : E). ops.add d (ops.neg b)) (neg_neg ops laws a))
      ∙ sums_to_first a b

  -- a fixed `X`
  gates_x : (u : ℕ) (g : Amps E) (z : Bits) →
      after_gates ops (J u 0 ∷ J u ops.half ∷ []) g z
      ≡ ops.add (g (replaced z u (z u ⊻ true))) (g (replaced z u (z u ⊻ true)))
  unfolding after_gates act_gate turn
  gates_x u g z =
      ap₂ (λ (c d : E). ops.add c (sign ops (z u) (turn ops ops.half d))) (first false) (first true)
      ∙ ap (λ (d : E). ops.add (ops.add (at false) (at true)) (sign ops (z u) d))
      (laws.half_turn (ops.add (at false) (ops.neg (at true))))
      ∙ second (z u)
    where
      at : Bool → E
      at c = g (replaced z u c)

      first : (c : Bool) →
          ops.add (g (replaced (replaced z u c) u false))
          (sign ops (replaced z u c u) (g (replaced (replaced z u c) u true)))
          ≡ ops.add (at false) (sign ops c (at true))
      first c =
          ap₂ (λ (x y : Bits). ops.add (g x) (sign ops (replaced z u c u) (g y)))
          (replaced_again z u c false) (replaced_again z u c true)
          ∙ ap (λ (b : Bool). ops.add (at false) (sign ops b (at true))) (replaced_same z u c)

      second : (b : Bool) →
          ops.add (ops.add (at false) (at true))
          (sign ops b (ops.neg (ops.add (at false) (ops.neg (at true)))))
          ≡ ops.add (at (b ⊻ true)) (at (b ⊻ true))
      second false = sums_to_second (at false) (at true)
      second true =
          ap (ops.add (ops.add (at false) (at true)))
          (neg_neg ops laws (ops.add (at false) (ops.neg (at true))))
          ∙ sums_to_first (at false) (at true)

  -- a fixed `Z`
  gates_z : (u : ℕ) (g : Amps E) (z : Bits) →
      after_gates ops (J u ops.half ∷ J u 0 ∷ []) g z ≡ sign ops (z u) (ops.add (g z) (g z))
  unfolding after_gates act_gate turn
  gates_z u g z =
      ap₂ (λ (c d : E). ops.add c (sign ops (z u) d)) (first false) (first true)
      ∙ ap (λ (d : E). ops.add (ops.add (at false) (ops.neg (at true)))
      (sign ops (z u) (ops.add (at false) d))) (neg_neg ops laws (at true))
      ∙ second (z u)
      ∙ ap (λ (x : Bits). sign ops (z u) (ops.add (g x) (g x))) (replaced_itself z u)
    where
      at : Bool → E
      at c = g (replaced z u c)

      first : (c : Bool) →
          ops.add (g (replaced (replaced z u c) u false)) (sign ops (replaced z u c u)
          (turn ops ops.half (g (replaced (replaced z u c) u true))))
          ≡ ops.add (at false) (sign ops c (ops.neg (at true)))
      first c =
          ap₂ (λ (x y : Bits). ops.add (g x)
          (sign ops (replaced z u c u) (turn ops ops.half (g y))))
          (replaced_again z u c false) (replaced_again z u c true)
          ∙ ap₂ (λ (b : Bool) (d : E). ops.add (at false) (sign ops b d)) (replaced_same z u c)
          (laws.half_turn (at true))

      second : (b : Bool) →
          ops.add (ops.add (at false) (ops.neg (at true)))
          (sign ops b (ops.add (at false) (at true)))
          ≡ sign ops b (ops.add (at b) (at b))
      second false =
          laws.add_comm (ops.add (at false) (ops.neg (at true))) (ops.add (at false) (at true))
          ∙ sums_to_first (at false) (at true)
      second true =
          ap (λ (d : E). ops.add d (ops.neg (ops.add (at false) (at true))))
          (laws.add_comm (at false) (ops.neg (at true)))
          ∙ ap (λ (d : E). ops.add (ops.add (ops.neg (at true)) (at false)) (ops.neg d))
          (laws.add_comm (at false) (at true)
          ∙ ap (λ (d : E). ops.add d (at false)) (sym (neg_neg ops laws (at true))))
          ∙ sums_to_left (ops.neg (at true)) (at false)
          ∙ sym (neg-sum ops laws (at true) (at true))

  doubled-sign : (m : ℕ) (b : Bool) (e : E) →
      doubled ops m (sign ops b e) ≡ sign ops b (doubled ops m e)
  unfolding doubled
  doubled-sign zero b e = refl
  doubled-sign (suc m) b e =
      ap (λ (d : E). ops.add d d) (doubled-sign m b e)
      ∙ sym (sign-sum ops laws b (doubled ops m e) (doubled ops m e))

module _ {E : Type 0} (ops : PhaseOps E) (laws : PhaseLaws ops) (o : Bits) (w : ℕ → ℕ)
    (qs : List ℕ) (apart : AreApart w qs) where
  -- the amplitudes on the wires are those on the listed qubits, times `2 ^ m`
  abbrev pub SameOnWires : ℕ → Amps E → Amps E → Type 0
  SameOnWires m f g =
      (ys : List Bool) → g (placed (map w qs) ys) ≡ doubled ops m (f (placed qs ys))

  -- the gates do on the wires what the commands do on the qubits, doubled for each command
  Doubles : List Command → List Gate → Type 0
  Doubles cs gs = (m : ℕ) (f g : Amps E) → SameOnWires m f g →
      SameOnWires (length cs + m) (after ops o cs f) (after_gates ops gs g)

  doubles_none : Doubles [] []
  unfolding Doubles after after_gates
  doubles_none m f g same =
      let e : m ≡ 0 + m = omega arith in
      subst (λ (k : ℕ). SameOnWires k f g) e same

  doubles_both : (cs ds : List Command) (gs hs : List Gate) → Doubles cs gs → Doubles ds hs →
      Doubles (cs ++ ds) (gs ++ hs)
  unfolding Doubles
  doubles_both cs ds gs hs first second m f g same ys =
      let l = length-append cs ds in
      let e : length ds + (length cs + m) ≡ length (cs ++ ds) + m = omega arith in
      ap (λ (h : Amps E). h (placed (map w qs) ys)) (gates-append ops laws gs hs g)
      ∙ second (length cs + m) (after ops o cs f) (after_gates ops gs g) (first m f g same) ys
      ∙ ap₂ (λ (k : ℕ) (h : Amps E). doubled ops k (h (placed qs ys))) e
      (sym (after-append ops laws o cs ds f))

  one_more : (m : ℕ) → suc m ≡ 1 + m
  one_more m = omega arith

  doubles_x : (v : ℕ) → is_member qs v ≡ true →
      Doubles (FixX v one_signal ∷ []) (J (w v) 0 ∷ J (w v) ops.half ∷ [])
  unfolding Doubles doubled after act value parity
  doubles_x v there m f g same ys =
      let c : Bool = placed qs ys v ⊻ true in
      let flipped : g (replaced (placed (map w qs) ys) (w v) c)
      ≡ doubled ops m (f (replaced (placed qs ys) v c)) =
      ap g (replaced_wire w qs ys v c apart there)
      ∙ same (map (replaced (placed qs ys) v c) qs)
      ∙ ap (λ (x : Bits). doubled ops m (f x)) (sym (replaced_placed qs ys v c there)) in
      gates_x ops laws (w v) g (placed (map w qs) ys)
      ∙ ap (λ (b : Bool).
      ops.add (g (replaced (placed (map w qs) ys) (w v) (b ⊻ true)))
      (g (replaced (placed (map w qs) ys) (w v) (b ⊻ true))))
      (placed_on_wire w qs ys v apart there)
      ∙ ap (λ (d : E). ops.add d d) flipped
      ∙ ap (λ (k : ℕ). doubled ops k (f (replaced (placed qs ys) v c))) (one_more m)

  doubles_z : (v : ℕ) → is_member qs v ≡ true →
      Doubles (FixZ v one_signal ∷ []) (J (w v) ops.half ∷ J (w v) 0 ∷ [])
  unfolding Doubles doubled after act value parity
  doubles_z v there m f g same ys =
      let b : Bool = placed qs ys v in
      gates_z ops laws (w v) g (placed (map w qs) ys)
      ∙ ap₂ (λ (c : Bool) (d : E). sign ops c (ops.add d d)) (placed_on_wire w qs ys v apart there)
      (same ys)
      ∙ sym (doubled-sign ops laws (suc m) b (f (placed qs ys)))
      ∙ ap₂ (λ (k : ℕ) (c : Bool). doubled ops k (sign ops c (f (placed qs ys)))) (one_more m)
      (sym (and_true b))

  doubles_where : (b : Bool) (cs : List Command) (gs : List Gate) → (b ≡ true → Doubles cs gs) →
      Doubles (cond b cs []) (cond b gs [])
  doubles_where true cs gs h = h refl
  doubles_where false cs gs h = doubles_none

  doubles_each : (g : OpenGraph) (vs : List ℕ) →
      ((v : ℕ) → (fixed_at g v).x ≡ true → is_member qs v ≡ true) →
      ((v : ℕ) → (fixed_at g v).z ≡ true → is_member qs v ≡ true) →
      Doubles (flat_map (corrections_at g) vs)
      (flat_map (λ v. where_fixed (fixed_at g v) (J (w v) 0 ∷ J (w v) ops.half ∷ [])
      (J (w v) ops.half ∷ J (w v) 0 ∷ [])) vs)
  doubles_each g [] x_out z_out = doubles_none
  doubles_each g (v ∷ vs) x_out z_out =
      doubles_both _ _ _ _
      (doubles_both _ _ _ _
      (doubles_where (fixed_at g v).x _ _ (λ e. doubles_x v (x_out v e)))
      (doubles_where (fixed_at g v).z _ _ (λ e. doubles_z v (z_out v e))))
      (doubles_each g vs x_out z_out)

-- the fixed gates of a graph do on the outputs' wires what its fixed corrections do
pub fixed_gates_double : {E : Type 0} (ops : PhaseOps E) (laws : PhaseLaws ops) (o : Bits)
    (g : OpenGraph) (next : ℕ → ℕ) → IsOpenGraph g → AreApart (wire_of g next) g.outputs →
    (f h : Amps E) →
    ((ys : List Bool) → h (placed (map (wire_of g next) g.outputs) ys) ≡ f (placed g.outputs ys)) →
    (ys : List Bool) →
    after_gates ops (fixed_gates ops.half g next) h (placed (map (wire_of g next) g.outputs) ys)
    ≡ doubled ops (length (fixed_corrections g))
    (after ops o (fixed_corrections g) f (placed g.outputs ys))
unfolding fixed_corrections fixed_gates Doubles doubled
fixed_gates_double ops laws o g next valid apart f h same ys =
    let n : ℕ = length (fixed_corrections g) in
    let e : n + 0 ≡ n = omega arith in
    doubles_each ops laws o (wire_of g next) g.outputs apart g (numbers_from 0 (size g))
    (λ v e. an_output (λ c. c.x) v refl e) (λ v e. an_output (λ c. c.z) v refl e) 0 f h same ys
    ∙ ap (λ (m : ℕ). doubled ops m (after ops o (fixed_corrections g) f (placed g.outputs ys))) e
  where
    an_output : (part : Fixed → Bool) (v : ℕ) → part not_fixed ≡ false →
        part (fixed_at g v) ≡ true → is_output g v ≡ true
    an_output part v none e = elim (cases_Bool (is_output g v)) [
      | inl out ↦ out
      | inr not_out ↦ absurd (true≢false (sym e ∙ ap part (off not_out) ∙ none))
    ]
      where
        off : is_output g v ≡ false → fixed_at g v ≡ not_fixed
        off not_out = elim (cases_lt v (size g)) [
          | inl l ↦ valid.fixed_outputs v l not_out
          | inr h ↦
              let long = valid.fixed in
              ap (λ (c : Option Fixed). unwrap_or c not_fixed)
              (slice_get_past g.fixed v (omega arith))
        ]

-- the gates of an extracted circuit before its fixed corrections
abbrev pub unfixed_gates : ℕ → OpenGraph → (ℕ → ℕ) → (ℕ → ℕ) → List Gate
unfixed_gates half g next layer =
    map (λ e. cz_gate g next e.one e.other)
    (filter (λ e. is_first g next e.one && is_first g next e.other) g.edges)
    ++ extracted_gates g next half [] (measuring_order g layer (depth_of g layer))

-- the commands of the zero pattern before its fixed corrections
abbrev pub unfixed_commands : OpenGraph → List Command
unfixed_commands g =
    graph_state g ++ map (bare_measurement g) (numbers_where (λ v. not (is_output g v)) (size g))

-- a circuit that has the zero branch before the fixed corrections has it with them too, doubled for
-- each
pub extracted_with_fixed : {E : Type 0} (ops : PhaseOps E) (laws : PhaseLaws ops) (g : OpenGraph)
    (next layer : ℕ → ℕ) → IsOpenGraph g → AreApart (wire_of g next) g.outputs → (b : Bits) →
    ((y : List Bool) →
    after_gates ops (unfixed_gates ops.half g next layer) (start ops g.inputs b)
    (placed (map (wire_of g next) g.outputs) y)
    ≡ after ops all_zero (unfixed_commands g) (start ops g.inputs b) (placed g.outputs y)) →
    (y : List Bool) →
    circuit_table ops (extracted_circuit ops.half g next layer) y b
    ≡ doubled ops (length (fixed_corrections g)) (zero_branch ops (zero_pattern g) y b)
unfolding circuit_table extracted_circuit branch_map amp zero_pattern
extracted_with_fixed ops laws g next layer valid apart b same y =
    let measures : List Command =
    map (bare_measurement g) (numbers_where (λ v. not (is_output g v)) (size g)) in
    let first : List Gate =
    map (λ e. cz_gate g next e.one e.other)
    (filter (λ e. is_first g next e.one && is_first g next e.other) g.edges) in
    let rest : List Gate =
    extracted_gates g next ops.half [] (measuring_order g layer (depth_of g layer)) in
    let f : Amps _ = start ops g.inputs b in
    let fixes : List Command = fixed_corrections g in
    ap (λ (gs : List Gate). after_gates ops gs f (placed (map (wire_of g next) g.outputs) y))
    (sym (append_assoc first rest (fixed_gates ops.half g next)))
    ∙ ap (λ (h : Amps _). h (placed (map (wire_of g next) g.outputs) y))
    (gates-append ops laws (first ++ rest) (fixed_gates ops.half g next) f)
    ∙ fixed_gates_double ops laws all_zero g next valid apart
    (after ops all_zero (unfixed_commands g) f) (after_gates ops (first ++ rest) f) same y
    ∙ ap (λ (h : Amps _). doubled ops (length fixes) (h (placed g.outputs y)))
    (sym (ap (λ (cs : List Command). after ops all_zero cs f)
    (sym (append_assoc (graph_state g) measures fixes))
    ∙ after-append ops laws all_zero (unfixed_commands g) fixes f))
