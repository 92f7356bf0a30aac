-- Nothing is against the lines of a circuit's canonical text.
use Rattle.std.proofs.Common.{◌≡◌, ℕ, suc, ◌+◌, ◌<◌, ◌≤◌, List, [], ◌∷◌, ◌++◌, All, Bool, true}
use Rattle.std.proofs.Common.{false, ◌&&◌, Option, Some, None, length, map, codes, refl, sym, ◌∙◌}
use Rattle.std.proofs.Common.{append_assoc, length-append, arith, ne_eqb, nat_eq, nat_le, cond}
use Rattle.std.proofs.Common.{count_by, IsTrue, if◌then◌else◌}
use Rattle.std.specs.List.{flat_map, filter_map, list_all, list_any, IsDistinct}
use Rattle.std.proofs.lemmas.Bool.{eq-eqb}
use Rattle.std.proofs.lemmas.Bool.Decides.{nat_tests}
use Rattle.std.proofs.lemmas.List.{append-nil, map-append, get_or_append_left}
use Rattle.std.proofs.Math.Seq.{get_or-append_seam}
use Rattle.std.proofs.lemmas.List.Elements.{filter_map-append}
use Rattle.std.proofs.lemmas.List.Sums.{sum_by-append, sum_by-cons}
use Rattle.mc_model.specs.Names.{Name, AreNames, name_eq, is_name, is_held}
use Rattle.mc_model.specs.Pattern.{Gate, CZ}
use Rattle.mc_model.specs.Pattern as plain
use Rattle.mc_model.specs.Steps.{is_permitted}
use Rattle.mc_model.specs.Valid.{GatesFit}
use Rattle.mc_angle.proofs.Numerals.{angle-decimal}
use Rattle.mc_write.specs.Named.{name_at}
use Rattle.mc_text.specs.declared.head.Head.{Head}
use Rattle.mc_text.specs.declared.head.Head.TheVariants.{In, Plus, J, Cz, Out}
use Rattle.mc_text.specs.Heads.{head_of, head_in, is_end}
use Rattle.mc_text.specs.Points.{point_of, last_head}
use Rattle.mc_text.specs.Judged.{Words, Lines}
use Rattle.mc_text.specs.Lists.{names_in, names_at}
use Rattle.mc_text.proofs.Going.{head_at}
use Rattle.mc_text.proofs.Kept.{count_some, names_at-line}
use Rattle.mc_text.proofs.Numbers.{listed-number}
use Rattle.mc_text.proofs.Listed.{all_listed}
use Rattle.mc_text.proofs.Clean.{CleanWords, Clean, more}
use Rattle.mc_text.proofs.Naming.{place-name_at, held-name_at, is_name-name_at, numbers-name_at}
use Rattle.mc_text.proofs.Naming.{any-count, distinct_front, names_apart}
use Rattle.mc_circuit.specs.Circuits.{AnglesFit}
use Rattle.mc_circuit.specs.Roles.{role_in, role_of, defined, may_follow, is_defining, is_output}
use Rattle.mc_circuit.specs.Value.{spelled_gate, spelled_gates}
use Rattle.mc_circuit.specs.Judge.{circuit_rules}
use Rattle.mc_circuit.specs.Canonical.{gate_line}
use Rattle.mc_circuit.proofs.KeepingLine.{last_head-more}

-- the role of a word behind a record word, and the names of its line
role_at : (before : Lines) (h : List ℕ) (done : Words)
    → role_of (point_of before (h ∷ done)) ≡ role_in (head_of h) (point_of before (h ∷ done)).count
role_at before h done =
    rw (
      ne_eqb (point_of before (h ∷ done)).count 0 (count_some before h done),
      head_at before (h ∷ done),
    ) refl

names_here : (test : Option Head → Bool) (before : Lines) (h : List ℕ) (ws : Words)
    → names_at test before (h ∷ ws)
    ≡ names_at test before [] ++ (if test (head_of h) then ws else [])
names_here test before h ws = rw (append-nil (flat_map (names_in test) before)) refl

defining_role : (h : Option Head) (n : ℕ) → is_defining h ≡ true → role_in h n ≡ defined
defining_role None n e = absurd (cc e)
defining_role (Some In) n e = refl
defining_role (Some Plus) n e = refl
defining_role (Some _) n e = absurd (cc e)

and_both : (a b : Bool) → (a && b) ≡ true → (a ≡ true) × (b ≡ true)
and_both true b e = (refl, e)
and_both false b e = absurd (cc e)

-- distinct names may be defined
pub define_words : (before : Lines) (h : List ℕ) (done ws : Words) → is_defining (head_of h) ≡ true
    → list_all is_name ws ≡ true
    → IsDistinct name_eq (names_at is_defining before [] ++ (done ++ ws))
    → length (names_at is_defining before [] ++ (done ++ ws)) ≤ 256
    → CleanWords circuit_rules before (h ∷ done) ws
define_words before h done [] defines names distinct few =
    let role = role_at before h done in
    let is = defining_role (head_of h) (point_of before (h ∷ done)).count defines in
    rw (role, is) refl
define_words before h done (w ∷ ws) defines names distinct few =
    let earlier = names_at is_defining before [] in
    let role = role_at before h done in
    let is = defining_role (head_of h) (point_of before (h ∷ done)).count defines in
    let both = and_both (is_name w) (list_all is_name ws) names in
    let grouped : earlier ++ (done ++ w ∷ ws) ≡ (earlier ++ done) ++ w ∷ ws =
    sym (append_assoc earlier done (w ∷ ws)) in
    let free = distinct_front (earlier ++ done) w ws (rw (← grouped) distinct) in
    let len = length-append (earlier ++ done) (w ∷ ws) in
    let few' : length ((earlier ++ done) ++ w ∷ ws) ≤ 256 = rw (← grouped) few in
    let room : nat_le 256 (length (earlier ++ done)) ≡ false = grind (arith, nat_tests) in
    let here = names_here is_defining before h done in
    let next : (done ++ w ∷ []) ++ ws ≡ done ++ (w ∷ ws) = append_assoc done (w ∷ []) ws in (
      rw (role, is, here, defines, both.0, free, room) refl,
      define_words before h (done ++ w ∷ []) ws defines both.1
          (rw next distinct) (rw next few),
    )

-- record words behind which gates may stand
unfoldable pub takes_gates : Option Head → Bool
takes_gates (Some In) = true
takes_gates (Some Plus) = true
takes_gates (Some J) = true
takes_gates (Some Cz) = true
takes_gates _ = false

record Follow (last : Option Head) : Type 0 where
  j : may_follow last (Some J) ≡ true
  cz : may_follow last (Some Cz) ≡ true
  out : may_follow last (Some Out) ≡ true

follow : (last : Option Head) → takes_gates last ≡ true → Follow last
unfolding takes_gates
follow None e = absurd (cc e)
follow (Some In) e = record { j = refl; cz = refl; out = refl }
follow (Some Plus) e = record { j = refl; cz = refl; out = refl }
follow (Some J) e = record { j = refl; cz = refl; out = refl }
follow (Some Cz) e = record { j = refl; cz = refl; out = refl }
follow (Some _) e = absurd (cc e)

-- the names are defined, and so many gates may come
pub record IsOpen (names : List Name) (before : Lines) (n : ℕ) : Type 0 where
  pub defined : names_at is_defining before [] ≡ names
  pub none : names_at is_output before [] ≡ []
  pub takes : takes_gates (last_head before) ≡ true
  pub room : length (spelled_gates before) + n ≤ 32768

next_open : (names : List Name) (before : Lines) (here : Words) (n m : ℕ) → IsOpen names before n
    → names_at is_defining before here ≡ names_at is_defining before []
    → names_at is_output before here ≡ names_at is_output before []
    → takes_gates (head_in here) ≡ true
    → length (filter_map spelled_gate (here ∷ [])) + m ≤ n → IsOpen names (before ++ here ∷ []) m
next_open names before here n m h defines outputs head few = record {
  defined = names_at-line is_defining before here ∙ defines ∙ h.defined;
  none = names_at-line is_output before here ∙ outputs ∙ h.none;
  takes = rw (last_head-more before here) head;
  room =
      let room = h.room in
      rw (
        filter_map-append spelled_gate before (here ∷ []),
        length-append (spelled_gates before) (filter_map spelled_gate (here ∷ [])),
      ) (omega arith);
}

-- a gate that fits
gate_clean : (half : ℕ) (names : List Name) (before : Lines) (n : ℕ) (g : Gate)
    → IsOpen names before (suc n) → AreNames names → IsTrue (is_permitted half)
    → GatesFit (length names) (g ∷ []) → AnglesFit half (g ∷ [])
    → CleanWords circuit_rules before [] (gate_line names g)
gate_clean half names before n (plain.J v a) h valid permitted fit angles =
    let follows = (follow (last_head before) h.takes).j in
    let more = h.room in
    let room : nat_le 32768 (length (spelled_gates before)) ≡ false = grind (arith, nat_tests) in
    let named = is_name-name_at names v valid fit.0 in
    let held = held-name_at names v valid.distinct fit.0 in
    let angle = (angle-decimal half a permitted angles.0).0 in
    (rw (follows, room) refl, (rw (h.defined, named, held) refl, (rw angle refl, refl)))
gate_clean half names before n (CZ v u) h valid permitted fit angles =
    let follows = (follow (last_head before) h.takes).cz in
    let more = h.room in
    let room : nat_le 32768 (length (spelled_gates before)) ≡ false = grind (arith, nat_tests) in
    let named = is_name-name_at names v valid fit.0 in
    let held = held-name_at names v valid.distinct fit.0 in
    let second = is_name-name_at names u valid fit.1 in
    let there = held-name_at names u valid.distinct fit.1 in
    let apart = names_apart names v u valid.distinct fit.0 fit.1 fit.2 in (
      rw (follows, room) refl,
      (
        rw (h.defined, named, held) refl,
        (rw (h.defined, second, there, apart) refl, refl),
      ),
    )

pub first_fits : (wires : ℕ) (g : Gate) (gs : List Gate) → GatesFit wires (g ∷ gs)
    → GatesFit wires (g ∷ []) × GatesFit wires gs
first_fits wires (plain.J v a) gs h = ((h.0, tt), h.1)
first_fits wires (CZ v u) gs h = ((h.0, h.1, h.2, tt), h.3)

pub first_angles : (half : ℕ) (g : Gate) (gs : List Gate) → AnglesFit half (g ∷ gs)
    → AnglesFit half (g ∷ []) × AnglesFit half gs
first_angles half (plain.J v a) gs h = ((h.0, tt), h.1)
first_angles half (CZ v u) gs h = (tt, h)

gate_open : (names : List Name) (before : Lines) (n : ℕ) (g : Gate) → IsOpen names before (suc n)
    → IsOpen names (before ++ gate_line names g ∷ []) n
unfolding takes_gates
gate_open names before n (plain.J v a) h =
    next_open names before (gate_line names (plain.J v a)) (suc n) n h refl refl refl (omega arith)
gate_open names before n (CZ v u) h =
    next_open names before (gate_line names (CZ v u)) (suc n) n h refl refl refl (omega arith)

gate_no_end : (names : List Name) (g : Gate) → is_end (head_in (gate_line names g)) ≡ false
gate_no_end names (plain.J v a) = refl
gate_no_end names (CZ v u) = refl

pub gates_clean : (half : ℕ) (names : List Name) (before : Lines) (gs : List Gate) (tail : Lines)
    → IsOpen names before (length gs) → AreNames names → IsTrue (is_permitted half)
    → GatesFit (length names) gs → AnglesFit half gs
    → ((before' : Lines) → IsOpen names before' 0 → Clean circuit_rules before' tail)
    → Clean circuit_rules before (map (gate_line names) gs ++ tail)
gates_clean half names before [] tail h valid permitted fit angles rest = rest before h
gates_clean half names before (g ∷ gs) tail h valid permitted fit angles rest =
    let fits = first_fits (length names) g gs fit in
    let turns = first_angles half g gs angles in
    more before (gate_line names g) (map (gate_line names) gs ++ tail)
    (gate_clean half names before (length gs) g h valid permitted fits.0 turns.0)
    (gate_no_end names g)
    (gates_clean half names (before ++ gate_line names g ∷ []) gs tail
    (gate_open names before (length gs) g h) valid permitted fits.1 turns.1 rest)

-- outputs that are listed once each
all_front : (n : ℕ) (xs ys : List ℕ) → All (λ q. q < n) (xs ++ ys) → All (λ q. q < n) xs
all_front n xs ys h = λ k d lt.
    let long = length-append xs ys in
    rw (← get_or_append_left xs ys d k lt) (h k d (omega arith))

count_front : (q : ℕ) (done qs : List ℕ) → count_by (nat_eq q) (done ++ q ∷ qs) ≡ 1
    → count_by (nat_eq q) done ≡ 0
count_front q done qs once =
    let both = sum_by-append (λ s. cond (nat_eq q s) 1 0) done (q ∷ qs) in
    let here = sum_by-cons (λ s. cond (nat_eq q s) 1 0) q qs in
    let one : ℕ = 1 in
    let same : cond (nat_eq q q) 1 0 ≡ one = rw (eq-eqb q q refl) refl in
    omega (arith, both, here, same, once)

pub outputs_clean : (names : List Name) (before : Lines) (done qs : List ℕ)
    → IsOpen names before 0 → AreNames names → All (λ q. q < length names) (done ++ qs)
    → ((q : ℕ) → q < length names → count_by (nat_eq q) (done ++ qs) ≡ 1)
    → CleanWords circuit_rules before (codes "out" ∷ map (name_at names) done)
    (map (name_at names) qs)
outputs_clean names before done [] h valid below once =
    let list = map (name_at names) done in
    let role = role_at before (codes "out") list in
    let here = names_here is_output before (codes "out") list in
    let defines = names_here is_defining before (codes "out") list in
    let all = rw (append-nil done) at once in
    let under : All (λ q. q < length names) done = rw (append-nil done) at below in
    let each : (q : ℕ) → q < length names → list_any (λ r. nat_eq r q) done ≡ true = λ q lt.
    any-count q done ∙ rw (all q lt) refl in
    let whole = all_listed names list done valid.distinct
    (numbers-name_at names done valid.distinct under) each in
    rw (role, here, h.none, defines, append-nil (names_at is_defining before []), h.defined, whole) refl
outputs_clean names before done (q ∷ qs) h valid below once =
    let list = map (name_at names) done in
    let lt : q < length names =
    let seam = get_or-append_seam done q qs 0 in
    let long = length-append done (q ∷ qs) in
    rw (← seam) (below (length done) 0 (omega arith)) in
    let role = role_at before (codes "out") list in
    let here = names_here is_output before (codes "out") list in
    let defines = names_here is_defining before (codes "out") list in
    let named = is_name-name_at names q valid lt in
    let held = held-name_at names q valid.distinct lt in
    let are = numbers-name_at names done valid.distinct (all_front (length names) done (q ∷ qs) below) in
    let none = count_front q done qs (once q lt) in
    let any : list_any (λ r. nat_eq r q) done ≡ false = any-count q done ∙ rw none refl in
    let place = place-name_at names q valid.distinct lt in
    let free : is_held list (name_at names q) ≡ false =
    sym (listed-number names list (name_at names q) q place are.held)
    ∙ rw (← are.numbers_are) any in
    let next : (done ++ q ∷ []) ++ qs ≡ done ++ (q ∷ qs) = append_assoc done (q ∷ []) qs in
    let rest = outputs_clean names before (done ++ q ∷ []) qs h valid (rw next below) (rw next once) in (
      rw (
        role,
        here,
        h.none,
        defines,
        append-nil (names_at is_defining before []),
        h.defined,
        named,
        held,
        free,
      ) refl,
      rw (map-append (name_at names) done (q ∷ [])) at rest,
    )

pub outputs_begin : (names : List Name) (before : Lines) → IsOpen names before 0
    → circuit_rules.judge before [] (codes "out") ≡ None
outputs_begin names before h =
    let follows = (follow (last_head before) h.takes).out in
    rw follows refl
