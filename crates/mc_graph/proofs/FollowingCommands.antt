-- Lists that may follow the state of an open graph, and the patterns that they make.
use Rattle.std.proofs.Common.{◌≡◌, ℕ, zero, suc, ◌+◌, ◌-◌, ◌<◌, ◌≤◌, Bool, true, false, cond}
use Rattle.std.proofs.Common.{◌&&◌}
use Rattle.std.proofs.Common.{◌||◌, not, map, List, [], ◌∷◌, ◌++◌, refl, sym, ◌∙◌, ap, ap₂}
use Rattle.std.proofs.Common.{append_assoc, append-nil, arith}
use Rattle.std.specs.Prelude.{⊤, nat_eq, filter, is_none}
use Rattle.std.specs.List.{AllByRecursion}
use Rattle.std.proofs.lemmas.Bool.{cases_eq, cases_Bool, lt-ltb}
use Rattle.std.proofs.lemmas.Bool.{true≢false}
use mathlib.Core.Path.{subst}
use mathlib.Core.Logic.{inl, inr}
use Rattle.mc_model.specs.Numbers.{numbers_from, numbers_where, is_member}
use Rattle.mc_model.specs.Bits.{Bits, all_zero, replaced}
use Rattle.mc_model.specs.Signals.{Signal, IsRising}
use Rattle.mc_model.specs.Pattern.{Command, Prep, Ent, Meas, FixX, FixZ}
use Rattle.mc_model.specs.Valid.{prepared, measured, AllDone, IsLive, SignalFits, FitsBehind}
use Rattle.mc_model.specs.Valid.{IsValid, IsValidPattern}
use Rattle.mc_model.specs.Translation.{preparations}
use Rattle.mc_model.specs.Graph.{Edge, OpenGraph, size, is_output, base_angle}
use Rattle.mc_model.specs.Graph.{EdgesRise, IsOpenGraph, entanglings, graph_state, bare_measurement}
use Rattle.mc_model.specs.Graph.{fixed_corrections, zero_pattern}
use Rattle.mc_model.proofs.BitLemmas.{not_not, replaced_other}
use Rattle.mc_model.proofs.PreparationLemmas.{measured-preparations}
use Rattle.mc_model.proofs.ValidLemmas.{measured-append, prepared-append, next_measured}
use Rattle.mc_model.proofs.ValidLemmas.{none_measured, valid_with, nothing_valid}
use Rattle.mc_model.proofs.NumberLists.{count-where, member_once}
use Rattle.mc_graph.proofs.FixedCorrections.{fixed_all, fixed_output}

-- ---- lists without preparations, beside the qubits that are there and those that were measured

abbrev pub IsThere : ℕ → Bits → ℕ → Type 0
IsThere total done q = (q < total) × (done q ≡ false)

abbrev pub IsIn : Bits → Signal → Type 0
IsIn done s = IsRising s.members × AllDone done s.members

abbrev pub Follows : ℕ → Bits → List Command → Type 0
Follows total done [] = ⊤
Follows total done (Prep q ∷ cs) = ⊥
Follows total done (Ent q r ∷ cs) =
    IsThere total done q × IsThere total done r × (q ≡ r → ⊥) × Follows total done cs
Follows total done (Meas q a s t ∷ cs) =
    IsThere total done q × IsIn done s × IsIn done t × Follows total (replaced done q true) cs
Follows total done (FixX q s ∷ cs) = IsThere total done q × IsIn done s × Follows total done cs
Follows total done (FixZ q s ∷ cs) = IsThere total done q × IsIn done s × Follows total done cs

-- what stands before leaves these qubits
record Leaves (inputs : ℕ) (before : List Command) (total : ℕ) (done : Bits) : Type 0 where
  valid : IsValid inputs before
  there : inputs + prepared before ≡ total
  gone : measured before ≡ done

live_from : (inputs : ℕ) (before : List Command) (total : ℕ) (done : Bits) (q : ℕ) →
    Leaves inputs before total done → IsThere total done q → IsLive inputs before q
live_from inputs before total done q l h = record {
  is_there = let e = l.there in let t = h.0 in omega arith;
  is_not_measured = ap (λ (m : Bits). m q) l.gone ∙ h.1;
}

signal_from : (inputs : ℕ) (before : List Command) (total : ℕ) (done : Bits) (s : Signal) →
    Leaves inputs before total done → IsIn done s → SignalFits before s
signal_from inputs before total done s l h = record {
  is_set = h.0;
  is_done = subst (λ (m : Bits). AllDone m s.members) (sym l.gone) h.1;
}

-- one more command that prepares nothing
leaves_more : (inputs : ℕ) (before : List Command) (total : ℕ) (done now : Bits) (c : Command) →
    Leaves inputs before total done → prepared (c ∷ []) ≡ 0 → FitsBehind inputs before c →
    measured (before ++ (c ∷ [])) ≡ now → Leaves inputs (before ++ (c ∷ [])) total now
leaves_more inputs before total done now c l none fits e = record {
  valid = valid_with inputs before c l.valid fits;
  there = let p = prepared-append before (c ∷ []) in let t = l.there in omega arith;
  gone = e;
}

no_prep : (inputs : ℕ) (before : List Command) (c : Command) (rest : List Command) →
    IsValid inputs ((before ++ (c ∷ [])) ++ rest) → IsValid inputs (before ++ (c ∷ rest))
no_prep inputs before c rest v = subst (IsValid inputs) (append_assoc before (c ∷ []) rest) v

valid_following : (inputs : ℕ) (before : List Command) (total : ℕ) (done : Bits)
    (cs : List Command) → Leaves inputs before total done → Follows total done cs →
    IsValid inputs (before ++ cs)
unfolding prepared measured
valid_following inputs before total done [] l f =
    subst (IsValid inputs) (sym (append-nil before)) l.valid
valid_following inputs before total done (Prep q ∷ cs) l f = absurd f
valid_following inputs before total done (Ent q r ∷ cs) l f =
    no_prep inputs before (Ent q r) cs
    (valid_following inputs (before ++ (Ent q r ∷ [])) total done cs
    (leaves_more inputs before total done done (Ent q r) l refl
    (live_from inputs before total done q l f.0, live_from inputs before total done r l f.1, f.2)
    (none_measured before (Ent q r) (λ k. refl) ∙ l.gone))
    f.3)
valid_following inputs before total done (Meas q a s t ∷ cs) l f =
    no_prep inputs before (Meas q a s t) cs
    (valid_following inputs (before ++ (Meas q a s t ∷ [])) total (replaced done q true) cs
    (leaves_more inputs before total done (replaced done q true) (Meas q a s t) l refl (
      live_from inputs before total done q l f.0,
      signal_from inputs before total done s l f.1,
      signal_from inputs before total done t l f.2,
    )
    (next_measured before q a s t ∙ ap (λ (m : Bits). replaced m q true) l.gone))
    f.3)
valid_following inputs before total done (FixX q s ∷ cs) l f =
    no_prep inputs before (FixX q s) cs
    (valid_following inputs (before ++ (FixX q s ∷ [])) total done cs
    (leaves_more inputs before total done done (FixX q s) l refl
    (live_from inputs before total done q l f.0, signal_from inputs before total done s l f.1)
    (none_measured before (FixX q s) (λ k. refl) ∙ l.gone))
    f.2)
valid_following inputs before total done (FixZ q s ∷ cs) l f =
    no_prep inputs before (FixZ q s) cs
    (valid_following inputs (before ++ (FixZ q s ∷ [])) total done cs
    (leaves_more inputs before total done done (FixZ q s) l refl
    (live_from inputs before total done q l f.0, signal_from inputs before total done s l f.1)
    (none_measured before (FixZ q s) (λ k. refl) ∙ l.gone))
    f.2)

follows-prepared : (total : ℕ) (done : Bits) (cs : List Command) → Follows total done cs →
    prepared cs ≡ 0
unfolding prepared
follows-prepared total done [] f = refl
follows-prepared total done (Prep q ∷ cs) f = absurd f
follows-prepared total done (Ent q r ∷ cs) f = follows-prepared total done cs f.3
follows-prepared total done (Meas q a s t ∷ cs) f =
    follows-prepared total (replaced done q true) cs f.3
follows-prepared total done (FixX q s ∷ cs) f = follows-prepared total done cs f.2
follows-prepared total done (FixZ q s ∷ cs) f = follows-prepared total done cs f.2

-- what was measured behind a list
gone_after : Bits → List Command → Bits
gone_after done [] = done
gone_after done (Prep q ∷ cs) = gone_after done cs
gone_after done (Ent q r ∷ cs) = gone_after done cs
gone_after done (Meas q a s t ∷ cs) = gone_after (replaced done q true) cs
gone_after done (FixX q s ∷ cs) = gone_after done cs
gone_after done (FixZ q s ∷ cs) = gone_after done cs

follows-append : (total : ℕ) (done : Bits) (cs ds : List Command) → Follows total done cs →
    Follows total (gone_after done cs) ds → Follows total done (cs ++ ds)
unfolding gone_after
follows-append total done [] ds f g = g
follows-append total done (Prep q ∷ cs) ds f g = absurd f
follows-append total done (Ent q r ∷ cs) ds f g =
    (f.0, f.1, f.2, follows-append total done cs ds f.3 g)
follows-append total done (Meas q a s t ∷ cs) ds f g =
    (f.0, f.1, f.2, follows-append total (replaced done q true) cs ds f.3 g)
follows-append total done (FixX q s ∷ cs) ds f g =
    (f.0, f.1, follows-append total done cs ds f.2 g)
follows-append total done (FixZ q s ∷ cs) ds f g =
    (f.0, f.1, follows-append total done cs ds f.2 g)

measured_now : (done : Bits) (q : ℕ) (m : Bool) (k : ℕ) →
    replaced done q true k || m ≡ done k || (nat_eq k q || m)
measured_now done q m k = bits (nat_eq k q) (done k) m
  where
    bits : (e d m : Bool) → cond e true d || m ≡ d || (e || m)
    bits true d m = grind arith
    bits false d m = refl

gone_after_is : (done : Bits) (cs : List Command) (k : ℕ) →
    gone_after done cs k ≡ done k || measured cs k
unfolding gone_after measured
gone_after_is done [] k = sym (or_false (done k))
  where
    or_false : (b : Bool) → (b || false) ≡ b
    or_false b = grind arith
gone_after_is done (Prep q ∷ cs) k = gone_after_is done cs k
gone_after_is done (Ent q r ∷ cs) k = gone_after_is done cs k
gone_after_is done (Meas q a s t ∷ cs) k =
    gone_after_is (replaced done q true) cs k ∙ measured_now done q (measured cs k) k
gone_after_is done (FixX q s ∷ cs) k = gone_after_is done cs k
gone_after_is done (FixZ q s ∷ cs) k = gone_after_is done cs k

-- ---- the graph state

leaves_preparations : (inputs : ℕ) (before : List Command) (q n : ℕ) →
    Leaves inputs before q all_zero → Leaves inputs (before ++ preparations q n) (q + n) all_zero
unfolding preparations prepared measured
leaves_preparations inputs before q zero l =
    subst (λ (cs : List Command). Leaves inputs cs (q + 0) all_zero) (sym (append-nil before))
    (record { valid = l.valid; there = let t = l.there in omega arith; gone = l.gone })
leaves_preparations inputs before q (suc n) l =
    let there = l.there in
    let p = prepared-append before (Prep q ∷ []) in
    let e : suc q + n ≡ q + suc n = omega arith in
    let more : Leaves inputs (before ++ (Prep q ∷ [])) (suc q) all_zero = record {
      valid = valid_with inputs before (Prep q) l.valid (sym l.there);
      there = omega arith;
      gone = none_measured before (Prep q) (λ k. refl) ∙ l.gone;
    } in
    subst (λ (m : ℕ). Leaves inputs (before ++ (Prep q ∷ preparations (suc q) n)) m all_zero) e
    (subst (λ (cs : List Command). Leaves inputs cs (suc q + n) all_zero)
    (append_assoc before (Prep q ∷ []) (preparations (suc q) n))
    (leaves_preparations inputs (before ++ (Prep q ∷ [])) (suc q) n more))

prepared_all : (g : OpenGraph) → IsOpenGraph g →
    Leaves g.inputs (preparations g.inputs (size g - g.inputs)) (size g) all_zero
unfolding prepared measured
prepared_all g valid =
    let low = valid.inputs in
    let e : g.inputs + (size g - g.inputs) ≡ size g = omega arith in
    let none : g.inputs + 0 ≡ g.inputs = omega arith in
    subst (λ (m : ℕ). Leaves g.inputs (preparations g.inputs (size g - g.inputs)) m all_zero) e
    (leaves_preparations g.inputs [] g.inputs (size g - g.inputs)
    (record { valid = nothing_valid g.inputs; there = none; gone = refl }))

follows_edges : (n : ℕ) (es : List Edge) (rest : List Command) → EdgesRise n es →
    Follows n all_zero rest → Follows n all_zero (entanglings es ++ rest)
follows_edges n [] rest rise f = f
follows_edges n (e ∷ es) rest rise f =
    let low = rise.0 in
    let high = rise.1 in (
      (omega arith, refl),
      (high, refl),
      (λ d. absurd (omega arith)),
      follows_edges n es rest rise.3 f,
    )

-- a list that may follow the graph state
follows_graph : (g : OpenGraph) (rest : List Command) → IsOpenGraph g →
    Follows (size g) all_zero rest → IsValid g.inputs (graph_state g ++ rest)
follows_graph g rest valid f =
    let prepared : List Command = preparations g.inputs (size g - g.inputs) in
    subst (IsValid g.inputs) (sym (append_assoc prepared (entanglings g.edges) rest))
    (valid_following g.inputs prepared (size g) all_zero (entanglings g.edges ++ rest)
    (prepared_all g valid) (follows_edges (size g) g.edges rest valid.edges f))

-- measurements by rising number
follows_rising : (g : OpenGraph) (done p : Bits) (total q n : ℕ) →
    ((k : ℕ) → done k ≡ true → k < q) → q + n ≤ total →
    Follows total done (map (bare_measurement g) (filter p (numbers_from q n)))
follows_rising g done p total q zero low l = tt
follows_rising g done p total q (suc n) low l = elim (cases_Bool (p q)) [
  | inl e ↦
      rw e (
        (omega arith, new_one),
        (tt, tt),
        (tt, tt),
        follows_rising g (replaced done q true) p total (suc q) n now_low (omega arith),
      )
  | inr e ↦
      rw e (follows_rising g done p total (suc q) n
      (λ k d. let h = low k d in omega arith) (omega arith))
]
  where
    new_one : done q ≡ false
    new_one = elim (cases_Bool (done q)) [
      | inl d ↦ (let h = low q d in absurd (omega arith))
      | inr d ↦ d
    ]

    now_low : (k : ℕ) → replaced done q true k ≡ true → k < suc q
    now_low k d = elim (cases_eq k q) [
      | inl e ↦ omega arith
      | inr ne ↦ (let h = low k (sym (replaced_other done q true k ne) ∙ d) in omega arith)
    ]

-- ---- what is measured

measured-edges : (es : List Edge) (k : ℕ) → measured (entanglings es) k ≡ false
unfolding measured
measured-edges [] k = refl
measured-edges (e ∷ es) k = measured-edges es k

or_false : (b : Bool) → (b || false) ≡ b
or_false b = grind arith

measured-graph : (g : OpenGraph) (rest : List Command) (k : ℕ) →
    measured (graph_state g ++ rest) k ≡ measured rest k
measured-graph g rest k =
    let prepared : List Command = preparations g.inputs (size g - g.inputs) in
    measured-append (graph_state g) rest k
    ∙ ap (λ (b : Bool). b || measured rest k)
    (measured-append prepared (entanglings g.edges) k
    ∙ ap₂ (λ (a b : Bool). a || b) (measured-preparations g.inputs (size g - g.inputs) k)
    (measured-edges g.edges k))

measured-bare : (g : OpenGraph) (qs : List ℕ) (k : ℕ) →
    measured (map (bare_measurement g) qs) k ≡ is_member qs k
unfolding measured
measured-bare g [] k = refl
measured-bare g (q ∷ qs) k = ap (λ (b : Bool). nat_eq k q || b) (measured-bare g qs k)

-- ---- fixed corrections

abbrev IsFix : ℕ → Bits → Command → Type 0
IsFix total done (Prep q) = ⊥
IsFix total done (Ent q r) = ⊥
IsFix total done (Meas q a s t) = ⊥
IsFix total done (FixX q s) = IsThere total done q × IsIn done s
IsFix total done (FixZ q s) = IsThere total done q × IsIn done s

follows_fixes : (total : ℕ) (done : Bits) (cs : List Command) →
    AllByRecursion (IsFix total done) cs → Follows total done cs
follows_fixes total done [] all = tt
follows_fixes total done (Prep q ∷ cs) all = absurd (all.0)
follows_fixes total done (Ent q r ∷ cs) all = absurd (all.0)
follows_fixes total done (Meas q a s t ∷ cs) all = absurd (all.0)
follows_fixes total done (FixX q s ∷ cs) all =
    (all.0.0, all.0.1, follows_fixes total done cs all.1)
follows_fixes total done (FixZ q s ∷ cs) all =
    (all.0.0, all.0.1, follows_fixes total done cs all.1)

measured-fixes : (total : ℕ) (done : Bits) (cs : List Command) (k : ℕ) →
    AllByRecursion (IsFix total done) cs → measured cs k ≡ false
unfolding measured
measured-fixes total done [] k all = refl
measured-fixes total done (Prep q ∷ cs) k all = absurd (all.0)
measured-fixes total done (Ent q r ∷ cs) k all = absurd (all.0)
measured-fixes total done (Meas q a s t ∷ cs) k all = absurd (all.0)
measured-fixes total done (FixX q s ∷ cs) k all = measured-fixes total done cs k all.1
measured-fixes total done (FixZ q s ∷ cs) k all = measured-fixes total done cs k all.1

-- the fixed corrections, where the vertices that are no outputs were measured
all_fixes : (g : OpenGraph) (done : Bits) → IsOpenGraph g →
    ((k : ℕ) → k < size g → done k ≡ not (is_output g k)) →
    AllByRecursion (IsFix (size g) done) (fixed_corrections g)
all_fixes g done valid gone =
    fixed_all g (IsFix (size g) done)
    (λ v l e. (
      (l, gone v l ∙ ap not (fixed_output g valid (λ f. f.x) v l refl e)),
      (tt, tt),
    ))
    (λ v l e. (
      (l, gone v l ∙ ap not (fixed_output g valid (λ f. f.z) v l refl e)),
      (tt, tt),
    ))

-- ---- patterns

-- a valid pattern, where the vertices that are no outputs are measured behind the graph state
pub patterned : (g : OpenGraph) (rest : List Command) → IsOpenGraph g →
    Follows (size g) all_zero rest →
    ((k : ℕ) → k < size g → measured rest k ≡ not (is_output g k)) →
    IsValidPattern (record {
      names = g.names;
      inputs = g.inputs;
      outputs = g.outputs;
      commands = graph_state g ++ (rest ++ fixed_corrections g);
    })
patterned g rest valid f gone =
    let prepared_there = (prepared_all g valid).there in
    let first : List Command = preparations g.inputs (size g - g.inputs) in
    let whole : List Command = rest ++ fixed_corrections g in
    let fixes : AllByRecursion (IsFix (size g) (gone_after all_zero rest)) (fixed_corrections g) =
    all_fixes g (gone_after all_zero rest) valid
    (λ k l. gone_after_is all_zero rest k ∙ gone k l) in
    let follows : Follows (size g) all_zero whole =
    follows-append (size g) all_zero rest (fixed_corrections g) f
    (follows_fixes (size g) (gone_after all_zero rest) (fixed_corrections g) fixes) in
    record {
      names = valid.names;
      qubits =
          sym prepared_there
          ∙ ap (λ (n : ℕ). g.inputs + n) (sym (
          ap prepared (append_assoc first (entanglings g.edges) whole)
          ∙ prepared-append first (entanglings g.edges ++ whole)
          ∙ nothing (prepared first) (follows-prepared (size g) all_zero
          (entanglings g.edges ++ whole)
          (follows_edges (size g) g.edges whole valid.edges follows))));
      commands = follows_graph g whole valid follows;
      outputs = record {
        below = valid.outputs.below;
        once = λ q l.
            let out = member_once g.outputs q (is_none (base_angle g q)) (valid.outputs.once q l) in
            valid.outputs.once q l
            ∙ ap (λ (b : Bool). cond b 1 0)
            (sym out ∙ sym (not_not (is_output g q))
            ∙ ap not (sym (measured-graph g whole q
            ∙ measured-append rest (fixed_corrections g) q
            ∙ ap (λ (b : Bool). measured rest q || b)
            (measured-fixes (size g) (gone_after all_zero rest) (fixed_corrections g) q fixes)
            ∙ or_false (measured rest q)
            ∙ gone q l)));
      };
    }
  where
    nothing : (m : ℕ) {k : ℕ} → k ≡ 0 → m + k ≡ m
    nothing m e = omega arith

pub zero_patterns_valid : (g : OpenGraph) → IsOpenGraph g → IsValidPattern (zero_pattern g)
unfolding zero_pattern
zero_patterns_valid g valid =
    let p : Bits = λ v. not (is_output g v) in
    let rising : List ℕ = numbers_where p (size g) in
    patterned g (map (bare_measurement g) rising) valid
    (follows_rising g all_zero p (size g) 0 (size g) (λ k d. absurd (true≢false (sym d)))
    (omega arith))
    (λ k l.
    measured-bare g rising k
    ∙ member_once rising k (p k)
    (count-where p (size g) k ∙ ap (λ (b : Bool). cond (b && p k) 1 0) (lt-ltb k (size g) l)))
