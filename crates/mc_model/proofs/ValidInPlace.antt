-- What holds over places gives what the recursions along a list ask.
use Rattle.std.proofs.Common.{◌≡◌, ℕ, ◌+◌, ◌<◌, ◌≤◌, Bool, true, false, ◌||◌, List, [], ◌∷◌}
use Rattle.std.proofs.Common.{◌++◌}
use Rattle.std.proofs.Common.{refl, ◌∙◌, ap, ap₂, arith}
use Rattle.std.specs.Prelude.{⊤}
use Rattle.std.proofs.lemmas.Bool.{eq-eqb, ne_eqb}
use Rattle.mc_model.specs.Signals.{IsRising}
use Rattle.mc_model.specs.Pattern.{Command, Prep, Ent, Meas, FixX, FixZ}
use Rattle.mc_model.specs.Alike.{Misses}
use Rattle.mc_model.specs.Valid.{prepared, measured, FitsBehind, IsLive, IsValid}
use Rattle.mc_model.proofs.ValidLemmas.{measured-append, moved_on, prepared-append, gone_or_live}

-- each command of the list misses the qubit
abbrev pub AllMiss : ℕ → List Command → Type 0
AllMiss i [] = ⊤
AllMiss i (c ∷ cs) = Misses i c × AllMiss i cs

-- operands are below `n`, entangled qubits differ, and signals are sets
abbrev pub WellMade : ℕ → Command → Type 0
WellMade n (Prep q) = q < n
WellMade n (Ent i j) = (i < n) × (j < n) × (i ≡ j → ⊥)
WellMade n (Meas i a s t) = (i < n) × IsRising s.members × IsRising t.members
WellMade n (FixX q s) = (q < n) × IsRising s.members
WellMade n (FixZ q s) = (q < n) × IsRising s.members

-- behind a measurement nothing stands on its qubit
abbrev pub Final : Command → List Command → Type 0
Final (Prep q) cs = ⊤
Final (Ent i j) cs = ⊤
Final (Meas i a s t) cs = AllMiss i cs
Final (FixX q s) cs = ⊤
Final (FixZ q s) cs = ⊤

abbrev pub InPlace : ℕ → List Command → Type 0
InPlace n [] = ⊤
InPlace n (c ∷ cs) = WellMade n c × Final c cs × InPlace n cs

pub missed_unmeasured : (cs : List Command) (i : ℕ) → AllMiss i cs → measured cs i ≡ false
unfolding measured
missed_unmeasured [] i m = refl
missed_unmeasured (Prep q ∷ cs) i m = missed_unmeasured cs i m.1
missed_unmeasured (Ent q r ∷ cs) i m = missed_unmeasured cs i m.1
missed_unmeasured (Meas q a s t ∷ cs) i m =
    ap₂ (λ (a b : Bool). a || b) (ne_eqb i q m.0) (missed_unmeasured cs i m.1)
missed_unmeasured (FixX q s ∷ cs) i m = missed_unmeasured cs i m.1
missed_unmeasured (FixZ q s ∷ cs) i m = missed_unmeasured cs i m.1

misses_gone : (inputs : ℕ) (before : List Command) (c : Command) (i : ℕ) →
    measured before i ≡ true → i < inputs + prepared before → FitsBehind inputs before c →
    Misses i c
misses_gone inputs before (Prep q) i m h f = λ e. absurd (omega arith)
misses_gone inputs before (Ent q r) i m h f =
    (gone_or_live inputs before i q m f.0, gone_or_live inputs before i r m f.1)
misses_gone inputs before (Meas q a s t) i m h f = gone_or_live inputs before i q m f.0
misses_gone inputs before (FixX q s) i m h f = gone_or_live inputs before i q m f.0
misses_gone inputs before (FixZ q s) i m h f = gone_or_live inputs before i q m f.0

pub all_miss : (inputs : ℕ) (before cs : List Command) (i : ℕ) → IsValid inputs (before ++ cs) →
    measured before i ≡ true → i < inputs + prepared before → AllMiss i cs
all_miss inputs before [] i v m h = tt
all_miss inputs before (c ∷ cs) i v m h = (
  misses_gone inputs before c i m h (v.at before c cs refl),
  all_miss inputs (before ++ (c ∷ [])) cs i (moved_on inputs before c cs v)
      (measured-append before (c ∷ []) i ∙ ap (λ (b : Bool). b || measured (c ∷ []) i) m)
      (let e = prepared-append before (c ∷ []) in omega arith),
)

well_made : (inputs n : ℕ) (before : List Command) (c : Command) (cs : List Command) →
    inputs + prepared (before ++ (c ∷ cs)) ≤ n → FitsBehind inputs before c → WellMade n c
unfolding prepared
well_made inputs n before (Prep q) cs h f = let e = prepared-append before (Prep q ∷ cs) in
    omega arith
well_made inputs n before (Ent q r) cs h f = (
  let l = f.0.is_there in let e = prepared-append before (Ent q r ∷ cs) in omega arith,
  let l = f.1.is_there in let e = prepared-append before (Ent q r ∷ cs) in omega arith,
  f.2,
)
well_made inputs n before (Meas q a s t) cs h f = (
  let l = f.0.is_there in let e = prepared-append before (Meas q a s t ∷ cs) in omega arith,
  f.1.is_set,
  f.2.is_set,
)
well_made inputs n before (FixX q s) cs h f = (
  let l = f.0.is_there in let e = prepared-append before (FixX q s ∷ cs) in omega arith,
  f.1.is_set,
)
well_made inputs n before (FixZ q s) cs h f = (
  let l = f.0.is_there in let e = prepared-append before (FixZ q s ∷ cs) in omega arith,
  f.1.is_set,
)

or_true : (a b : Bool) → a || (true || b) ≡ true
or_true true b = refl
or_true false b = refl

final : (inputs : ℕ) (before : List Command) (c : Command) (cs : List Command) →
    IsValid inputs (before ++ (c ∷ cs)) → Final c cs
unfolding measured
final inputs before (Prep q) cs v = tt
final inputs before (Ent q r) cs v = tt
final inputs before (Meas i a s t) cs v =
    let c : Command = Meas i a s t in
    let live : IsLive inputs before i = (v.at before c cs refl).0 in
    all_miss inputs (before ++ (c ∷ [])) cs i (moved_on inputs before c cs v)
    (measured-append before (c ∷ []) i
    ∙ ap (λ (b : Bool). measured before i || (b || false)) (eq-eqb i i refl)
    ∙ or_true (measured before i) false)
    (let l = live.is_there in let e = prepared-append before (c ∷ []) in omega arith)
final inputs before (FixX q s) cs v = tt
final inputs before (FixZ q s) cs v = tt

pub valid_in_place : (inputs n : ℕ) (before cs : List Command) → IsValid inputs (before ++ cs) →
    inputs + prepared (before ++ cs) ≤ n → InPlace n cs
valid_in_place inputs n before [] v h = tt
valid_in_place inputs n before (c ∷ cs) v h = (
  well_made inputs n before c cs h (v.at before c cs refl),
  final inputs before c cs v,
  valid_in_place inputs n (before ++ (c ∷ [])) cs (moved_on inputs before c cs v)
      (let e = prepared-append (before ++ (c ∷ [])) cs in
      let e2 = prepared-append before (c ∷ []) in
      let e3 = prepared-append before (c ∷ cs) in
      let e4 = prepared-append (c ∷ []) cs in omega arith),
)

pub all_beyond : (n : ℕ) (cs : List Command) (k : ℕ) → InPlace n cs → n ≤ k → AllMiss k cs
all_beyond n [] k p h = tt
all_beyond n (Prep q ∷ cs) k p h =
    (λ e. (let l = p.0 in absurd (omega arith)), all_beyond n cs k p.2 h)
all_beyond n (Ent q r ∷ cs) k p h = (
  (λ e. (let l = p.0.0 in absurd (omega arith)), λ e. (let l = p.0.1 in absurd (omega arith))),
  all_beyond n cs k p.2 h,
)
all_beyond n (Meas q a s t ∷ cs) k p h =
    (λ e. (let l = p.0.0 in absurd (omega arith)), all_beyond n cs k p.2 h)
all_beyond n (FixX q s ∷ cs) k p h =
    (λ e. (let l = p.0.0 in absurd (omega arith)), all_beyond n cs k p.2 h)
all_beyond n (FixZ q s ∷ cs) k p h =
    (λ e. (let l = p.0.0 in absurd (omega arith)), all_beyond n cs k p.2 h)
