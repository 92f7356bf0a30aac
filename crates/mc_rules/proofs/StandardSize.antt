-- The standard form of a pattern of at most 256 qubits has few commands.
use Rattle.std.proofs.Common.{◌≡◌, ℕ, zero, suc, ◌+◌, ◌*◌, ◌<◌, ◌≤◌, Bool, true, false, cond}
use Rattle.std.proofs.Common.{◌&&◌}
use Rattle.std.proofs.Common.{List, [], ◌∷◌, ◌++◌, length, refl, sym, ap, subst, append_assoc}
use Rattle.std.proofs.Common.{arith}
use Rattle.std.specs.Prelude.{nat_lt, count_by}
use Rattle.std.proofs.Math.Nat.{mul-le-mul}
use Rattle.std.proofs.lemmas.Bool.{eq-eqb, ne_eqb, cases_eq}
use Rattle.std.proofs.lemmas.List.{length-append}
use Rattle.std.proofs.lemmas.List.Sums.{sum_by-cons, count_by-le-length}
use mathlib.Core.Logic.{inl, inr}
use Rattle.mc_model.specs.Numbers.{numbers_from, pairs_at, pairs_below}
use Rattle.mc_model.specs.Bits.{Bits, replaced}
use Rattle.mc_model.specs.Signals.{Signals, is_empty}
use Rattle.mc_model.specs.Pattern.{Command, Pattern, Prep, Ent, Meas, FixX, FixZ}
use Rattle.mc_model.specs.Valid.{prepared, measured, IsValid, IsValidPattern}
use Rattle.mc_model.specs.StandardForm.{preparations_of, is_edge, measurements_with, fix_x, fix_z}
use Rattle.mc_model.specs.StandardForm.{corrections_below, first_sum, second_sum, standard_commands}
use Rattle.mc_model.specs.StandardForm.{standard_form}
use Rattle.mc_model.proofs.NumberLists.{length-numbers_from}
use Rattle.mc_model.proofs.ValidLemmas.{moved_on, next_measured, none_measured, prepared-append}

-- preparations
length-preparations : (cs : List Command) → length (preparations_of cs) ≡ prepared cs
unfolding preparations_of prepared
length-preparations [] = refl
length-preparations (Prep q ∷ cs) = ap suc (length-preparations cs)
length-preparations (Ent q r ∷ cs) = length-preparations cs
length-preparations (Meas q a s t ∷ cs) = length-preparations cs
length-preparations (FixX q s ∷ cs) = length-preparations cs
length-preparations (FixZ q s ∷ cs) = length-preparations cs

-- pairs
one_at_most : (b : Bool) (c : Command) → length (cond b (c ∷ []) []) ≤ 1
one_at_most true c = omega arith
one_at_most false c = omega arith

few_pairs_at : (p : ℕ → ℕ → Bool) (i n : ℕ) → length (pairs_at Ent p i n) ≤ n
unfolding pairs_at
few_pairs_at p i zero = omega arith
few_pairs_at p i (suc j) =
    let rest = few_pairs_at p i j in
    let here = one_at_most (nat_lt i j && p i j) (Ent i j) in
    let whole =
    length-append (pairs_at Ent p i j) (cond (nat_lt i j && p i j) (Ent i j ∷ []) []) in
    omega arith

few_pairs : (p : ℕ → ℕ → Bool) (n m : ℕ) → length (pairs_below Ent p n m) ≤ m * n
unfolding pairs_below
few_pairs p n zero = omega arith
few_pairs p n (suc m) =
    let rest = few_pairs p n m in
    let row = few_pairs_at p m n in
    let whole = length-append (pairs_below Ent p n m) (pairs_at Ent p m n) in
    let more : suc m * n ≡ m * n + n = omega arith in
    omega arith

-- measurements: each marks a qubit that was not marked before
count_more : (m : Bits) (from n q : ℕ) → q < from →
    count_by (replaced m q true) (numbers_from from n) ≡ count_by m (numbers_from from n)
count_more m from zero q below = refl
count_more m from (suc n) q below =
    let other : cond {A = ℕ} (replaced m q true from) 1 0 ≡ cond (m from) 1 0 =
    rw (ne_eqb from q (λ e. absurd (omega arith))) refl in
    let left =
    sum_by-cons (λ k. cond {A = ℕ} (replaced m q true k) 1 0) from (numbers_from (suc from) n) in
    let right = sum_by-cons (λ k. cond {A = ℕ} (m k) 1 0) from (numbers_from (suc from) n) in
    let rest = count_more m (suc from) n q (omega arith) in
    omega arith

count_one : (m : Bits) (from n q : ℕ) → from ≤ q → q < from + n → m q ≡ false →
    count_by (replaced m q true) (numbers_from from n) ≡ suc (count_by m (numbers_from from n))
count_one m from zero q above below new = absurd (omega arith)
count_one m from (suc n) q above below new =
    let left =
    sum_by-cons (λ k. cond {A = ℕ} (replaced m q true k) 1 0) from (numbers_from (suc from) n) in
    let right = sum_by-cons (λ k. cond {A = ℕ} (m k) 1 0) from (numbers_from (suc from) n) in
    elim (cases_eq from q) [
      | inl e ↦
          let old : cond {A = ℕ} (m from) 1 0 ≡ 0 = rw (e, new) refl in
          let now : cond {A = ℕ} (replaced m q true from) 1 0 ≡ 1 = rw (eq-eqb from q e) refl in
          let rest = count_more m (suc from) n q (omega arith) in
          omega arith
      | inr ne ↦
          let other : cond {A = ℕ} (replaced m q true from) 1 0 ≡ cond (m from) 1 0 =
          rw (ne_eqb from q ne) refl in
          let rest = count_one m (suc from) n q (omega arith) (omega arith) new in
          omega arith
    ]

next_bound : (inputs n : ℕ) (before : List Command) (c : Command) (cs : List Command) →
    inputs + prepared (before ++ (c ∷ cs)) ≤ n →
    inputs + prepared ((before ++ (c ∷ [])) ++ cs) ≤ n
next_bound inputs n before c cs h =
    subst (λ (ds : List Command). inputs + prepared ds ≤ n) (sym (append_assoc before (c ∷ []) cs)) h

few_measures : (inputs n : ℕ) (ss ts : Signals) (before cs : List Command) →
    IsValid inputs (before ++ cs) → inputs + prepared (before ++ cs) ≤ n →
    length (measurements_with ss ts cs) + count_by (measured before) (numbers_from 0 n) ≤ n
unfolding measurements_with measured
few_measures inputs n ss ts before [] v h =
    let all = count_by-le-length (measured before) (numbers_from 0 n) in
    let size = length-numbers_from 0 n in
    omega arith
few_measures inputs n ss ts before (Prep q ∷ cs) v h =
    subst (λ (m : Bits).
    length (measurements_with ss ts cs) + count_by m (numbers_from 0 n) ≤ n)
    (none_measured before (Prep q) (λ k. refl))
    (few_measures inputs n ss ts (before ++ (Prep q ∷ [])) cs (moved_on inputs before (Prep q) cs v)
    (next_bound inputs n before (Prep q) cs h))
few_measures inputs n ss ts before (Ent q r ∷ cs) v h =
    subst (λ (m : Bits).
    length (measurements_with ss ts cs) + count_by m (numbers_from 0 n) ≤ n)
    (none_measured before (Ent q r) (λ k. refl))
    (few_measures inputs n ss ts (before ++ (Ent q r ∷ [])) cs
    (moved_on inputs before (Ent q r) cs v) (next_bound inputs n before (Ent q r) cs h))
few_measures inputs n ss ts before (FixX q s ∷ cs) v h =
    subst (λ (m : Bits).
    length (measurements_with ss ts cs) + count_by m (numbers_from 0 n) ≤ n)
    (none_measured before (FixX q s) (λ k. refl))
    (few_measures inputs n ss ts (before ++ (FixX q s ∷ [])) cs
    (moved_on inputs before (FixX q s) cs v) (next_bound inputs n before (FixX q s) cs h))
few_measures inputs n ss ts before (FixZ q s ∷ cs) v h =
    subst (λ (m : Bits).
    length (measurements_with ss ts cs) + count_by m (numbers_from 0 n) ≤ n)
    (none_measured before (FixZ q s) (λ k. refl))
    (few_measures inputs n ss ts (before ++ (FixZ q s ∷ [])) cs
    (moved_on inputs before (FixZ q s) cs v) (next_bound inputs n before (FixZ q s) cs h))
few_measures inputs n ss ts before (Meas q a s t ∷ cs) v h =
    let c : Command = Meas q a s t in
    let live = (v.at before c cs refl).0 in
    let there = live.is_there in
    let size = prepared-append before (c ∷ cs) in
    let rest =
    few_measures inputs n ss ts (before ++ (c ∷ [])) cs (moved_on inputs before c cs v)
    (next_bound inputs n before c cs h) in
    let marks : count_by (measured (before ++ (c ∷ []))) (numbers_from 0 n)
    ≡ count_by (replaced (measured before) q true) (numbers_from 0 n) =
    ap (λ (m : Bits). count_by m (numbers_from 0 n)) (next_measured before q a s t) in
    let one = count_one (measured before) 0 n q (omega arith) (omega arith) live.is_not_measured in
    omega arith

-- corrections
two_at_most : (gone x z : Bool) (c d : Command) →
    length (cond gone [] (cond x [] (c ∷ []) ++ cond z [] (d ∷ []))) ≤ 2
two_at_most true x z c d = omega arith
two_at_most false true true c d = omega arith
two_at_most false true false c d = omega arith
two_at_most false false true c d = omega arith
two_at_most false false false c d = omega arith

few_fixes : (gone : ℕ → Bool) (ss ts : Signals) (n : ℕ) →
    length (corrections_below gone ss ts n) ≤ 2 * n
unfolding corrections_below
few_fixes gone ss ts zero = omega arith
few_fixes gone ss ts (suc q) =
    let rest = few_fixes gone ss ts q in
    let here =
    two_at_most (gone q) (is_empty (ss q)) (is_empty (ts q)) (FixX q (ss q)) (FixZ q (ts q)) in
    let whole =
    length-append (corrections_below gone ss ts q)
    (cond (gone q) [] (fix_x q (ss q) ++ fix_z q (ts q))) in
    omega arith

pub few_standard : (p : Pattern) → IsValidPattern p → length (standard_form p).commands ≤ 262144
unfolding standard_form standard_commands
few_standard p valid =
    let cs : List Command = p.commands in
    let n : ℕ = p.inputs + prepared cs in
    let ps : List Command = preparations_of cs in
    let es : List Command = pairs_below Ent (is_edge cs) n n in
    let ms : List Command = measurements_with (first_sum cs) (second_sum cs) cs in
    let fs : List Command = corrections_below (measured cs) (first_sum cs) (second_sum cs) n in
    let few : n ≤ 256 = (let q = valid.qubits in let f = valid.names.few in omega arith) in
    let all = length-append ps (es ++ (ms ++ fs)) in
    let behind = length-append es (ms ++ fs) in
    let last = length-append ms fs in
    let preps = length-preparations cs in
    let edges = few_pairs (is_edge cs) n n in
    let square : n * n ≤ 256 * 256 = mul-le-mul few few in
    let measures =
    few_measures p.inputs n (first_sum cs) (second_sum cs) [] cs valid.commands (omega arith) in
    let fixes = few_fixes (measured cs) (first_sum cs) (second_sum cs) n in
    omega arith
