-- Every qubit that a command of a valid pattern names has a name.
use Rattle.std.proofs.Common.{◌≡◌, ℕ, ◌+◌, ◌<◌, ◌≤◌, true, List, [], ◌∷◌, ◌++◌, refl, sym}
use Rattle.std.proofs.Common.{◌∙◌, ap}
use Rattle.std.proofs.Common.{append_assoc, arith, inl, inr, length}
use Rattle.std.specs.List.{AllByRecursion}
use Rattle.std.specs.Prelude.{nat_eq, All}
use Rattle.std.proofs.lemmas.Bool.{eqb-true, cases_Bool}
use Rattle.std.proofs.lemmas.List.Elements.{All-from_recursion}
use Rattle.mc_model.specs.Signals.{Signal}
use Rattle.mc_model.specs.Pattern.{Command, Prep, Ent, Meas, FixX, FixZ, Pattern}
use Rattle.mc_model.specs.Valid.{AllDone, IsValid, IsValidPattern, SignalFits, measured, prepared}
use Rattle.mc_model.proofs.ValidLemmas.{prepared-append, moved_on}
use Rattle.mc_pattern_text.specs.Written.{IsNamed, AreNamed}

-- the place at which a qubit is measured
record MeasuredAt (cs : List Command) (q : ℕ) : Type 0 where
  before : List Command
  angle : ℕ
  s : Signal
  t : Signal
  behind : List Command
  place : cs ≡ before ++ (Meas q angle s t ∷ behind)

one_on : (c : Command) (cs : List Command) (q : ℕ) → MeasuredAt cs q → MeasuredAt (c ∷ cs) q
one_on c cs q m = record {
  before = c ∷ m.before;
  angle = m.angle;
  s = m.s;
  t = m.t;
  behind = m.behind;
  place = ap (λ (xs : List Command). c ∷ xs) m.place;
}

measured_at : (cs : List Command) (q : ℕ) → measured cs q ≡ true → MeasuredAt cs q
unfolding measured
measured_at [] q m = absurd (cc)
measured_at (Prep r ∷ cs) q m = one_on (Prep r) cs q (measured_at cs q m)
measured_at (Ent r u ∷ cs) q m = one_on (Ent r u) cs q (measured_at cs q m)
measured_at (FixX r s ∷ cs) q m = one_on (FixX r s) cs q (measured_at cs q m)
measured_at (FixZ r s ∷ cs) q m = one_on (FixZ r s) cs q (measured_at cs q m)
measured_at (Meas r a s t ∷ cs) q m = elim (cases_Bool (nat_eq q r)) [
  | inl e ↦ record {
    before = [];
    angle = a;
    s = s;
    t = t;
    behind = cs;
    place = ap (λ (k : ℕ). Meas k a s t ∷ cs) (sym (eqb-true q r e));
  }
  | inr e ↦ one_on (Meas r a s t) cs q (measured_at cs q (rw e at m))
]

-- a measured qubit is one of those that are there
pub measured_there : (inputs : ℕ) (before behind : List Command) (q : ℕ) →
    IsValid inputs (before ++ behind) → measured before q ≡ true → q < inputs + prepared before
measured_there inputs before behind q v m =
    let at = measured_at before q m in
    let c : Command = Meas q at.angle at.s at.t in
    let place : before ++ behind ≡ at.before ++ (c ∷ (at.behind ++ behind)) =
    ap (λ (xs : List Command). xs ++ behind) at.place
    ∙ append_assoc at.before (c ∷ at.behind) behind in
    let live = (v.at at.before c (at.behind ++ behind) place).0.is_there in
    let e = ap prepared at.place ∙ prepared-append at.before (c ∷ at.behind) in
    omega arith

members_there : (inputs n : ℕ) (before behind : List Command) (qs : List ℕ) →
    IsValid inputs (before ++ behind) → inputs + prepared before ≤ n →
    AllDone (measured before) qs → AllByRecursion (λ (k : ℕ). k < n) qs
members_there inputs n before behind [] v h d = tt
members_there inputs n before behind (q ∷ qs) v h d = (
  let l = measured_there inputs before behind q v d.0 in omega arith,
  members_there inputs n before behind qs v h d.1,
)

signal_there : (inputs n : ℕ) (before behind : List Command) (s : Signal) →
    IsValid inputs (before ++ behind) → inputs + prepared before ≤ n → SignalFits before s →
    All (λ (k : ℕ). k < n) s.members
signal_there inputs n before behind s v h f =
    All-from_recursion (λ (k : ℕ). k < n) s.members
    (members_there inputs n before behind s.members v h f.is_done)

command_named : (inputs n : ℕ) (before : List Command) (c : Command) (behind : List Command) →
    IsValid inputs (before ++ (c ∷ behind)) → inputs + prepared (before ++ (c ∷ behind)) ≤ n →
    IsNamed n c
unfolding prepared
command_named inputs n before (Prep q) behind v h =
    let f = v.at before (Prep q) behind refl in
    let e = prepared-append before (Prep q ∷ behind) in
    omega arith
command_named inputs n before (Ent q r) behind v h =
    let f = v.at before (Ent q r) behind refl in
    let e = prepared-append before (Ent q r ∷ behind) in
    let a = f.0.is_there in
    let b = f.1.is_there in
    (omega arith, omega arith)
command_named inputs n before (Meas q a s t) behind v h =
    let f = v.at before (Meas q a s t) behind refl in
    let e = prepared-append before (Meas q a s t ∷ behind) in
    let b = f.0.is_there in (
      omega arith,
      signal_there inputs n before (Meas q a s t ∷ behind) s v (omega arith) f.1,
      signal_there inputs n before (Meas q a s t ∷ behind) t v (omega arith) f.2,
    )
command_named inputs n before (FixX q s) behind v h =
    let f = v.at before (FixX q s) behind refl in
    let e = prepared-append before (FixX q s ∷ behind) in
    let b = f.0.is_there in
    (omega arith, signal_there inputs n before (FixX q s ∷ behind) s v (omega arith) f.1)
command_named inputs n before (FixZ q s) behind v h =
    let f = v.at before (FixZ q s) behind refl in
    let e = prepared-append before (FixZ q s ∷ behind) in
    let b = f.0.is_there in
    (omega arith, signal_there inputs n before (FixZ q s ∷ behind) s v (omega arith) f.1)

commands_named : (inputs n : ℕ) (before cs : List Command) → IsValid inputs (before ++ cs) →
    inputs + prepared (before ++ cs) ≤ n → AreNamed n cs
commands_named inputs n before [] v h = tt
commands_named inputs n before (c ∷ cs) v h =
    let e = prepared-append before (c ∷ cs) in
    let f = prepared-append (before ++ (c ∷ [])) cs in
    let g = prepared-append before (c ∷ []) in
    let i = prepared-append (c ∷ []) cs in (
      command_named inputs n before c cs v h,
      commands_named inputs n (before ++ (c ∷ [])) cs (moved_on inputs before c cs v) (omega arith),
    )

pub pattern_named : (p : Pattern) → IsValidPattern p → AreNamed (length p.names) p.commands
pattern_named p v =
    let e = v.qubits in
    commands_named p.inputs (length p.names) [] p.commands v.commands (omega arith)
