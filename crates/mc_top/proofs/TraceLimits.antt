-- The limit of derivations.
use Rattle.std.proofs.Common.{◌≡◌, ◌<◌, ◌≤◌, length, Some, None, true, nat_lt, refl, sym}
use Rattle.std.proofs.Common.{◌∙◌, arith}
use Rattle.std.proofs.lemmas.Bool.{cases_lt}
use Rattle.std.proofs.lemmas.Bool.Decides.{nat_tests}
use mathlib.Core.Logic.{inl, inr}
use Rattle.mc_lex.specs.declared.end.TextEnd.TheVariants as end
use Rattle.mc_model.specs.Pattern.{Pattern}
use Rattle.mc_top.specs.Trace.{trace_limit}

pub many_commands : (p : Pattern) → 64 < length p.commands →
    trace_limit p ≡ Some (end.Limit 6 (length p.commands))
many_commands p many =
    let t : nat_lt 64 (length p.commands) ≡ true = grind (arith, nat_tests) in rw t refl

pub within_few : (p : Pattern) → trace_limit p ≡ None → length p.commands ≤ 64
within_few p none = elim (cases_lt 64 (length p.commands)) [
  | inl h ↦
      let e : Some (end.Limit 6 (length p.commands)) ≡ None = sym (many_commands p h) ∙ none in
      absurd (cc e)
  | inr h ↦ h
]
