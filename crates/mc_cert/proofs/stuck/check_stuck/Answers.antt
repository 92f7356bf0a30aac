use Rattle.std.proofs.Common.{◌∙◌, ap, ℕ}
use Rattle.std.specs.Prelude.{Option, None}
use Rattle.mc_model.specs.Numbers.{is_member}
use Rattle.mc_model.specs.Flow.{IsStuckSet}
use Rattle.mc_cert.specs.Rules.{breach_of, breach_or, first_broken}
use Rattle.mc_cert.specs.StuckRules.{stuck_lines}
use Rattle.mc_cert.proofs.RuleLemmas.{names_none}
use Rattle.mc_cert.proofs.StuckLaw.{stuck_rules_exact}
use Rattle.mc_cert.proofs.stuck.check_stuck.Goals as goal

pub returns-clause-first : goal.returns-clause-first
unfolding first_broken
returns-clause-first g c =
    c.of.ensures
    ∙ ap (λ (o : Option ℕ). breach_or 1 o None) (rw c.set.ensures at c.least_in_row.ensures)

pub returns-clause-yes : goal.returns-clause-yes
unfolding first_broken
returns-clause-yes g c =
    let graph = c.args.g.now in
    let set = c.args.s.now in
    names_none (IsStuckSet graph (is_member set)) (breach_of c.of.result)
    (first_broken 1 (stuck_lines graph set))
    (c.of.ensures
    ∙ ap (λ (o : Option ℕ). breach_or 1 o None) (rw c.set.ensures at c.least_in_row.ensures))
    (stuck_rules_exact graph set c.requires)
