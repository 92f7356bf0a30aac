use Rattle.std.proofs.Common.{sym, ◌∙◌}
use Rattle.mc_cert.specs.Rules.{breach_of, first_broken}
use Rattle.mc_cert.specs.BoundRules.{bound_lines, IsBoundOf}
use Rattle.mc_cert.proofs.RuleLemmas.{names_none}
use Rattle.mc_cert.proofs.BoundLaw.{bound_rules_exact, bound_rows_hold}
use Rattle.mc_cert.proofs.bound.check_bound.Goals as goal

pub returns-clause-first : goal.returns-clause-first
returns-clause-first g c =
    c.judged.ensures

pub returns-clause-yes : goal.returns-clause-yes
returns-clause-yes g c =
    let graph = c.args.g.now in
    let b = c.args.b.now in
    names_none (IsBoundOf graph b.depth b.layers b.rows) (breach_of c.judged.result)
    (first_broken 1 (bound_lines graph b.depth b.layers b.rows)) (returns-clause-first g c)
    (bound_rules_exact graph b.depth b.layers b.rows c.requires.layers c.layers.ensures.own
    c.requires.rows c.len.ensures.apart)

pub returns-clause-flows : goal.returns-clause-flows
returns-clause-flows g c = λ yes.
    let b = c.args.b.now in
    bound_rows_hold c.args.g.now b.depth b.layers b.rows c.requires.layers
    c.layers.ensures.own (sym (returns-clause-first g c) ∙ yes)
