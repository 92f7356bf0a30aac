use Rattle.std.proofs.Common.{◌∙◌, sym}
use Rattle.mc_cert.specs.BoundRules.{all_layers_rules, keeping_lines}
use Rattle.mc_cert.proofs.RuleLoops.{first_breaks, first_keeps}
use Rattle.mc_cert.proofs.bound.check_behind.Goals as goal

pub returns-in-Some : goal.returns-in-Some
returns-in-Some g c =
    let graph = c.args.g.now in
    let b = c.args.b.now in
    first_breaks (all_layers_rules graph b.depth b.layers) c.in-Some.rule c.args.first
    (keeping_lines graph b.depth b.layers b.rows)
    (sym c.least_of_layers.ensures ∙ c.in-Some.is)

pub returns : goal.returns
returns g c =
    let graph = c.args.g.now in
    let b = c.args.b.now in
    c.check_rows.ensures
    ∙ first_keeps (all_layers_rules graph b.depth b.layers) c.args.first
    (keeping_lines graph b.depth b.layers b.rows)
    (sym c.least_of_layers.ensures ∙ c.in_default.is)
