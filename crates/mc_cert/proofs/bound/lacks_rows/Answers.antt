use Rattle.std.proofs.Common.{◌∙◌, sym, ◌-◌, arith}
use Rattle.mc_cert.specs.BoundRules.{lacks_sets}
use Rattle.mc_cert.proofs.ListTests.{any_number, none_from}
use Rattle.mc_cert.proofs.bound.lacks_rows.Goals as goal

pub returns-then-lacks_sets : goal.returns-then-lacks_sets
returns-then-lacks_sets g c =
    let graph = c.args.g.now in
    let low = c.layers.invariant.0 in
    let below = c.layers-test.true in
    sym (any_number (lacks_sets graph c.args.b.now.layers c.args.b.now.rows) 1 (c.args.b.now.depth - 1)
    c.layers.k low (omega arith) (sym c.lacks_sets.ensures ∙ c.if-lacks_sets.true))

pub returns : goal.returns
returns g c =
    let graph = c.args.g.now in
    let past = c.layers-test.false in
    sym (none_from (lacks_sets graph c.args.b.now.layers c.args.b.now.rows) 1 (c.args.b.now.depth - 1)
    (λ w low high. c.layers.invariant.1 w low (omega arith)))
