use Rattle.std.proofs.Common.{◌∙◌, sym, arith}
use Rattle.mc_model.specs.Graph.{size}
use Rattle.mc_extract.specs.Chains.{number_at, is_before}
use Rattle.mc_extract.proofs.FinderLemmas.{found_first, found_none}
use Rattle.mc_extract.proofs.wiring.before_one.Goals as goal

pub returns-then-precedes : goal.returns-then-precedes
returns-then-precedes g c =
    let count = c.len-u-end.ensures.len in
    let below = c.vertices-test.true in
    found_first (is_before c.args.g.now (number_at c.args.next.now) c.args.v)
    (size c.args.g.now) c.vertices.u (omega arith)
    (sym c.precedes.ensures ∙ c.if-precedes.true) c.vertices.invariant

pub returns : goal.returns
returns g c =
    let count = c.len-u-end.ensures.len in
    let ended = c.vertices-test.false in
    found_none (is_before c.args.g.now (number_at c.args.next.now) c.args.v)
    (size c.args.g.now) (λ k l. c.vertices.invariant k (omega arith))
