use Rattle.std.proofs.Common.{◌∙◌, ap, ◌-◌, ◌+◌}
use Rattle.mc_extract.specs.Chains.{chain_in}
use Rattle.mc_extract.proofs.ChainLists.{chain_more, chain_end}
use Rattle.mc_extract.proofs.wiring.chain_back.Goals as goal

pub steps-preserved : goal.steps-preserved
steps-preserved c =
    ap (chain_in c.args.before.now (c.args.count - (c.steps._step + 1))) c.back-at.ensures
    ∙ chain_more c.args.before.now c.args.count c.steps._step c.steps.at c.args.v
    c.steps-test.true c.steps.invariant

pub returns : goal.returns
returns c =
    chain_end c.args.before.now c.args.count c.steps._step c.steps.at c.args.v
    c.steps-test.false c.steps.invariant
