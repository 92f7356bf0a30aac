use Rattle.std.proofs.Common.{sym, ◌∙◌}
use Rattle.mc_pattern_text.proofs.Terms.{adds_constant}
use Rattle.mc_pattern_text.proofs.operands.take_constant.Goals as goal

pub returns-clause-adds : goal.returns-clause-adds
returns-clause-adds c =
    adds_constant _ _ c.args.word.now c.requires (sym c.constant.ensures ∙ c.if-constant.false)
    c.flip.ensures.signal
