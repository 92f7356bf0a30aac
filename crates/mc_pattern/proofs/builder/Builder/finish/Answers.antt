use Rattle.std.proofs.Common.{sym}
use Rattle.mc_model.specs.Bits.{bits_of}
use Rattle.mc_pattern.specs.Rules.{output_rule}
use Rattle.mc_pattern.proofs.Built.{built_whole}
use Rattle.mc_pattern.proofs.builder.Builder.finish.Goals as goal

pub invariant_of-result : goal.invariant_of-result
invariant_of-result g c =
    let outs = c.in-Ok.ensures.items_if_clones_equal (λ x y e. e) in
    let rule = output_rule c.len.result (bits_of c.as_slice.result.now) c.args.outputs.now in
    let unbroken = sym {b = rule} c.in_default.ensures in
    rw outs
    (built_whole _ _ _ _ _ _ c.self.invariant
    (rw (c.len.ensures.len, c.as_slice.ensures.value) at unbroken))
