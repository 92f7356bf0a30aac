use Rattle.std.proofs.Common.{sym, ◌∙◌, arith}
use Rattle.mc_model.specs.Graph.{size}
use Rattle.mc_pattern.proofs.Members.{some_number, no_number}
use Rattle.mc_graph.specs.Rules.{is_missing}
use Rattle.mc_graph.proofs.builder.GraphBuilder.has_missing.Goals as goal

pub returns-then-is_missing : goal.returns-then-is_missing
returns-then-is_missing g c =
    let p = is_missing c.args.self.now c.args.outputs.now in
    let within = c.vertices-test.true in
    let count = c.len-v-end.ensures in
    sym (some_number p (size c.args.self.now) c.vertices.v (rw count at within)
    (sym c.is_missing.ensures ∙ c.if-is_missing.true))

pub returns : goal.returns
returns g c =
    let p = is_missing c.args.self.now c.args.outputs.now in
    let all = c.vertices-test.false in
    let count = c.len-v-end.ensures in
    let past = rw count at all in
    sym (no_number p (size c.args.self.now) (λ k lt. c.vertices.invariant k (omega arith)))
