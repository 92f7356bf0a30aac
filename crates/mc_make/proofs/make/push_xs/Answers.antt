use Rattle.std.proofs.Common.{◌≡◌, ℕ, ◌++◌, ◌∙◌, arith, map}
use mathlib.Core.Path.{subst}
use Rattle.mc_model.specs.Bits.{Bits}
use Rattle.mc_model.specs.Numbers.{is_member, numbers_where}
use Rattle.mc_model.specs.Signals.{signal_of}
use Rattle.mc_model.specs.Pattern.{FixX}
use Rattle.mc_model.specs.Graph.{size}
use Rattle.mc_pattern.specs.Commands.{plain_command}
use Rattle.mc_graph.proofs.GraphCommands.{told_more}
use Rattle.mc_make.proofs.make.push_xs.Goals as goal

pub vertices-preserved : goal.vertices-preserved
vertices-preserved g c =
    let test : Bits = is_member c.args.set.now in
    let past = c.vertices-test.true in
    told_more (λ k. FixX k (signal_of c.args.q)) test c.vertices.v _
    (map (plain_command {h = g.row.H}) c.args.commands.now.items)
    (map (plain_command {h = g.row.H}) c.vertices.commands.items)
    (c.bit.ensures ∙ c.row_of-members.ensures.bits c.vertices.v (omega arith)) c.vertices.invariant
    c.in_ok-push_x_if.ensures

pub returns : goal.returns
returns g c =
    let test : Bits = is_member c.args.set.now in
    let over = c.vertices-test.false in
    let len = c.len-v-end.ensures.len in
    let most = c.vertices.auto.v-end in
    let all : c.vertices.v ≡ size c.args.g.now = omega arith in
    subst (λ (n : ℕ). map (plain_command {h = g.row.H}) c.vertices.commands.items
    ≡ map (plain_command {h = g.row.H}) c.args.commands.now.items
    ++ map (λ k. FixX k (signal_of c.args.q)) (numbers_where test n)) all c.vertices.invariant
