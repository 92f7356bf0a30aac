use Rattle.std.proofs.Common.{◌≡◌, ℕ, ◌++◌, arith, map}
use Rattle.std.specs.Prelude.{flat_map}
use mathlib.Core.Path.{subst}
use Rattle.mc_model.specs.Numbers.{numbers_from}
use Rattle.mc_model.specs.Graph.{size, corrections_at, fixed_corrections}
use Rattle.mc_pattern.specs.Commands.{plain_command}
use Rattle.mc_graph.proofs.GraphCommands.{each_more}
use Rattle.mc_graph.proofs.parts.push_corrections.Goals as goal

pub vertices-preserved : goal.vertices-preserved
vertices-preserved g c =
    each_more (corrections_at c.args.g.now) c.vertices.v
    (map (plain_command {h = g.row.H}) c.args.commands.now.items)
    (map (plain_command {h = g.row.H}) c.vertices.commands.items) c.vertices.invariant
    c.in_ok-push_corrections_at.ensures

pub returns : goal.returns
unfolding fixed_corrections
returns g c =
    let over = c.vertices-test.false in
    let len = c.len-v-end.ensures.len in
    let most = c.vertices.auto.v-end in
    let all : c.vertices.v ≡ size c.args.g.now = omega arith in
    subst (λ (n : ℕ). map (plain_command {h = g.row.H}) c.vertices.commands.items
    ≡ map (plain_command {h = g.row.H}) c.args.commands.now.items
    ++ flat_map (corrections_at c.args.g.now) (numbers_from 0 n)) all c.vertices.invariant
