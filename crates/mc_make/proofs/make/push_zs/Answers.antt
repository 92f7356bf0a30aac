use Rattle.std.proofs.Common.{◌≡◌, ℕ, ◌<◌, ◌++◌, ◌&&◌, ◌∙◌, ap, Bool, not, arith, map, nat_eq}
use mathlib.Core.Path.{subst}
use Rattle.mc_model.specs.Bits.{Bits}
use Rattle.mc_model.specs.Numbers.{is_member, numbers_where}
use Rattle.mc_model.specs.Signals.{signal_of}
use Rattle.mc_model.specs.Pattern.{FixZ}
use Rattle.mc_model.specs.Graph.{size, odd_neighbourhood}
use Rattle.mc_pattern.specs.Commands.{plain_command}
use Rattle.mc_graph.proofs.GraphCommands.{told_more}
use Rattle.mc_make.proofs.make.push_zs.Goals as goal

pub vertices-preserved : goal.vertices-preserved
vertices-preserved g c =
    let below : c.vertices.v < size c.args.g.now = let len = c.len-v-end.ensures.len in
    let test = c.vertices-test.true in omega arith in
    let graph = c.args.g.now in
    let test : Bits = λ k.
    odd_neighbourhood graph (is_member c.args.set.now) k && not (nat_eq k c.args.q) in
    told_more (λ k. FixZ k (signal_of c.args.q)) test c.vertices.v _
    (map (plain_command {h = g.row.H}) c.args.commands.now.items)
    (map (plain_command {h = g.row.H}) c.vertices.commands.items) (c.needs_z.ensures
    ∙ ap (λ (b : Bool). b && not (nat_eq c.vertices.v c.args.q))
    (c.odd_neighbours-odd.ensures.bits c.vertices.v below))
    c.vertices.invariant
    c.in_ok-push_z_if.ensures

pub returns : goal.returns
returns g c =
    let graph = c.args.g.now in
    let test : Bits = λ k.
    odd_neighbourhood graph (is_member c.args.set.now) k && not (nat_eq k c.args.q) in
    let over = c.vertices-test.false in
    let len = c.len-v-end.ensures.len in
    let most = c.vertices.auto.v-end in
    let all : c.vertices.v ≡ size c.args.g.now = omega arith in
    subst (λ (n : ℕ). map (plain_command {h = g.row.H}) c.vertices.commands.items
    ≡ map (plain_command {h = g.row.H}) c.args.commands.now.items
    ++ map (λ k. FixZ k (signal_of c.args.q)) (numbers_where test n)) all c.vertices.invariant
