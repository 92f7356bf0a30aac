use Rattle.std.proofs.Common.{◌≡◌, List, ◌∙◌, ap, refl, not, map, arith}
use Rattle.std.proofs.lemmas.Result.{IfOk-weaker}
use Rattle.mc_model.specs.Pattern.{Command}
use Rattle.mc_model.specs.Graph.{size, is_output, graph_state, bare_measurement, zero_pattern}
use Rattle.mc_pattern.specs.Commands.{plain_command}
use Rattle.mc_graph.specs.Patterns.{pattern_with}
use Rattle.mc_graph.proofs.GraphCommands.{told_more}
use Rattle.mc_graph.proofs.TypedCommands.{measured_state, zero_is, zero_is_pattern}
use Rattle.mc_graph.proofs.zero.zero_pattern.Goals as goal

pub vertices-preserved : goal.vertices-preserved
vertices-preserved g c =
    told_more (bare_measurement c.args.g.now) (λ v. not (is_output c.args.g.now v)) c.vertices.v _
    (graph_state c.args.g.now) (map (plain_command {h = g.row.H}) c.vertices.commands.items) refl
    c.vertices.invariant c.in_ok-push_inner.ensures

pub pattern_of-requires : goal.pattern_of-requires
pattern_of-requires g c =
    let over = c.vertices-test.false in
    let most = c.vertices.auto.v-end in
    let len = c.len-v-end.ensures.len in
    let all : c.vertices.v ≡ size c.args.g.now = omega arith in
    let made = rw all at c.vertices.invariant in (
      omega arith,
      (
        omega arith,
        (omega arith, rw made (zero_is_pattern _ c.args.g.now c.len-v-end.ensures.valid)),
      ),
    )

pub returns : goal.returns
returns g c =
    let over = c.vertices-test.false in
    let most = c.vertices.auto.v-end in
    let len = c.len-v-end.ensures.len in
    let all : c.vertices.v ≡ size c.args.g.now = omega arith in
    let made = rw all at c.vertices.invariant in
    IfOk-weaker c.pattern_of.result _ _
    (λ pattern e.
    e ∙ ap (λ (cs : List Command). pattern_with c.args.g.now cs) made ∙ zero_is c.args.g.now)
    c.pattern_of.ensures
