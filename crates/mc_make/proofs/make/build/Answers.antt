use Rattle.std.proofs.Common.{ℕ, List, ◌++◌, ◌∙◌, ap, map, arith}
use Rattle.std.specs.Prelude.{slice_index}
use Rattle.std.proofs.lemmas.List.{take_all}
use Rattle.std.proofs.lemmas.Result.{IfOk-weaker}
use Rattle.mc_model.specs.Numbers.{is_member}
use Rattle.mc_model.specs.Pattern.{Command}
use Rattle.mc_model.specs.Graph.{graph_state}
use Rattle.mc_model.specs.Made.{corrected_measurement}
use Rattle.mc_pattern.specs.Commands.{plain_command}
use Rattle.mc_graph.specs.Flows.{sets_in, layer_in}
use Rattle.mc_graph.specs.Patterns.{pattern_with}
use Rattle.mc_make.proofs.MadeCommands.{listed_more, to_measure, flow_is}
use Rattle.mc_make.proofs.MadeCommands.{flow_is_pattern}
use Rattle.mc_make.proofs.make.build.Goals as goal

pub push_corrected-requires : goal.push_corrected-requires
push_corrected-requires g c =
    let items = c.as_slice-q-items.result.now in
    let layer : ℕ → ℕ = layer_in c.args.f.now.rows in
    let at =
    to_measure c.args.g.now layer items c.measured.q-index
    (c.as_slice-q-items.ensures.value ∙ c.in_ok-order.ensures.order) c.measured-test.true in
    (omega arith, (omega arith, (at.vertex, at.no_output)))

pub measured-preserved : goal.measured-preserved
measured-preserved g c =
    let rows = c.args.f.now.rows in
    let items = c.as_slice-q-items.result.now in
    let q : ℕ = slice_index items c.measured.q-index in
    listed_more (λ i. corrected_measurement c.args.g.now (sets_in rows i) i) items
    c.measured.q-index (graph_state c.args.g.now)
    (map (plain_command {h = g.row.H}) c.measured.commands.items) c.measured-test.true
    c.measured.invariant
    (c.in_ok-push_corrected.ensures
    ∙ ap (λ (set : List ℕ). map (plain_command {h = g.row.H}) c.measured.commands.items
    ++ corrected_measurement c.args.g.now (is_member set) q) c.set_or.ensures)

pub pattern_of-requires : goal.pattern_of-requires
pattern_of-requires g c =
    let rows = c.args.f.now.rows in
    let items = c.as_slice-q-items.result.now in
    let all =
    take_all c.measured.q-index items c.measured-test.false
    ∙ c.as_slice-q-items.ensures.value ∙ c.in_ok-order.ensures.order in
    let made = rw all at c.measured.invariant in (
      omega arith,
      (
        omega arith,
        (
          omega arith,
          rw made (flow_is_pattern _ c.args.g.now (sets_in rows) (layer_in rows)
              c.len-vertices.ensures.valid c.requires.flow),
        ),
      ),
    )

pub returns : goal.returns
returns g c =
    let rows = c.args.f.now.rows in
    let items = c.as_slice-q-items.result.now in
    let all =
    take_all c.measured.q-index items c.measured-test.false
    ∙ c.as_slice-q-items.ensures.value ∙ c.in_ok-order.ensures.order in
    let made = rw all at c.measured.invariant in
    IfOk-weaker c.pattern_of.result _ _
    (λ pattern e.
    e ∙ ap (λ (cs : List Command). pattern_with c.args.g.now cs) made
    ∙ flow_is c.args.g.now (sets_in rows) (layer_in rows))
    c.pattern_of.ensures
