use Rattle.std.proofs.Common.{◌<◌, Bool, List, [], ◌∷◌, arith, length, take, sym, ◌∙◌, ap}
use Rattle.std.proofs.lemmas.List.Elements.{All-weaker}
use Rattle.mc_model.specs.Bits.{◌⊻◌}
use Rattle.mc_model.specs.Pattern.{Command}
use Rattle.mc_model.specs.StandardForm.{is_edge}
use Rattle.mc_model.proofs.BitLemmas.{xor_comm}
use Rattle.mc_model.proofs.PairLemmas.{is_edge-append}
use Rattle.mc_pattern.specs.Commands.{plain_command}
use Rattle.mc_pattern.specs.Rules.{operands}
use Rattle.mc_graph.proofs.OneEdge.{no_edges}
use Rattle.mc_graph.proofs.SettledGraphs.{at_place}
use Rattle.mc_graph.proofs.sums.links_of.Goals as goal

pub toggle-requires : goal.toggle-requires
toggle-requires g c =
    let p = c.args.p.now in
    let at =
    at_place p c.commands-command-items.result.now c.commands.command-index
    c.command-item.result c.names.ensures.valid.valid c.commands-command-items.ensures
    c.commands-test.true c.command-item.is in
    let few = c.names.ensures.valid.valid.names.few in (
      omega arith,
      (
        All-weaker (λ q. q < length p.names) (λ q. q < 256) (λ q l. omega arith)
            (operands (plain_command c.command-item.result)) at.stands.below,
        at.stands.apart,
      ),
    )

pub commands-preserved : goal.commands-preserved
commands-preserved g c =
    let p = c.args.p.now in
    let before = take c.commands.command-index p.commands in
    let command = plain_command c.command-item.result in
    let at =
    at_place p c.commands-command-items.result.now c.commands.command-index
    c.command-item.result c.names.ensures.valid.valid c.commands-command-items.ensures
    c.commands-test.true c.command-item.is in (
      c.commands.invariant.0,
      λ i j.
          c.toggle.ensures.pairs i j
          ∙ ap (λ (b : Bool). is_edge (command ∷ []) i j ⊻ b) (c.commands.invariant.1 i j)
          ∙ xor_comm (is_edge (command ∷ []) i j) (is_edge before i j)
          ∙ sym (is_edge-append before (command ∷ []) i j)
          ∙ ap (λ (cs : List Command). is_edge cs i j) (sym at.more),
      c.toggle.ensures.valid c.commands.invariant.2,
    )

pub commands-init : goal.commands-init
commands-init g c = (
  c.commands-command-items.ensures,
  λ i j. c.in_ok-links.ensures.none i j ∙ sym (no_edges i j),
  c.in_ok-links.ensures.valid,
)
