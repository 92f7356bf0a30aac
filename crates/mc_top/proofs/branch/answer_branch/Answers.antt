use Rattle.std.proofs.Common.{map}
use Rattle.mc_model.specs.Amplitude.{placed}
use Rattle.mc_model.specs.Graph.{zero_pattern}
use Rattle.mc_model.specs.Pattern.{measured_order}
use Rattle.mc_top.specs.Commands.{is_one}
use Rattle.mc_top.proofs.ShiftedForms.{on_ok}
use Rattle.mc_top.proofs.branch.answer_branch.Goals as goal

pub returns-in-Pattern-clause-meaning : goal.returns-in-Pattern-clause-meaning
returns-in-Pattern-clause-meaning g c =
    rw c.in-Pattern.is (on_ok c.answer_outcomes.result _
    (c.branches_are_well_printed.ensures c.in-Pattern.pattern
    (placed (measured_order c.in-Pattern.pattern.commands) (map is_one c.args.digits.now))))

pub returns-in-Traced-clause-meaning : goal.returns-in-Traced-clause-meaning
returns-in-Traced-clause-meaning g c =
    rw c.in-Traced.is (on_ok c.answer_outcomes-in-Traced.result _
    (c.branches_are_well_printed.ensures c.in-Traced.pattern
    (placed (measured_order c.in-Traced.pattern.commands) (map is_one c.args.digits.now))))

pub returns-in-Graph-clause-meaning : goal.returns-in-Graph-clause-meaning
returns-in-Graph-clause-meaning g c =
    let p = zero_pattern c.in-Graph.graph in
    rw c.in-Graph.is (on_ok c.answer_graph_outcomes.result _
    (c.branches_are_well_printed.ensures p
    (placed (measured_order p.commands) (map is_one c.args.digits.now))))
