use Rattle.std.proofs.Common.{map, sym, ◌∙◌, ap, arith}
use Rattle.std.specs.Prelude.{is_none, None}
use Rattle.std.proofs.lemmas.List.{length-map}
use Rattle.std.proofs.lemmas.Option.{unwrap_or-slice_get}
use Rattle.mc_graph.proofs.MappedReads.{read_mapped}
use Rattle.mc_graph.proofs.OutputAngles.{output_without_angle, angle_within}
use Rattle.mc_graph.proofs.graph.OpenGraph.angle_of.Goals as goal

pub returns-clause-angle : goal.returns-clause-angle
returns-clause-angle g c =
    let labels = c.self.inside.labels.items in
    let within = rw (← c.self.view_is) at c.requires in
    let long = c.self.invariant.graph.open_graph.angles in
    let many = length-map labels (λ l. l.angle) in
    rw (← c.self.view_is)
    (sym (unwrap_or-slice_get (map (λ l. l.angle) labels) c.args.v None
    ∙ read_mapped (λ l. l.angle) labels c.args.v c.index.result.now None (omega arith)
    c.index.ensures))

pub returns-clause-output : goal.returns-clause-output
returns-clause-output g c =
    let valid = rw c.self.view_is at c.self.invariant.graph in
    ap is_none (returns-clause-angle g c)
    ∙ output_without_angle c.args.self.now c.args.v valid.open_graph c.requires

pub returns-clause-within : goal.returns-clause-within
returns-clause-within g c =
    let valid = rw c.self.view_is at c.self.invariant.graph in
    angle_within _ c.args.self.now c.args.v _ valid (sym (returns-clause-angle g c))
