use Rattle.std.proofs.Common.{true, Some, arith}
use Rattle.mc_cert_text.specs.Certs.{IsCertOf, flow}
use Rattle.mc_document.specs.Documents.{document_text, graph}
use Rattle.mc_top.specs.Flow.{IsFlowDue}
use Rattle.mc_top.proofs.Findings.{judged_due}
use Rattle.mc_top.proofs.FlowsFit.{chosen_of, lines_fit, numbers_fit}
use Rattle.mc_top.proofs.flow.answer_chosen.Goals as goal

pub returns : goal.returns
returns g c =
    let made = c.args.graph.now in
    let rows = c.args.flow in
    judged_due c.print_with_cert.result c.judged.result true
    (document_text g.row.H (graph made (Some (flow rows)))) (IsCertOf made (flow rows))
    (IsFlowDue g.row.H made) c.print_with_cert.ensures.text c.print_with_cert.ensures.fits
    c.judged.ensures.ok c.judged.ensures.holds c.judged.ensures.err
    (λ fits due e. record { rows = rows; chosen = c.requires; fits = fits; text = e })

pub print_with_cert-requires : goal.print_with_cert-requires
print_with_cert-requires g c =
    let made = c.args.graph.now in
    let rows = c.args.flow in
    let few = c.len-vertices.ensures.valid.open_graph.names.few in (
      omega arith,
      (
        lines_fit made rows (chosen_of made rows c.requires),
        numbers_fit made rows few c.requires,
      ),
    )
