use Rattle.std.proofs.Common.{false, Some}
use Rattle.mc_cert_text.specs.Certs.{IsCertOf, noflow}
use Rattle.mc_document.specs.Documents.{document_text, graph}
use Rattle.mc_top.specs.Flow.{IsRefuterDue}
use Rattle.mc_top.proofs.Findings.{judged_due}
use Rattle.mc_top.proofs.flow.answer_refuter.Goals as goal

pub returns : goal.returns
returns g c =
    let made = c.args.graph.now in
    let rows = c.args.refuter in
    judged_due c.print_with_cert.result c.judged.result false
    (document_text g.row.H (graph made (Some (noflow rows)))) (IsCertOf made (noflow rows))
    (IsRefuterDue g.row.H made) c.print_with_cert.ensures.text c.print_with_cert.ensures.fits
    c.judged.ensures.ok c.judged.ensures.holds c.judged.ensures.err
    (λ fits due e. record {
      rows = rows;
      chosen = c.requires.chosen;
      none = c.requires.none;
      fits = fits;
      text = e;
    })
