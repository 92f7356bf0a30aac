use Rattle.std.proofs.Common.{false, Some}
use Rattle.mc_cert_text.specs.Certs.{IsCertOf, nocausal}
use Rattle.mc_document.specs.Documents.{document_text, graph}
use Rattle.mc_top.specs.Extract.{IsStuckDue}
use Rattle.mc_top.proofs.Findings.{judged_due}
use Rattle.mc_top.proofs.extract.answer_stuck.Goals as goal

pub returns : goal.returns
returns g c =
    let made = c.args.graph.now in
    let set = c.args.stuck in
    judged_due c.print_with_cert.result c.judged.result false
    (document_text g.row.H (graph made (Some (nocausal set)))) (IsCertOf made (nocausal set))
    (IsStuckDue g.row.H made) c.print_with_cert.ensures.text c.print_with_cert.ensures.fits
    c.judged.ensures.ok c.judged.ensures.holds c.judged.ensures.err
    (λ fits due e. record {
      set = set;
      chosen = c.requires.chosen;
      none = c.requires.no_flow;
      fits = fits;
      text = e;
    })
