use Rattle.std.proofs.Common.{true, Some, arith}
use Rattle.mc_cert_text.specs.Certs.{IsCertOf, least}
use Rattle.mc_document.specs.Documents.{document_text, graph}
use Rattle.mc_top.specs.Least.{IsBoundDue}
use Rattle.mc_top.proofs.BoundsFit.{bound_fits}
use Rattle.mc_top.proofs.Findings.{judged_due}
use Rattle.mc_top.proofs.least.answer_bound.Goals as goal

pub print_with_cert-requires : goal.print_with_cert-requires
print_with_cert-requires g c = (
  omega arith,
  bound_fits c.short_bounds_are_few.ensures c.args.graph.now c.args._flow.now c.args.bound
      c.requires.small c.requires.chosen c.requires.bound,
)

pub returns : goal.returns
returns g c =
    let made = c.args.graph.now in
    let bound = c.args.bound in
    judged_due c.print_with_cert.result c.judged.result true
    (document_text g.row.H (graph made (Some (least bound)))) (IsCertOf made (least bound))
    (IsBoundDue g.row.H made) c.print_with_cert.ensures.text c.print_with_cert.ensures.fits
    c.judged.ensures.ok c.judged.ensures.holds c.judged.ensures.err
    (λ fits due e. record {
      flow = c.args._flow.now;
      chosen = c.requires.chosen;
      bound = bound;
      bounds = c.requires.bound;
      fits = fits;
      text = e;
    })
