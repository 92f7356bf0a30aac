use Rattle.std.proofs.Common.{sym, ◌∙◌}
use Rattle.std.proofs.lemmas.Bool.{false≢true}
use Rattle.mc_standard.specs.Uses.{plain_rule}
use Rattle.mc_trace.proofs.FittingLines.{fits_rewritten, fits_made}
use Rattle.mc_trace.proofs.fitting.change_two.Goals as goal

pub returns-then-not-fits : goal.returns-then-not-fits
returns-then-not-fits g c =
    let fits = rw (c.shape_of.ensures, c.shape_of-2.ensures, c.uses.ensures)
    at c.if-not-fits.ensures in
    λ new r. false≢true (fits ∙ fits_rewritten (plain_rule c.args.rule) _ _ new r)

pub returns : goal.returns
returns g c =
    let fits = rw (c.shape_of.ensures, c.shape_of-2.ensures, c.uses.ensures)
    at c.if-not-fits.ensures in (
      c.in_ok-change.ensures.reach,
      rw c.in_ok-change.ensures.made
          (fits_made (plain_rule c.args.rule) _ _ (sym fits)),
    )
