use Rattle.std.proofs.Common.{◌++◌, ap, ◌∙◌, List, ℕ}
use Rattle.mc_write.specs.Text.{line_text}
use Rattle.mc_standard.specs.Uses.{plain_use}
use Rattle.mc_trace_text.specs.Canonical.{use_line}
use Rattle.mc_trace_text.proofs.Printing.{uses_more}
use Rattle.mc_trace_text.proofs.print.print_uses.Goals as goal

pub uses-preserved : goal.uses-preserved
uses-preserved c =
    let u = plain_use c.get.result in
    c.in_ok-print_use.ensures
    ∙ ap (λ (bytes : List ℕ). bytes ++ line_text (use_line u)) c.uses.invariant
    ∙ uses_more c.args.text.now.items c.args.d.now c.uses.i u c.get.ensures
