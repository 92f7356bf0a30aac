use Rattle.std.proofs.Common.{List, ℕ, [], ◌∷◌, ◌++◌, sym, ap, ◌∙◌, codes}
use Rattle.std.proofs.lemmas.List.{append-nil}
use Rattle.mc_write.specs.Text.{line_text}
use Rattle.mc_rows.specs.Written.{row_line}
use Rattle.mc_cert_text.specs.Certs.{noflow}
use Rattle.mc_cert_text.specs.Tables.{refuter_shape}
use Rattle.mc_cert_text.specs.Canonical.{cert_header, refuter_row}
use Rattle.mc_cert_text.proofs.Printing.{lines_written}
use Rattle.mc_cert_text.proofs.print.print_refuter.Goals as goal

pub returns-clause-text : goal.returns-clause-text
returns-clause-text c =
    let rows = c.args.refuter.now in
    let header = line_text (cert_header (noflow rows)) in
    let headed = c.print_header.new.text.items in
    lines_written (row_line refuter_shape c.args.names.now) refuter_row rows header []
    (codes "end" ∷ []) headed headed c.print_refuter_rows.new.text.items _
    (c.in_ok-print_header.ensures
    ∙ ap (λ (bytes : List ℕ). bytes ++ header) c.new-text.ensures.items)
    (sym (append-nil headed)) c.in_ok-print_refuter_rows.ensures.text c.in_ok-print_end.ensures
