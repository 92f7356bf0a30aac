use Rattle.std.proofs.Common.{ℕ, List, [], ◌∷◌, ◌++◌, ap, ◌∙◌, codes}
use Rattle.mc_write.specs.Text.{line_text}
use Rattle.mc_rows.specs.Written.{row_line}
use Rattle.mc_cert_text.specs.Certs.{least}
use Rattle.mc_cert_text.specs.Tables.{least_shape}
use Rattle.mc_cert_text.specs.Canonical.{cert_header, depth_row, layer_row, bound_row}
use Rattle.mc_cert_text.proofs.Printing.{two_lists_written}
use Rattle.mc_cert_text.proofs.print.print_least.Goals as goal

pub returns-clause-text : goal.returns-clause-text
returns-clause-text c =
    let names = c.args.names.now in
    let b = c.args.b.now in
    let header = line_text (cert_header (least b)) in
    let headed = c.print_header.new.text.items in
    let depth = λ (d : ℕ). line_text (row_line least_shape names (depth_row d)) in
    two_lists_written (row_line least_shape names) layer_row b.layers bound_row b.rows header
    (depth b.depth) (codes "end" ∷ []) headed c.print_depth.new.text.items
    c.print_layers.new.text.items c.print_sets.new.text.items _
    (c.in_ok-print_header.ensures
    ∙ ap (λ (bytes : List ℕ). bytes ++ header) c.new-text.ensures.items)
    (c.in_ok-print_depth.ensures ∙ ap (λ (d : ℕ). headed ++ depth d) c.depth.ensures)
    c.in_ok-print_layers.ensures.text c.in_ok-print_sets.ensures.text c.in_ok-print_end.ensures
