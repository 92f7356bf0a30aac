use Rattle.std.proofs.Common.{ℕ, List, [], ◌∷◌, ◌++◌, ap, ◌∙◌, codes}
use Rattle.mc_write.specs.Text.{line_text}
use Rattle.mc_rows.specs.Written.{row_line}
use Rattle.mc_cert_text.specs.Certs.{flow}
use Rattle.mc_cert_text.specs.Tables.{flow_shape}
use Rattle.mc_cert_text.specs.Canonical.{cert_header, depth_row, flow_row}
use Rattle.mc_cert_text.proofs.Printing.{lines_written}
use Rattle.mc_cert_text.proofs.print.print_flow.Goals as goal

pub returns-clause-text : goal.returns-clause-text
returns-clause-text c =
    let names = c.args.names.now in
    let f = c.args.f.now in
    let header = line_text (cert_header (flow f)) in
    let headed = c.print_header.new.text.items in
    let depth = λ (d : ℕ). line_text (row_line flow_shape names (depth_row d)) in
    lines_written (row_line flow_shape names) flow_row f.rows header (depth f.depth)
    (codes "end" ∷ []) headed c.print_depth.new.text.items c.print_flow_rows.new.text.items _
    (c.in_ok-print_header.ensures
    ∙ ap (λ (bytes : List ℕ). bytes ++ header) c.new-text.ensures.items)
    (c.in_ok-print_depth.ensures ∙ ap (λ (d : ℕ). headed ++ depth d) c.depth.ensures)
    c.in_ok-print_flow_rows.ensures.text c.in_ok-print_end.ensures
