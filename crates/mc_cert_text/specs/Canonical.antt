-- The canonical text of a certificate.
use Rattle.std.specs.Prelude.{ℕ, List, [], ◌∷◌, ◌++◌, map, codes, false, Some}
use Rattle.mc_lex.specs.Kinds.{spelling}
use Rattle.mc_model.specs.Names.{Name}
use Rattle.mc_graph.specs.Flows.{FlowLine}
use Rattle.mc_graph.specs.Refuters.{RefuterLine}
use Rattle.mc_cert.specs.BoundRecords.{LayerRow, BoundRow}
use Rattle.mc_text.specs.declared.head.Head.TheVariants.{Depth, G, Y, B, L}
use Rattle.mc_text.specs.Judged.{Words, Lines}
use Rattle.mc_write.specs.Text.{text_of}
use Rattle.mc_rows.specs.declared.row.Row.{Row}
use Rattle.mc_rows.specs.Written.{rows_lines}
use Rattle.mc_cert_text.specs.Certs.{PlainCert, flow, noflow, nocausal, least}
use Rattle.mc_cert_text.specs.Certs.{kind_of_cert}
use Rattle.mc_cert_text.specs.Kinds.{shape_in}

abbrev pub depth_row : ℕ → Row
depth_row depth =
    record { head = Some Depth; number = depth; name = 0; set = []; constant = false }

abbrev pub flow_row : FlowLine → Row
flow_row r = record {
  head = Some G;
  number = r.layer;
  name = r.vertex;
  set = r.set;
  constant = false;
}

abbrev pub refuter_row : RefuterLine → Row
refuter_row r =
    record { head = Some Y; number = 0; name = r.vertex; set = r.set; constant = false }

abbrev pub stuck_row : List ℕ → Row
stuck_row set = record { head = Some B; number = 0; name = 0; set = set; constant = false }

abbrev pub layer_row : LayerRow → Row
layer_row r =
    record { head = Some L; number = r.layer; name = r.vertex; set = []; constant = false }

abbrev pub bound_row : BoundRow → Row
bound_row r =
    record { head = Some Y; number = r.k; name = r.vertex; set = r.set; constant = false }

-- the rows in the order of the value, each set by rising number
abbrev pub cert_rows : PlainCert → List Row
cert_rows (flow f) = depth_row f.depth ∷ map flow_row f.rows
cert_rows (noflow rows) = map refuter_row rows
cert_rows (nocausal set) = stuck_row set ∷ []
cert_rows (least b) = depth_row b.depth ∷ (map layer_row b.layers ++ map bound_row b.rows)

abbrev pub cert_header : PlainCert → Words
cert_header cert = spelling (kind_of_cert cert) ∷ codes "1" ∷ []

-- the lines behind the header
abbrev pub cert_lines : List Name → PlainCert → Lines
cert_lines names cert = rows_lines (shape_in (kind_of_cert cert)) names (cert_rows cert)

-- the text, with its header, behind a graph whose vertices have these names
abbrev pub cert_text : List Name → PlainCert → List ℕ
cert_text names cert = text_of (cert_header cert ∷ cert_lines names cert)
