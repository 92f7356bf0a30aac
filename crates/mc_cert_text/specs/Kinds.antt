-- The kinds of certificates' sections: their tables, the rule that no two rows are alike, and the
-- certificate that lines spell.
use Rattle.std.specs.Prelude.{ℕ, Bool, false, List, [], ◌∷◌, Option, None, Some, ⊤}
use Rattle.std.specs.List.{list_any}
use Rattle.mc_lex.specs.declared.kind.Kind.{Kind}
use Rattle.mc_lex.specs.declared.kind.Kind.TheVariants.{Flow, NoFlow, NoCausal, Least}
use Rattle.mc_model.specs.Names.{Name}
use Rattle.mc_graph.specs.RowLists.{has_row}
use Rattle.mc_graph.specs.Refuters.{refuted_in}
use Rattle.mc_cert.specs.BoundRules.{is_for}
use Rattle.mc_cert.specs.Bounds.{BoundRows}
use Rattle.mc_text.specs.declared.head.Head.{Head}
use Rattle.mc_text.specs.declared.head.Head.TheVariants.{L, Y}
use Rattle.mc_text.specs.declared.fault.Fault.TheVariants.{RowTwice}
use Rattle.mc_text.specs.Judged.{Lines, Rules}
use Rattle.mc_text.specs.Rules.{broken}
use Rattle.mc_rows.specs.declared.row.Row.{Row}
use Rattle.mc_rows.specs.Rows.{Shapes, rows_in}
use Rattle.mc_rows.specs.Judge as judge
use Rattle.mc_rows.specs.Judge.{Bars, row_rules}
use Rattle.mc_cert_text.specs.Certs.{PlainCert}
use Rattle.mc_cert_text.specs.Tables.{follows_in_flow, flow_shape, follows_in_refuter}
use Rattle.mc_cert_text.specs.Tables.{refuter_shape, follows_in_stuck, stuck_shape}
use Rattle.mc_cert_text.specs.Tables.{follows_in_least, least_shape}
use Rattle.mc_cert_text.specs.Value.{flow_in, refuter_in, least_in, cert_by}

-- the kinds of section that are certificates
abbrev pub IsCertKind : Kind → Type 0
IsCertKind Flow = ⊤
IsCertKind NoFlow = ⊤
IsCertKind NoCausal = ⊤
IsCertKind Least = ⊤
IsCertKind _ = ⊥

-- what has a row among those before, by its record word, its number and its vertex, may not have a
-- second one
abbrev pub one_row_each : (List Row → Option Head → ℕ → ℕ → Bool) → Bars
one_row_each has = record {
  head = λ rows head. None;
  named = λ rows head number q. broken ((has rows head number q, RowTwice) ∷ []);
  listed = λ rows q. None;
}

abbrev pub flow_kind : judge.Kind
flow_kind = record {
  follows = follows_in_flow;
  shape = flow_shape;
  bars = one_row_each (λ rows head number. has_row (λ r. r.vertex) (flow_in rows).rows);
  second = false;
}

abbrev pub refuter_kind : judge.Kind
refuter_kind = record {
  follows = follows_in_refuter;
  shape = refuter_shape;
  bars = one_row_each (λ rows head number. refuted_in (refuter_in rows));
  second = false;
}

abbrev pub stuck_kind : judge.Kind
stuck_kind = record {
  follows = follows_in_stuck;
  shape = stuck_shape;
  bars = one_row_each (λ rows head number q. false);
  second = false;
}

-- whether a bound has a layer of a vertex, or a set for a layer and a vertex
abbrev pub has_bound_row : BoundRows → Option Head → ℕ → ℕ → Bool
has_bound_row b (Some L) number q = has_row (λ r. r.vertex) b.layers q
has_bound_row b (Some Y) number q = list_any (is_for number q) b.rows
has_bound_row b _ number q = false

abbrev pub least_kind : judge.Kind
least_kind = record {
  follows = follows_in_least;
  shape = least_shape;
  bars = one_row_each (λ rows. has_bound_row (least_in rows));
  second = false;
}

abbrev pub cert_kind : Kind → judge.Kind
cert_kind Flow = flow_kind
cert_kind NoFlow = refuter_kind
cert_kind Least = least_kind
cert_kind _ = stuck_kind

abbrev pub shape_in : Kind → Shapes
shape_in kind = (cert_kind kind).shape

-- the rules of a certificate's section behind a graph whose vertices have these names
abbrev pub cert_rules : Kind → List Name → Rules
cert_rules kind names = row_rules (cert_kind kind) names

-- the certificate of a kind that lines spell behind a graph whose vertices have these names
abbrev pub cert_in : Kind → List Name → Lines → PlainCert
cert_in kind names lines = cert_by kind (rows_in (shape_in kind) names lines)
