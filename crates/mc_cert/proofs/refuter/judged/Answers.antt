use Rattle.std.proofs.Common.{◌∙◌, sym, ap₂, ℕ, ◌+◌, [], ◌∷◌, arith}
use Rattle.std.specs.Prelude.{Option, None, ◌<◌}
use Rattle.mc_model.specs.Graph.{size}
use Rattle.mc_cert.specs.Rules.{breach_or}
use Rattle.mc_cert.specs.RefuterRules.{refuter_rules, refuter_end_rules}
use Rattle.mc_cert.proofs.RowLemmas.{all_at}
use Rattle.mc_cert.proofs.RuleLoops.{row_breaks, row_keeps, rows_end}
use Rattle.mc_cert.proofs.refuter.judged.Goals as goal

pub least_in_row-requires : goal.least_in_row-requires
least_in_row-requires g c = (
  omega arith,
  all_at (λ r. r.vertex < size c.args.g.now) c.args.r.now c.rows.i _ c.requires.rows.vertices
      c.row-vertex.ensures,
)

pub returns-in-Some : goal.returns-in-Some
returns-in-Some g c =
    let graph = c.args.g.now in
    let rows = c.args.r.now in
    row_breaks (refuter_rules graph rows) (refuter_end_rules rows ∷ [])
    1 rows c.rows.i _ c.in-Some.rule c.row-vertex.ensures
    (sym c.least_in_row.ensures ∙ c.in-Some.is) c.rows.invariant

pub rows-preserved : goal.rows-preserved
rows-preserved g c =
    let graph = c.args.g.now in
    let rows = c.args.r.now in
    row_keeps (refuter_rules graph rows) (refuter_end_rules rows ∷ [])
    1 rows c.rows.i _ c.row-vertex.ensures
    (sym c.least_in_row.ensures ∙ c.in_default.is) c.rows.invariant

pub returns : goal.returns
returns g c =
    let graph = c.args.g.now in
    let rows = c.args.r.now in
    let past = c.rows-test.false in
    let low = c.rows.auto.i-end in
    c.of.ensures
    ∙ ap₂ (λ (n : ℕ) (o : Option ℕ). breach_or (n + 1) o None) c.len.ensures.len
    c.least_at_end.ensures
    ∙ rows_end (refuter_rules graph rows) (refuter_end_rules rows) 1 rows
    c.rows.i (omega arith) c.rows.invariant
