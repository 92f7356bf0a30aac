use Rattle.std.proofs.Common.{◌∙◌, sym, ap₂, ℕ, ◌+◌, [], ◌∷◌, arith}
use Rattle.std.specs.Prelude.{Option, None, All, ◌<◌}
use Rattle.mc_model.specs.Graph.{size}
use Rattle.mc_cert.specs.Rules.{breach_or}
use Rattle.mc_cert.specs.BoundRules.{keeping_rules, bound_end_rules}
use Rattle.mc_cert.proofs.RowLemmas.{all_at}
use Rattle.mc_cert.proofs.RuleLoops.{row_breaks, row_keeps, rows_end}
use Rattle.mc_cert.proofs.bound.check_rows.Goals as goal

pub least_in_row-requires : goal.least_in_row-requires
least_in_row-requires g c =
    let rows = c.args.b.now.rows in
    let n = size c.args.g.now in (
      omega arith,
      (
        all_at (λ r. r.vertex < n) rows c.rows.i _ c.requires.rows.vertices c.row-k.ensures,
        all_at (λ r. All (λ k. k < n) r.set) rows c.rows.i _ c.requires.rows.members
            c.row-k.ensures,
      ),
    )

pub returns-in-Some : goal.returns-in-Some
returns-in-Some g c =
    let graph = c.args.g.now in
    let b = c.args.b.now in
    row_breaks (keeping_rules graph b.depth b.layers)
    (bound_end_rules graph b.depth b.layers b.rows ∷ []) c.args.first b.rows c.rows.i _
    c.in-Some.rule c.row-k.ensures (sym c.least_in_row.ensures ∙ c.in-Some.is) c.rows.invariant

pub rows-preserved : goal.rows-preserved
rows-preserved g c =
    let graph = c.args.g.now in
    let b = c.args.b.now in
    row_keeps (keeping_rules graph b.depth b.layers)
    (bound_end_rules graph b.depth b.layers b.rows ∷ []) c.args.first b.rows c.rows.i _
    c.row-k.ensures (sym c.least_in_row.ensures ∙ c.in_default.is) c.rows.invariant

pub returns : goal.returns
returns g c =
    let graph = c.args.g.now in
    let b = c.args.b.now in
    let past = c.rows-test.false in
    let low = c.rows.auto.i-end in
    c.of.ensures
    ∙ ap₂ (λ (n : ℕ) (o : Option ℕ). breach_or (n + c.args.first) o None) c.len.ensures.len
    c.least_at_end.ensures
    ∙ rows_end (keeping_rules graph b.depth b.layers) (bound_end_rules graph b.depth b.layers b.rows)
    c.args.first b.rows c.rows.i (omega arith) c.rows.invariant
