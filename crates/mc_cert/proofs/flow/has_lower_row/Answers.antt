use Rattle.std.proofs.Common.{◌∙◌, sym}
use Rattle.std.specs.Prelude.{nat_eq, nat_lt, ◌&&◌}
use Rattle.mc_cert.proofs.ListTests.{any_found, any_step}
use Rattle.mc_cert.proofs.flow.has_lower_row.Goals as goal

pub returns-then-is_lower : goal.returns-then-is_lower
returns-then-is_lower c =
    any_found (λ r. nat_eq c.args.v r.vertex && nat_lt r.layer c.args.k) c.args.f.now.rows c.rows.i
    _ c.row-row.ensures (sym c.is_lower.ensures ∙ c.if-is_lower.true) c.rows.invariant

pub rows-preserved : goal.rows-preserved
rows-preserved c =
    any_step (λ r. nat_eq c.args.v r.vertex && nat_lt r.layer c.args.k) c.args.f.now.rows c.rows.i
    _ c.row-row.ensures (sym c.is_lower.ensures ∙ c.if-is_lower.false) c.rows.invariant
