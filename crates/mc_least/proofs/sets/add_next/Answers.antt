use Rattle.std.specs.Prelude.{◌+◌, List, refl}
use Rattle.std.proofs.Common.{sym, subst, ap, ◌∙◌}
use Rattle.mc_graph.specs.Flows.{layer_in}
use Rattle.mc_cert.specs.BoundRecords.{BoundRow}
use Rattle.mc_cert.specs.Bounds.{BoundRows}
use Rattle.mc_least.specs.Rows.{HoldsSets, IsSetDue, IsSetRow}
use Rattle.mc_least.proofs.ListedRows.{row_pushed}
use Rattle.mc_least.proofs.KeptSets.{set_due}
use Rattle.mc_least.proofs.sets.add_next.Goals as goal

pub returns-in-Ok-clause-rows : goal.returns-in-Ok-clause-rows
returns-in-Ok-clause-rows g c =
    let graph = c.args.g.now in
    let layer = layer_in c.args.f.now.rows in
    let row : BoundRow = record { k = c.args.k; vertex = c.args.u; set = c.in_ok-set.set } in
    subst (λ (rows : List BoundRow). HoldsSets graph layer c.args.k (c.args.u + 1) rows)
    (sym (ap (λ (b : BoundRows). b.rows) c.in-Ok.ensures.ok))
    (row_pushed (λ (r : BoundRow). r.k) (λ r. r.vertex) (IsSetDue graph layer)
    (IsSetRow graph layer) c.args.k c.args.u c.args.bound.now.rows row c.requires.rows
    (record {
      due = set_due graph layer c.args.k c.args.u c.requires.place.0 c.requires.place.1
          (sym c.is_above.ensures ∙ c.if-not-is_above.false);
      least = c.in_ok-set.ensures.least;
      members = c.in_ok-set.ensures.members;
      rising = c.in_ok-set.ensures.rising;
    }) refl refl)
