use Rattle.mc_elim.proofs.UnitsByBasis.{units_in}
use Rattle.mc_elim.proofs.units.solve_counted.Goals as goal

pub returns : goal.returns
returns g c =
    units_in c.args.a.now c.insert_columns.new.basis c.insert_columns.ensures.rows.0
    c.insert_columns.ensures.count c.insert_columns.ensures.columns c.rows.result
    c.in_ok-answers.answers.items c.rows.ensures.rows c.in_ok-answers.ensures
