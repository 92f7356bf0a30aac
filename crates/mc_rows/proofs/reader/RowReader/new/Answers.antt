use Rattle.mc_rows.proofs.Keeping.{begins}
use Rattle.mc_rows.proofs.reader.RowReader.new.Goals as goal

pub returns-clause-begins : goal.returns-clause-begins
returns-clause-begins g c =
    rw c.new.ensures (begins (g.K.Rows.kind c.args.kind) c.args.names.now
    (g.K.Rows.holds c.args.kind) c.requires)
