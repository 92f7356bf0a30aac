use Rattle.std.proofs.Common.{◌∙◌, sym, ap, length, List, Bool}
use Rattle.mc_bits.proofs.RowsByBits.{row_of-length}
use Rattle.mc_bits.proofs.row.BitRow.len.Goals as goal

pub returns-clause-length : goal.returns-clause-length
returns-clause-length c =
    sym (row_of-length c.self.inside.bits c.self.inside.words)
    ∙ ap (λ (row : List Bool). length row) c.self.view_is
