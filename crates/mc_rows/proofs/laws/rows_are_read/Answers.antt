use Rattle.std.proofs.Common.{ap, ◌∙◌, None, []}
use Rattle.mc_rows.specs.Rows.{rows_in}
use Rattle.mc_rows.proofs.Sound.{rows_read, rows_back}
use Rattle.mc_rows.proofs.laws.rows_are_read.Goals as goal

pub returns-clause-clean : goal.returns-clause-clean
returns-clause-clean c = λ kind names rows header end valid bare sound written.
    (rows_read kind names rows header end valid bare sound written).clean

pub returns-clause-whole : goal.returns-clause-whole
returns-clause-whole c = λ kind names rows header valid bare sound written.
    (rows_read kind names rows header (0, 0) valid bare sound written).whole

pub returns-clause-same : goal.returns-clause-same
returns-clause-same c = λ kind names rows header valid bare sound written.
    ap (rows_in kind.shape names) (rows_read kind names rows header (0, 0) valid bare sound written).same
    ∙ rows_back kind names valid None [] rows sound
