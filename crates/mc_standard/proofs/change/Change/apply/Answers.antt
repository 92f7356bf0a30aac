use Rattle.std.proofs.Common.{refl, arith}
use Rattle.mc_pattern.specs.Commands.{plain_command}
use Rattle.mc_standard.specs.declared.change.Change.TheVariants as change
use Rattle.mc_standard.specs.Changes.{changed}
use Rattle.mc_standard.proofs.Edits.{exchanged_at, merged_at, cancelled_at, put_at, removed_at}
use Rattle.mc_standard.proofs.change.Change.apply.Goals as goal

pub returns-in-Exchange-clause-ok : goal.returns-in-Exchange-clause-ok
returns-in-Exchange-clause-ok g c =
    let size = rw c.in-Exchange.is at c.requires in
    let made = changed {h = g.row.H} change.Exchange in
    rw c.in-Exchange.is (exchanged_at (plain_command {h = g.row.H}) made _ _ _
    (λ x y e. refl) (omega arith) c.swap.ensures.items)

pub returns-in-Merge-clause-ok : goal.returns-in-Merge-clause-ok
returns-in-Merge-clause-ok g c =
    let size = rw c.in-Merge.is at c.requires in
    let made = changed {h = g.row.H} (change.Merge c.in-Merge.command) in
    rw c.in-Merge.is (merged_at (plain_command {h = g.row.H}) made _ _ _ _ _
    (λ x y e. refl) (omega arith) c.put.ensures c.take_out.ensures.items)

pub returns-in-Cancel-clause-ok : goal.returns-in-Cancel-clause-ok
returns-in-Cancel-clause-ok g c =
    let size = rw c.in-Cancel.is at c.requires in
    let made = changed {h = g.row.H} change.Cancel in
    rw c.in-Cancel.is (cancelled_at (plain_command {h = g.row.H}) made _ _ _ _
    (λ x y e. refl) (omega arith) c.take_out-in-Cancel.ensures.items
    c.take_out-in-Cancel-2.ensures.items)

pub returns-in-Put-clause-ok : goal.returns-in-Put-clause-ok
returns-in-Put-clause-ok g c =
    let size = rw c.in-Put.is at c.requires in
    let made = changed {h = g.row.H} (change.Put c.in-Put.command) in
    rw c.in-Put.is (put_at (plain_command {h = g.row.H}) made _ _ _ _
    (λ x e. refl) (omega arith) c.put-in-Put.ensures)

pub returns-in-Remove-clause-ok : goal.returns-in-Remove-clause-ok
returns-in-Remove-clause-ok g c =
    let size = rw c.in-Remove.is at c.requires in
    let made = changed {h = g.row.H} change.Remove in
    rw c.in-Remove.is (removed_at (plain_command {h = g.row.H}) made _ _ _
    (λ x e. refl) (omega arith) c.take_out-in-Remove.ensures.items)
