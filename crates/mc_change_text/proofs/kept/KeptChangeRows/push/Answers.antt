use Rattle.mc_text.specs.declared.fault.Fault.TheVariants.{NotMeasured}
use Rattle.mc_change_text.proofs.Lists.{holds_by}
use Rattle.mc_change_text.proofs.Keeping.{kept_more}
use Rattle.mc_change_text.proofs.kept.KeptChangeRows.push.Goals as goal

pub returns-in-Ok-clause-kept : goal.returns-in-Ok-clause-kept
returns-in-Ok-clause-kept c = λ rows h passes.
    let change = c.args.self.now.change in
    kept_more change c.push.new.self c.args.self.now.done c.join.new.set rows c.args.row
    (cc (c.in-Ok.ensures.ok, c.signal_of.ensures)) c.in_default.ensures.joined
    c.len-members.ensures.rising
    (λ q is. holds_by _ NotMeasured (passes.listed q is)) h
