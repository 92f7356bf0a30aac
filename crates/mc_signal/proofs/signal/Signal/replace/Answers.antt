use Rattle.std.proofs.Common.{◌≡◌, sym, ◌∙◌, true, false}
use Rattle.mc_model.specs.Numbers.{is_member}
use Rattle.mc_model.specs.Signals.{value}
use Rattle.mc_signal.proofs.Values.{value-lacks, signal-replaced, value-replaced}
use Rattle.mc_signal.proofs.signal.Signal.replace.Goals as goal

pub returns-then-not-has-clause-value : goal.returns-then-not-has-clause-value
returns-then-not-has-clause-value c o =
    let lacks : is_member c.self.inside.members c.args.q ≡ false =
    sym c.has.ensures.member ∙ c.if-not-has.true in
    rw (← c.self.view_is)
    (value-lacks c.args.q (value c.args.by.now o) c.self.inside.constant c.self.inside.members o
    lacks)

pub returns-clause-ok : goal.returns-clause-ok
returns-clause-ok c =
    let member : is_member c.self.inside.members c.args.q ≡ true =
    sym c.has.ensures.member ∙ c.if-not-has.false in
    rw (← c.self.view_is, ← c.by.view_is)
    (signal-replaced c.args.q c.self.inside.members c.by.inside.members _ c.self.inside.constant
    c.by.inside.constant member c.in_ok-self-inside.ensures.set)

pub returns-clause-value : goal.returns-clause-value
returns-clause-value c o =
    rw (← c.self.view_is, ← c.by.view_is)
    (value-replaced c.args.q c.self.inside.members c.by.inside.members _ c.self.inside.constant
    c.by.inside.constant o
    (c.in_ok-self-inside.ensures.parity o c.by.inside.constant))
