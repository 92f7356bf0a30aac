use Rattle.std.proofs.Common.{refl}
use Rattle.mc_text.proofs.Heading.{took_version, took_turn, took_half}
use Rattle.mc_text.proofs.Heading.{stops_version, stops_turn, stops_half}
use Rattle.mc_text.proofs.form.BehindSection.word.Goals as goal

pub returns-in-Ok-clause-ok : goal.returns-in-Ok-clause-ok
returns-in-Ok-clause-ok c =
    let e = c.in-Ok.ensures in
    took_version _ _ _ _ c.in-0.is refl e.clean e.version refl

pub returns-in-Err-clause-err : goal.returns-in-Err-clause-err
returns-in-Err-clause-err c = stops_version _ _ _ _ c.in-0.is c.in-Err.ensures.err

pub returns-in-Ok-take_turn-clause-ok : goal.returns-in-Ok-take_turn-clause-ok
returns-in-Ok-take_turn-clause-ok c =
    let e = c.in-Ok-take_turn.ensures in
    took_turn _ _ _ _ c.in-1.is refl e.clean e.turn

pub returns-in-Err-take_turn-clause-err : goal.returns-in-Err-take_turn-clause-err
returns-in-Err-take_turn-clause-err c =
    stops_turn _ _ _ _ c.in-1.is c.in-Err-take_turn.ensures.err

pub returns-in-Ok-take_half-clause-ok : goal.returns-in-Ok-take_half-clause-ok
returns-in-Ok-take_half-clause-ok c =
    let e = c.in-Ok-take_half.ensures in
    took_half _ _ _ _ c.in-2.is refl e.clean refl e.half

pub returns-in-Err-take_half-clause-err : goal.returns-in-Err-take_half-clause-err
returns-in-Err-take_half-clause-err c =
    stops_half _ _ _ _ c.in-2.is c.in-Err-take_half.ensures.err
