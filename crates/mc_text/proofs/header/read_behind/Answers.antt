use Rattle.std.proofs.Common.{[], refl}
use Rattle.mc_text.proofs.Heading.{begins_header}
use Rattle.mc_text.proofs.header.read_behind.Goals as goal

pub returns-in-Ok-clause-version : goal.returns-in-Ok-clause-version
returns-in-Ok-clause-version c =
    let taken = c.in-Ok.ensures.ok.taken [] (begins_header _ refl refl) refl in
    (taken.1.line _ refl refl).version

pub returns-in-Ok-clause-half : goal.returns-in-Ok-clause-half
returns-in-Ok-clause-half c =
    let taken = c.in-Ok.ensures.ok.taken [] (begins_header _ refl refl) refl in
    (taken.1.line _ refl refl).half
