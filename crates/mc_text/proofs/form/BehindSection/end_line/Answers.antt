use Rattle.mc_text.proofs.Heading.{lacks_first, lacks_third}
use Rattle.mc_text.proofs.form.BehindSection.end_line.Goals as goal

pub returns-in-0-clause-err : goal.returns-in-0-clause-err
returns-in-0-clause-err c = λ before here m e. lacks_first _ c.in-0.is before here e

pub returns-in-2-clause-err : goal.returns-in-2-clause-err
returns-in-2-clause-err c = λ before here m e. lacks_third _ c.in-2.is before here e
