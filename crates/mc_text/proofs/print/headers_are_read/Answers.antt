use Rattle.mc_text.proofs.HeadersBack.{kind_spelled, version_back, half_back}
use Rattle.mc_text.proofs.print.headers_are_read.Goals as goal

pub returns-clause-kind : goal.returns-clause-kind
returns-clause-kind c = λ kind version half. kind_spelled kind

pub returns-clause-version : goal.returns-clause-version
returns-clause-version c = version_back

pub returns-clause-half : goal.returns-clause-half
returns-clause-half c = half_back
