use Rattle.mc_cyclo.proofs.RootCoordinates as root
use Rattle.mc_cyclo.proofs.laws.root_divides_eighths.Goals as goal

pub returns-clause-times : goal.returns-clause-times
returns-clause-times c = root.root_of_eighths

pub returns-clause-divides : goal.returns-clause-divides
returns-clause-divides c = root.root_divides_eighths
