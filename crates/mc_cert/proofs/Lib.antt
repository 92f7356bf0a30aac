mod ListTests
mod OddRows
mod RuleLoops
pub mod RowLemmas
mod RuleLemmas
mod FlowLaw
mod RefuterLaw
mod OnlyNeighbours
mod StuckLaw
mod BoundLaw
mod FewRows
mod FewSets
mod OwnBounds
mod KeptRows
