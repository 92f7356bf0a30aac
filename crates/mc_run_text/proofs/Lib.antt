pub mod RootReduction
mod WrittenLines
mod Grids
mod Phases
mod PrintedMeaning
mod OutcomesSet
