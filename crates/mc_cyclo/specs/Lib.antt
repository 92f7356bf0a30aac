pub mod Height
pub mod Heights
pub mod Cyclo
pub mod CycloLaws
pub mod RootLaws
pub mod Text
pub mod Phase
