pub mod CompiledCircuits
pub mod CompileRows
