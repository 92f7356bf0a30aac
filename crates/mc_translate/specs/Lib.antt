pub mod Laws
pub mod Qubits
pub mod Steps
