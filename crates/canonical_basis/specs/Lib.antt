pub mod Derivations
pub mod Reduced
