pub mod History
pub mod Basis
pub mod Fewest
pub mod Kept
pub mod Faults
