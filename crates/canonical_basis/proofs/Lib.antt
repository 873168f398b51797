pub mod DerivationLemmas
pub mod OrderLemmas
pub mod ListLemmas
pub mod ReduceLemmas
