pub mod CellLemmas
pub mod NumberLemmas
pub mod Examples
