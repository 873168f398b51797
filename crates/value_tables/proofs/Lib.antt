pub mod CellLemmas
pub mod PieceLemmas
pub mod FieldLemmas
pub mod ReadLemmas
pub mod NumberLemmas
pub mod ReadBack
pub mod Examples
