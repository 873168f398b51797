pub mod FormLemmas
pub mod TextLemmas
pub mod LineFormLemmas
pub mod ReadBack
pub mod CellLemmas
