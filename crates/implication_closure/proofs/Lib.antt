pub mod ClosingLemmas
pub mod WidthLemmas
