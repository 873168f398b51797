pub mod PieceLemmas
pub mod ListingLemmas
pub mod LineLemmas
pub mod PackingLemmas
pub mod PageLemmas
pub mod PassingLemmas
pub mod StretchLemmas
