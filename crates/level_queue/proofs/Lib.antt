pub mod AheadLemmas
pub mod RowLemmas
pub mod NarrowLemmas
pub mod AcceptLemmas
pub mod OpenLemmas
pub mod PlaceLemmas
pub mod RuleLemmas
pub mod InOneWordLemmas
