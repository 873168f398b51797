pub mod BlankLemmas
pub mod TextLemmas
pub mod WordLemmas
pub mod LineLemmas
pub mod NumeralLemmas
pub mod MarkLemmas
pub mod ItemLemmas
pub mod TellingLemmas
