pub mod WordLemmas
pub mod LineLemmas
pub mod WriteLemmas
pub mod ListedLemmas
pub mod ReadLemmas
pub mod SkipLemmas
pub mod GreetingLemmas
