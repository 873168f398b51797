pub mod ObjectLemmas
pub mod AboveLemmas
pub mod PlaceLemmas
pub mod TryLemmas
pub mod FewLemmas
pub mod Examples
