pub mod MemberLemmas
pub mod CandidateLemmas
pub mod CoverLemmas
pub mod ChainLemmas
pub mod PlaceLemmas
pub mod Examples
