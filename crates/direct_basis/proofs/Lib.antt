pub mod MemberLemmas
pub mod JoinLemmas
pub mod DirectLemmas
pub mod FreeLemmas
pub mod LevelLemmas
pub mod Examples
