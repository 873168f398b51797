pub mod CandidateLemmas
pub mod ReachLemmas
pub mod LevelLemmas
pub mod LeastLemmas
pub mod IndexLemmas
pub mod BySizeLemmas
