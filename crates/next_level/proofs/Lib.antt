pub mod NextLevelLemmas
pub mod LevelWalkLemmas
pub mod SizeLemmas
pub mod BranchLemmas
pub mod ConcernLemmas
pub mod StepLemmas
