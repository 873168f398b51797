pub mod BlameLemmas
pub mod CourseLemmas
pub mod CallLemmas
pub mod ScalingLemmas
pub mod NarrowLemmas
