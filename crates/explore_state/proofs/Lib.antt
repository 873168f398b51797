pub mod RetainLemmas
pub mod HolderLemmas
pub mod FewestLemmas
pub mod ReplyLemmas
pub mod KeptLemmas
pub mod CourseLemmas
pub mod OpenLemmas
pub mod ConfirmLemmas
