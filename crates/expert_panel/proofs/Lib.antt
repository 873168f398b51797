pub mod PassLemmas
pub mod AttendLemmas
pub mod DoneLemmas
pub mod ShareLemmas
pub mod EndingLemmas
pub mod CourseLemmas
