pub mod MoveLemmas
pub mod LineLemmas
pub mod CourseLemmas
pub mod OrderLemmas
pub mod TalkLemmas
pub mod SeatLemmas
pub mod ServingLemmas
pub mod Examples
