pub mod ReplayLemmas
pub mod CourseLemmas
pub mod FedBackLemmas
