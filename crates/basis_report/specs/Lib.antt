pub mod Explorations
pub mod Comments
pub mod Conflicts
pub mod Sessions
pub mod Verdicts
pub mod Surveys
