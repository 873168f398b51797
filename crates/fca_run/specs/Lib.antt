pub mod Reports
pub mod Outputs
pub mod Courses
pub mod Causes
pub mod Calls
