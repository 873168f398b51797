pub mod Scaling
pub mod PlanForm
pub mod Marks
pub mod Back
pub mod Refusals
