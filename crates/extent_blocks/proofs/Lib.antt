mod BlockLemmas
mod ColumnLemmas
mod ClosureSteps
mod RowLemmas
pub mod ExtentLemmas
