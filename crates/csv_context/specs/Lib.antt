pub mod Records
pub mod Lines
pub mod Form
pub mod Written
pub mod Cells
pub mod Faults
