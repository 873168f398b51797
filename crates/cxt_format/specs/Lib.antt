pub mod LineForms
pub mod Form
pub mod Untitled
pub mod Written
pub mod Faults
pub mod Cells
