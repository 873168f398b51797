pub mod Numbers
pub mod Values
pub mod Cells
pub mod Pieces
pub mod Form
pub mod Written
