pub mod Listing
pub mod Pieces
pub mod Lines
pub mod Packing
pub mod Passing
pub mod Pages
pub mod Stretches
pub mod Sheets
