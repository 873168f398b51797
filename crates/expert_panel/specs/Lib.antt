pub mod Passes
pub mod Turns
pub mod Seats
pub mod Explorations
