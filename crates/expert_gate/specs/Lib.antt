pub mod Histories
pub mod Turns
pub mod Desks
pub mod Seats
