pub mod Lines
pub mod Talks
pub mod Moves
pub mod Courses
pub mod Order
pub mod Serving
pub mod Rooms
