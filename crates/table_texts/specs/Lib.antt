pub mod Lattices
pub mod Numerals
pub mod Tops
pub mod Teams
pub mod Joined
