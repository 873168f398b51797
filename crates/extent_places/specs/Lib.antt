pub mod Objects
pub mod Places
pub mod Tries
pub mod Few
