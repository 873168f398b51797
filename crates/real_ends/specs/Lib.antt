pub mod Addresses
pub mod Sockets
