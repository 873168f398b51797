pub mod Faults
pub mod Shelves
pub mod Transfers
pub mod Forms
pub mod Links
