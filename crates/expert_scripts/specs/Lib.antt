pub mod Known
pub mod KnownFaults
pub mod Scripts
pub mod Stages
pub mod Transcripts
pub mod Faults
