mod ReplyLemmas
pub mod DeskLemmas
pub mod SeatLemmas
