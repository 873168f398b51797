mod ViewLemmas
pub mod HistoryLemmas
mod TicketLemmas
mod CountLemmas
mod NumberLemmas
mod StepLemmas
mod EntryLemmas
mod ValueLemmas
mod MakingLemmas
pub mod ClosingLemmas
