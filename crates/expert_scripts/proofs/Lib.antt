pub mod KnownLemmas
mod KnownExamples
pub mod StageLemmas
pub mod NamedLemmas
pub mod FitLemmas
pub mod EventLemmas
pub mod TranscriptLemmas
mod Examples
pub mod DraftLemmas
