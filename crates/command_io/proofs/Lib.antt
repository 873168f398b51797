pub mod CourseLemmas
pub mod ErrLemmas
pub mod ReadingLemmas
pub mod KnownLemmas
pub mod QuietLemmas
pub mod FetchLemmas
pub mod CauseLemmas
pub mod ScriptLemmas
mod Examples
