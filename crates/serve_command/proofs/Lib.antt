pub mod AcceptedLemmas
pub mod ServedLemmas
pub mod StepLemmas
