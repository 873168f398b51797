pub mod RecordedLemmas
