pub mod TopLemmas
pub mod PackedLemmas
pub mod TeamLemmas
pub mod JoinedLemmas
