pub mod NameLemmas
pub mod StartLemmas
pub mod ExploredLemmas
pub mod SurveyLemmas
