pub mod AreaLemmas
pub mod FewerLemmas
pub mod HorizonLemmas
pub mod MeetLemmas
pub mod NeedLemmas
pub mod PartLemmas
pub mod RefuteLemmas
