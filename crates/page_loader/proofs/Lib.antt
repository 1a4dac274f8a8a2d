pub mod LoadLemmas
pub mod LoadOutcome
pub mod OneLoading
pub mod OneOrder
pub mod PageReady
pub mod StyleLemmas
