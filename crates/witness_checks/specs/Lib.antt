pub mod Faults
pub mod Judgement
pub mod Kept
pub mod OwnTints
pub mod Places
pub mod Turns
