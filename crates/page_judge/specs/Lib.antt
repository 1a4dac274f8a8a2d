pub mod Clear
pub mod Judgement
