pub mod GroupLemmas
pub mod JudgedLonghands
pub mod ToldValues
pub mod ValidLonghands
pub mod ValidShorthand
