pub mod FrontLemmas
pub mod KeywordLemmas
pub mod NumberLemmas
pub mod Readings
pub mod ShareLemmas
pub mod SizeLemmas
pub mod WordLemmas
