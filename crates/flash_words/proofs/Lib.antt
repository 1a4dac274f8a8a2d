pub mod CheckWords
pub mod ColourWords
pub mod Decimals
pub mod RateLemmas
pub mod ShownWords
