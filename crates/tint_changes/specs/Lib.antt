pub mod Chains
pub mod Counting
pub mod Made
pub mod Runs
