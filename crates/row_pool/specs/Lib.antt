pub mod Rows
pub mod Pools
pub mod Kept
pub mod Lending
