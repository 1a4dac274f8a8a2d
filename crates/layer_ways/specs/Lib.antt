pub mod Alpha
pub mod Found
pub mod Named
pub mod Ways
