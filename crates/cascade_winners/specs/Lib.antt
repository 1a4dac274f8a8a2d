pub mod Offers
pub mod Views
pub mod WinningValues
