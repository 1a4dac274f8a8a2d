pub mod FaultViews
pub mod Named
pub mod Painting
pub mod Refusals
pub mod SetTables
pub mod Sources
