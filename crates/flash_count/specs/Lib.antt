pub mod Chains
pub mod Tracked
pub use Rattle.flash_rows.specs.Rows
