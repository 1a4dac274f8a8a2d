pub mod Quantities
pub mod ValidQuantities
