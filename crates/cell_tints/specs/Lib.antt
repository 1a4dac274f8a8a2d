pub mod Tints
