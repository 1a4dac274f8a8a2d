pub mod ItemWords
pub mod ListReading
pub mod Lists
pub mod Names
pub mod ValidItems
