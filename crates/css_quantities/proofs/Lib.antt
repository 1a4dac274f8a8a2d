pub mod ValidNumbers
