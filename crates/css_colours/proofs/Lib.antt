pub mod ValidColours
