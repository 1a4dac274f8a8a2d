pub mod Around
pub mod Ends
pub mod Here
pub mod Views
