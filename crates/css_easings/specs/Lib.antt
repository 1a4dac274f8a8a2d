pub mod EasingViews
pub mod EasingWords
pub mod Easings
