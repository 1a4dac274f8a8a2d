pub mod Picked
pub mod Places
pub mod Scenes
pub mod States
