pub mod FormerPainting
pub mod FormerSlot
pub mod FormerState
pub mod FormerTint
pub mod FullAlpha
pub mod PaintingLaws
pub mod SlotLaws
pub mod StateLaws
