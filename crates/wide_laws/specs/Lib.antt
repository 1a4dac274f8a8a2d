pub mod DecidedLaws
pub mod HeldTintLaws
pub mod LooseLaws
pub mod PaintLaws
pub mod WideLaws
