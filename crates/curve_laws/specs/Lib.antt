pub mod CurveLaws
pub mod EnclosureLaws
pub mod EndLaws
pub mod SlotLaws
pub mod WrongCurves
