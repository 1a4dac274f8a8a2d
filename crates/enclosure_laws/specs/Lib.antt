pub mod CauseLaws
pub mod DecidedTintLaws
pub mod ExactPageLaws
