pub mod AlikeLaws
pub mod MarginLaws
pub mod NestLaws
pub mod StateNestLaws
pub mod TintLaws
pub mod WindowLaws
