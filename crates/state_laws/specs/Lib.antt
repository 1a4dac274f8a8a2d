pub mod ExamplePage
pub mod NoState
pub mod RunLaws
pub mod UniqueLaws
pub mod WrongRun
pub mod WrongSlot
