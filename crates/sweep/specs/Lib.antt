pub mod Apart
pub mod Few
pub mod Marks
pub mod Swept
pub mod Told
pub mod Verdicts
