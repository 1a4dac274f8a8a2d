pub mod CycleLaws
pub mod ForeverLaws
pub mod HorizonLaws
pub mod WrongCycle
