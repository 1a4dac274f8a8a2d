pub mod AlikeLemmas
pub mod BoxLemmas
pub mod EdgeLemmas
pub mod RisingLemmas
pub mod RunLemmas
