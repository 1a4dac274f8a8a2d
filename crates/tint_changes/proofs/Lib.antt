pub mod ChainLemmas
pub mod CountLemmas
pub mod RunLemmas
pub mod SingleLemmas
pub mod TraceLemmas
