pub mod ListLemmas
pub mod PieceLemmas
pub mod ValidLists
