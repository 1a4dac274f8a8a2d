pub mod PartedPages
