pub mod CellLaws
