pub mod CellRows
