pub mod NameTable
pub mod ReadySheet
pub mod SheetGrammar
pub mod SheetState
pub mod SheetText
pub mod StuckSheets
