pub mod Readings
pub mod SelectorGrammar
pub mod SelectorViews
