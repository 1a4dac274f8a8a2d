pub mod PageElements
pub mod PageGrammar
pub mod PageNames
pub mod PageReading
pub mod PageSymbols
pub mod PageText
pub mod PageWhole
