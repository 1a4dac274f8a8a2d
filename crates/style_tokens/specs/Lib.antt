pub mod CssGrammar
pub mod CssReading
pub mod CssTokens
