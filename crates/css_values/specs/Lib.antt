pub mod JudgedValues
pub mod PropertyNames
pub mod ShorthandGrammar
pub mod ShorthandViews
pub mod ValidValues
pub mod ValueGrammar
