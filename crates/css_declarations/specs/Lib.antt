pub mod DeclarationFaults
pub mod DeclarationGrammar
pub mod DeclarationReading
pub mod InlineText
pub mod ReadyDecls
pub mod TokenKinds
pub mod TokenRuns
