pub use Rattle.page_tokens.specs.HtmlPieces
pub use Rattle.page_tokens.specs.HtmlTags
pub use Rattle.page_tokens.specs.HtmlText
pub use Rattle.style_tokens.specs.CssGrammar
pub use Rattle.style_tokens.specs.CssTokens
pub use Rattle.text_tokens.specs.Classes
