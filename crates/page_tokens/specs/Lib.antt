pub mod HtmlClasses
pub mod HtmlPieces
pub mod HtmlReading
pub mod HtmlRuns
pub mod HtmlShown
pub mod HtmlTags
pub mod HtmlText
