pub mod HtmlOutcome
pub mod HtmlPieceLemmas
pub mod HtmlRunLemmas
pub mod HtmlTagLemmas
pub mod HtmlTextLemmas
