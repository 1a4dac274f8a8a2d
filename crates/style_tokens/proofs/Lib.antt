pub mod CssJudged
pub mod CssReaches
pub mod CssRuns
pub mod CssScan
pub mod CssShorter
pub mod CssTakes
pub mod CssUnique
