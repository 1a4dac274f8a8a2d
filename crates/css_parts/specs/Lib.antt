pub mod KeyframeGrammar
pub mod KeyframesOfBlocks
pub mod OffsetViews
