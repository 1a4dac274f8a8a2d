pub mod AreaLemmas
pub mod MeetLemmas
pub mod OneLemmas
pub mod PaintLemmas
pub mod SafeLemmas
pub mod SeenLemmas
