-- Where the rectangle holds the most flagged pixels.
pub use Rattle.cell_flags.specs.Marks.{CountsFlagged, IsFirstMost}
