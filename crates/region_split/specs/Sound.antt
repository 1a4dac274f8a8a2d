-- What every list of edges is: whoever looks for the greatest flagged area needs it.
use Rattle.std.specs.Prelude.{ℕ, ◌≡◌, ◌-◌, ◌≤◌, List, length, slice_index}
use Rattle.std.specs.List.Sorted.{IsStrictlyIncreasing}

-- edges are at least two, begin with 0, rise, and end at a size of at most 4,096
pub record AreSound (edges : List ℕ) : Type 0 where
  pub two : 2 ≤ length edges
  pub few : length edges ≤ 4097
  pub begin : slice_index edges 0 ≡ 0
  pub rise : IsStrictlyIncreasing edges
  pub limit : slice_index edges (length edges - 1) ≤ 4096
