-- Edges cut a side of the viewport into bands of places: the first band lies from the first edge to the second, and so on.
use Rattle.std.specs.Prelude.{ℕ, ◌≡◌, ◌-◌, ◌≤◌, nat_le, List, length, slice_index, count_by}
use Rattle.std.specs.List.Sorted.{IsStrictlyIncreasing}

-- where the side ends
abbrev pub end_of : List ℕ → ℕ
end_of edges = slice_index edges (length edges - 1)

-- how many bands there are
abbrev pub bands : List ℕ → ℕ
bands edges = length edges - 1

-- the edges are at least two, begin with 0, rise, and end at most at 4,096
pub record AreEdges (edges : List ℕ) : Type 0 where
  pub two : 2 ≤ length edges
  pub begin : slice_index edges 0 ≡ 0
  pub rise : IsStrictlyIncreasing edges
  pub limit : end_of edges ≤ 4096

-- the band in which a place lies: how many edges are at most the place, without the first of them
unfoldable pub band_of : List ℕ → ℕ → ℕ
band_of edges place = count_by (λ edge. nat_le edge place) edges - 1
