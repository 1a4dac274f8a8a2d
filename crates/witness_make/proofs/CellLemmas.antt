-- The cell of a pixel, and so many pixels so far.
use Rattle.std.proofs.Common.{◌≡◌, ◌∙◌, ℕ, ◌+◌, ◌*◌, ◌/◌, ◌%◌, ◌^◌, ◌<◌, List, length, get_or, take, ap, arith, inl, inr}
use Rattle.std.specs.Prelude.{sum_by}
use Rattle.std.proofs.Math.Nat.{mul-div-le, mul-le-mul_left}
use Rattle.std.proofs.lemmas.Nat.{div-add-mod'}
use Rattle.std.proofs.lemmas.Bool.{cases_lt}
use Rattle.std.proofs.lemmas.List.Sums.{sum_by_more_le}
use Rattle.page_model.specs.declared.witness.Part.{Part}
use Rattle.page_model.specs.Cells.{cells_between}
use Rattle.region_split.specs.Cutting.{Edges, IsInside, cell_of}
use Rattle.window_area.specs.Edges.{AreEdges, band_of, bands}
use Rattle.window_area.proofs.BandLemmas.{band_of-between}
use Rattle.cell_flags.proofs.SideLemmas.{cell_at}
use Rattle.witness_laws.proofs.AreaLemmas.{size_of}

-- the cell of a pixel has the pixel's number
pub div-below : (i across down : ℕ) → i < across * down → i / across < down
div-below i across down below =
    elim (cases_lt (i / across) down) [
      | inl less ↦ less
      | inr past ↦
          let rows = mul-le-mul_left across past in
          let whole = mul-div-le i across in
          absurd (omega (arith, rows, whole))
    ]

pub cell_at-is : (edges : Edges) (i column row : ℕ) → AreEdges edges.xs → AreEdges edges.ys → i < cells_between edges.xs edges.ys
    → IsInside (cell_of edges.xs edges.ys i) column row → cell_at edges column row ≡ i
cell_at-is edges i column row columns rows known inside =
    let xs : List ℕ = edges.xs in
    let ys : List ℕ = edges.ys in
    let two = columns.two in
    let across : i % bands xs < bands xs = omega arith in
    let down : i / bands xs < bands ys = div-below i (bands xs) (bands ys) known in
    let right = inside.right_of in
    let left = inside.left_of in
    let below = inside.below in
    let above = inside.above in
    let one : band_of xs column ≡ i % bands xs = band_of-between xs column (i % bands xs) columns (omega (arith, across)) right (omega (arith, right, left)) in
    let other : band_of ys row ≡ i / bands xs = band_of-between ys row (i / bands xs) rows (omega (arith, down)) below (omega (arith, below, above)) in
    ap (λ n. n * bands xs + band_of xs column) other ∙ ap (λ n. i / bands xs * bands xs + n) one ∙ div-add-mod' i (bands xs)

-- so many pixels so far, and those of one part more
pub sum-fits : (parts : List Part) (i so_far width height : ℕ) (d : Part) → so_far ≡ sum_by size_of (take i parts) → i < length parts
    → width ≡ (get_or parts i d).width → height ≡ (get_or parts i d).height → sum_by size_of parts < 2 ^ 32 → so_far + width * height < 2 ^ 32
sum-fits parts i so_far width height d is within width_is height_is fits =
    let more = sum_by_more_le size_of parts i d within in
    rw (width_is, height_is, is) (omega (arith, more, fits))
