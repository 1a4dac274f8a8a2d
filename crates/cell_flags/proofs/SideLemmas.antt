-- The edges of a scene end where its viewport does, and each pixel of it lies in a cell.
use Rattle.std.proofs.Common.{◌≡◌, ◌∙◌, ℕ, zero, suc, ◌+◌, ◌-◌, ◌*◌, ◌/◌, ◌%◌, ◌<◌, ◌≤◌, List, length, get_or, ap, arith, inl, inr, refl, sym}
use Rattle.std.proofs.Math.Nat.{mod-eq_of_lt, mul-add-mod_self_right}
use Rattle.std.proofs.lemmas.Bool.{cases_eq, cases_lt}
use Rattle.std.proofs.lemmas.Grind.{get_or_default_zero}
use Rattle.std.proofs.lemmas.List.Elements.{Contains-get_or}
use Rattle.std.proofs.lemmas.Nat.{div-mul-add}
use Rattle.page_model.specs.declared.scene.Scene.{Scene}
use Rattle.page_model.specs.declared.setup.Setup.{Setup}
use Rattle.page_model.specs.Cells as cells
use Rattle.page_model.specs.Cells.{AreCuts, IsEdge, cells_between, first, end, inside}
use Rattle.page_model.specs.Enclosure.{LooseRun, own}
use Rattle.region_split.specs.Cutting.{AreSoundBoth, Edges, IsCut, IsInside, cell_of}
use Rattle.region_split.specs.Sound.{AreSound}
use Rattle.cell_laws.proofs.RisingLemmas.{rising-between}
use Rattle.window_area.specs.Edges.{AreEdges, band_of, bands, end_of}
use Rattle.window_area.proofs.BandLemmas.{band_of-between}
use Rattle.cell_laws.proofs.RunLemmas.{runs-met}

-- edges end where the viewport does
pub record AreSides (setup : Setup) (edges : Edges) : Type 0 where
  pub columns : AreEdges edges.xs
  pub rows : AreEdges edges.ys
  pub width : end_of edges.xs ≡ setup.width
  pub height : end_of edges.ys ≡ setup.height

pub sound-edges : (edges : List ℕ) → AreSound edges → AreEdges edges
sound-edges edges sound = record { two = sound.two; begin = sound.begin; rise = sound.rise; limit = sound.limit }

nat-stable : (a b : ℕ) → ((a ≡ b → ⊥) → ⊥) → a ≡ b
nat-stable a b stable = elim (cases_eq a b) [ inl same ↦ same | inr differ ↦ absurd (stable differ) ]

last-at_most : (size : ℕ) (Cut : ℕ → Type 0) (at : ℕ) → IsEdge size Cut at → at ≤ size
last-at_most size Cut at (first is) = omega (arith, is)
last-at_most size Cut at (end is) = omega (arith, is)
last-at_most size Cut at (inside some below cut) = omega (arith, below)

end-is : (size : ℕ) (Cut : ℕ → Type 0) (edges : List ℕ) → AreSound edges → cells.AreEdges size Cut edges → end_of edges ≡ size
end-is size Cut edges sound are =
    let two = sound.two in
    let last : ℕ = length edges - 1 in
    let low : end_of edges ≤ size = last-at_most size Cut (end_of edges) ((are.all (end_of edges)).0 (Contains-get_or edges last 0 (omega arith))) in
    let found = (are.all size).1 (end refl) in
    let place : get_or edges found.0 0 ≡ size = sym (get_or_default_zero edges found.0 size found.1) ∙ found.2 in
    let high = rising-between edges found.0 last sound.rise (omega (arith, found.1)) (omega arith) in
    omega (arith, low, place, high)

-- the edges by the states of a run
pub sides-by : (scene : Scene) (setup : Setup) (frames_of : ℕ → ℕ) (run : LooseRun) (edges : Edges) → AreSoundBoth edges.xs edges.ys
    → AreCuts setup scene frames_of run edges.xs edges.ys → AreSides setup edges
sides-by scene setup frames_of run edges sound cuts = record {
  columns = sound-edges edges.xs sound.columns;
  rows = sound-edges edges.ys sound.rows;
  width = end-is setup.width _ edges.xs sound.columns cuts.columns;
  height = end-is setup.height _ edges.ys sound.rows cuts.rows;
}

-- and those of a scene that is cut
pub sides-are : (scene : Scene) (setup : Setup) (frames : ℕ) (edges : Edges) → IsCut scene setup frames edges → AreSides setup edges
sides-are scene setup frames edges cut = record {
  columns = sound-edges edges.xs cut.sound.columns;
  rows = sound-edges edges.ys cut.sound.rows;
  width = nat-stable (end_of edges.xs) setup.width (λ differ.
      runs-met own scene setup frames (λ run is. differ (end-is setup.width _ edges.xs cut.sound.columns (cut.cuts run is).columns)));
  height = nat-stable (end_of edges.ys) setup.height (λ differ.
      runs-met own scene setup frames (λ run is. differ (end-is setup.height _ edges.ys cut.sound.rows (cut.cuts run is).rows)));
}

-- the band of a place lies around it
pub record IsAround (edges : List ℕ) (place band : ℕ) : Type 0 where
  pub within : band + 1 < length edges
  pub low : get_or edges band 0 ≤ place
  pub high : place < get_or edges (band + 1) 0

band-found : (edges : List ℕ) (place k : ℕ) → get_or edges 0 0 ≡ 0 → k < length edges → place < get_or edges k 0
    → (band : ℕ) × (band < k) × (get_or edges band 0 ≤ place) × (place < get_or edges (band + 1) 0)
band-found edges place zero begin within before = absurd (omega (arith, begin))
band-found edges place (suc k) begin within before =
    elim (cases_lt place (get_or edges k 0)) [
      | inl earlier ↦
          let found = band-found edges place k begin (omega arith) earlier in
          (found.0, omega (arith, found.1), found.2, found.3)
      | inr here ↦
          let next : k + 1 ≡ suc k = omega arith in
          (k, omega arith, here, rw next before)
    ]

pub band-around : (edges : List ℕ) (place : ℕ) → AreEdges edges → place < end_of edges → IsAround edges place (band_of edges place)
band-around edges place are before =
    let two = are.two in
    let found = band-found edges place (length edges - 1) are.begin (omega arith) before in
    let same = band_of-between edges place found.0 are (omega (arith, found.1)) found.2 found.3 in
    rw same record { within = omega (arith, found.1); low = found.2; high = found.3 }

-- the cell of a pixel, by number
abbrev pub cell_at : Edges → ℕ → ℕ → ℕ
cell_at edges column row = band_of edges.ys row * bands edges.xs + band_of edges.xs column

pub product-below : (a b across down : ℕ) → a < across → b < down → b * across + a < across * down
product-below a b across down right under =
    let more : (rest : ℕ) × (down ≡ b + 1 + rest) = (down - (b + 1), omega arith) in
    rw more.1 (omega arith)

pub cell_at-known : (edges : Edges) (column row : ℕ) → AreEdges edges.xs → AreEdges edges.ys → column < end_of edges.xs → row < end_of edges.ys
    → cell_at edges column row < cells_between edges.xs edges.ys
cell_at-known edges column row columns rows within below =
    let across = (band-around edges.xs column columns within).within in
    let down = (band-around edges.ys row rows below).within in
    product-below (band_of edges.xs column) (band_of edges.ys row) (bands edges.xs) (bands edges.ys) (omega arith) (omega arith)

pub cell_at-inside : (edges : Edges) (column row : ℕ) → AreEdges edges.xs → AreEdges edges.ys → column < end_of edges.xs → row < end_of edges.ys
    → IsInside (cell_of edges.xs edges.ys (cell_at edges column row)) column row
cell_at-inside edges column row columns rows within below =
    let xs : List ℕ = edges.xs in
    let ys : List ℕ = edges.ys in
    let across = band-around xs column columns within in
    let down = band-around ys row rows below in
    let a : ℕ = band_of xs column in
    let b : ℕ = band_of ys row in
    let right_end : a < bands xs = let h = across.within in omega arith in
    let rest : (b * bands xs + a) % bands xs ≡ a = mul-add-mod_self_right b (bands xs) a ∙ mod-eq_of_lt right_end in
    let whole : (b * bands xs + a) / bands xs ≡ b = div-mul-add b (bands xs) a right_end in
    let left : get_or xs ((b * bands xs + a) % bands xs) 0 ≡ get_or xs a 0 = ap (λ n. get_or xs n 0) rest in
    let right : get_or xs ((b * bands xs + a) % bands xs + 1) 0 ≡ get_or xs (a + 1) 0 = ap (λ n. get_or xs (n + 1) 0) rest in
    let top : get_or ys ((b * bands xs + a) / bands xs) 0 ≡ get_or ys b 0 = ap (λ n. get_or ys n 0) whole in
    let bottom : get_or ys ((b * bands xs + a) / bands xs + 1) 0 ≡ get_or ys (b + 1) 0 = ap (λ n. get_or ys (n + 1) 0) whole in record {
      right_of = omega (arith, left, across.low);
      left_of = omega (arith, left, right, across.low, across.high);
      below = omega (arith, top, down.low);
      above = omega (arith, top, bottom, down.low, down.high);
    }
