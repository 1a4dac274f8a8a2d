-- Each layer covers the pixels of a cell alike.
use Rattle.std.proofs.Common.{ℕ, zero, suc, ℤ, pos, true, false, ◌≡◌, ◌*◌, ◌/◌, ◌%◌, ◌<◌, ◌≤◌, ◌+ℤ◌, Bool, List, int_le, int_lt, arith, inl, inr, refl, sym}
use Rattle.std.specs.Prelude.{Some, slice_get}
use Rattle.std.proofs.lemmas.Bool.{cases_lt}
use Rattle.std.proofs.lemmas.Int.{ints}
use Rattle.std.proofs.lemmas.Option.{slice_get_within}
use Rattle.std.proofs.Math.Nat.{mul-le-mul_left, mul-div-le}
use Rattle.page_model.specs.declared.scene.Layer.{Layer}
use Rattle.page_model.specs.declared.scene.Scene.{Scene}
use Rattle.page_model.specs.declared.setup.Setup.{Setup}
use Rattle.page_model.specs.Cells.{CutsAt, IsLooseRunBelow, cells_between, height_of, left_of, top_of, width_of}
use Rattle.page_model.specs.Enclosure.{IsLooseStateAt, Loose, LooseRun, LooseState, own, surely_not}
use Rattle.page_model.specs.TintOf.{covers_surely, spans_surely}
use Rattle.page_model.specs.ValidScene.{IsValid}
use Rattle.tint_laws.proofs.WindowLemmas.{layer-at}
use Rattle.cell_laws.proofs.AlikeLemmas.{AreTogether}
use Rattle.cell_laws.proofs.BoxLemmas.{side-alike, state-order}
use Rattle.region_split.specs.Cutting.{AreEnoughOfEach, AreListedBoth, CoversAlike, IsInside, bands, cell_of}
use Rattle.region_split.specs.Marks.{AreOwnMarks, IsCutByBox, IsMarked}
use Rattle.region_split.specs.Sound.{AreSound}
use Rattle.region_split.proofs.EdgeLemmas.{IsZero, body-zero}

-- what is nowhere spans no place
spans-nowhere : (from size : Loose) (at : ℕ) → IsZero from → IsZero size → spans_surely from size at ≡ surely_not
spans-nowhere from size at is none =
    let after : int_lt (pos at) from.lo ≡ false = at-zero from.lo at is.low in
    let before : int_le (from.hi +ℤ size.hi) (pos at) ≡ true = end-zero (from.hi +ℤ size.hi) at (omega (arith, ints, is.high, none.high)) in
    rw (after, before) refl
  where
    at-zero : (t : ℤ) (at : ℕ) → t ≡ pos 0 → int_lt (pos at) t ≡ false
    at-zero t at is = let e : false ≡ int_lt (pos at) t = omega (arith, ints) in sym e

    end-zero : (t : ℤ) (at : ℕ) → t ≡ pos 0 → int_le t (pos at) ≡ true
    end-zero t at is = let e : true ≡ int_le t (pos at) = omega (arith, ints) in sym e

-- and the body, which is nowhere, spans none
body-alike : (from size : Loose) (a b : ℕ) → IsZero from → IsZero size → spans_surely from size a ≡ spans_surely from size b
body-alike from size a b is none = rw (spans-nowhere from size a is none, spans-nowhere from size b is none) refl

-- two columns of a cell are together, and so are two rows
div-below : (i across down : ℕ) → i < across * down → 0 < across → i / across < down
div-below i across down below some =
    elim (cases_lt (i / across) down) [
      | inl less ↦ less
      | inr past ↦
          let rows = mul-le-mul_left across past in
          let whole = mul-div-le i across in
          absurd (omega (arith, rows, whole))
    ]

columns-together : (xs ys : List ℕ) (i column row other_column other_row : ℕ) → AreSound xs
    → IsInside (cell_of xs ys i) column row → IsInside (cell_of xs ys i) other_column other_row
    → AreTogether xs (i % bands xs) column other_column
columns-together xs ys i column row other_column other_row sound one other =
    let some : 0 < bands xs = omega (arith, sound.two) in
    let place : i % bands xs < bands xs = omega arith in
    let rises = sound.rise (i % bands xs) (omega arith) in
    record {
      within = omega arith;
      low_one = one.right_of;
      high_one = omega (arith, one.left_of, rises);
      low_other = other.right_of;
      high_other = omega (arith, other.left_of, rises);
    }

rows-together : (xs ys : List ℕ) (i column row other_column other_row : ℕ) → AreSound xs → AreSound ys → i < cells_between xs ys
    → IsInside (cell_of xs ys i) column row → IsInside (cell_of xs ys i) other_column other_row
    → AreTogether ys (i / bands xs) row other_row
rows-together xs ys i column row other_column other_row sound rows known one other =
    let place = div-below i (bands xs) (bands ys) known (omega (arith, sound.two)) in
    let rises = rows.rise (i / bands xs) (omega arith) in
    record {
      within = omega arith;
      low_one = one.below;
      high_one = omega (arith, one.above, rises);
      low_other = other.below;
      high_other = omega (arith, other.above, rises);
    }

-- two pixels of a cell
record AreTogetherBoth (xs ys : List ℕ) (i j column row other_column other_row : ℕ) : Type 0 where
  pub across : AreTogether xs i column other_column
  pub down : AreTogether ys j row other_row

-- a box whose state is one of its frames' covers both alike
box-alike : (scene : Scene) (setup : Setup) (frames_of : ℕ → ℕ) (columns rows : List Bool) (xs ys : List ℕ)
    (frame number i j column row other_column other_row : ℕ) (layer : Layer) (state : LooseState) → IsValid scene
    → AreOwnMarks scene setup frames_of columns rows → AreListedBoth columns rows setup xs ys → 1 ≤ number → frame < frames_of number
    → slice_get scene.layers number ≡ Some layer → IsLooseStateAt own scene setup frame layer state
    → AreTogetherBoth xs ys i j column row other_column other_row
    → covers_surely state column row ≡ covers_surely state other_column other_row
box-alike scene setup frames_of columns rows xs ys frame number i j column row other_column other_row layer state valid marked listed is_box early found is both =
    let order = state-order scene setup frame number layer state valid found is in
    rw (
      side-alike state.left state.width setup.width (IsMarked columns) xs i column other_column order.across
          (λ n above below cuts. marked.columns_are.all n above below (cut left_of width_of n cuts)) listed.columns_are.edges_are both.across,
      side-alike state.top state.height setup.height (IsMarked rows) ys j row other_row order.down
          (λ n above below cuts. marked.rows_are.all n above below (cut top_of height_of n cuts)) listed.rows_are.edges_are both.down,
    ) refl
  where
    cut : (along across : LooseState → Loose) (n : ℕ) → CutsAt (along state) (across state) n
        → IsCutByBox along across scene setup frames_of n
    cut along across n cuts = record {
      box = number;
      is_box = is_box;
      before = slice_get_within scene.layers number layer found;
      is_cut = record {
        frame = frame;
        looked_at = early;
        is_cut = record { layer = layer; state = state; is_there = found; is_own = is; cuts = cuts };
      };
    }

-- and so does the body's layer, which is nowhere
layer-alike : (scene : Scene) (setup : Setup) (frames_of : ℕ → ℕ) (columns rows : List Bool) (xs ys : List ℕ)
    (frame number i j column row other_column other_row : ℕ) (layer : Layer) (state : LooseState) → IsValid scene
    → AreOwnMarks scene setup frames_of columns rows → AreListedBoth columns rows setup xs ys → frame < frames_of number
    → slice_get scene.layers number ≡ Some layer → IsLooseStateAt own scene setup frame layer state
    → AreTogetherBoth xs ys i j column row other_column other_row
    → covers_surely state column row ≡ covers_surely state other_column other_row
layer-alike scene setup frames_of columns rows xs ys frame zero i j column row other_column other_row layer state valid marked listed early found is both =
    let body = body-zero own scene setup frame layer state (valid.body layer found) is in
    rw (
      body-alike state.left state.width column other_column body.left body.width,
      body-alike state.top state.height row other_row body.top body.height,
    ) refl
layer-alike scene setup frames_of columns rows xs ys frame (suc n) i j column row other_column other_row layer state valid marked listed early found is both =
    box-alike scene setup frames_of columns rows xs ys frame (suc n) i j column row other_column other_row layer state valid marked listed
    (omega arith) early found is both

-- so each layer of a run does, in each frame whose states are those of such frames
pub covers-alike : (scene : Scene) (setup : Setup) (frames_of : ℕ → ℕ) (columns rows : List Bool) (xs ys : List ℕ) (frames : ℕ)
    (run : LooseRun) → IsValid scene → AreOwnMarks scene setup frames_of columns rows → AreListedBoth columns rows setup xs ys
    → AreEnoughOfEach scene setup frames_of frames → IsLooseRunBelow own scene setup frames run → CoversAlike scene frames xs ys run
covers-alike scene setup frames_of columns rows xs ys frames run valid marked listed enough are
    frame number i column row other_column other_row less there known one other =
    let found = layer-at scene.layers number there in
    let early = enough number found.0 found.1 frame less in
    layer-alike scene setup frames_of columns rows xs ys early.0 number (i % bands xs) (i / bands xs) column row other_column other_row
    found.0 (run frame number) valid marked listed early.1 found.1 (early.2 (run frame number) (are frame number found.0 less found.1))
    (record {
      across = columns-together xs ys i column row other_column other_row listed.columns_are.sound one other;
      down = rows-together xs ys i column row other_column other_row listed.columns_are.sound listed.rows_are.sound known one other;
    })
