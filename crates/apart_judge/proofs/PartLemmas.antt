-- The cells of a parted scene, by number and by place, and what their marks tell.
use Rattle.std.proofs.Common.{◌≡◌, ◌∙◌, ℕ, ◌+◌, ◌*◌, ◌/◌, ◌%◌, ◌<◌, ◌≤◌, Bool, List, length, ap, arith, inl, inr, sym}
use Rattle.std.specs.Prelude.{slice_index_or}
use Rattle.std.proofs.Math.Nat.{mod-add-div}
use Rattle.std.proofs.lemmas.Bool.{cases_lt}
use Rattle.std.proofs.lemmas.Option.{slice_get-get_or}
use Rattle.page_model.specs.declared.scene.Scene.{Scene}
use Rattle.page_model.specs.declared.setup.Setup.{Setup}
use Rattle.page_model.specs.Cells.{cells_between}
use Rattle.page_model.specs.Enclosure.{LooseRun, own}
use Rattle.page_model.specs.Horizon.{frames_for}
use Rattle.page_model.specs.SeparateJudgement.{IsFlaggedInCell, IsInCell, IsOwnRun, frame_limit}
use Rattle.page_model.specs.TintOf.{IsLooseRunIn}
use Rattle.flash_count.specs.declared.tracking.Flag.{Flag}
use Rattle.region_split.specs.Cutting.{IsInside, bands, cell_of}
use Rattle.region_split.specs.Sound.{AreSound}
use Rattle.region_parts.specs.Parts.{ArePartsOf, Parts, cell_needed}
use Rattle.window_area.proofs.BandLemmas.{band_of-between}
use Rattle.cell_flags.specs.Flags.{AreAlikeCells, AreFlags, IsFlagOf}
use Rattle.cell_flags.proofs.AreaLemmas.{CellsTell}
use Rattle.cell_flags.proofs.FlagLemmas.{div-below}
use Rattle.cell_laws.proofs.RunLemmas.{runs-met}
use Rattle.cell_flags.proofs.SideLemmas.{product-below, sound-edges}
use Rattle.apart_judge.specs.Judging.{AreFewFrames, AreMarked, needed_at, unflagged}

-- the place of a cell's number among the cells
record HasPlace (xs ys : List ℕ) (cell : ℕ) : Type 0 where
  pub column : cell % bands xs + 1 < length xs
  pub row : cell / bands xs + 1 < length ys
  pub number : cell / bands xs * bands xs + cell % bands xs ≡ cell

place-of : (xs ys : List ℕ) (cell : ℕ) → AreSound xs → cell < cells_between xs ys → HasPlace xs ys cell
place-of xs ys cell columns known =
    let some : 0 < bands xs = let two = columns.two in omega arith in
    let across : cell % bands xs < bands xs = omega arith in
    let down : cell / bands xs < bands ys = div-below cell (bands xs) (bands ys) known some in record {
      column = omega arith;
      row = omega arith;
      number = let whole = mod-add-div cell (bands xs) in omega (arith, whole);
    }

-- the cells are alike in the frames that the cell needs which needs the most
pub parts-alike : (scene : Scene) (setup : Setup) (parts : Parts) → ArePartsOf scene setup parts
    → AreAlikeCells scene setup (frames_for setup parts.frames) parts.cuts
parts-alike scene setup parts are = record {
  sound = are.sound;
  alike = are.alike (frames_for setup parts.frames);
  few_enough = are.few_enough;
}

-- none needs more
needed-most : (scene : Scene) (setup : Setup) (parts : Parts) (cell : ℕ) → ArePartsOf scene setup parts
    → cell < cells_between parts.cuts.xs parts.cuts.ys → needed_at parts cell ≤ parts.frames
needed-most scene setup parts cell are known =
    elim (cases_lt parts.frames (needed_at parts cell)) [
      | inl more ↦
          let place = place-of parts.cuts.xs parts.cuts.ys cell are.sound.columns known in
          absurd (runs-met own scene setup (frames_for setup frame_limit) (λ run is.
          let most = (are.by_run run is).parted.is_greatest (cell % bands parts.cuts.xs)
          (cell / bands parts.cuts.xs) place.column place.row in
          omega (arith, more, most, ap (needed_at parts) place.number)))
      | inr fine ↦ fine
    ]

pub parts-few : (scene : Scene) (setup : Setup) (parts : Parts) → ArePartsOf scene setup parts → AreFewFrames parts
parts-few scene setup parts are = record {
  each = λ cell known. needed-most scene setup parts cell are known;
  few = are.few;
}

-- a pixel of a cell lies in the cell at its place
inside-cell : (xs ys : List ℕ) (cell column row : ℕ) → AreSound xs → AreSound ys → HasPlace xs ys cell
    → IsInside (cell_of xs ys cell) column row → IsInCell xs ys (cell % bands xs) (cell / bands xs) column row
inside-cell xs ys cell column row columns rows place inside =
    let right = columns.rise (cell % bands xs) place.column in
    let under = rows.rise (cell / bands xs) place.row in record {
      is_column = place.column;
      is_row = place.row;
      right_of = inside.right_of;
      left_of = omega (arith, inside.left_of, right);
      below = inside.below;
      above = omega (arith, inside.above, under);
    }

-- and in no other
same-place : (xs ys : List ℕ) (i j other_i other_j column row : ℕ) → AreSound xs → AreSound ys
    → IsInCell xs ys i j column row → IsInCell xs ys other_i other_j column row → (i ≡ other_i) × (j ≡ other_j)
same-place xs ys i j other_i other_j column row columns rows one other = (
  sym (band_of-between xs column i (sound-edges xs columns) one.is_column one.right_of one.left_of)
      ∙ band_of-between xs column other_i (sound-edges xs columns) other.is_column other.right_of other.left_of,
  sym (band_of-between ys row j (sound-edges ys rows) one.is_row one.below one.above)
      ∙ band_of-between ys row other_j (sound-edges ys rows) other.is_row other.below other.above,
)

-- an own run has the states of a window that a cell needs
run-in : (scene : Scene) (setup : Setup) (run : LooseRun) (start : ℕ) → IsOwnRun scene setup run → start < frame_limit
    → IsLooseRunIn own scene setup start run
run-in scene setup run start is before frame number layer low high there =
    is frame number layer (omega (arith, before, high)) there

-- the flags of a parted scene's cells, and their marks
pub record AreKnown (scene : Scene) (setup : Setup) (parts : Parts) (flags : List Flag)
    (marks : List Bool) : Type 0 where
  pub parts_are : ArePartsOf scene setup parts
  pub flags_are : AreFlags scene setup parts.cuts parts.frames flags
  pub marks_are : AreMarked parts flags marks

-- the flag of a cell in a window that it needs
flag-at : (scene : Scene) (setup : Setup) (parts : Parts) (flags : List Flag) (cell start : ℕ)
    → AreFlags scene setup parts.cuts parts.frames flags → cell < cells_between parts.cuts.xs parts.cuts.ys
    → start < parts.frames
    → IsFlagOf scene setup start (cell_of parts.cuts.xs parts.cuts.ys cell)
    (slice_index_or flags (cell * parts.frames + start) unflagged)
flag-at scene setup parts flags cell start are known before =
    let place : cell * parts.frames + start < length flags =
    let inside = product-below start cell parts.frames (cells_between parts.cuts.xs parts.cuts.ys) before known in
    omega (arith, are.all, inside) in
    are.each cell start (slice_index_or flags (cell * parts.frames + start) unflagged) known before
    (slice_get-get_or flags (cell * parts.frames + start) unflagged place)

-- the marks tell which pixels are possibly flagged in a window of their own cell
pub marks-tell : (scene : Scene) (setup : Setup) (parts : Parts) (flags : List Flag) (marks : List Bool)
    (run : LooseRun) → AreKnown scene setup parts flags marks → IsOwnRun scene setup run
    → CellsTell (IsFlaggedInCell scene setup run parts.cuts.xs parts.cuts.ys (cell_needed parts)) parts.cuts marks
marks-tell scene setup parts flags marks run know own_run cell column row known inside =
    let xs : List ℕ = parts.cuts.xs in
    let ys : List ℕ = parts.cuts.ys in
    let sound = know.parts_are.sound in
    let few = know.parts_are.few in
    let place = place-of xs ys cell sound.columns known in
    let here = inside-cell xs ys cell column row sound.columns sound.rows place inside in
    let most = needed-most scene setup parts cell know.parts_are known in
    let number : cell_needed parts (cell % bands xs) (cell / bands xs) ≡ needed_at parts cell =
    ap (needed_at parts) place.number in (
      λ marked.
          let has = (know.marks_are.each cell known).0 marked in
          let of = flag-at scene setup parts flags cell has.start know.flags_are known
          (omega (arith, has.before, most)) in record {
            i = cell % bands xs;
            j = cell / bands xs;
            cell = here;
            start = has.start;
            needed = omega (arith, has.before, number);
            flagged = (of.possible run column row (run-in scene setup run has.start own_run
                (omega (arith, has.before, most, few))) inside).0 has.possible;
          },
      λ flagged.
          let same = same-place xs ys flagged.i flagged.j (cell % bands xs) (cell / bands xs) column row
          sound.columns sound.rows flagged.cell here in
          let needed : cell_needed parts flagged.i flagged.j ≡ needed_at parts cell = rw (same.0, same.1) number in
          let before : flagged.start < needed_at parts cell = omega (arith, flagged.needed, needed) in
          let of = flag-at scene setup parts flags cell flagged.start know.flags_are known
          (omega (arith, before, most)) in
          (know.marks_are.each cell known).1 (record {
            start = flagged.start;
            before = before;
            possible = (of.possible run column row (run-in scene setup run flagged.start own_run
                (omega (arith, before, most, few))) inside).1 flagged.flagged;
          }),
    )
