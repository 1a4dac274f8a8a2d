-- The parts of all cells make a witness.
use Rattle.std.proofs.Common.{◌≡◌, ◌∙◌, ℕ, ◌+◌, ◌-◌, ◌/◌, ◌%◌, ◌^◌, ◌<◌, ◌≤◌, List, length, slice_get, get_or, Some, ap, arith, inl, inr, refl, subst, sym}
use Rattle.std.specs.Prelude.{All, IsTrue, ℤ, pos, ◌+ℤ◌, ◌≤ℤ◌, sum_by}
use Rattle.std.proofs.Math.Nat.{mul-le-mul_left}
use Rattle.std.specs.List.Sorted.{IsStrictlyIncreasing}
use Rattle.std.proofs.lemmas.Int.{ints}
use Rattle.std.proofs.lemmas.List.Folds.{list_any_at}
use Rattle.std.proofs.lemmas.Option.{get_or_from_slice_get, slice_get-get_or, slice_get_cases, slice_get_within}
use Rattle.page_model.specs.declared.scene.Scene.{Scene}
use Rattle.page_model.specs.declared.setup.Setup.{Setup}
use Rattle.page_model.specs.declared.witness.Part.{Part}
use Rattle.page_model.specs.declared.witness.Witness.{Witness}
use Rattle.page_model.specs.Cells.{cells_between}
use Rattle.page_model.specs.Enclosure.{LooseRun, own}
use Rattle.page_model.specs.Flash.{IsInRectangle, area}
use Rattle.page_model.specs.Time.{window_of}
use Rattle.page_model.specs.TintOf.{IsLooseRunIn, tints_of}
use Rattle.page_model.specs.ValidScene.{IsValid}
use Rattle.page_model.specs.Window.{IsSurelyBad, IsSurelyFlagged}
use Rattle.page_model.specs.WitnessConditions.{AlternatesSurely, HasNineTurns, HasSetup, HasTints, IsOfPart, IsWitness, LiesInside}
use Rattle.flash_laws.proofs.MarkLemmas.{area-at_most, area-le}
use Rattle.region_split.specs.declared.types.Rect.{Rect}
use Rattle.region_split.specs.Cutting.{Edges, IsInside, cell_of}
use Rattle.window_area.specs.Edges.{bands, end_of}
use Rattle.window_area.proofs.BandLemmas.{edge-le-end}
use Rattle.sweep.specs.Marks.{CountsFlagged}
use Rattle.cell_flags.proofs.SideLemmas.{AreSides, cell_at, cell_at-inside, cell_at-known, sides-are}
use Rattle.witness_make.specs.Clip.{IsCutTo}
use Rattle.witness_make.specs.Made.{AreCutsOf, AreParts, IsMade, IsPartOf}
use Rattle.witness_make.specs.Turns.{no_tint}
use Rattle.witness_make.proofs.CellLemmas.{cell_at-is, div-below}
use Rattle.witness_text.specs.WitnessForm.{IsInForm}
use Rattle.witness_laws.proofs.AreaLemmas.{AreApartParts, LieWithin, area-of-parts, held-found, in_some, in_this, in_this-from, in_this-means, size_of}
use Rattle.witness_make.proofs.SameLemmas.{flagged-all, seen-tint}
use Rattle.witness_make.proofs.TurnLemmas.{frames-rise, frames-within, place-within, tints-change}

abbrev rect_of : Part → Rect
rect_of part = record { x = part.x; y = part.y; width = part.width; height = part.height }

inside-of : (part : Part) (column row : ℕ) → IsOfPart part column row → IsInside (rect_of part) column row
inside-of part column row is = record { right_of = is.right_of; left_of = is.left_of; below = is.below; above = is.above }

of-inside : (part : Part) (column row : ℕ) → IsInside (rect_of part) column row → IsOfPart part column row
of-inside part column row is = record { right_of = is.right_of; left_of = is.left_of; below = is.below; above = is.above }

-- a cell lies in the viewport
cell-within : (setup : Setup) (edges : Edges) (number column row : ℕ) → AreSides setup edges → number < cells_between edges.xs edges.ys
    → IsInside (cell_of edges.xs edges.ys number) column row → (column < setup.width) × (row < setup.height)
cell-within setup edges number column row sides known inside =
    let xs : List ℕ = edges.xs in
    let ys : List ℕ = edges.ys in
    let two = sides.columns.two in
    let across : number % bands xs + 1 < length xs = omega arith in
    let down : number / bands xs + 1 < length ys = let h = div-below number (bands xs) (bands ys) known in omega (arith, h) in
    let right = edge-le-end xs (number % bands xs + 1) sides.columns across in
    let bottom = edge-le-end ys (number / bands xs + 1) sides.rows down in
    let low = inside.right_of in
    let left = inside.left_of in
    let below = inside.below in
    let above = inside.above in
    (omega (arith, right, low, left, sides.width), omega (arith, bottom, below, above, sides.height))

last-of : (a b : ℕ) → 0 < b → a + (b - 1) + 1 ≡ a + b
last-of a b some = omega arith

ends-by : (a b : ℕ) (x y : ℤ) → pos a ≤ℤ x → b ≡ a + 1 → (x +ℤ pos 1) ≤ℤ y → pos b ≤ℤ y
ends-by a b x y high next more = omega (arith, ints)

next-341 : (x : ℤ) → ((x +ℤ pos 340) +ℤ pos 1) ≤ℤ (x +ℤ pos 341)
next-341 x = omega (arith, ints)

next-256 : (y : ℤ) → ((y +ℤ pos 255) +ℤ pos 1) ≤ℤ (y +ℤ pos 256)
next-256 y = omega (arith, ints)

-- a part lies in the viewport and in the rectangle: its first pixel and its last one do
pub lies-inside : (setup : Setup) (edges : Edges) (number : ℕ) (w : Witness) (part : Part) → AreSides setup edges → number < cells_between edges.xs edges.ys
    → IsCutTo w.x w.y (cell_of edges.xs edges.ys number) (rect_of part) → LiesInside setup w part
lies-inside setup edges number w part sides known cut =
    let wide = cut.some_width in
    let high = cut.some_height in
    let right : ℕ = part.x + (part.width - 1) in
    let bottom : ℕ = part.y + (part.height - 1) in
    let last_column : part.x + part.width ≡ right + 1 = sym (last-of part.x part.width wide) in
    let last_row : part.y + part.height ≡ bottom + 1 = sym (last-of part.y part.height high) in
    let first = (cut.each part.x part.y).0 (record { right_of = omega arith; left_of = omega arith; below = omega arith; above = omega arith }) in
    let last = (cut.each right bottom).0 (record { right_of = omega arith; left_of = omega arith; below = omega arith; above = omega arith }) in
    let viewport = cell-within setup edges number right bottom sides known last.0 in
    record {
      some_width = wide;
      some_height = high;
      in_width = let h = viewport.0 in omega (arith, h, last_column);
      in_height = let h = viewport.1 in omega (arith, h, last_row);
      right_of = first.1.right_of;
      left_of = ends-by right (part.x + part.width) (w.x +ℤ pos 340) (w.x +ℤ pos 341) last.1.left_of last_column (next-341 w.x);
      below = first.1.below;
      above = ends-by bottom (part.y + part.height) (w.y +ℤ pos 255) (w.y +ℤ pos 256) last.1.above last_row (next-256 w.y);
    }

-- what is known of the window, its cells and its parts
pub record AreMadeOf (scene : Scene) (setup : Setup) (edges : Edges) (start : ℕ) (x y : ℤ) (parts : List Part) : Type 0 where
  pub valid : IsValid scene
  pub cuts : AreCutsOf scene setup start edges
  pub parts_are : AreParts scene setup edges start x y parts

part-of : (scene : Scene) (setup : Setup) (edges : Edges) (start : ℕ) (x y : ℤ) (parts : List Part) (k : ℕ) (part : Part)
    → AreMadeOf scene setup edges start x y parts → slice_get parts k ≡ Some part
    → (number : ℕ) × (number < cells_between edges.xs edges.ys) × IsPartOf scene setup start x y (cell_of edges.xs edges.ys number) part
part-of scene setup edges start x y parts k part made there =
    let are = made.parts_are in
    (are.cell k, are.before k (slice_get_within parts k part there), are.each k part there)

-- a property of each part of a cell is one of all parts
pub all-parts : (scene : Scene) (setup : Setup) (edges : Edges) (start : ℕ) (x y : ℤ) (parts : List Part) (P : Part → Type 0)
    → AreMadeOf scene setup edges start x y parts
    → ((number : ℕ) (part : Part) → number < cells_between edges.xs edges.ys → IsPartOf scene setup start x y (cell_of edges.xs edges.ys number) part → P part)
    → All P parts
all-parts scene setup edges start x y parts P made holds k d below =
    let of = part-of scene setup edges start x y parts k (get_or parts k d) made (slice_get-get_or parts k d below) in
    holds of.0 (get_or parts k d) of.1 of.2

pub sides-of : (scene : Scene) (setup : Setup) (edges : Edges) (start : ℕ) → AreCutsOf scene setup start edges → AreSides setup edges
sides-of scene setup edges start cuts = sides-are scene setup cuts.frames edges cuts.cut

-- the parts are apart, and lie in the viewport
apart-parts : (scene : Scene) (setup : Setup) (edges : Edges) (start : ℕ) (x y : ℤ) (parts : List Part) → AreMadeOf scene setup edges start x y parts
    → AreApartParts parts
apart-parts scene setup edges start x y parts made i j first second less at_i at_j column row one other =
    let are = made.parts_are in
    let sides = sides-of scene setup edges start made.cuts in
    let of_one = are.each i first at_i in
    let of_other = are.each j second at_j in
    let i_inside = slice_get_within parts i first at_i in
    let j_inside = slice_get_within parts j second at_j in
    let here = ((of_one.cut.each column row).0 (inside-of first column row one)).0 in
    let there = ((of_other.cut.each column row).0 (inside-of second column row other)).0 in
    let same_one = cell_at-is edges (are.cell i) column row sides.columns sides.rows (are.before i i_inside) here in
    let same_other = cell_at-is edges (are.cell j) column row sides.columns sides.rows (are.before j j_inside) there in
    omega (arith, same_one, same_other, are.order i j less j_inside)

lie-within : (scene : Scene) (setup : Setup) (edges : Edges) (start : ℕ) (w : Witness) → AreMadeOf scene setup edges start w.x w.y w.parts
    → LieWithin setup.width setup.height w.parts
lie-within scene setup edges start w made i part there =
    let of = part-of scene setup edges start w.x w.y w.parts i part made there in
    let lies = lies-inside setup edges of.0 w part (sides-of scene setup edges start made.cuts) of.1 of.2.cut in
    (lies.in_width, lies.in_height)

-- their pixels are the surely flagged ones of the rectangle
held-means : (scene : Scene) (setup : Setup) (edges : Edges) (start : ℕ) (x y : ℤ) (parts : List Part) (run : LooseRun) (column row : ℕ)
    → AreMadeOf scene setup edges start x y parts → IsLooseRunIn own scene setup start run → IsTrue (in_some parts column row)
    → IsInRectangle x y column row × IsSurelyFlagged own (tints_of scene run) setup start column row
held-means scene setup edges start x y parts run column row made is held =
    let found = held-found parts column row held in
    let of = part-of scene setup edges start x y parts found.place found.part made found.there in
    let both = (of.2.cut.each column row).0 (inside-of found.part column row (in_this-means found.part column row found.inside)) in
    (both.1, of.2.flagged run column row is both.0)

held-from : (scene : Scene) (setup : Setup) (edges : Edges) (start : ℕ) (x y : ℤ) (parts : List Part) (run : LooseRun) (column row : ℕ)
    → AreMadeOf scene setup edges start x y parts → IsLooseRunIn own scene setup start run → column < setup.width → row < setup.height
    → IsInRectangle x y column row → IsSurelyFlagged own (tints_of scene run) setup start column row → IsTrue (in_some parts column row)
held-from scene setup edges start x y parts run column row made is within below there flagged =
    let are = made.parts_are in
    let sides = sides-of scene setup edges start made.cuts in
    let right : column < end_of edges.xs = omega (arith, within, sides.width) in
    let under : row < end_of edges.ys = omega (arith, below, sides.height) in
    let number : ℕ = cell_at edges column row in
    let known = cell_at-known edges column row sides.columns sides.rows right under in
    let inside = cell_at-inside edges column row sides.columns sides.rows right under in
    let all = flagged-all scene setup edges start number column row run made.valid made.cuts known is inside flagged in
    let found = are.all number column row known all inside there in
    elim (slice_get_cases parts found.0).1 [
      | inl at ↦
          let part : Part = at.0 in
          let of = are.each found.0 part at.2 in
          let inside' = subst (λ n. IsInside (cell_of edges.xs edges.ys n) column row) (sym found.2) inside in
          let in_part = of-inside part column row ((of.cut.each column row).1 (inside', there)) in
          list_any_at (λ (p : Part). in_this p column row) parts found.0 part found.1
          (subst (λ (p : Part). IsTrue (in_this p column row)) (sym at.3) (in_this-from part column row in_part))
      | inr past ↦ absurd (let far = past.0 in let near = found.1 in omega arith)
    ]

pub parts-count : (scene : Scene) (setup : Setup) (edges : Edges) (start : ℕ) (w : Witness) → AreMadeOf scene setup edges start w.x w.y w.parts
    → area setup.width setup.height (in_some w.parts) ≡ sum_by size_of w.parts
parts-count scene setup edges start w made =
    area-of-parts setup.width setup.height w.parts (lie-within scene setup edges start w made) (apart-parts scene setup edges start w.x w.y w.parts made)

counts-is : (scene : Scene) (setup : Setup) (edges : Edges) (start : ℕ) (w : Witness) (run : LooseRun) → AreMadeOf scene setup edges start w.x w.y w.parts
    → w.area ≡ sum_by size_of w.parts → IsLooseRunIn own scene setup start run
    → CountsFlagged (IsSurelyFlagged own (tints_of scene run) setup start) setup w.x w.y w.area
counts-is scene setup edges start w run made area_is is = record {
  marks = in_some w.parts;
  exact = λ column row within below. (
    λ held. held-means scene setup edges start w.x w.y w.parts run column row made is held,
    λ both. held-from scene setup edges start w.x w.y w.parts run column row made is within below both.0 both.1,
  );
  counted = parts-count scene setup edges start w made ∙ sym area_is;
}

-- they are more than a quarter
enough-is : (scene : Scene) (setup : Setup) (edges : Edges) (start : ℕ) (w : Witness) (run : LooseRun) → AreMadeOf scene setup edges start w.x w.y w.parts
    → w.area ≡ sum_by size_of w.parts → IsLooseRunIn own scene setup start run → IsSurelyBad own scene setup start w.x w.y → 21824 < w.area
enough-is scene setup edges start w run made area_is is bad =
    let many = bad run is in
    let le = area-le setup.width setup.height many.marks (in_some w.parts) (λ column row within below marked.
    held-from scene setup edges start w.x w.y w.parts run column row made is within below (many.inside column row marked) (many.flagged column row marked)) in
    omega (arith, many.many, le, parts-count scene setup edges start w made, area_is)

-- the tints of a part are those of each of its pixels
tints-hold : (scene : Scene) (setup : Setup) (edges : Edges) (start number : ℕ) (x y : ℤ) (part : Part) (run : LooseRun) → IsValid scene
    → AreCutsOf scene setup start edges → number < cells_between edges.xs edges.ys → IsPartOf scene setup start x y (cell_of edges.xs edges.ys number) part
    → IsLooseRunIn own scene setup start run → HasTints (tints_of scene run) part
tints-hold scene setup edges start number x y part run valid cuts known of is turn frame tint is_frame is_tint column row of_part =
    let told = of.tells in
    let nine = told.tells.nine_frames in
    let turn_below : turn < 9 = let h = slice_get_within part.frames turn frame is_frame in omega arith in
    let whole = told.whole in
    let place : ℕ = get_or told.trace.places turn 0 in
    let place_below : place < length told.tints = place-within told.tints told.trace turn (omega arith) told.first turn_below in
    let frame_is : frame ≡ start + place = sym (get_or_from_slice_get part.frames turn frame 0 is_frame) ∙ told.tells.turns.frames_are turn turn_below in
    let tint_is : tint ≡ get_or told.tints place no_tint = sym (get_or_from_slice_get part.tints turn tint no_tint is_tint) ∙ told.tells.turns.tints_are turn turn_below in
    let inside = ((of.cut.each column row).0 (inside-of part column row of_part)).0 in
    let seen : get_or told.tints place no_tint ≡ tints_of scene run (start + place) column row =
    seen-tint scene setup edges start number place column row (get_or told.tints place no_tint) run valid cuts known (omega arith) is inside (told.own_tints place place_below) in
    ap (λ n. tints_of scene run n column row) frame_is ∙ sym seen ∙ sym tint_is

pub witness-is : (scene : Scene) (setup : Setup) (edges : Edges) (w : Witness) (run : LooseRun) → AreMadeOf scene setup edges w.start w.x w.y w.parts
    → HasSetup setup w → w.area ≡ sum_by size_of w.parts → IsSurelyBad own scene setup w.start w.x w.y → IsLooseRunIn own scene setup w.start run
    → IsWitness setup (tints_of scene run) w
witness-is scene setup edges w run made same area_is bad is =
    let start : ℕ = w.start in
    let each : (P : Part → Type 0) → ((number : ℕ) (part : Part) → number < cells_between edges.xs edges.ys
    → IsPartOf scene setup w.start w.x w.y (cell_of edges.xs edges.ys number) part → P part) → All P w.parts =
    λ P holds. all-parts scene setup edges w.start w.x w.y w.parts P made holds in
    record {
      turns = each HasNineTurns (λ number part known of. record { frames = of.tells.tells.nine_frames; tints = of.tells.tells.nine_tints });
      same_setup = same;
      inside = each (LiesInside setup w) (λ number part known of.
          lies-inside setup edges number w part (sides-of scene setup edges w.start made.cuts) known of.cut);
      apart = apart-parts scene setup edges w.start w.x w.y w.parts made;
      stated_area = area_is;
      enough = enough-is scene setup edges w.start w run made area_is is bad;
      rise = each (λ (part : Part). IsStrictlyIncreasing part.frames) (λ number part known of.
          frames-rise w.start of.tells.tints of.tells.trace part of.tells.first of.tells.tells);
      within = each (λ (part : Part). All (λ k. (w.start ≤ k) × (k ≤ w.start + window_of setup)) part.frames) (λ number part known of.
          frames-within w.start (window_of setup) of.tells.tints of.tells.trace part of.tells.whole of.tells.first of.tells.tells);
      tints = each (HasTints (tints_of scene run)) (λ number part known of.
          tints-hold scene setup edges w.start number w.x w.y part run made.valid made.cuts known of is);
      change = each (λ (part : Part). AlternatesSurely part.kind part.tints) (λ number part known of.
          tints-change w.start of.tells.tints of.tells.trace part of.tells.first of.tells.tells);
    }

pub made-is : (scene : Scene) (setup : Setup) (edges : Edges) (w : Witness) → AreMadeOf scene setup edges w.start w.x w.y w.parts
    → HasSetup setup w → w.area ≡ sum_by size_of w.parts → IsSurelyBad own scene setup w.start w.x w.y → IsInForm w
    → IsMade scene setup edges w.start w.x w.y w
made-is scene setup edges w made same area_is bad form = record {
  start_is = refl;
  x_is = refl;
  y_is = refl;
  same_setup = same;
  parts = made.parts_are;
  counts = λ run is. counts-is scene setup edges w.start w run made area_is is;
  witness = λ run is. witness-is scene setup edges w run made same area_is bad is;
  form = form;
}

-- a cell ends where a viewport may
pub cell-fits : (setup : Setup) (edges : Edges) (number : ℕ) → AreSides setup edges → number < cells_between edges.xs edges.ys
    → ((cell_of edges.xs edges.ys number).x + (cell_of edges.xs edges.ys number).width ≤ 4096)
    × ((cell_of edges.xs edges.ys number).y + (cell_of edges.xs edges.ys number).height ≤ 4096)
cell-fits setup edges number sides known =
    let xs : List ℕ = edges.xs in
    let ys : List ℕ = edges.ys in
    let two = sides.columns.two in
    let across : number % bands xs + 1 < length xs = omega arith in
    let down : number / bands xs + 1 < length ys = let h = div-below number (bands xs) (bands ys) known in omega (arith, h) in
    let right = edge-le-end xs (number % bands xs + 1) sides.columns across in
    let bottom = edge-le-end ys (number / bands xs + 1) sides.rows down in
    let wide = sides.columns.limit in
    let high = sides.rows.limit in
    let along = sides.columns.rise (number % bands xs) across in
    let under = sides.rows.rise (number / bands xs) down in
    (omega (arith, right, wide, along), omega (arith, bottom, high, under))

-- a witness of some parts
abbrev with_parts : ℕ → ℤ → ℤ → List Part → Witness
with_parts start x y parts = record {
  width = 0;
  height = 0;
  rate = 0;
  per = 1;
  start = start;
  x = x;
  y = y;
  area = 0;
  parts = parts;
}

-- so many pixels are at most those of the greatest viewport
pub area-fits : (scene : Scene) (setup : Setup) (edges : Edges) (start : ℕ) (x y : ℤ) (parts : List Part) → IsValid scene → AreCutsOf scene setup start edges
    → AreParts scene setup edges start x y parts → sum_by size_of parts < 2 ^ 32
area-fits scene setup edges start x y parts valid cuts are =
    let sides = sides-of scene setup edges start cuts in
    let wide : setup.width ≤ 4096 = let h = sides.columns.limit in omega (arith, h, sides.width) in
    let high : setup.height ≤ 4096 = let h = sides.rows.limit in omega (arith, h, sides.height) in
    let most = area-at_most setup.width setup.height (in_some parts) in
    let rows = mul-le-mul_left setup.width high in
    let counted = parts-count scene setup edges start (with_parts start x y parts) (record { valid = valid; cuts = cuts; parts_are = are }) in
    omega (arith, most, rows, wide, counted)

-- the witness, field by field
pub made-as : (scene : Scene) (setup : Setup) (edges : Edges) (start : ℕ) (x y told_x told_y : ℤ) (width height rate per area : ℕ) (parts told : List Part)
    → IsValid scene → AreCutsOf scene setup start edges → AreParts scene setup edges start x y parts → told ≡ parts
    → width ≡ setup.width → height ≡ setup.height → rate ≡ setup.num → per ≡ setup.den → area ≡ sum_by size_of parts → IsSurelyBad own scene setup start x y
    → IsInForm (record { width = width; height = height; rate = rate; per = per; start = start; x = x; y = y; area = area; parts = parts })
    → told_x ≡ x → told_y ≡ y
    → IsMade scene setup edges start x y
    (record { width = width; height = height; rate = rate; per = per; start = start; x = told_x; y = told_y; area = area; parts = told })
made-as scene setup edges start x y told_x told_y width height rate per area parts told valid cuts are told_is width_is height_is rate_is per_is area_is bad form x_is y_is =
    let w : ℤ → ℤ → List Part → Witness = λ a b ps.
    record { width = width; height = height; rate = rate; per = per; start = start; x = a; y = b; area = area; parts = ps } in
    let here : IsMade scene setup edges start x y (w x y parts) =
    made-is scene setup edges (w x y parts) (record { valid = valid; cuts = cuts; parts_are = are })
    (record { width = width_is; height = height_is; rate = rate_is; per = per_is }) area_is bad form in
    subst (λ a. IsMade scene setup edges start x y (w a told_y told)) (sym x_is)
    (subst (λ b. IsMade scene setup edges start x y (w x b told)) (sym y_is)
    (subst (λ (ps : List Part). IsMade scene setup edges start x y (w x y ps)) (sym told_is) here))
