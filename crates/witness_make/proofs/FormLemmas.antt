-- What is made is in form: its numbers fit their types, and each of its tints has its ends in order.
use Rattle.std.proofs.Common.{◌≡◌, ℕ, ◌<◌, ◌≤◌, FitsSigned, length, get_or, arith, inl, inr, subst, sym}
use Rattle.std.specs.Prelude.{All, ℤ, pos, negsuc, ◌≤ℤ◌, sum_by}
use Rattle.std.specs.Int.{w32}
use Rattle.std.proofs.lemmas.Int.{ints}
use Rattle.std.proofs.lemmas.Option.{get_or_from_slice_get, slice_get-get_or}
use Rattle.page_model.specs.declared.colour.Tint.{Tint}
use Rattle.page_model.specs.declared.scene.Scene.{Scene}
use Rattle.page_model.specs.declared.setup.Setup.{Setup}
use Rattle.page_model.specs.declared.witness.Part.{Part}
use Rattle.page_model.specs.declared.witness.Witness.{Witness}
use Rattle.page_model.specs.Cells.{cells_between}
use Rattle.page_model.specs.Time.{window_of}
use Rattle.page_model.specs.Viewing.{IsRate}
use Rattle.wide_laws.specs.PaintLaws.{IsPixel}
use Rattle.page_model.specs.WitnessConditions.{HasSetup}
use Rattle.paint_blend.specs.Paint.{IsOrdered}
use Rattle.region_split.specs.declared.types.Rect.{Rect}
use Rattle.region_split.specs.Cutting.{Edges, cell_of}
use Rattle.cell_flags.proofs.SideLemmas.{AreSides}
use Rattle.witness_laws.proofs.AreaLemmas.{size_of}
use Rattle.witness_make.proofs.MadeLemmas.{AreMadeOf, all-parts, area-fits, lies-inside, sides-of}
use Rattle.witness_make.proofs.TurnLemmas.{frames-within, place-within}
use Rattle.witness_make.specs.Made.{AreCutsOf, IsPartOf}
use Rattle.witness_make.specs.Turns.{no_tint}
use Rattle.witness_text.specs.WitnessForm.{IsInForm, IsPartInForm, IsTintInForm, IsToldRate, word_limit}

-- a tint with its ends in order is in form
ordered-form : (tint : Tint) → IsOrdered tint → IsPixel tint.hi → IsTintInForm tint
ordered-form tint ordered fits =
    let red = fits.red in
    let green = fits.green in
    let blue = fits.blue in
    record {
      red = record { ordered = ordered.red; fit = omega (arith, red) };
      green = record { ordered = ordered.green; fit = omega (arith, green) };
      blue = record { ordered = ordered.blue; fit = omega (arith, blue) };
    }

-- and each tint of a part is one
tints-form : (scene : Scene) (setup : Setup) (start : ℕ) (x y : ℤ) (cell : Rect) (part : Part) → IsPartOf scene setup start x y cell part
    → All IsTintInForm part.tints
tints-form scene setup start x y cell part of k d below =
    let told = of.tells in
    let nine = told.tells.nine_tints in
    let whole = told.whole in
    let turn : k < 9 = omega (arith, nine) in
    let place : ℕ = get_or told.trace.places k 0 in
    let place_below : place < length told.tints = place-within told.tints told.trace k (omega (arith, whole)) told.first turn in
    let same : get_or part.tints k no_tint ≡ get_or told.tints place no_tint = told.tells.turns.tints_are k turn in
    let ordered : IsOrdered (get_or part.tints k no_tint) = subst IsOrdered (sym same) (told.own_tints place place_below).ordered in
    let fits : IsPixel (get_or part.tints k no_tint).hi = of.bytes k no_tint below in
    let here : get_or part.tints k no_tint ≡ get_or part.tints k d =
    get_or_from_slice_get part.tints k (get_or part.tints k d) no_tint (slice_get-get_or part.tints k d below) in
    subst (λ (t : Tint). IsTintInForm t) here (ordered-form (get_or part.tints k no_tint) ordered fits)

-- its frames lie in the window, whose frames can be counted
frames-form : (scene : Scene) (setup : Setup) (edges : Edges) (start : ℕ) (x y : ℤ) (cell : Rect) (part : Part) → AreCutsOf scene setup start edges
    → IsPartOf scene setup start x y cell part → All (λ k. k < word_limit) part.frames
frames-form scene setup edges start x y cell part cuts of k d below =
    let told = of.tells in
    let within = frames-within start (window_of setup) told.tints told.trace part told.whole told.first told.tells k d below in
    let last = within.1 in
    let cover = cuts.cover in
    let few = cuts.few in
    omega (arith, last, cover, few)

-- the sides of a viewport are at most so long
wide-at_most : (setup : Setup) (edges : Edges) → AreSides setup edges → (setup.width ≤ 4096) × (setup.height ≤ 4096)
wide-at_most setup edges sides =
    let columns = sides.columns.limit in
    let rows = sides.rows.limit in
    (omega (arith, columns, sides.width), omega (arith, rows, sides.height))

part-form : (scene : Scene) (setup : Setup) (edges : Edges) (number : ℕ) (w : Witness) (part : Part) → AreCutsOf scene setup w.start edges
    → number < cells_between edges.xs edges.ys → IsPartOf scene setup w.start w.x w.y (cell_of edges.xs edges.ys number) part → IsPartInForm part
part-form scene setup edges number w part cuts known of =
    let sides = sides-of scene setup edges w.start cuts in
    let most = wide-at_most setup edges sides in
    let lies = lies-inside setup edges number w part sides known of.cut in
    let across = lies.in_width in
    let down = lies.in_height in
    let wide = most.0 in
    let high = most.1 in
    record {
      x = omega (arith, across, wide);
      y = omega (arith, down, high);
      width = omega (arith, across, wide);
      height = omega (arith, down, high);
      turns = record { frames = of.tells.tells.nine_frames; tints = of.tells.tells.nine_tints };
      frames = frames-form scene setup edges w.start w.x w.y (cell_of edges.xs edges.ys number) part cuts of;
      tints = tints-form scene setup w.start w.x w.y (cell_of edges.xs edges.ys number) part of;
    }

-- a number of 32 bits
pub signed-least : (z : ℤ) → FitsSigned w32 z → negsuc 2147483647 ≤ℤ z
signed-least z fits = omega (arith, ints)

pub signed-greatest : (z : ℤ) → FitsSigned w32 z → z ≤ℤ pos 2147483647
signed-greatest z fits = omega (arith, ints)

-- the rate of a setup is one that a witness tells
told-rate : (num den rate per : ℕ) → IsRate num den → rate ≡ num → per ≡ den → (rate < word_limit) × IsToldRate rate per
told-rate num den rate per (inl whole) e f =
    let one = whole.0 in
    let limit = whole.2 in
    (omega arith, inl (omega arith, omega arith))
told-rate num den rate per (inr over) e f =
    let over_1001 = over.0 in
    let limit = over.2 in
    (omega arith, inr (omega arith))

pub form-is : (scene : Scene) (setup : Setup) (edges : Edges) (w : Witness) → AreMadeOf scene setup edges w.start w.x w.y w.parts
    → HasSetup setup w → w.area ≡ sum_by size_of w.parts → IsRate setup.num setup.den → FitsSigned w32 w.x → FitsSigned w32 w.y → IsInForm w
form-is scene setup edges w made same area_is is_rate x_fits y_fits =
    let cuts = made.cuts in
    let cover = cuts.cover in
    let few = cuts.few in
    let most = wide-at_most setup edges (sides-of scene setup edges w.start cuts) in
    let wide = most.0 in
    let high = most.1 in
    let fits = area-fits scene setup edges w.start w.x w.y w.parts made.valid cuts made.parts_are in
    let width_is = same.width in
    let height_is = same.height in
    let told = told-rate setup.num setup.den w.rate w.per is_rate same.rate same.per in
    record {
      width = omega (arith, width_is, wide);
      height = omega (arith, height_is, high);
      rate = told.0;
      told = told.1;
      start = omega (arith, cover, few);
      area = omega (arith, area_is, fits);
      x_least = signed-least w.x x_fits;
      x_greatest = signed-greatest w.x x_fits;
      y_least = signed-least w.y y_fits;
      y_greatest = signed-greatest w.y y_fits;
      parts = all-parts scene setup edges w.start w.x w.y w.parts IsPartInForm made (λ number part known of.
          part-form scene setup edges number w part cuts known of);
    }
