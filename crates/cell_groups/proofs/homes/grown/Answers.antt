-- It reaches as far as both.
use Rattle.std.proofs.Common.{ℤ, pos, neg_ℤ, ◌≡◌, ◌+ℤ◌, ◌≤ℤ◌, FitsSigned, ap, arith, of_z, to_z}
use Rattle.std.proofs.lemmas.Int.{ints, to_z-of_z}
use mir.Syntax.{w32}
use Rattle.page_model.specs.Enclosure.{Loose}
use Rattle.frame_state.specs.Places.{place_as}
use Rattle.cell_groups.specs.declared.homes.Area.{Area}
use Rattle.cell_groups.proofs.AreaLemmas.{HoldsBox, Reaches, outside-both, outside-not}
use Rattle.cell_groups.proofs.homes.grown.Goals as goal

-- a number that was cast is at most one of a slot, or at least a sum of two
place-fits : (v : ℤ) → neg_ℤ (pos 16384) ≤ℤ v → v ≤ℤ pos 16384 → to_z w32 (of_z w32 v) ≡ v
place-fits v low high = omega (arith, ints, low, high)

at-most : (r v : ℤ) → FitsSigned w32 r → neg_ℤ (pos 16384) ≤ℤ v → v ≤ℤ pos 16384 → r ≤ℤ to_z w32 (of_z w32 v)
    → to_z w32 (of_z w32 r) ≤ℤ v
at-most r v fits low high most = rw (to_z-of_z w32 r fits) (rw (place-fits v low high) at most)

at-least : (r v : ℤ) → FitsSigned w32 r → neg_ℤ (pos 16384) ≤ℤ v → v ≤ℤ pos 16384 → to_z w32 (of_z w32 v) ≤ℤ r
    → v ≤ℤ to_z w32 (of_z w32 r)
at-least r v fits low high least = rw (to_z-of_z w32 r fits) (rw (place-fits v low high) at least)

wider-low : (v : ℤ) → neg_ℤ (pos 8192) ≤ℤ v → neg_ℤ (pos 16384) ≤ℤ v
wider-low v low = omega (arith, ints, low)

wider-high : (v w : ℤ) → v ≤ℤ w → w ≤ℤ pos 8192 → v ≤ℤ pos 16384
wider-high v w order high = omega (arith, ints, order, high)

sum-low : (a b c d : ℤ) → neg_ℤ (pos 8192) ≤ℤ c → c ≤ℤ a → pos 0 ≤ℤ d → d ≤ℤ b → neg_ℤ (pos 16384) ≤ℤ (a +ℤ b)
sum-low a b c d low order least more = omega (arith, ints, low, order, least, more)

sum-high : (a b : ℤ) → a ≤ℤ pos 8192 → b ≤ℤ pos 8192 → (a +ℤ b) ≤ℤ pos 16384
sum-high a b high most = omega (arith, ints, high, most)

pub returns-clause-kept : goal.returns-clause-kept
returns-clause-kept c column row is =
    let area : Area = record {
      left = to_z w32 (of_z w32 c.lesser.result);
      right = to_z w32 (of_z w32 c.greater.result);
      top = to_z w32 (of_z w32 c.lesser-2.result);
      bottom = to_z w32 (of_z w32 c.greater-2.result);
    } in
    let reaches : Reaches area c.args.area = record {
      left = omega (arith, ints, c.lesser.type_inv, c.lesser.ensures.one);
      right = omega (arith, ints, c.greater.type_inv, c.greater.ensures.one);
      top = omega (arith, ints, c.lesser-2.type_inv, c.lesser-2.ensures.one);
      bottom = omega (arith, ints, c.greater-2.type_inv, c.greater-2.ensures.one);
    } in
    outside-both area c.args.area column row reaches is

pub returns-clause-home : goal.returns-clause-home
returns-clause-home c column row is =
    let place = place_as c.args.place in
    let left = c.requires.left in
    let width = c.requires.width in
    let top = c.requires.top in
    let height = c.requires.height in
    let begin_across : c.side_of-across.result.begin.lo ≡ place.left.lo = ap (λ (l : Loose). l.lo) c.side_of-across.ensures.begin in
    let end_across : c.side_of-across.result.end.hi ≡ place.left.hi +ℤ place.width.hi = ap (λ (l : Loose). l.hi) c.side_of-across.ensures.end in
    let begin_down : c.side_of-down.result.begin.lo ≡ place.top.lo = ap (λ (l : Loose). l.lo) c.side_of-down.ensures.begin in
    let end_down : c.side_of-down.result.end.hi ≡ place.top.hi +ℤ place.height.hi = ap (λ (l : Loose). l.hi) c.side_of-down.ensures.end in
    let fits_left : FitsSigned w32 c.lesser.result = omega (arith, ints, c.lesser.type_inv) in
    let fits_right : FitsSigned w32 c.greater.result = omega (arith, ints, c.greater.type_inv) in
    let fits_top : FitsSigned w32 c.lesser-2.result = omega (arith, ints, c.lesser-2.type_inv) in
    let fits_bottom : FitsSigned w32 c.greater-2.result = omega (arith, ints, c.greater-2.type_inv) in
    let area : Area = record {
      left = to_z w32 (of_z w32 c.lesser.result);
      right = to_z w32 (of_z w32 c.greater.result);
      top = to_z w32 (of_z w32 c.lesser-2.result);
      bottom = to_z w32 (of_z w32 c.greater-2.result);
    } in
    let holds : HoldsBox area place = record {
      left = at-most c.lesser.result place.left.lo fits_left (wider-low place.left.lo left.at_least)
          (wider-high place.left.lo place.left.hi left.in_order left.at_most) (rw begin_across at c.lesser.ensures.other);
      right = at-least c.greater.result (place.left.hi +ℤ place.width.hi) fits_right
          (sum-low place.left.hi place.width.hi place.left.lo place.width.lo left.at_least left.in_order width.at_least width.in_order)
          (sum-high place.left.hi place.width.hi left.at_most width.at_most) (rw end_across at c.greater.ensures.other);
      top = at-most c.lesser-2.result place.top.lo fits_top (wider-low place.top.lo top.at_least)
          (wider-high place.top.lo place.top.hi top.in_order top.at_most) (rw begin_down at c.lesser-2.ensures.other);
      bottom = at-least c.greater-2.result (place.top.hi +ℤ place.height.hi) fits_bottom
          (sum-low place.top.hi place.height.hi place.top.lo place.height.lo top.at_least top.in_order height.at_least height.in_order)
          (sum-high place.top.hi place.height.hi top.at_most height.at_most) (rw end_down at c.greater-2.ensures.other);
    } in
    outside-not area place column row holds is
