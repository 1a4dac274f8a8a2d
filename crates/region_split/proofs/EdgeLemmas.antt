-- The body's box stays at 0, by its states of any kind.
use Rattle.std.proofs.Common.{ℕ, ℤ, pos, ◌≡◌, ◌≤ℤ◌, ◌<ℤ◌, ◌+ℤ◌, arith, refl}
use Rattle.std.proofs.lemmas.Int.{ints, by_lt_z}
use Rattle.page_model.specs.declared.property.Prop.TheVariants.{Left, Top, Width, Height}
use Rattle.page_model.specs.declared.property.Value.TheVariants as value
use Rattle.page_model.specs.declared.easing.Easing.TheVariants.{Linear}
use Rattle.page_model.specs.declared.scene.Layer.{Layer}
use Rattle.page_model.specs.declared.scene.Scene.{Scene}
use Rattle.page_model.specs.declared.setup.Setup.{Setup}
use Rattle.page_model.specs.Curve.{FractionReaches}
use Rattle.page_model.specs.Enclosure.{IsLoose, IsLooseOn, IsLooseStateAt, Kind, Loose, LooseState}
use Rattle.page_model.specs.Fraction.{zero_of_one}
use Rattle.page_model.specs.LayerAt.{Course, course_of, length_of, still}
use Rattle.page_model.specs.Slot.{IsGreatestIn, Slot, extent, position, twice_the_way, twice_to_cover}
use Rattle.page_model.specs.ValidScene.{IsBody}
use Rattle.region_split.proofs.StillLemmas.{body-quiet, course-still, is_height, is_left, is_top, is_width}

-- what 0 rounds to: no number above 0, and 0
reached-low : (slot : Slot) (x : ℤ) → slot.unit ≡ 100
    → FractionReaches zero_of_one (twice_the_way (pos 0) (pos 0)) (twice_to_cover slot (pos 0) x) → x ≤ℤ pos 0
reached-low slot x unit reached = let h = rw unit at reached in omega (arith, ints, h)

low-reached : (slot : Slot) (x : ℤ) → slot.unit ≡ 100 → x ≤ℤ pos 0
    → FractionReaches zero_of_one (twice_the_way (pos 0) (pos 0)) (twice_to_cover slot (pos 0) x)
low-reached slot x unit low = rw unit (omega (arith, ints, low))

-- the greatest number in the slot's range to which it does is 0
greatest-zero : (slot : Slot) (x : ℤ) → slot.unit ≡ 100 → slot.least ≤ℤ pos 0 → pos 0 ≤ℤ slot.greatest
    → IsGreatestIn slot (λ w. FractionReaches zero_of_one (twice_the_way (pos 0) (pos 0)) (twice_to_cover slot (pos 0) w)) x
    → x ≡ pos 0
greatest-zero slot x unit above below so =
    by_lt_z x (pos 0)
    (λ less.
    let inside : x <ℤ slot.greatest = omega (arith, ints) in
    let more : (x +ℤ pos 1) ≤ℤ pos 0 = omega (arith, ints) in
    absurd (so.greatest inside (low-reached slot (x +ℤ pos 1) unit more)))
    (λ least. by_lt_z (pos 0) x
    (λ less.
    let over : slot.least <ℤ x = omega (arith, ints) in
    let low = reached-low slot x unit (so.reached over) in
    absurd (omega (arith, ints, low)))
    (λ other. omega (arith, ints)))

-- a loose value is 0
pub record IsZero (loose : Loose) : Type 0 where
  pub low : loose.lo ≡ pos 0
  pub high : loose.hi ≡ pos 0

loose-zero : (kind : Kind) (slot : Slot) (course : Course) (v : ℤ) (loose : Loose) → slot.unit ≡ 100 → slot.least ≤ℤ pos 0
    → pos 0 ≤ℤ slot.greatest → v ≡ pos 0 → course ≡ still (value.Length v) → IsLooseOn kind slot length_of course loose → IsZero loose
loose-zero kind slot course v loose unit above below none stays so =
    let is : IsLoose kind slot Linear zero_of_one (pos 0) (pos 0) loose = rw (stays, none) at so in
    record {
      low = greatest-zero slot loose.lo unit above below is.least;
      high = greatest-zero slot loose.hi unit above below is.greatest;
    }

-- place and size both ways
pub record IsNowhere (state : LooseState) : Type 0 where
  pub left : IsZero state.left
  pub top : IsZero state.top
  pub width : IsZero state.width
  pub height : IsZero state.height

pub body-zero : (kind : Kind) (scene : Scene) (setup : Setup) (frame : ℕ) (body : Layer) (state : LooseState)
    → IsBody scene.sets body → IsLooseStateAt kind scene setup frame body state → IsNowhere state
body-zero kind scene setup frame body state is so =
    let quiet = body-quiet scene.sets body is in
    record {
      left = loose-zero kind position (course_of scene setup frame body Left) body.left state.left refl (omega (arith, ints))
          (omega (arith, ints)) is.left (course-still scene setup frame body Left quiet (is_left refl)) so.is_left;
      top = loose-zero kind position (course_of scene setup frame body Top) body.top state.top refl (omega (arith, ints))
          (omega (arith, ints)) is.top (course-still scene setup frame body Top quiet (is_top refl)) so.is_top;
      width = loose-zero kind extent (course_of scene setup frame body Width) body.width state.width refl (omega (arith, ints))
          (omega (arith, ints)) is.width (course-still scene setup frame body Width quiet (is_width refl)) so.is_width;
      height = loose-zero kind extent (course_of scene setup frame body Height) body.height state.height refl (omega (arith, ints))
          (omega (arith, ints)) is.height (course-still scene setup frame body Height quiet (is_height refl)) so.is_height;
    }
