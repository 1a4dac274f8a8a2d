-- Each box covers two pixels of a cell alike, in each frame that it is cut in.
use Rattle.std.proofs.Common.{ℕ, ℤ, pos, ◌≡◌, ◌⊎◌, ◌+◌, ◌<◌, ◌≤◌, ◌+ℤ◌, ◌≤ℤ◌, List, length, arith, inl, inr, refl}
use Rattle.std.specs.Prelude.{Some, slice_get}
use Rattle.std.proofs.lemmas.Int.{ints}
use Rattle.std.proofs.lemmas.Option.{slice_get_within}
use Rattle.page_model.specs.declared.easing.Easing.TheVariants.{Linear}
use Rattle.page_model.specs.declared.property.Prop.{Prop}
use Rattle.page_model.specs.declared.property.Prop.TheVariants.{Left, Top, Width, Height}
use Rattle.page_model.specs.declared.scene.Layer.{Layer}
use Rattle.page_model.specs.declared.scene.Scene.{Scene}
use Rattle.page_model.specs.declared.setup.Setup.{Setup}
use Rattle.page_model.specs.Cells.{AreCuts, AreEdges, CutsAt, IsCutBy, IsPossible, end_of, height_of, left_of, top_of, width_of}
use Rattle.page_model.specs.Enclosure.{IsLooseOn, IsLooseStateAt, Loose, LooseRun, LooseState, own}
use Rattle.page_model.specs.Fraction.{zero_of_one}
use Rattle.page_model.specs.LayerAt.{Course, course_of, length_of, moving, still}
use Rattle.page_model.specs.Slot.{Slot, extent, position}
use Rattle.page_model.specs.TintOf.{covers_surely, spans_surely}
use Rattle.page_model.specs.ValidScene.{IsValid}
use Rattle.curve_laws.proofs.SlotLemmas.{loose_slots_nest}
use Rattle.tint_laws.proofs.CourseLemmas.{IsGoodCourse, good_course_of}
use Rattle.cell_laws.specs.CellLaws.{BoxesCoverCellsAlike, IsBoxCut}
use Rattle.cell_laws.proofs.AlikeLemmas.{AreTogether, CutsInside, spans-alike}
use Rattle.cell_laws.proofs.EdgeLemmas.{edge-limit}

-- one of the two ends of a loose value
data IsOneEnd (loose : Loose) (t : ℤ) : Type 0 where
  is_low : t ≡ loose.lo → IsOneEnd loose t
  is_high : t ≡ loose.hi → IsOneEnd loose t

one-end : (loose : Loose) (t : ℤ) (n : ℕ) → loose.lo ≤ℤ loose.hi → IsOneEnd loose t → t ≡ pos n → IsPossible loose n
one-end loose t n order (is_low is) same = record { at_least = omega (arith, ints, is, same); at_most = omega (arith, ints, is, same, order) }
one-end loose t n order (is_high is) same = record { at_least = omega (arith, ints, is, same, order); at_most = omega (arith, ints, is, same) }

-- the ends of a box in order: the first and the last place at which it may begin, and at which it may end
pub record AreInOrder (from size : Loose) : Type 0 where
  pub begins : from.lo ≤ℤ from.hi
  pub ends : (from.lo +ℤ size.lo) ≤ℤ (from.hi +ℤ size.hi)

-- one of these four places
abbrev IsEnd : Loose → Loose → ℤ → Type 0
IsEnd from size t = IsOneEnd from t ⊎ IsOneEnd (end_of from size) t

-- cuts a side if it lies inside
end-cuts : (from size : Loose) (t : ℤ) (n : ℕ) → AreInOrder from size → IsEnd from size t → t ≡ pos n → CutsAt from size n
end-cuts from size t n order (inl is) same = inl (one-end from t n order.begins is same)
end-cuts from size t n order (inr is) same = inr (one-end (end_of from size) t n order.ends is same)

-- where each such place inside is an edge, the box spans two places between neighbouring edges alike
pub side-alike : (from extent : Loose) (size : ℕ) (Cut : ℕ → Type 0) (edges : List ℕ) (i a b : ℕ) → AreInOrder from extent
    → ((n : ℕ) → 0 < n → n < size → CutsAt from extent n → Cut n) → AreEdges size Cut edges → AreTogether edges i a b
    → spans_surely from extent a ≡ spans_surely from extent b
side-alike from extent size Cut edges i a b order cuts are both =
    spans-alike size Cut edges from extent i a b are (edge-limit size Cut edges (i + 1) are both.within) both
    (cut from.lo (inl (is_low refl))) (cut from.hi (inl (is_high refl)))
    (cut (from.lo +ℤ extent.lo) (inr (is_low refl))) (cut (from.hi +ℤ extent.hi) (inr (is_high refl)))
  where
    cut : (t : ℤ) → IsEnd from extent t → CutsInside size Cut t
    cut t is n above below same = cuts n above below (end-cuts from extent t n order is same)

-- a box in a frame that it is cut in
pub record IsLookedAt (scene : Scene) (frames_of : ℕ → ℕ) (frame number : ℕ) : Type 0 where
  pub is_box : 1 ≤ number
  pub is_layer : number < length scene.layers
  pub looked_at : frame < frames_of number

-- so it is with the edges of a run at such a box
box-alike : (along across : LooseState → Loose) (run : LooseRun) (scene : Scene) (frames_of : ℕ → ℕ) (size frame number : ℕ) (edges : List ℕ)
    (i a b : ℕ) → IsLookedAt scene frames_of frame number → AreInOrder (along (run frame number)) (across (run frame number))
    → AreEdges size (IsCutBy along across run scene frames_of) edges → AreTogether edges i a b
    → spans_surely (along (run frame number)) (across (run frame number)) a
    ≡ spans_surely (along (run frame number)) (across (run frame number)) b
box-alike along across run scene frames_of size frame number edges i a b seen order are both =
    side-alike (along (run frame number)) (across (run frame number)) size (IsCutBy along across run scene frames_of) edges i a b order
    (λ n above below cuts. record {
      box = number;
      frame = frame;
      is_box = seen.is_box;
      is_layer = seen.is_layer;
      looked_at = seen.looked_at;
      cuts = cuts;
    }) are both

-- the ends of a loose value on a course are in order
loose-order : (slot : Slot) (course : Course) (loose : Loose) → IsGoodCourse course → IsLooseOn own slot length_of course loose
    → loose.lo ≤ℤ loose.hi
loose-order slot (still x) loose good so = loose_slots_nest.in_order own slot Linear tt zero_of_one (length_of x) (length_of x) loose so
loose-order slot (moving interval) loose good so =
    loose_slots_nest.in_order own slot interval.easing good interval.distance (length_of interval.from) (length_of interval.to) loose so

-- the ends of a box's place and size are in order
box-order : (slot other : Slot) (from size : Course) (begin extent : Loose) → IsGoodCourse from → IsGoodCourse size
    → IsLooseOn own slot length_of from begin → IsLooseOn own other length_of size extent → AreInOrder begin extent
box-order slot other from size begin extent good fine is so =
    let one = loose-order slot from begin good is in
    let more = loose-order other size extent fine so in
    record { begins = one; ends = omega (arith, ints, one, more) }

-- and so are those of a layer's own states
pub record IsBoxInOrder (state : LooseState) : Type 0 where
  pub across : AreInOrder state.left state.width
  pub down : AreInOrder state.top state.height

pub state-order : (scene : Scene) (setup : Setup) (frame number : ℕ) (layer : Layer) (state : LooseState) → IsValid scene
    → slice_get scene.layers number ≡ Some layer → IsLooseStateAt own scene setup frame layer state → IsBoxInOrder state
state-order scene setup frame number layer state valid there is =
    let good = λ (prop : Prop). good_course_of scene setup frame number layer prop valid there in
    record {
      across = box-order position extent (course_of scene setup frame layer Left) (course_of scene setup frame layer Width)
          state.left state.width (good Left) (good Width) is.is_left is.is_width;
      down = box-order position extent (course_of scene setup frame layer Top) (course_of scene setup frame layer Height)
          state.top state.height (good Top) (good Height) is.is_top is.is_height;
    }

-- so it covers two pixels alike that are together both ways
pub together-alike : (scene : Scene) (setup : Setup) (frames_of : ℕ → ℕ) (run : LooseRun) (xs ys : List ℕ)
    (i j frame number column row other_column other_row : ℕ) → IsValid scene → AreCuts setup scene frames_of run xs ys
    → IsBoxCut scene setup frames_of run frame number → AreTogether xs i column other_column → AreTogether ys j row other_row
    → covers_surely (run frame number) column row ≡ covers_surely (run frame number) other_column other_row
together-alike scene setup frames_of run xs ys i j frame number column row other_column other_row valid cuts box across down =
    let order = state-order scene setup frame number box.layer (run frame number) valid box.there box.state in
    let seen : IsLookedAt scene frames_of frame number = record {
      is_box = box.is_box;
      is_layer = slice_get_within scene.layers number box.layer box.there;
      looked_at = box.looked_at;
    } in
    rw (
      box-alike left_of width_of run scene frames_of setup.width frame number xs i column other_column seen order.across cuts.columns across,
      box-alike top_of height_of run scene frames_of setup.height frame number ys j row other_row seen order.down cuts.rows down,
    ) refl

-- as those of a cell are
pub boxes-alike : BoxesCoverCellsAlike
boxes-alike scene setup frames_of run xs ys i j frame number column row other_column other_row valid cuts box one other =
    together-alike scene setup frames_of run xs ys i j frame number column row other_column other_row valid cuts box
    (record {
      within = one.is_column;
      low_one = one.right_of;
      high_one = one.left_of;
      low_other = other.right_of;
      high_other = other.left_of;
    })
    (record {
      within = one.is_row;
      low_one = one.below;
      high_one = one.above;
      low_other = other.below;
      high_other = other.above;
    })
