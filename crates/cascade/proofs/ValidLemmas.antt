-- A layer is valid, where its element has no fault.
use Rattle.std.proofs.Common.{◌≡◌, ℕ, Bool, true, false, cond, not, ◌&&◌, ◌||◌, ◌+◌, ◌<◌, ◌≤◌, List, [], ◌∷◌, Option, Some, None, refl, sym, ap, ◌∙◌, subst, arith, suc, zero, inl, inr, length, slice_get, get_or, take, All, filter, count_by, true≢false}
use Rattle.std.specs.Prelude.{pos, IfSome, IsSome, is_some, option_and_then, option_map, unwrap_or, nat_lt, ◌%◌, if◌then◌else◌}
use Rattle.std.specs.List.{cons_option, list_any}
use Rattle.std.proofs.lemmas.Bool.{cases_Bool, lt-ltb, ltb-false}
use Rattle.std.proofs.lemmas.Int.{ints}
use Rattle.std.proofs.lemmas.List.Elements.{All-nil, All-cons}
use Rattle.std.proofs.lemmas.List.Sums.{length-filter, sum_by-cons}
use Rattle.std.proofs.lemmas.Option.{get_or_from_slice_get, slice_get_within}
use Rattle.page_model.specs.declared.animation.Anim.{Anim}
use Rattle.page_model.specs.declared.animation.Count.TheVariants.{Times}
use Rattle.page_model.specs.declared.element.Tag.{Tag}
use Rattle.page_model.specs.declared.element.Tag.TheVariants.{Body, Div, Span}
use Rattle.page_model.specs.declared.keyframe.Keyframe.{Keyframe}
use Rattle.page_model.specs.declared.keyframe.KeyframeSet.{KeyframeSet}
use Rattle.page_model.specs.declared.property.Prop.{Prop}
use Rattle.page_model.specs.declared.property.Prop.TheVariants as prop
use Rattle.page_model.specs.declared.property.Setting.{Setting}
use Rattle.page_model.specs.declared.rule.Longhand.{Longhand}
use Rattle.page_model.specs.declared.rule.Longhand.TheVariants.{Left, Top, Width, Height, Colour, Opacity, ZIndex, Durations, Easings, Delays, Counts}
use Rattle.page_model.specs.Cascade.{Candidate, Winners, animates_more, animation_at, breaks_body, colour_in, counts_in, delays_in, durations_in, ease, easings_in, fault_of, has, has_box_property, has_too_many, is_placed, item_for, kept_number, lacks, layer_of, length_in, names_more, names_property, names_won, not_placed, body_property, too_many_animations, number_of, opacity_in, set_meant, value_of, visibility_in, won, z_in}
use Rattle.page_model.specs.Keyframes.{is_same}
use Rattle.page_model.specs.ValidScene.{IsAnimation, IsColour, IsCount, IsEasing, IsExtent, IsLayer, IsPosition, NamesBackgroundAlone}
use Rattle.css_quantities.specs.ValidQuantities.{IsLevel, IsTime}
use Rattle.css_values.specs.ValidValues.{IsLonghand}
use Rattle.css_reader.specs.SheetState.{SheetState, set_named}
use Rattle.cascade_winners.specs.WinningValues.{IsWinningValue}
use Rattle.cascade.specs.Named.{animations_from}
use Rattle.cascade.specs.Sources.{FitsTag, kept_of}

-- each winner is of its property, with a value in its limits
abbrev pub AreGood : Winners → Type 0
AreGood winners = (property : ℕ) → IfSome (winners property) (IsWinningValue property)

-- what a reading of a property's value gives is good, if it gives something
abbrev pub Reads : {V : Type 0} → (Longhand → Option V) → ℕ → (V → Type 0) → Type 0
Reads read property P = (longhand : Longhand) → number_of longhand ≡ property → IsLonghand longhand → IfSome (read longhand) P

read_value : {V : Type 0} (P : V → Type 0) (winners : Winners) (property : ℕ) (read : Longhand → Option V) → AreGood winners → Reads read property P → IfSome (option_and_then read (value_of winners property)) P
read_value {V} P winners property read good reads = told (winners property) (good property)
  where
    told : (best : Option Candidate) → IfSome best (IsWinningValue property) → IfSome (option_and_then read (option_map (λ (c : Candidate). c.longhand) best)) P
    told None good = tt
    told (Some c) good = reads c.longhand good.number good.value

good_or : {V : Type 0} (P : V → Type 0) (value : Option V) (initial : V) → IfSome value P → P initial → P (unwrap_or value initial)
good_or P None initial good first = first
good_or P (Some value) initial good first = good

won_good : {V : Type 0} (P : V → Type 0) (winners : Winners) (property : ℕ) (read : Longhand → Option V) (initial : V) → AreGood winners → Reads read property P → P initial → P (won winners property read initial)
won_good P winners property read initial good reads first =
    good_or P (option_and_then read (value_of winners property)) initial (read_value P winners property read good reads) first

-- the readings
reads_left : Reads length_in 1 IsPosition
reads_left (Left v) number value = value
reads_left (Top v) number value = absurd (omega (arith, number))
reads_left (Width v) number value = absurd (omega (arith, number))
reads_left (Height v) number value = absurd (omega (arith, number))
reads_left other number value = tt

reads_top : Reads length_in 2 IsPosition
reads_top (Left v) number value = absurd (omega (arith, number))
reads_top (Top v) number value = value
reads_top (Width v) number value = absurd (omega (arith, number))
reads_top (Height v) number value = absurd (omega (arith, number))
reads_top other number value = tt

reads_width : Reads length_in 3 IsExtent
reads_width (Left v) number value = absurd (omega (arith, number))
reads_width (Top v) number value = absurd (omega (arith, number))
reads_width (Width v) number value = value
reads_width (Height v) number value = absurd (omega (arith, number))
reads_width other number value = tt

reads_height : Reads length_in 4 IsExtent
reads_height (Left v) number value = absurd (omega (arith, number))
reads_height (Top v) number value = absurd (omega (arith, number))
reads_height (Width v) number value = absurd (omega (arith, number))
reads_height (Height v) number value = value
reads_height other number value = tt

reads_colour : Reads colour_in 5 IsColour
reads_colour (Colour c) number value = value
reads_colour other number value = tt

reads_opacity : Reads opacity_in 6 (λ v. v ≤ 1000)
reads_opacity (Opacity v) number value = value
reads_opacity other number value = tt

reads_z : Reads z_in 8 IsLevel
reads_z (ZIndex v) number value = value
reads_z other number value = tt

reads_durations : Reads durations_in 12 (All (λ d. d ≤ 100000))
reads_durations (Durations vs) number value = value.each
reads_durations other number value = tt

reads_easings : Reads easings_in 13 (All IsEasing)
reads_easings (Easings vs) number value = value.each
reads_easings other number value = tt

reads_delays : Reads delays_in 14 (All IsTime)
reads_delays (Delays vs) number value = value.each
reads_delays other number value = tt

reads_counts : Reads counts_in 15 (All IsCount)
reads_counts (Counts vs) number value = value.each
reads_counts other number value = tt

-- an item of a good list
item_good : {V : Type 0} (P : V → Type 0) (items : List V) (initial : V) (place : ℕ) → All P items → P initial → P (item_for items initial place)
item_good {V} P items initial place all first = told (slice_get items (place % length items)) refl
  where
    told : (found : Option V) → slice_get items (place % length items) ≡ found → P (unwrap_or (slice_get items (place % length items)) initial)
    told None is = rw is first
    told (Some item) is = rw is (subst P (get_or_from_slice_get items (place % length items) item item is) (all (place % length items) item (slice_get_within items (place % length items) item is)))

list_good : {V : Type 0} (P : V → Type 0) (winners : Winners) (property : ℕ) (read : Longhand → Option (List V)) (initial : V) (place : ℕ) → AreGood winners → Reads read property (All P) → P initial → P (item_for (won winners property read (initial ∷ [])) initial place)
list_good P winners property read initial place good reads first =
    item_good P (won winners property read (initial ∷ [])) initial place
    (won_good (All P) winners property read (initial ∷ []) good reads (All-cons P initial [] first (All-nil P))) first

-- the number of a kept set is below how many there are
counts_on : (sets : List KeyframeSet) (number : ℕ) (set : KeyframeSet) → slice_get sets number ≡ Some set → names_property set ≡ true → count_by names_property (take number sets) < count_by names_property sets
counts_on [] number set there names = absurd (cc)
counts_on (first ∷ sets) zero set there names =
    let count = sum_by-cons (λ set. cond (names_property set) 1 0) first sets in
    let same : first ≡ set = cc in
    let one = ap {B = ℕ} (λ (b : Bool). cond b 1 0) (ap names_property same ∙ names) in
    omega (arith, count, one)
counts_on (first ∷ sets) (suc number) set there names =
    let whole = sum_by-cons (λ set. cond (names_property set) 1 0) first sets in
    let front = sum_by-cons (λ set. cond (names_property set) 1 0) first (take number sets) in
    omega (arith, whole, front, counts_on sets number set there names)

kept_below : (sets : List KeyframeSet) (number : ℕ) → IfSome (kept_number sets number) (λ kept. kept < length (filter names_property sets))
kept_below sets number = told (slice_get sets number) refl
  where
    told : (found : Option KeyframeSet) → slice_get sets number ≡ found → IfSome (option_and_then (λ (set : KeyframeSet). if names_property set then Some (count_by names_property (take number sets)) else None) found) (λ kept. kept < length (filter names_property sets))
    told None is = tt
    told (Some set) is = elim (cases_Bool (names_property set)) [
      | inl names ↦ rw names (omega (arith, length-filter names_property sets, counts_on sets number set is names))
      | inr other ↦ rw other tt
    ]

meant_below : (sheet : SheetState) (name : Option (List ℕ)) → IfSome (set_meant (set_named sheet) sheet.sets name) (λ kept. kept < length (kept_of sheet))
meant_below sheet None = tt
meant_below sheet (Some name) = told (set_named sheet name)
  where
    told : (number : Option ℕ) → IfSome (option_and_then (kept_number sheet.sets) number) (λ kept. kept < length (kept_of sheet))
    told None = tt
    told (Some number) = kept_below sheet.sets number

-- an animation of a set that is there
animation_good : (winners : Winners) (place set sets : ℕ) → AreGood winners → set < sets → IsAnimation sets (animation_at winners place set)
animation_good winners place set sets good below = record {
  set = below;
  duration = list_good (λ d. d ≤ 100000) winners 12 durations_in 0 place good reads_durations (omega arith);
  delay = list_good IsTime winners 14 delays_in (pos 0) place good reads_delays (record { at_least = omega (arith, ints); at_most = omega (arith, ints) });
  count = list_good IsCount winners 15 counts_in (Times 1000) place good reads_counts (omega arith);
  easing = list_good IsEasing winners 13 easings_in ease place good reads_easings (record {
    first_column = omega arith;
    first_height = record { at_least = omega (arith, ints); at_most = omega (arith, ints) };
    second_column = omega arith;
    second_height = record { at_least = omega (arith, ints); at_most = omega (arith, ints) };
  });
}

one_more : (sheet : SheetState) (winners : Winners) (place : ℕ) (meant : Option ℕ) (rest : List Anim) → AreGood winners → IfSome meant (λ kept. kept < length (kept_of sheet)) → All (IsAnimation (length (kept_of sheet))) rest → All (IsAnimation (length (kept_of sheet))) (cons_option (option_map (animation_at winners place) meant) rest)
one_more sheet winners place None rest good below all = all
one_more sheet winners place (Some set) rest good below all =
    All-cons (IsAnimation (length (kept_of sheet))) (animation_at winners place set) rest (animation_good winners place set (length (kept_of sheet)) good below) all

animations_good : (sheet : SheetState) (winners : Winners) (place : ℕ) (names : List (Option (List ℕ))) → AreGood winners → All (IsAnimation (length (kept_of sheet))) (animations_from sheet winners place names)
animations_good sheet winners place [] good = All-nil (IsAnimation (length (kept_of sheet)))
animations_good sheet winners place (name ∷ names) good =
    one_more sheet winners place (set_meant (set_named sheet) sheet.sets name) (animations_from sheet winners (place + 1) names) good (meant_below sheet name) (animations_good sheet winners (place + 1) names good)

-- there are no more animations than names
no_longer : (winners : Winners) (place : ℕ) (meant : Option ℕ) (rest : List Anim) → length (cons_option (option_map (animation_at winners place) meant) rest) ≤ 1 + length rest
no_longer winners place None rest = omega arith
no_longer winners place (Some set) rest = omega arith

few_animations : (sheet : SheetState) (winners : Winners) (place : ℕ) (names : List (Option (List ℕ))) → length (animations_from sheet winners place names) ≤ length names
few_animations sheet winners place [] = omega arith
few_animations sheet winners place (name ∷ names) =
    omega (arith, no_longer winners place (set_meant (set_named sheet) sheet.sets name) (animations_from sheet winners (place + 1) names), few_animations sheet winners (place + 1) names)

-- no fault of an element: each test failed
pub record HasNone (tag : Tag) (kept : List KeyframeSet) (winners : Winners) (anims : List Anim) : Type 0 where
  pub lacks : lacks tag winners anims ≡ false
  pub breaks : breaks_body tag kept winners anims ≡ false
  pub many : has_too_many winners ≡ false

pub tests_failed : (tag : Tag) (kept : List KeyframeSet) (winners : Winners) (anims : List Anim) → None ≡ fault_of tag kept winners anims → HasNone tag kept winners anims
tests_failed tag kept winners anims none = told (lacks tag winners anims) (breaks_body tag kept winners anims) (has_too_many winners) none refl refl refl
  where
    told : (a b c : Bool) → None ≡ (if a then Some not_placed else (if b then Some body_property else (if c then Some too_many_animations else None))) → lacks tag winners anims ≡ a → breaks_body tag kept winners anims ≡ b → has_too_many winners ≡ c → HasNone tag kept winners anims
    told true b c none first second third = absurd (cc)
    told false true c none first second third = absurd (cc)
    told false false true none first second third = absurd (cc)
    told false false false none first second third = record { lacks = first; breaks = second; many = third }

-- the layer of an element without a fault
pub valid_layer : (sheet : SheetState) (tag : Tag) (winners : Winners) → AreGood winners → HasNone tag (kept_of sheet) winners (animations_from sheet winners 0 (names_won winners)) → IsLayer (length (kept_of sheet)) (layer_of winners (animations_from sheet winners 0 (names_won winners)))
valid_layer sheet tag winners good none = record {
  colour = read_value IsColour winners 5 colour_in good reads_colour;
  opacity = won_good (λ v. v ≤ 1000) winners 6 opacity_in 1000 good reads_opacity (omega arith);
  left = won_good IsPosition winners 1 length_in (pos 0) good reads_left (record { at_least = omega (arith, ints); at_most = omega (arith, ints) });
  top = won_good IsPosition winners 2 length_in (pos 0) good reads_top (record { at_least = omega (arith, ints); at_most = omega (arith, ints) });
  width = won_good IsExtent winners 3 length_in (pos 0) good reads_width (record { at_least = omega (arith, ints); at_most = omega (arith, ints) });
  height = won_good IsExtent winners 4 length_in (pos 0) good reads_height (record { at_least = omega (arith, ints); at_most = omega (arith, ints) });
  z = won_good IsLevel winners 8 z_in (pos 0) good reads_z (record { at_least = omega (arith, ints); at_most = omega (arith, ints) });
  few_animations = omega (arith, few_animations sheet winners 0 (names_won winners), at_most_eight (length (names_won winners)) none.many);
  animations = animations_good sheet winners 0 (names_won winners) good;
}
  where
    at_most_eight : (n : ℕ) → nat_lt 8 n ≡ false → n ≤ 8
    at_most_eight n many = ltb-false 8 n many

-- a winner of the colour is a colour
coloured : (winners : Winners) → AreGood winners → has winners 5 ≡ true → IsSome (option_and_then colour_in (value_of winners 5))
coloured winners good there = told (winners 5) (good 5) there
  where
    colour : (longhand : Longhand) → number_of longhand ≡ 5 → IsSome (colour_in longhand)
    colour (Colour c) number = refl
    colour other number = absurd (omega (arith, number))

    told : (best : Option Candidate) → IfSome best (IsWinningValue 5) → is_some best ≡ true → IsSome (option_and_then colour_in (option_map (λ (c : Candidate). c.longhand) best))
    told None good there = absurd (cc)
    told (Some c) good there = colour c.longhand good.number

both_false : (a b : Bool) → (a || b) ≡ false → (a ≡ false) × (b ≡ false)
both_false true b none = absurd (cc)
both_false false b none = (refl, none)

none_any : {A : Type 0} (test : A → Bool) (items : List A) → list_any test items ≡ false → All (λ item. test item ≡ false) items
none_any test [] none = All-nil (λ item. test item ≡ false)
none_any test (item ∷ items) none =
    let split = both_false (test item) (list_any test items) none in
    All-cons (λ item. test item ≡ false) item items split.0 (none_any test items split.1)

background : (asked : Prop) → not (is_same asked prop.Background) ≡ false → asked ≡ prop.Background
background prop.Background is = refl
background prop.Opacity is = absurd (cc)
background prop.Visibility is = absurd (cc)
background prop.Left is = absurd (cc)
background prop.Top is = absurd (cc)
background prop.Width is = absurd (cc)
background prop.Height is = absurd (cc)

background_alone : (set : KeyframeSet) → names_more set ≡ false → NamesBackgroundAlone set
background_alone set none = λ k frame within m setting inside.
    let frames = none_any (λ (frame : Keyframe). list_any (λ (setting : Setting). not (is_same setting.prop prop.Background)) frame.values) set.frames none in
    let values = none_any (λ (setting : Setting). not (is_same setting.prop prop.Background)) (get_or set.frames k frame).values (frames k frame within) in
    background (get_or (get_or set.frames k frame).values m setting).prop (values m setting inside)

none_won : {V : Type 0} (winners : Winners) (property : ℕ) (read : Longhand → Option V) (initial : V) → has winners property ≡ false → won winners property read initial ≡ initial
none_won {V} winners property read initial none = told (winners property) none
  where
    told : (best : Option Candidate) → is_some best ≡ false → unwrap_or (option_and_then read (option_map (λ (c : Candidate). c.longhand) best)) initial ≡ initial
    told None none = refl
    told (Some c) none = absurd (cc)

first_false : (b : Bool) → (b && true) ≡ false → b ≡ false
first_false true none = none
first_false false none = refl

placed : (winners : Winners) → not (is_placed winners) ≡ false → has winners 5 ≡ true
placed winners is = told (has winners 0) (has winners 1) (has winners 2) (has winners 3) (has winners 4) (has winners 5) is
  where
    told : (a b c d e f : Bool) → not (a && (b && (c && (d && (e && f))))) ≡ false → f ≡ true
    told true true true true true true is = refl
    told true true true true true false is = absurd (cc)
    told true true true true false f is = absurd (cc)
    told true true true false e f is = absurd (cc)
    told true true false d e f is = absurd (cc)
    told true false c d e f is = absurd (cc)
    told false b c d e f is = absurd (cc)

-- what a valid scene needs of it by its tag
pub fits_tag : (kept : List KeyframeSet) (tag : Tag) (winners : Winners) (anims : List Anim) → AreGood winners → HasNone tag kept winners anims → FitsTag tag kept (layer_of winners anims)
fits_tag kept Body winners anims good none =
    let parts = both_false (has_box_property winners) (animates_more kept anims) none.breaks in
    let all = none_any (has winners) (0 ∷ (1 ∷ (2 ∷ (3 ∷ (4 ∷ (6 ∷ (7 ∷ (8 ∷ [])))))))) parts.0 in
    let changes = none_any (λ (anim : Anim). unwrap_or (option_map names_more (slice_get kept anim.set)) false) anims parts.1 in
    record {
      left = none_won winners 1 length_in (pos 0) (all 1 0 (omega arith));
      top = none_won winners 2 length_in (pos 0) (all 2 0 (omega arith));
      width = none_won winners 3 length_in (pos 0) (all 3 0 (omega arith));
      height = none_won winners 4 length_in (pos 0) (all 4 0 (omega arith));
      z = none_won winners 8 z_in (pos 0) (all 7 0 (omega arith));
      opaque = none_won winners 6 opacity_in 1000 (all 5 0 (omega arith));
      visible = none_won winners 7 visibility_in true (all 6 0 (omega arith));
      animated = λ some. coloured winners good (animated (has winners 5) (length anims) some none.lacks);
      background = λ k d within set there.
          let told : unwrap_or (option_map names_more (slice_get kept (get_or anims k d).set)) false ≡ false = changes k d within in
          background_alone set (sym (ap (λ found. unwrap_or (option_map names_more found) false) there) ∙ told);
    }
  where
    animated : (there : Bool) (count : ℕ) → 0 < count → (nat_lt 0 count && not there) ≡ false → there ≡ true
    animated true count some none = refl
    animated false zero some none = absurd (omega (arith, some))
    animated false (suc count) some none = absurd (true≢false (sym (lt-ltb 0 (suc count) some) ∙ first_false (nat_lt 0 (suc count)) none))
fits_tag kept Div winners anims good none = coloured winners good (placed winners none.lacks)
fits_tag kept Span winners anims good none = coloured winners good (placed winners none.lacks)
