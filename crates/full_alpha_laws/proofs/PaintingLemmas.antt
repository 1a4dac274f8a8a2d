-- A full cover leaves an alpha as it is, and the body over white by it is the body's own colour.
use Rattle.std.proofs.Common.{◌≡◌, ◌∙◌, ℕ, ◌≤◌, ℤ, pos, negsuc, ◌≤ℤ◌, true, ◌&&◌, List, [], ◌∷◌, All, IsSome, Option, Some, None, fold, get_or, is_some, max, min, slice_get, if◌then◌else◌, arith, refl, ap, inl, inr}
use Rattle.std.proofs.lemmas.Bool.{cases_Bool}
use Rattle.std.proofs.lemmas.Int.{ints}
use Rattle.std.proofs.lemmas.List.Elements.{All-contains_itself, All-head, All-tail}
use Rattle.std.proofs.lemmas.Option.{slice_get_cases}
use Rattle.page_model.specs.declared.colour.Rgb.{Rgb}
use Rattle.page_model.specs.declared.colour.Rgba.{Rgba}
use Rattle.page_model.specs.declared.colour.Tint.{Tint}
use Rattle.page_model.specs.declared.property.Prop.TheVariants.{Background}
use Rattle.page_model.specs.declared.property.Value.{Value}
use Rattle.page_model.specs.declared.scene.Layer.{Layer}
use Rattle.page_model.specs.declared.scene.Scene.{Scene}
use Rattle.page_model.specs.Colour.{blended, body_colour, combined, covers, ground, over, paint_box}
use Rattle.page_model.specs.Enclosure.{IsLooseChannelOn, Kind, Loose, LooseState, one_value}
use Rattle.page_model.specs.LayerAt.{Course, State, blue_of, course_of, green_of, moving, red_of, still}
use Rattle.page_model.specs.Progress.{above_zero}
use Rattle.page_model.specs.Red.{white}
use Rattle.page_model.specs.Slot.{Shade}
use Rattle.page_model.specs.TintOf.{Span, blended_span, both, combined_span, covers_surely, full_alpha, painted_where, single, span_of, tint_box, tint_by, tint_ground, tint_over}
use Rattle.page_model.specs.ValidScene.{IsEasing, IsValid}
use Rattle.curve_laws.proofs.ChannelLemmas.{loose_channels_nest}
use Rattle.safety_laws.proofs.CourseLemmas.{SoundOn, scene-sound}
use Rattle.wide_laws.proofs.PaintLemmas.{blend-ends}
use Rattle.full_alpha_laws.specs.FormerPainting.{former_box, former_colour, former_ground, former_over}
use Rattle.full_alpha_laws.specs.FormerTint.{former_tint_box, former_tint_ground, former_tint_over}
use Rattle.full_alpha_laws.specs.PaintingLaws.{ColoursAreFormer, TintsAreFormer}
use Rattle.full_alpha_laws.specs.StateLaws.{cover_for}
use Rattle.full_alpha_laws.proofs.StateLemmas.{loose_states_are_former, states_are_former}

-- a full cover and an alpha together are the alpha
combined-full : (a : ℕ) → combined 255 a ≡ a
combined-full a = omega arith

over-former : (state : State) (backdrop : Rgb) → state.cover ≡ 255 → over state state.alpha backdrop ≡ former_over state backdrop
over-former state backdrop full =
    let same : combined state.cover state.alpha ≡ state.alpha = rw full (combined-full state.alpha) in
    λ i. record {
      r = blended state.red (same i) backdrop.r;
      g = blended state.green (same i) backdrop.g;
      b = blended state.blue (same i) backdrop.b;
    }

body-former : (state : State) → state.cover ≡ 255 → over state 255 white ≡ former_colour state
body-former state full =
    let same : combined state.cover 255 ≡ 255 = rw full refl in
    (λ i. record { r = blended state.red (same i) 255; g = blended state.green (same i) 255; b = blended state.blue (same i) 255 })
    ∙ (λ i. record {
      r = blend-ends.opaque state.red 255 i;
      g = blend-ends.opaque state.green 255 i;
      b = blend-ends.opaque state.blue 255 i;
    })

-- the cover of a layer with a colour
cover-some : (colour : Option Rgba) → IsSome colour → cover_for colour ≡ 255
cover-some None some = absurd (cc)
cover-some (Some c) some = refl

-- one box after the other
box-former : (states : ℕ → State) (column row : ℕ) (backdrop : Rgb) (box : ℕ) → (states box).cover ≡ 255
    → paint_box states column row backdrop box ≡ former_box states column row backdrop box
box-former states column row backdrop box full =
    ap (λ (c : Rgb). if (states box).shown && covers (states box) column row then c else backdrop) (over-former (states box) backdrop full)

boxes-former : (states : ℕ → State) (column row : ℕ) (order : List ℕ) (backdrop : Rgb) → All (λ box. (states box).cover ≡ 255) order
    → fold (paint_box states column row) backdrop order ≡ fold (former_box states column row) backdrop order
boxes-former states column row [] backdrop full = refl
boxes-former states column row (box ∷ rest) backdrop full =
    boxes-former states column row rest (paint_box states column row backdrop box) (All-tail (λ b. (states b).cover ≡ 255) box rest full)
    ∙ ap (λ (c : Rgb). fold (former_box states column row) c rest)
    (box-former states column row backdrop box (All-head (λ b. (states b).cover ≡ 255) box rest full))

-- covers by number: of the boxes, and of a body with a colour
abbrev AreFull : Scene → (ℕ → ℕ) → Type 0
AreFull scene cover_at = (number : ℕ) (layer : Layer) → slice_get scene.layers number ≡ Some layer → cover_at number ≡ cover_for layer.colour

boxes-full : (scene : Scene) (cover_at : ℕ → ℕ) → IsValid scene → AreFull scene cover_at → All (λ box. cover_at box ≡ 255) scene.order
boxes-full scene cover_at valid full k d within =
    let number : ℕ = get_or scene.order k d in
    let there = (valid.order.boxes number).0 (All-contains_itself scene.order k d within) in
    elim (slice_get_cases scene.layers number).1 [
      | inl found ↦ full number found.0 found.2 ∙ cover-some found.0.colour (valid.boxes number found.0 there.0 found.2)
      | inr past ↦ absurd (let far = past.0 in let inside = there.1 in omega arith)
    ]

body-full : (scene : Scene) (cover_at : ℕ → ℕ) → IsValid scene → AreFull scene cover_at → is_some (body_colour scene) ≡ true → cover_at 0 ≡ 255
body-full scene cover_at valid full coloured =
    elim (slice_get_cases scene.layers 0).1 [
      | inl found ↦ full 0 found.0 found.2 ∙ cover-some found.0.colour (rw found.2 at coloured)
      | inr past ↦ absurd (let far = past.0 in let some = valid.some_layer in omega arith)
    ]

ground-former : (scene : Scene) (states : ℕ → State) → IsValid scene → AreFull scene (λ number. (states number).cover)
    → ground scene states ≡ former_ground scene states
ground-former scene states valid full =
    elim (cases_Bool (is_some (body_colour scene))) [
      | inl coloured ↦ rw coloured (body-former (states 0) (body-full scene (λ number. (states number).cover) valid full coloured))
      | inr bare ↦ rw bare refl
    ]

pub colours_are_former : ColoursAreFormer
colours_are_former scene setup start run valid full exact frame column row low high =
    let covered : AreFull scene (λ number. (run frame number).cover) =
    λ number layer there. ((states_are_former scene setup frame number layer (run frame number) valid full there).0 (exact frame number layer low high there)).1 in
    ap (λ (c : Rgb). fold (paint_box (run frame) column row) c scene.order) (ground-former scene (run frame) valid covered)
    ∙ boxes-former (run frame) column row scene.order (former_ground scene (run frame))
    (boxes-full scene (λ number. (run frame number).cover) valid covered)

-- tints: a full cover and the ends of an alpha
span-full : (state : LooseState) (alpha : Span) → state.cover ≡ one_value (pos 255) → combined_span (span_of state.cover) alpha ≡ alpha
span-full state alpha full =
    rw full (λ i. record { lo = combined-full alpha.lo i; hi = combined-full alpha.hi i })

tint_over-former : (state : LooseState) (backdrop : Tint) → state.cover ≡ one_value (pos 255)
    → tint_over state (span_of state.alpha) backdrop ≡ former_tint_over state backdrop
tint_over-former state backdrop full =
    ap (λ (a : Span). tint_by (blended_span (span_of state.red) a (record { lo = backdrop.lo.r; hi = backdrop.hi.r }))
    (blended_span (span_of state.green) a (record { lo = backdrop.lo.g; hi = backdrop.hi.g }))
    (blended_span (span_of state.blue) a (record { lo = backdrop.lo.b; hi = backdrop.hi.b })))
    (span-full state (span_of state.alpha) full)

-- a span over white by full alpha is itself, where its ends are in order
span-over : (s : Span) → s.lo ≤ s.hi → blended_span s full_alpha (record { lo = 255; hi = 255 }) ≡ s
span-over s order =
    let low = blend-ends.opaque s.lo 255 in
    let high = blend-ends.opaque s.hi 255 in
    λ i. record { lo = least (blended s.lo 255 255) (blended s.hi 255 255) s.lo s.hi low high order i; hi = most (blended s.lo 255 255) (blended s.hi 255 255) s.lo s.hi low high order i }
  where
    least : (a b x y : ℕ) → a ≡ x → b ≡ y → x ≤ y → min (min (min a a) (min b b)) (min (min a a) (min b b)) ≡ x
    least a b x y e f order = omega arith

    most : (a b x y : ℕ) → a ≡ x → b ≡ y → x ≤ y → max (max (max a a) (max b b)) (max (max a a) (max b b)) ≡ y
    most a b x y e f order = omega arith

-- the channels of a loose state have their ends in order
raised_le : (y z : ℤ) → y ≤ℤ z → above_zero y ≤ above_zero z
raised_le (pos y) (pos z) order = omega (arith, ints)
raised_le (pos y) (negsuc z) order = absurd (omega (arith, ints))
raised_le (negsuc y) z order = omega arith

channel-order : (kind : Kind) (part : Value → Shade) (course : Course) (loose : Loose) → SoundOn IsEasing course → IsLooseChannelOn kind part course loose
    → (span_of loose).lo ≤ (span_of loose).hi
channel-order kind part (still x) loose sound is = rw is (omega arith)
channel-order kind part (moving i) loose sound is =
    raised_le loose.lo loose.hi (loose_channels_nest.in_order kind i.easing sound.easing i.distance (part i.from) (part i.to) loose is)

pub record IsInOrder (state : LooseState) : Type 0 where
  pub red : (span_of state.red).lo ≤ (span_of state.red).hi
  pub green : (span_of state.green).lo ≤ (span_of state.green).hi
  pub blue : (span_of state.blue).lo ≤ (span_of state.blue).hi

tint_body-former : (state : LooseState) → state.cover ≡ one_value (pos 255) → IsInOrder state
    → tint_over state full_alpha (single white) ≡ tint_by (span_of state.red) (span_of state.green) (span_of state.blue)
tint_body-former state full order =
    ap (λ (a : Span). tint_by (blended_span (span_of state.red) a (record { lo = 255; hi = 255 })) (blended_span (span_of state.green) a (record { lo = 255; hi = 255 }))
    (blended_span (span_of state.blue) a (record { lo = 255; hi = 255 }))) (span-full state full_alpha full)
    ∙ (λ i. tint_by (span-over (span_of state.red) order.red i) (span-over (span_of state.green) order.green i) (span-over (span_of state.blue) order.blue i))

tint_box-former : (states : ℕ → LooseState) (column row : ℕ) (backdrop : Tint) (box : ℕ) → (states box).cover ≡ one_value (pos 255)
    → tint_box states column row backdrop box ≡ former_tint_box states column row backdrop box
tint_box-former states column row backdrop box full =
    ap (λ (t : Tint). painted_where (both (states box).shown (covers_surely (states box) column row)) t backdrop) (tint_over-former (states box) backdrop full)

tint_boxes-former : (states : ℕ → LooseState) (column row : ℕ) (order : List ℕ) (backdrop : Tint) → All (λ box. (states box).cover ≡ one_value (pos 255)) order
    → fold (tint_box states column row) backdrop order ≡ fold (former_tint_box states column row) backdrop order
tint_boxes-former states column row [] backdrop full = refl
tint_boxes-former states column row (box ∷ rest) backdrop full =
    tint_boxes-former states column row rest (tint_box states column row backdrop box) (All-tail (λ b. (states b).cover ≡ one_value (pos 255)) box rest full)
    ∙ ap (λ (t : Tint). fold (former_tint_box states column row) t rest)
    (tint_box-former states column row backdrop box (All-head (λ b. (states b).cover ≡ one_value (pos 255)) box rest full))

-- covers by number
abbrev AreLooselyFull : Scene → (ℕ → LooseState) → Type 0
AreLooselyFull scene states =
    (number : ℕ) (layer : Layer) → slice_get scene.layers number ≡ Some layer → (states number).cover ≡ one_value (pos (cover_for layer.colour))

of_some : (cover : Loose) (colour : Option Rgba) → cover ≡ one_value (pos (cover_for colour)) → IsSome colour → cover ≡ one_value (pos 255)
of_some cover colour is some = is ∙ ap (λ (n : ℕ). one_value (pos n)) (cover-some colour some)

tint_boxes-full : (scene : Scene) (states : ℕ → LooseState) → IsValid scene → AreLooselyFull scene states
    → All (λ box. (states box).cover ≡ one_value (pos 255)) scene.order
tint_boxes-full scene states valid full k d within =
    let number : ℕ = get_or scene.order k d in
    let there = (valid.order.boxes number).0 (All-contains_itself scene.order k d within) in
    elim (slice_get_cases scene.layers number).1 [
      | inl found ↦ of_some (states number).cover found.0.colour (full number found.0 found.2) (valid.boxes number found.0 there.0 found.2)
      | inr past ↦ absurd (let far = past.0 in let inside = there.1 in omega arith)
    ]

tint_ground-former : (scene : Scene) (states : ℕ → LooseState) → IsValid scene → AreLooselyFull scene states → IsInOrder (states 0)
    → tint_ground scene states ≡ former_tint_ground scene states
tint_ground-former scene states valid full order =
    elim (cases_Bool (is_some (body_colour scene))) [
      | inl coloured ↦ rw coloured (tint_body-former (states 0) (body-covered coloured) order)
      | inr bare ↦ rw bare refl
    ]
  where
    body-covered : is_some (body_colour scene) ≡ true → (states 0).cover ≡ one_value (pos 255)
    body-covered coloured = elim (slice_get_cases scene.layers 0).1 [
      | inl found ↦ of_some (states 0).cover found.0.colour (full 0 found.0 found.2) (rw found.2 at coloured)
      | inr past ↦ absurd (let far = past.0 in let some = valid.some_layer in omega arith)
    ]

pub tints_are_former : TintsAreFormer
tints_are_former kind scene setup start run valid full known frame column row low high =
    let covered : AreLooselyFull scene (run frame) =
    λ number layer there. ((loose_states_are_former kind scene setup frame number layer (run frame number) valid full there).0 (known frame number layer low high there)).1 in
    ap (λ (t : Tint). fold (tint_box (run frame) column row) t scene.order) (tint_ground-former scene (run frame) valid covered (ordered 0))
    ∙ tint_boxes-former (run frame) column row scene.order (former_tint_ground scene (run frame)) (tint_boxes-full scene (run frame) valid covered)
  where
    ordered : (number : ℕ) → IsInOrder (run frame 0)
    ordered number = elim (slice_get_cases scene.layers 0).1 [
      | inl found ↦
          let is = known frame 0 found.0 low high found.2 in
          let sound = scene-sound scene setup frame 0 found.0 Background valid found.2 in
          let fill : Course = course_of scene setup frame found.0 Background in record {
            red = channel-order kind red_of fill (run frame 0).red sound is.is_red;
            green = channel-order kind green_of fill (run frame 0).green sound is.is_green;
            blue = channel-order kind blue_of fill (run frame 0).blue sound is.is_blue;
          }
      | inr past ↦ absurd (let far = past.0 in let some = valid.some_layer in omega arith)
    ]
