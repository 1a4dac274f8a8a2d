-- Blending of channels, and the colours that it gives.
use Rattle.std.proofs.Common.{◌≡◌, ℕ, suc, ◌+◌, ◌-◌, ◌*◌, ◌/◌, ◌<◌, ◌≤◌, ℤ, pos, Bool, true, false, ◌&&◌, List, [], ◌∷◌, All, fold, get_or, length, is_some, if◌then◌else◌, arith, refl, ap, inl, inr, mul-le-mul, mul-le-mul_right}
use Rattle.std.proofs.lemmas.Int.{ints}
use Rattle.std.proofs.lemmas.List.Elements.{All-contains_itself}
use Rattle.std.proofs.lemmas.Option.{slice_get_cases}
use Rattle.page_model.specs.declared.colour.Rgb.{Rgb}
use Rattle.page_model.specs.declared.property.Value.{Value}
use Rattle.page_model.specs.declared.scene.Layer.{Layer}
use Rattle.page_model.specs.declared.scene.Scene.{Scene}
use Rattle.page_model.specs.declared.setup.Setup.{Setup}
use Rattle.page_model.specs.Colour.{Run, IsRunIn, blended, body_colour, combined, covers, ground, over, paint_box}
use Rattle.page_model.specs.LayerAt.{Course, IsChannelOn, IsStateAt, IsValueOn, State, alpha_of, blue_of, cover_of, green_of, moving, red_of, still}
use Rattle.page_model.specs.Red.{white}
use Rattle.page_model.specs.Slot.{Shade, Slot, alpha, cover}
use Rattle.page_model.specs.Time.{window_of}
use Rattle.state_laws.proofs.RunLemmas.{channel_on-at_most}
use Rattle.wide_laws.specs.PaintLaws.{BlendEnds, BlendGrows, IsPixel, PixelIsColour}

-- a number of 255ths, rounded half up, is that number
rounded-whole : (n : ℕ) → (255 * n + 127) / 255 ≡ n
rounded-whole n = omega arith

pub blend-ends : BlendEnds
blend-ends = record {
  opaque = λ source backdrop. omega arith;
  clear = λ source backdrop. omega arith;
  same = λ channel alpha within.
      let e : alpha + (255 - alpha) ≡ 255 = omega arith in
      let f = ap (λ (n : ℕ). channel * n) e in omega arith;
}

pub blend-grows : BlendGrows
blend-grows source more alpha backdrop above h k =
    let p = mul-le-mul_right alpha h in
    let q = mul-le-mul_right (255 - alpha) k in
    omega arith

-- of channels up to 255, by an alpha up to 255, the blend is one
pub blend-small : (source alpha backdrop : ℕ) → source ≤ 255 → alpha ≤ 255 → backdrop ≤ 255 → blended source alpha backdrop ≤ 255
blend-small source alpha backdrop s a b =
    let top = blend-grows source 255 alpha backdrop 255 s b in
    let same = blend-ends.same 255 alpha a in
    omega arith

-- so is a cover and an alpha together
pub combined-small : (cover alpha : ℕ) → cover ≤ 255 → alpha ≤ 255 → combined cover alpha ≤ 255
combined-small cover alpha c a =
    let top = mul-le-mul c a in
    omega arith

-- the channels, the cover and the alpha of a state
pub record IsSmall (state : State) : Type 0 where
  pub red : state.red ≤ 255
  pub green : state.green ≤ 255
  pub blue : state.blue ≤ 255
  pub cover : state.cover ≤ 255
  pub alpha : state.alpha ≤ 255

value-at_most : (slot : Slot) (part : Value → ℤ) (course : Course) (n limit : ℕ) → slot.greatest ≡ pos limit → IsValueOn slot part course (pos n) → n ≤ limit
value-at_most slot part (still x) n limit e good = let most = good.at_most in omega (arith, ints)
value-at_most slot part (moving i) n limit e good = let most = good.at_most in omega (arith, ints)

level-at_most : (part : Value → Shade) (course : Course) (n : ℕ) → IsChannelOn part course (pos n) → n ≤ 255
level-at_most part course n good = let most = channel_on-at_most part course (pos n) good in omega (arith, ints)

state-small : (scene : Scene) (setup : Setup) (frame : ℕ) (layer : Layer) (state : State) → IsStateAt scene setup frame layer state → IsSmall state
state-small scene setup frame layer state exact = record {
  red = level-at_most red_of _ state.red exact.is_red;
  green = level-at_most green_of _ state.green exact.is_green;
  blue = level-at_most blue_of _ state.blue exact.is_blue;
  cover = value-at_most cover cover_of _ state.cover 255 refl exact.is_cover;
  alpha = value-at_most alpha alpha_of _ state.alpha 255 refl exact.is_alpha;
}

-- painting one box after the other
over-colour :
    (state : State) (alpha : ℕ) (backdrop : Rgb) → IsSmall state → alpha ≤ 255 → IsPixel backdrop → IsPixel (over state alpha backdrop)
over-colour state alpha backdrop small within below =
    let both = combined-small state.cover alpha small.cover within in record {
      red = blend-small state.red (combined state.cover alpha) backdrop.r small.red both below.red;
      green = blend-small state.green (combined state.cover alpha) backdrop.g small.green both below.green;
      blue = blend-small state.blue (combined state.cover alpha) backdrop.b small.blue both below.blue;
    }

white-pixel : IsPixel white
white-pixel = record { red = omega arith; green = omega arith; blue = omega arith }

chosen-colour : (test : Bool) (a b : Rgb) → IsPixel a → IsPixel b → IsPixel (if test then a else b)
chosen-colour true a b first second = first
chosen-colour false a b first second = second

fold-colour :
    (states : ℕ → State) (column row : ℕ) (start : Rgb) (order : List ℕ) → All (λ box. IsSmall (states box)) order → IsPixel start
    → IsPixel (fold (paint_box states column row) start order)
fold-colour states column row start [] small below = below
fold-colour states column row start (box ∷ rest) small below =
    fold-colour states column row (paint_box states column row start box) rest
    (λ k d within. small (suc k) d (omega arith))
    (chosen-colour ((states box).shown && covers (states box) column row) (over (states box) (states box).alpha start) start
    (over-colour (states box) (states box).alpha start (small 0 box (omega arith)) (small 0 box (omega arith)).alpha below) below)

run-small :
    (scene : Scene) (setup : Setup) (start : ℕ) (run : Run) (frame number : ℕ) → IsRunIn scene setup start run → start ≤ frame
    → frame ≤ start + window_of setup → number < length scene.layers → IsSmall (run frame number)
run-small scene setup start run frame number exact low high within =
    elim (slice_get_cases scene.layers number).1 [
      | inl there ↦ state-small scene setup frame there.0 (run frame number) (exact frame number there.0 low high there.2)
      | inr past ↦ absurd (let far = past.0 in omega arith)
    ]

pub pixel-colour : PixelIsColour
pixel-colour scene setup start run frame column row valid exact low high =
    let first = run-small scene setup start run frame 0 exact low high (let some = valid.some_layer in omega arith) in
    fold-colour (run frame) column row (ground scene (run frame)) scene.order
    (λ k d within. run-small scene setup start run frame (get_or scene.order k d) exact low high
    ((valid.order.boxes (get_or scene.order k d)).0 (All-contains_itself scene.order k d within)).1)
    (chosen-colour (is_some (body_colour scene)) (over (run frame 0) 255 white) white
    (over-colour (run frame 0) 255 white first (omega arith) white-pixel) white-pixel)
