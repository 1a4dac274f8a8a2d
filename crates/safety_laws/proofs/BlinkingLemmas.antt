-- The blinking page is black and white in turn, in each run of exact states, and a whole rectangle of it is flagged.
use Rattle.std.proofs.Common.{◌≡◌, ℕ, zero, suc, ◌+◌, ◌*◌, ◌<◌, ◌≤◌, pos, neg_ℤ, Bool, true, cond, ◌&&◌, nat_lt, List, [], ◌∷◌, All, IfSome, get_or, arith, refl, ap, ◌∙◌, inl, lt-ltb, ltb-true}
use Rattle.std.specs.List.Sorted.{IsStrictlyIncreasing}
use Rattle.std.proofs.lemmas.Bool.{agree_below_at, and_parts}
use Rattle.std.proofs.lemmas.Int.{ints}
use Rattle.std.proofs.lemmas.List.Elements.{All-cons, All-from_get_or}
use Rattle.page_model.specs.declared.keyframe.Keyframe.{Keyframe}
use Rattle.page_model.specs.declared.scene.Layer.{Layer}
use Rattle.page_model.specs.declared.colour.Rgb.{Rgb}
use Rattle.page_model.specs.Colour.{IsRunIn, Run, over, painting_of}
use Rattle.page_model.specs.Flash.{IsFlagged, IsInRectangle, area, colours_at, sum_below}
use Rattle.page_model.specs.LayerAt.{State, state_at}
use Rattle.page_model.specs.Light.{IsRise}
use Rattle.page_model.specs.Red.{white}
use Rattle.page_model.specs.ValidScene.{IsAnimation, IsValid}
use Rattle.srgb_luma.proofs.LumaLemmas.{luma_of-black, luma_of-white}
use Rattle.safety_laws.specs.ComputedLaws.{HasNoCurve, IsNoCurve, IsStraight}
use Rattle.state_laws.specs.ExamplePage.{body_with, keyed, opaque_black, opaque_white}
use Rattle.safety_laws.specs.StillLaws.{BlinkingIsBad, blinking_page, blinks, ten_a_second}
use Rattle.safety_laws.proofs.ComputedLemmas.{state-computed}
use Rattle.state_laws.proofs.ExamplePageLemmas.{between, only, page-valid}

blinks-valid : IsAnimation 1 blinks
blinks-valid = record {
  set = omega arith;
  duration = omega arith;
  delay = between (neg_ℤ (pos 100000)) (pos 100000) (pos 0) (omega (arith, ints)) (omega (arith, ints));
  count = tt;
  easing = tt;
}

blinking-valid : IsValid blinking_page
blinking-valid = page-valid blinks 5000 blinks-valid (omega arith) (omega arith)

abbrev HasNone : Keyframe → Type 0
HasNone frame = IfSome frame.easing IsNoCurve

no_curve : HasNoCurve blinking_page
no_curve =
    only (λ (layer : Layer). All (IsStraight blinking_page.sets) layer.anims) (body_with blinks)
    (only (IsStraight blinking_page.sets) blinks (record {
      own = tt;
      keyframes = All-cons HasNone (keyed 0 opaque_black) (keyed 5000 opaque_white ∷ []) tt (only HasNone (keyed 5000 opaque_white) tt);
    }))

-- a body over the canvas
abbrev on_white : State → Rgb
on_white state = over state 255 white

abbrev black : Rgb
black = record { r = 0; g = 0; b = 0 }

-- what is seen of a pixel in a frame of the first window
seen-is : (run : Run) → IsRunIn blinking_page ten_a_second 0 run → (k column row : ℕ) → k ≤ 10 → painting_of blinking_page run k column row ≡ on_white (state_at blinking_page ten_a_second k (body_with blinks))
seen-is run exact k column row within =
    ap on_white ((state-computed blinking_page ten_a_second k 0 (body_with blinks) (run k 0) blinking-valid no_curve refl).0
    (exact k 0 (body_with blinks) (omega arith) within refl))

abbrev frames : List ℕ
frames = 0 ∷ 1 ∷ 2 ∷ 3 ∷ 4 ∷ 5 ∷ 6 ∷ 7 ∷ 8 ∷ []

is_step : ℕ → Bool
is_step k = nat_lt (get_or frames k 0) (get_or frames (k + 1) 0)

frames-rise : IsStrictlyIncreasing frames
unfolding is_step
frames-rise k within = ltb-true (get_or frames k 0) (get_or frames (k + 1) 0) (agree_below_at is_step (λ j. true) 8 k refl (omega arith))

is_low : ℕ → Bool
is_low k = nat_lt (get_or frames k 0) 11

frames-within : All (λ k. (0 ≤ k) × (k ≤ 0 + 10)) frames
unfolding is_low
frames-within =
    All-from_get_or (λ k. (0 ≤ k) × (k ≤ 0 + 10)) frames 0 (λ i inside.
    let h = ltb-true (get_or frames i 0) 11 (agree_below_at is_low (λ j. true) 9 i refl inside) in (omega arith, omega arith))

-- from black to white it rises
light : (a b : Rgb) → a ≡ black → b ≡ white → IsRise a b
light a b e f = rw (e, f) (record { by_a_tenth = omega (arith, luma_of-black, luma_of-white); from_below = omega (arith, luma_of-black) })

flagged : (run : Run) → IsRunIn blinking_page ten_a_second 0 run → (column row : ℕ) → IsFlagged (painting_of blinking_page run) ten_a_second 0 column row
flagged run exact column row = inl (
  frames,
  record {
    nine = refl;
    rising = frames-rise;
    within = frames-within;
    alternates = inl (
      light (seen 0) (seen 1) (dark 0 (omega arith) refl) (bright 1 (omega arith) refl),
      (
        light (seen 2) (seen 1) (dark 2 (omega arith) refl) (bright 1 (omega arith) refl),
        (
          light (seen 2) (seen 3) (dark 2 (omega arith) refl) (bright 3 (omega arith) refl),
          (
            light (seen 4) (seen 3) (dark 4 (omega arith) refl) (bright 3 (omega arith) refl),
            (
              light (seen 4) (seen 5) (dark 4 (omega arith) refl) (bright 5 (omega arith) refl),
              (
                light (seen 6) (seen 5) (dark 6 (omega arith) refl) (bright 5 (omega arith) refl),
                (
                  light (seen 6) (seen 7) (dark 6 (omega arith) refl) (bright 7 (omega arith) refl),
                  (
                    light (seen 8) (seen 7) (dark 8 (omega arith) refl) (bright 7 (omega arith) refl),
                    tt,
                  ),
                ),
              ),
            ),
          ),
        ),
      ),
    );
  },
) where
  seen : ℕ → Rgb
  seen = colours_at (painting_of blinking_page run) column row

  dark : (k : ℕ) → k ≤ 10 → on_white (state_at blinking_page ten_a_second k (body_with blinks)) ≡ black → painting_of blinking_page run k column row ≡ black
  dark k within e = seen-is run exact k column row within ∙ e

  bright : (k : ℕ) → k ≤ 10 → on_white (state_at blinking_page ten_a_second k (body_with blinks)) ≡ white → painting_of blinking_page run k column row ≡ white
  bright k within e = seen-is run exact k column row within ∙ e

-- the marks of a whole rectangle
abbrev marks : ℕ → ℕ → Bool
marks column row = nat_lt column 341 && nat_lt row 256

sum-same : (n c : ℕ) (f : ℕ → ℕ) → ((k : ℕ) → k < n → f k ≡ c) → sum_below n f ≡ n * c
sum-same zero c f same = omega arith
sum-same (suc n) c f same =
    let h = sum-same n c f (λ k below. same k (omega arith)) in
    let e = same n (omega arith) in omega arith

marks-all : area 341 256 marks ≡ 341 * 256
marks-all =
    sum-same 341 256 (λ column. sum_below 256 (λ row. cond (marks column row) 1 0)) (λ column inside.
    sum-same 256 1 (λ row. cond (marks column row) 1 0) (λ row within. rw (lt-ltb column 341 inside, lt-ltb row 256 within)))

marked-inside : (column row : ℕ) → marks column row ≡ true → IsInRectangle (pos 0) (pos 0) column row
marked-inside column row marked =
    let parts = and_parts (nat_lt column 341) (nat_lt row 256) marked in
    let c = ltb-true column 341 parts.0 in
    let r = ltb-true row 256 parts.1 in
    record { right_of = omega (arith, ints); left_of = omega (arith, ints); below = omega (arith, ints); above = omega (arith, ints) }

pub blinking-bad : BlinkingIsBad
blinking-bad = record {
  valid = blinking-valid;
  bad = λ run exact. record {
    marks = marks;
    flagged = λ column row marked. flagged run exact column row;
    inside = marked-inside;
    many = rw marks-all (omega arith);
  };
}
