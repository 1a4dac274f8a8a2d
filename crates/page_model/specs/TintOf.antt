-- The tint of a pixel: the least and the greatest colour that it may have, channel by channel, where the states of the layers
-- are known loosely. Body and boxes are painted as in `Colour`, over both ends of source, combined alpha and backdrop; where a box
-- may or may not be shown there, the tint holds what is there with it and without it. This is the project's own.
use Rattle.std.specs.Prelude.{ℕ, pos, Some, ◌≡◌, ◌+◌, ◌≤◌, min, max, ◌+ℤ◌, fold, slice_get, is_some, int_le, int_lt, if◌then◌else◌}
use Rattle.page_model.specs.declared.setup.Setup.{Setup}
use Rattle.page_model.specs.declared.colour.Rgb.{Rgb}
use Rattle.page_model.specs.declared.colour.Tint.{Tint}
use Rattle.page_model.specs.declared.scene.Layer.{Layer}
use Rattle.page_model.specs.declared.scene.Scene.{Scene}
use Rattle.page_model.specs.Colour.{blended, combined, body_colour}
use Rattle.page_model.specs.Enclosure.{Kind, Loose, LooseState, LooseRun, Sureness, surely, surely_not, maybe, IsLooseStateAt}
use Rattle.page_model.specs.Progress.{above_zero}
use Rattle.page_model.specs.Red.{white}
use Rattle.page_model.specs.Time.{window_of}

-- how surely both of two things are so
abbrev pub both : Sureness → Sureness → Sureness
both surely other = other
both surely_not other = surely_not
both maybe surely = maybe
both maybe surely_not = surely_not
both maybe maybe = maybe

-- how surely a box from a loose edge spans a column, or a row
abbrev pub spans_surely : Loose → Loose → ℕ → Sureness
spans_surely from size at =
    if int_lt (pos at) from.lo then surely_not
    else (if int_le (from.hi +ℤ size.hi) (pos at) then surely_not
    else (if int_le from.hi (pos at) then (if int_lt (pos at) (from.lo +ℤ size.lo) then surely else maybe) else maybe))

-- how surely a state covers a pixel
abbrev pub covers_surely : LooseState → ℕ → ℕ → Sureness
covers_surely state column row = both (spans_surely state.left state.width column) (spans_surely state.top state.height row)

-- the least and the greatest of a channel: two numbers, the first of which is at most the second
pub record Span : Type 0 where
  pub lo : ℕ
  pub hi : ℕ

-- the least and the greatest channel of blending, over the two ends of source, alpha and backdrop
abbrev pub least_of : ℕ → ℕ → ℕ → ℕ → ℕ
least_of a b c d = min (min a b) (min c d)

abbrev pub greatest_of : ℕ → ℕ → ℕ → ℕ → ℕ
greatest_of a b c d = max (max a b) (max c d)

abbrev pub blended_at : Span → ℕ → Span → Span
blended_at source alpha backdrop = record {
  lo = least_of (blended source.lo alpha backdrop.lo) (blended source.lo alpha backdrop.hi)
      (blended source.hi alpha backdrop.lo) (blended source.hi alpha backdrop.hi);
  hi = greatest_of (blended source.lo alpha backdrop.lo) (blended source.lo alpha backdrop.hi)
      (blended source.hi alpha backdrop.lo) (blended source.hi alpha backdrop.hi);
}

-- two spans, and all that lies between them
abbrev pub hull : Span → Span → Span
hull a b = record { lo = min a.lo b.lo; hi = max a.hi b.hi }

abbrev pub blended_span : Span → Span → Span → Span
blended_span source alpha backdrop = hull (blended_at source alpha.lo backdrop) (blended_at source alpha.hi backdrop)

-- a loose channel as a span
abbrev pub span_of : Loose → Span
span_of loose = record { lo = above_zero loose.lo; hi = above_zero loose.hi }

abbrev pub tint_by : Span → Span → Span → Tint
tint_by red green blue = record {
  lo = record { r = red.lo; g = green.lo; b = blue.lo };
  hi = record { r = red.hi; g = green.hi; b = blue.hi };
}

-- the spans of a tint's channels
abbrev pub red_span : Tint → Span
red_span tint = record { lo = tint.lo.r; hi = tint.hi.r }

abbrev pub green_span : Tint → Span
green_span tint = record { lo = tint.lo.g; hi = tint.hi.g }

abbrev pub blue_span : Tint → Span
blue_span tint = record { lo = tint.lo.b; hi = tint.hi.b }

-- the ends of cover and alpha together
abbrev pub combined_span : Span → Span → Span
combined_span cover alpha = record { lo = combined cover.lo alpha.lo; hi = combined cover.hi alpha.hi }

-- a state's colour painted over a tint, by a combined alpha
abbrev pub tint_by_alpha : LooseState → Span → Tint → Tint
tint_by_alpha state alpha backdrop =
    tint_by (blended_span (span_of state.red) alpha (red_span backdrop))
    (blended_span (span_of state.green) alpha (green_span backdrop))
    (blended_span (span_of state.blue) alpha (blue_span backdrop))

-- a state painted over a tint, by an alpha beside the colour's own cover
abbrev pub tint_over : LooseState → Span → Tint → Tint
tint_over state alpha backdrop = tint_by_alpha state (combined_span (span_of state.cover) alpha) backdrop

abbrev pub tint_hull : Tint → Tint → Tint
tint_hull a b =
    tint_by (hull (red_span a) (red_span b)) (hull (green_span a) (green_span b)) (hull (blue_span a) (blue_span b))

-- the tint after a box is painted where it surely is, surely isn't or maybe is
abbrev pub painted_where : Sureness → Tint → Tint → Tint
painted_where surely above backdrop = above
painted_where surely_not above backdrop = backdrop
painted_where maybe above backdrop = tint_hull above backdrop

abbrev pub tint_box : (ℕ → LooseState) → ℕ → ℕ → Tint → ℕ → Tint
tint_box states column row backdrop box =
    painted_where (both (states box).shown (covers_surely (states box) column row))
    (tint_over (states box) (span_of (states box).alpha) backdrop) backdrop

-- one colour as a tint
abbrev pub single : Rgb → Tint
single colour = record { lo = colour; hi = colour }

abbrev pub full_alpha : Span
full_alpha = record { lo = 255; hi = 255 }

-- the tint before any box is painted: the body's over white where it has a colour, whatever its opacity and whether it is shown
abbrev pub tint_ground : Scene → (ℕ → LooseState) → Tint
tint_ground scene states =
    if is_some (body_colour scene) then tint_over (states 0) full_alpha (single white) else single white

-- the tint of a pixel, by the states of the layers
abbrev pub tint_of : Scene → (ℕ → LooseState) → ℕ → ℕ → Tint
tint_of scene states column row = fold (tint_box states column row) (tint_ground scene states) scene.order

-- a run has the states of all layers by a kind, in the frames of a window
abbrev pub IsLooseRunIn : Kind → Scene → Setup → ℕ → LooseRun → Type 0
IsLooseRunIn kind scene setup start run =
    (frame number : ℕ) (layer : Layer) → start ≤ frame → frame ≤ start + window_of setup
    → slice_get scene.layers number ≡ Some layer → IsLooseStateAt kind scene setup frame layer (run frame number)

-- the tints of a loose run
abbrev pub tints_of : Scene → LooseRun → ℕ → ℕ → ℕ → Tint
tints_of scene run frame column row = tint_of scene (run frame) column row
