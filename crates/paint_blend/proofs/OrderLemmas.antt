-- Each tint has its ends in order: blending and hulls take the least and the greatest of the same numbers.
use Rattle.std.proofs.Common.{ℕ, ◌≤◌, Bool, true, false, List, [], ◌∷◌, if◌then◌else◌, arith}
use Rattle.std.specs.Prelude.{fold, is_some, max, min}
use Rattle.page_model.specs.declared.colour.Tint.{Tint}
use Rattle.page_model.specs.declared.scene.Scene.{Scene}
use Rattle.page_model.specs.Colour.{blended, body_colour}
use Rattle.page_model.specs.Enclosure.{LooseState, Sureness, surely, surely_not, maybe}
use Rattle.page_model.specs.Red.{white}
use Rattle.page_model.specs.TintOf.{Span, blended_at, blended_span, blue_span, both, covers_surely, full_alpha, green_span, hull, painted_where, red_span, single, span_of, tint_box, tint_ground, tint_of, tint_over}
use Rattle.paint_blend.specs.Paint.{IsOrdered}

abbrev IsInOrder : Span → Type 0
IsInOrder span = span.lo ≤ span.hi

-- of four numbers
ends-ordered : (a b c d : ℕ) → min (min a b) (min c d) ≤ max (max a b) (max c d)
ends-ordered a b c d = omega arith

hull-ordered : (a b : Span) → IsInOrder a → IsInOrder (hull a b)
hull-ordered a b first = omega (arith, first)

blended_at-ordered : (source : Span) (alpha : ℕ) (backdrop : Span) → IsInOrder (blended_at source alpha backdrop)
blended_at-ordered source alpha backdrop =
    ends-ordered (blended source.lo alpha backdrop.lo) (blended source.lo alpha backdrop.hi)
    (blended source.hi alpha backdrop.lo) (blended source.hi alpha backdrop.hi)

blended_span-ordered : (source alpha backdrop : Span) → IsInOrder (blended_span source alpha backdrop)
blended_span-ordered source alpha backdrop =
    hull-ordered (blended_at source alpha.lo backdrop) (blended_at source alpha.hi backdrop) (blended_at-ordered source alpha.lo backdrop)

over-ordered : (state : LooseState) (alpha : Span) (backdrop : Tint) → IsOrdered (tint_over state alpha backdrop)
over-ordered state alpha backdrop = record {
  red = blended_span-ordered _ _ _;
  green = blended_span-ordered _ _ _;
  blue = blended_span-ordered _ _ _;
}

where-ordered : (shown : Sureness) (above backdrop : Tint) → IsOrdered above → IsOrdered backdrop → IsOrdered (painted_where shown above backdrop)
where-ordered surely above backdrop first second = first
where-ordered surely_not above backdrop first second = second
where-ordered maybe above backdrop first second = record {
  red = hull-ordered (red_span above) (red_span backdrop) first.red;
  green = hull-ordered (green_span above) (green_span backdrop) first.green;
  blue = hull-ordered (blue_span above) (blue_span backdrop) first.blue;
}

boxes-ordered : (states : ℕ → LooseState) (column row : ℕ) (order : List ℕ) (tint : Tint) → IsOrdered tint
    → IsOrdered (fold (tint_box states column row) tint order)
boxes-ordered states column row [] tint is = is
boxes-ordered states column row (number ∷ rest) tint is =
    boxes-ordered states column row rest (tint_box states column row tint number)
    (where-ordered (both (states number).shown (covers_surely (states number) column row))
    (tint_over (states number) (span_of (states number).alpha) tint) tint
    (over-ordered (states number) (span_of (states number).alpha) tint) is)

white-ordered : IsOrdered (single white)
white-ordered = record { red = omega arith; green = omega arith; blue = omega arith }

ground-ordered : (coloured : Bool) (tint : Tint) → IsOrdered tint → IsOrdered (if coloured then tint else single white)
ground-ordered true tint is = is
ground-ordered false tint is = white-ordered

pub tint_of-ordered : (scene : Scene) (states : ℕ → LooseState) (column row : ℕ) → IsOrdered (tint_of scene states column row)
tint_of-ordered scene states column row =
    boxes-ordered states column row scene.order (tint_ground scene states)
    (ground-ordered (is_some (body_colour scene)) (tint_over (states 0) full_alpha (single white))
    (over-ordered (states 0) full_alpha (single white)))
