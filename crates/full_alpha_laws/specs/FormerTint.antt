-- The former text of a pixel's tint.
use Rattle.std.specs.Prelude.{ℕ, fold, is_some, if◌then◌else◌}
use Rattle.page_model.specs.declared.colour.Tint.{Tint}
use Rattle.page_model.specs.declared.scene.Scene.{Scene}
use Rattle.page_model.specs.Colour.{body_colour}
use Rattle.page_model.specs.Enclosure.{LooseState}
use Rattle.page_model.specs.Red.{white}
use Rattle.page_model.specs.TintOf.{blended_span, blue_span, both, covers_surely, green_span, painted_where, red_span, single, span_of, tint_by}

abbrev pub former_tint_over : LooseState → Tint → Tint
former_tint_over state backdrop =
    tint_by (blended_span (span_of state.red) (span_of state.alpha) (red_span backdrop))
    (blended_span (span_of state.green) (span_of state.alpha) (green_span backdrop))
    (blended_span (span_of state.blue) (span_of state.alpha) (blue_span backdrop))

abbrev pub former_tint_box : (ℕ → LooseState) → ℕ → ℕ → Tint → ℕ → Tint
former_tint_box states column row backdrop box =
    painted_where (both (states box).shown (covers_surely (states box) column row)) (former_tint_over (states box) backdrop) backdrop

abbrev pub former_tint_ground : Scene → (ℕ → LooseState) → Tint
former_tint_ground scene states =
    if is_some (body_colour scene)
    then tint_by (span_of (states 0).red) (span_of (states 0).green) (span_of (states 0).blue)
    else single white

abbrev pub former_tint_of : Scene → (ℕ → LooseState) → ℕ → ℕ → Tint
former_tint_of scene states column row = fold (former_tint_box states column row) (former_tint_ground scene states) scene.order
