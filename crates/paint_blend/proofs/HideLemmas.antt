-- What lies under an opaque box isn't seen, so painting may begin at it.
use Rattle.std.proofs.Common.{◌≡◌, ℕ, zero, suc, List, ◌+◌, ◌-◌, ◌≤◌, take, drop, get_or, length, arith, refl, sym, ap, ◌∙◌, subst, ◌<◌}
use Rattle.std.specs.Prelude.{ℤ, pos, negsuc, ◌≤ℤ◌, fold, max, min}
use Rattle.std.proofs.lemmas.Int.{ints}
use Rattle.std.proofs.lemmas.List.{drop-take, take-append-drop, take-take, take_all}
use Rattle.std.proofs.lemmas.List.Sums.{fold-append, fold_more}
use Rattle.page_model.specs.declared.colour.Tint.{Tint}
use Rattle.page_model.specs.Colour.{blended}
use Rattle.page_model.specs.Enclosure.{Loose, LooseState}
use Rattle.page_model.specs.Progress.{above_zero}
use Rattle.page_model.specs.TintOf.{Span, blended_span, blue_span, combined_span, full_alpha, green_span, painted_where, red_span, span_of, tint_box, tint_by, tint_by_alpha, tint_over}
use Rattle.frame_state.specs.declared.types.LayerState.{LayerState}
use Rattle.frame_state.specs.States.{IsInSlot, IsInSlots, eight_bits, state_as, states_as}
use Rattle.frame_state.proofs.ListLemmas.{states_as-there}
use Rattle.wide_laws.proofs.PaintLemmas.{blend-ends}
use Rattle.paint_blend.specs.Paint.{AreReadyBoxes, OpaqueHides, own_tint}
use Rattle.paint_blend.specs.declared.topmost.Seen.{Seen}
use Rattle.paint_blend.specs.Seen.{AreMissed, BeginsAt, IsSeen}

-- a number whose lower end is the greatest is the greatest at both ends
whole-full : (loose : Loose) → IsInSlot eight_bits loose → loose.lo ≡ pos 255 → span_of loose ≡ full_alpha
whole-full loose is least =
    let greatest : loose.hi ≡ pos 255 = let order = is.in_order in let top = is.at_most in omega (arith, ints) in
    rw (least, greatest) refl

-- a channel's ends are in order
channel-order : (loose : Loose) → IsInSlot eight_bits loose → above_zero loose.lo ≤ above_zero loose.hi
channel-order loose is = ends loose.lo loose.hi is.at_least is.in_order where
  ends : (least greatest : ℤ) → pos 0 ≤ℤ least → least ≤ℤ greatest → above_zero least ≤ above_zero greatest
  ends (pos a) (pos b) low order = omega (arith, ints, order)
  ends (pos a) (negsuc b) low order = absurd (omega (arith, ints, order))
  ends (negsuc a) greatest low order = absurd (omega (arith, ints, low))

least-of-two : (a b : ℕ) → a ≤ b → min (min (min a a) (min b b)) (min (min a a) (min b b)) ≡ a
least-of-two a b order = omega arith

greatest-of-two : (a b : ℕ) → a ≤ b → max (max (max a a) (max b b)) (max (max a a) (max b b)) ≡ b
greatest-of-two a b order = omega arith

-- a span by the greatest alpha is left as it is
span-opaque : (source backdrop : Span) → source.lo ≤ source.hi → blended_span source full_alpha backdrop ≡ source
span-opaque source backdrop order = λ i. record { lo = least i; hi = greatest i } where
  under : (s d : ℕ) → blended s 255 d ≡ s
  under s d = blend-ends.opaque s d

  least : (blended_span source full_alpha backdrop).lo ≡ source.lo
  least =
      rw (under source.lo backdrop.lo, under source.lo backdrop.hi, under source.hi backdrop.lo, under source.hi backdrop.hi)
      (least-of-two source.lo source.hi order)

  greatest : (blended_span source full_alpha backdrop).hi ≡ source.hi
  greatest =
      rw (under source.lo backdrop.lo, under source.lo backdrop.hi, under source.hi backdrop.lo, under source.hi backdrop.hi)
      (greatest-of-two source.lo source.hi order)

-- cover and alpha together are the greatest
combined-full : (state : LooseState) → IsInSlots state → state.cover.lo ≡ pos 255 → state.alpha.lo ≡ pos 255
    → combined_span (span_of state.cover) (span_of state.alpha) ≡ full_alpha
combined-full state is cover alpha =
    ap (λ span. combined_span span (span_of state.alpha)) (whole-full state.cover is.cover cover)
    ∙ ap (combined_span full_alpha) (whole-full state.alpha is.alpha alpha)

over-opaque : (state : LooseState) (backdrop : Tint) → IsInSlots state → tint_by_alpha state full_alpha backdrop ≡ own_tint state
over-opaque state backdrop is =
    let red = span-opaque (span_of state.red) (red_span backdrop) (channel-order state.red is.red) in
    let green = span-opaque (span_of state.green) (green_span backdrop) (channel-order state.green is.green) in
    let blue = span-opaque (span_of state.blue) (blue_span backdrop) (channel-order state.blue is.blue) in
    λ i. tint_by (red i) (green i) (blue i)

pub opaque_hides : (state : LooseState) → IsInSlots state → OpaqueHides state
opaque_hides state is column row backdrop hides =
    ap (λ shown. painted_where shown (tint_over state (span_of state.alpha) backdrop) backdrop) hides.is_there
    ∙ ap (λ alpha. tint_by_alpha state alpha backdrop) (combined-full state is hides.cover hides.alpha)
    ∙ over-opaque state backdrop is

-- the boxes at these places are missed, so they change nothing
fold-missed : (states : List LayerState) (column row : ℕ) (boxes : List ℕ) (under : Tint) (first more : ℕ) → first + more ≤ length boxes
    → AreMissed states boxes column row first (first + more)
    → fold (tint_box (states_as states) column row) under (take (first + more) boxes)
    ≡ fold (tint_box (states_as states) column row) under (take first boxes)
fold-missed states column row boxes under first zero within missed =
    ap (λ n. fold (tint_box (states_as states) column row) under (take n boxes)) (omega arith)
fold-missed states column row boxes under first (suc more) within missed =
    let painted = tint_box (states_as states) column row in
    let before = fold painted under (take (first + more) boxes) in
    let number : ℕ = get_or boxes (first + more) 0 in
    let state = states_as states number in
    ap (λ n. fold painted under (take n boxes)) (omega arith)
    ∙ fold_more painted under boxes (first + more) 0 (omega arith)
    ∙ ap (λ shown. painted_where shown (tint_over state (span_of state.alpha) before) before)
    (missed (first + more) (omega arith) (omega arith))
    ∙ fold-missed states column row boxes under first more (omega arith) (λ place from below. missed place from (omega arith))

-- what is painted below a place
abbrev below : List LayerState → ℕ → ℕ → List ℕ → Tint → ℕ → Tint
below states column row boxes under place = fold (tint_box (states_as states) column row) under (take place boxes)

-- from there up to a place behind which boxes are missed they give what all give
fold-on : (states : List LayerState) (column row : ℕ) (boxes rest : List ℕ) (under tint result : Tint) (first end : ℕ)
    → first ≤ end → end ≤ length boxes → AreMissed states boxes column row end (length boxes)
    → tint ≡ below states column row boxes under first → rest ≡ take (end - first) (drop first boxes)
    → result ≡ fold (tint_box (states_as states) column row) tint rest
    → result ≡ fold (tint_box (states_as states) column row) under boxes
fold-on states column row boxes rest under tint result first end order inside missed is rest_is painted =
    let next = tint_box (states_as states) column row in
    let more : ℕ = length boxes - end in
    let upto : end + more ≡ length boxes = omega (arith, inside) in
    let last : first + (end - first) ≡ end = omega (arith, order) in
    let part = drop-take first (end - first) boxes in
    painted
    ∙ ap (fold next tint) (rest_is ∙ sym part ∙ ap (λ n. drop first (take n boxes)) last)
    ∙ ap (λ before. fold next before (drop first (take end boxes))) (is ∙ ap (fold next under) (sym (take-take first end boxes order)))
    ∙ sym (fold-append next under (take first (take end boxes)) (drop first (take end boxes)))
    ∙ ap (fold next under) (take-append-drop first (take end boxes))
    ∙ sym (fold-missed states column row boxes under end more (omega (arith, upto)) (λ k from before. missed k from (omega (arith, upto))))
    ∙ ap (fold next under) (take_all (end + more) boxes (omega (arith, upto)))

-- where all boxes are painted but those that are missed
pub seen-from_ground : (states : List LayerState) (column row : ℕ) (boxes rest : List ℕ) (seen : Seen) (under result : Tint)
    → IsSeen states boxes column row seen → AreMissed states boxes column row 0 seen.first
    → rest ≡ take (seen.end - seen.first) (drop seen.first boxes)
    → result ≡ fold (tint_box (states_as states) column row) under rest
    → result ≡ fold (tint_box (states_as states) column row) under boxes
seen-from_ground states column row boxes rest seen under result is missed rest_is painted =
    let same : seen.first ≡ 0 + seen.first = omega arith in
    let kept = fold-missed states column row boxes under 0 seen.first (omega (arith, is.order, is.inside))
    (λ place from before. missed place from (omega arith)) in
    fold-on states column row boxes rest under under result seen.first seen.end is.order is.inside is.missed
    (sym (ap (below states column row boxes under) same ∙ kept)) rest_is painted

-- where one hides what lies under it
pub seen-from_box : (states : List LayerState) (column row : ℕ) (boxes rest : List ℕ) (seen : Seen) (place : ℕ) (d : LayerState)
    (under tint result : Tint) → AreReadyBoxes states boxes → IsSeen states boxes column row seen
    → BeginsAt states boxes column row place seen.first
    → OpaqueHides (state_as (get_or states (get_or boxes place 0) d))
    → tint ≡ own_tint (state_as (get_or states (get_or boxes place 0) d))
    → rest ≡ take (seen.end - seen.first) (drop seen.first boxes)
    → result ≡ fold (tint_box (states_as states) column row) tint rest
    → result ≡ fold (tint_box (states_as states) column row) under boxes
seen-from_box states column row boxes rest seen place d under tint result ready is begins law own rest_is painted =
    let within : place < length boxes = omega (arith, begins.before, is.order, is.inside) in
    let same = sym (states_as-there states (get_or boxes place 0) d (ready place 0 within).there) in
    let next = tint_box (states_as states) column row in
    let more : ℕ = seen.first - (place + 1) in
    let upto : place + 1 + more ≡ seen.first = let before = begins.before in omega arith in
    let hidden = subst OpaqueHides same law column row (fold next under (take place boxes)) begins.hides in
    let kept = fold-missed states column row boxes under (place + 1) more (omega (arith, upto, is.order, is.inside))
    (λ k from before. begins.missed k from (omega (arith, upto))) in
    fold-on states column row boxes rest under tint result seen.first seen.end is.order is.inside is.missed
    (own ∙ ap own_tint same ∙ sym hidden ∙ sym (fold_more next under boxes place 0 within) ∙ sym kept
    ∙ ap (below states column row boxes under) upto)
    rest_is painted
