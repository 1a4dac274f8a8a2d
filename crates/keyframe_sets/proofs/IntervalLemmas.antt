-- The interval of a property that a set names, from the stops next to the progress.
use Rattle.std.proofs.Common.{ℕ, Bool, true, false, ◌||◌, Option, Some, None, List, [], ◌∷◌, ◌≡◌, length, nat_lt, is_some, option_map, unwrap_or, refl, sym, ap, ◌∙◌, filter, inl, inr, suc, arith}
use Rattle.std.proofs.lemmas.Bool.{cases_Bool}
use Rattle.std.proofs.lemmas.Bool.Decides.{nat_tests}
use Rattle.page_model.specs.declared.easing.Easing.{Easing}
use Rattle.page_model.specs.declared.keyframe.Keyframe.{Keyframe}
use Rattle.page_model.specs.declared.property.Prop.{Prop}
use Rattle.page_model.specs.declared.property.Value.{Value}
use Rattle.page_model.specs.Fraction.{Fraction}
use Rattle.page_model.specs.Keyframes as definition
use Rattle.keyframe_sets.specs.declared.around.Around.{Around}
use Rattle.keyframe_sets.specs.Around.{IsAround, is_ahead}
use Rattle.keyframe_sets.specs.Ends.{start, finish}
use Rattle.keyframe_sets.specs.Views.{stop_as}
use Rattle.keyframe_sets.proofs.StopLemmas.{last_of-cons}
use Rattle.keyframe_sets.proofs.WholeLemmas.{interval_in-whole}

or_true : (b : Bool) → (b || true) ≡ true
or_true true = refl
or_true false = refl

some_below : (n : ℕ) → nat_lt 0 (suc n) ≡ true
some_below n = grind (arith, nat_tests)

is_some-mapped : {X Y : Type 0} (f : X → Y) (o : Option X) → is_some (option_map f o) ≡ is_some o
is_some-mapped f None = refl
is_some-mapped f (Some x) = refl

-- some stop is reached or ahead exactly where there are stops
some_side : (at : Fraction) (stops : List definition.Stop)
    → (is_some (definition.last_of (filter (definition.is_reached at) stops)) || is_some (definition.first_of (filter (is_ahead at) stops)))
    ≡ nat_lt 0 (length stops)
some_side at [] = refl
some_side at (stop ∷ stops) =
    elim (cases_Bool (definition.is_reached at stop)) [
      | inl reached ↦ rw (reached, last_of-cons stop (filter (definition.is_reached at) stops), some_below (length stops)) refl
      | inr ahead ↦ rw (ahead, some_below (length stops)) (or_true (is_some (definition.last_of (filter (definition.is_reached at) stops))))
    ]

pub has_side : (at : Fraction) (stops : List definition.Stop) (around : Around) → IsAround at stops around
    → (is_some around.reached || is_some around.ahead) ≡ nat_lt 0 (length stops)
has_side at stops around h =
    ap (λ b. b || is_some around.ahead) (sym (is_some-mapped stop_as around.reached) ∙ ap is_some h.reached)
    ∙ ap (λ b. is_some (definition.last_of (filter (definition.is_reached at) stops)) || b) (sym (is_some-mapped stop_as around.ahead) ∙ ap is_some h.ahead)
    ∙ some_side at stops

pub interval_of-named : (frames : List Keyframe) (prop : Prop) (own : Value) (easing : Easing) (at : Fraction) (around : Around)
    (first second : definition.Stop) → definition.names prop frames ≡ true → IsAround at (definition.stops_of prop frames) around
    → first ≡ unwrap_or (option_map stop_as around.reached) (start own)
    → second ≡ unwrap_or (option_map stop_as around.ahead) (finish own)
    → definition.interval_of frames prop own easing at ≡ Some (definition.interval_between easing at first second)
interval_of-named frames prop own easing at around first second named h first_is second_is =
    rw named (
    interval_in-whole easing at own (definition.stops_of prop frames)
    ∙ sym (ap (λ stop. Some (definition.interval_between easing at first stop)) (second_is ∙ ap (λ o. unwrap_or o (finish own)) h.ahead)
    ∙ ap (λ stop. Some (definition.interval_between easing at stop (unwrap_or (definition.first_of (filter (is_ahead at) (definition.stops_of prop frames))) (finish own))))
    (first_is ∙ ap (λ o. unwrap_or o (start own)) h.reached)))
