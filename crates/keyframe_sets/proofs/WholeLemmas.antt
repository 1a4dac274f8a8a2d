-- The interval among the stops with the element's own value added at 0% and 100%, told by the stops alone.
use Rattle.std.proofs.Common.{Bool, true, false, cond, Some, List, [], ◌∷◌, ◌++◌, ◌≡◌, ◌==◌, option_map, option_and_then, unwrap_or, refl, ap, ◌∙◌, arith, filter, append-nil, inl, inr}
use Rattle.std.specs.List.{list_any}
use Rattle.std.proofs.lemmas.Bool.{cases_Bool}
use Rattle.std.proofs.lemmas.Bool.Decides.{nat_tests}
use Rattle.std.proofs.lemmas.List.Elements.{filter-append}
use Rattle.page_model.specs.declared.property.Value.{Value}
use Rattle.page_model.specs.declared.easing.Easing.{Easing}
use Rattle.page_model.specs.Fraction.{Fraction}
use Rattle.page_model.specs.Keyframes.{Stop, first_of, last_of, has_stop_at, added_at, whole, is_reached, interval_between, interval_in}
use Rattle.keyframe_sets.specs.Around.{is_ahead}
use Rattle.keyframe_sets.specs.Ends.{start, finish}
use Rattle.keyframe_sets.proofs.StopLemmas.{last_of-cons, first_of-append}

-- a stop at 0% is reached, and one at 100% never
is_reached-zero : (at : Fraction) (stop : Stop) → (stop.offset == 0) ≡ true → is_reached at stop ≡ true
is_reached-zero at stop e = grind (arith, nat_tests)

is_ahead-whole : (at : Fraction) (stop : Stop) → (stop.offset == 10000) ≡ true → is_ahead at stop ≡ true
is_ahead-whole at stop e = grind (arith, nat_tests)

-- a list equal to one with a first has that first
same_front : {X : Type 0} (xs ys : List X) → xs ≡ ys → ((y : X) × ((zs : List X) × (ys ≡ y ∷ zs))) → (y : X) × ((zs : List X) × (xs ≡ y ∷ zs))
same_front xs ys e (y, (zs, is)) = (y, (zs, e ∙ is))

-- what a test keeps has a first where some item passes another test that is stricter
filter_some : {X : Type 0} (p q : X → Bool) → ((x : X) → q x ≡ true → p x ≡ true) → (xs : List X) → list_any q xs ≡ true
    → (y : X) × ((ys : List X) × (filter p xs ≡ y ∷ ys))
filter_some p q stricter [] e = cc
filter_some {X = X} p q stricter (x ∷ xs) e =
    elim (cases_Bool (p x)) [
      | inl kept ↦ (x, (filter p xs, rw kept refl))
      | inr left_out ↦ elim (cases_Bool (q x)) [
        | inl passes ↦ absurd (cc (stricter x passes))
        | inr fails ↦
            let rest : list_any q xs ≡ true = rw fails at e in
            same_front (cond (p x) (x ∷ filter p xs) (filter p xs)) (filter p xs) (rw left_out refl) (filter_some p q stricter xs rest)
      ]
    ]

some_last : {X : Type 0} (zs : List X) (d : X) → ((y : X) × ((ys : List X) × (zs ≡ y ∷ ys))) → last_of zs ≡ Some (unwrap_or (last_of zs) d)
some_last zs d (y, (ys, e)) = rw e (rw (last_of-cons y ys) refl)

some_first : {X : Type 0} (zs : List X) (d : X) → ((y : X) × ((ys : List X) × (zs ≡ y ∷ ys))) → first_of zs ≡ Some (unwrap_or (first_of zs) d)
some_first zs d (y, (ys, e)) = rw e refl

-- the added stops: the one at 0% is reached, the one at 100% is ahead
finish-reached : (at : Fraction) (own : Value) (b : Bool) → filter (is_reached at) (cond b [] (finish own ∷ [])) ≡ []
finish-reached at own true = refl
finish-reached at own false = refl

start-ahead : (at : Fraction) (own : Value) (b : Bool) → filter (is_ahead at) (cond b [] (start own ∷ [])) ≡ []
start-ahead at own true = refl
start-ahead at own false = rw (is_reached-zero at (start own) refl) refl

last_reached : (at : Fraction) (own : Value) (stops : List Stop) (b : Bool) → has_stop_at 0 stops ≡ b
    → last_of (filter (is_reached at) (cond b [] (start own ∷ [])) ++ filter (is_reached at) stops)
    ≡ Some (unwrap_or (last_of (filter (is_reached at) stops)) (start own))
last_reached at own stops true e =
    some_last (filter (is_reached at) stops) (start own) (filter_some (is_reached at) (λ stop. stop.offset == 0) (is_reached-zero at) stops e)
last_reached at own stops false e =
    rw (is_reached-zero at (start own) refl) (last_of-cons (start own) (filter (is_reached at) stops))

first_ahead : (at : Fraction) (own : Value) (stops : List Stop) (b : Bool) → has_stop_at 10000 stops ≡ b
    → first_of (filter (is_ahead at) stops ++ filter (is_ahead at) (cond b [] (finish own ∷ [])))
    ≡ Some (unwrap_or (first_of (filter (is_ahead at) stops)) (finish own))
first_ahead at own stops true e =
    ap first_of (append-nil (filter (is_ahead at) stops))
    ∙ some_first (filter (is_ahead at) stops) (finish own) (filter_some (is_ahead at) (λ stop. stop.offset == 10000) (is_ahead-whole at) stops e)
first_ahead at own stops false e = first_of-append (filter (is_ahead at) stops) (finish own)

-- the last that is reached and the first ahead among the stops with the added ones
pub last_of-whole : (at : Fraction) (own : Value) (stops : List Stop)
    → last_of (filter (is_reached at) (whole own stops)) ≡ Some (unwrap_or (last_of (filter (is_reached at) stops)) (start own))
last_of-whole at own stops =
    ap last_of (
    filter-append (is_reached at) (added_at 0 own stops) (stops ++ added_at 10000 own stops)
    ∙ ap (λ zs. filter (is_reached at) (added_at 0 own stops) ++ zs) (
    filter-append (is_reached at) stops (added_at 10000 own stops)
    ∙ ap (λ zs. filter (is_reached at) stops ++ zs) (finish-reached at own (has_stop_at 10000 stops))
    ∙ append-nil (filter (is_reached at) stops)))
    ∙ last_reached at own stops (has_stop_at 0 stops) refl

pub first_of-whole : (at : Fraction) (own : Value) (stops : List Stop)
    → first_of (filter (is_ahead at) (whole own stops)) ≡ Some (unwrap_or (first_of (filter (is_ahead at) stops)) (finish own))
first_of-whole at own stops =
    ap first_of (
    filter-append (is_ahead at) (added_at 0 own stops) (stops ++ added_at 10000 own stops)
    ∙ ap (λ zs. zs ++ filter (is_ahead at) (stops ++ added_at 10000 own stops)) (start-ahead at own (has_stop_at 0 stops))
    ∙ filter-append (is_ahead at) stops (added_at 10000 own stops))
    ∙ first_ahead at own stops (has_stop_at 10000 stops) refl

-- the interval among them
pub interval_in-whole : (easing : Easing) (at : Fraction) (own : Value) (stops : List Stop)
    → interval_in easing at (whole own stops)
    ≡ Some (interval_between easing at (unwrap_or (last_of (filter (is_reached at) stops)) (start own))
    (unwrap_or (first_of (filter (is_ahead at) stops)) (finish own)))
interval_in-whole easing at own stops =
    ap (option_and_then (λ first. option_map (interval_between easing at first) (first_of (filter (is_ahead at) (whole own stops))))) (last_of-whole at own stops)
    ∙ ap (option_map (interval_between easing at (unwrap_or (last_of (filter (is_reached at) stops)) (start own)))) (first_of-whole at own stops)
