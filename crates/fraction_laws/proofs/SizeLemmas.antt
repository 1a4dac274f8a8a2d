-- How large the denominators of a progress and of a distance may be.
use Rattle.std.proofs.Common.{ℕ, ◌-◌, ◌*◌, ◌/◌, ◌≤◌, Bool, true, false, not, ◌&&◌, List, [], ◌∷◌, ◌++◌, All, None, filter, nat_eq, if◌then◌else◌, arith, subst, inl, inr, eq-eqb, ne_eqb, mul-le-mul, mul-le-mul_right}
use Rattle.std.proofs.lemmas.Bool.{cases_eq}
use Rattle.std.proofs.lemmas.List.Elements.{All-append, All-cons, All-filter, All-nil}
use Rattle.page_model.specs.declared.animation.Anim.{Anim}
use Rattle.page_model.specs.declared.animation.Count.{Count}
use Rattle.page_model.specs.declared.animation.Count.TheVariants.{Times, Infinite}
use Rattle.page_model.specs.declared.property.Value.{Value}
use Rattle.page_model.specs.declared.setup.Setup.{Setup}
use Rattle.page_model.specs.Fraction.{Fraction, one_of_one}
use Rattle.page_model.specs.Keyframes.{Interval, Stop, added_at, has_stop_at, is_reached, stops_of, whole}
use Rattle.page_model.specs.Progress.{Iterations, Phase, active, active_duration_of, active_time_of, after, before, current_turn, duration_of, is_at_end, overall_at_once, overall_in_time, overall_progress, phase_of, progress_in, remainder_of, runs_backwards, simple_progress}
use Rattle.fraction_laws.specs.FractionLaws.{DistanceIsSmall, ProgressIsSmall}
use Rattle.fraction_laws.proofs.FractionLemmas.{interval-found}
use Rattle.fraction_laws.proofs.ListLemmas.{All-slice_get, mapped_some}
use Rattle.fraction_laws.proofs.StopLemmas.{stops-within}

-- the denominator is 1, 1000 or the duration in thousands of the unit
at_once-small : (limit : ℕ) (phase : Phase) (count : Count) → 1000 ≤ limit → (remainder_of (overall_at_once phase count)).den ≤ limit
at_once-small limit before count h = omega arith
at_once-small limit active (Times thousandths) h = h
at_once-small limit active Infinite h = omega arith
at_once-small limit after (Times thousandths) h = h
at_once-small limit after Infinite h = omega arith

in_time-small :
    (limit : ℕ) (phase : Phase) (count : Count) (duration time : ℕ) → 1000 ≤ limit → duration / 1000 ≤ limit
    → (remainder_of (overall_in_time phase count duration time)).den ≤ limit
in_time-small limit before count duration time h k = k
in_time-small limit active count duration time h k = k
in_time-small limit after count duration time h k = at_once-small limit after count h

overall-small : (limit : ℕ) (phase : Phase) (count : Count) (duration time : ℕ) → 1000 ≤ limit → duration / 1000 ≤ limit → (remainder_of (overall_progress phase count duration time)).den ≤ limit
overall-small limit phase count duration time h k =
    elim (cases_eq duration 0) [
      | inl e ↦ rw (eq-eqb duration 0 e) (at_once-small limit phase count h)
      | inr some ↦ rw (ne_eqb duration 0 some) (in_time-small limit phase count duration time h k)
    ]

chosen-small : (limit : ℕ) (test : Bool) (x y : Fraction) → x.den ≤ limit → y.den ≤ limit → (if test then x else y).den ≤ limit
chosen-small limit true x y first second = first
chosen-small limit false x y first second = second

progress_in-small : (limit : ℕ) (setup : Setup) (anim : Anim) (phase : Phase) (time : ℕ) → 1000 ≤ limit → duration_of setup anim / 1000 ≤ limit → (progress_in setup anim phase time).den ≤ limit
progress_in-small limit setup anim phase time h k =
    let overall : Iterations = overall_progress phase anim.count (duration_of setup anim) time in
    let at_end : Bool = is_at_end phase anim.count time (active_duration_of setup anim) in
    let rest : Fraction = remainder_of overall in
    let simple : Fraction = simple_progress rest at_end in
    let small : simple.den ≤ limit =
    chosen-small limit (nat_eq rest.num 0 && at_end) one_of_one rest (omega arith) (overall-small limit phase anim.count (duration_of setup anim) time h k) in
    chosen-small limit (runs_backwards anim.direction (current_turn phase anim.count overall simple))
    (record { num = simple.den - simple.num; den = simple.den }) simple small small

pub progress-small : ProgressIsSmall
progress-small setup sets anim frame x slow valid e =
    let found = mapped_some (λ time. progress_in setup anim (phase_of setup anim frame) time) (active_time_of setup anim frame) x e in
    let most = mul-le-mul valid.duration slow in
    subst (λ (y : Fraction). y.den ≤ 24000000000) found.2
    (progress_in-small 24000000000 setup anim (phase_of setup anim frame) found.0 (omega arith) (omega arith))

-- no stop is past 100%
added-within : (offset : ℕ) (own : Value) (stops : List Stop) → offset ≤ 10000 → All (λ (stop : Stop). stop.offset ≤ 10000) (added_at offset own stops)
added-within offset own stops within = chosen offset own (has_stop_at offset stops) within
  where
    chosen :
        (offset : ℕ) (own : Value) (there : Bool) → offset ≤ 10000
        → All (λ (stop : Stop). stop.offset ≤ 10000) (if there then [] else record { offset = offset; value = own; easing = None } ∷ [])
    chosen offset own true within = All-nil (λ (stop : Stop). stop.offset ≤ 10000)
    chosen offset own false within =
        All-cons (λ (stop : Stop). stop.offset ≤ 10000) (record { offset = offset; value = own; easing = None }) [] within
        (All-nil (λ (stop : Stop). stop.offset ≤ 10000))

whole-within : (own : Value) (stops : List Stop) → All (λ (stop : Stop). stop.offset ≤ 10000) stops → All (λ (stop : Stop). stop.offset ≤ 10000) (whole own stops)
whole-within own stops all =
    All-append (λ (stop : Stop). stop.offset ≤ 10000) (added_at 0 own stops) (stops ++ added_at 10000 own stops) (added-within 0 own stops (omega arith))
    (All-append (λ (stop : Stop). stop.offset ≤ 10000) stops (added_at 10000 own stops) all (added-within 10000 own stops (omega arith)))

pub distance-small : DistanceIsSmall
distance-small set prop own easing at interval valid e =
    let stops : List Stop = whole own (stops_of prop set.frames) in
    let found = interval-found set.frames prop own easing at interval e in
    let most : found.second.offset ≤ 10000 =
    All-slice_get (λ (stop : Stop). stop.offset ≤ 10000) (filter (λ stop. not (is_reached at stop)) stops) 0 found.second
    (All-filter (λ stop. not (is_reached at stop)) (λ (stop : Stop). stop.offset ≤ 10000) stops
    (whole-within own (stops_of prop set.frames) (stops-within prop set.frames valid.frames))) found.second_is in
    let less : found.second.offset - found.first.offset ≤ 10000 = omega arith in
    subst (λ (i : Interval). i.distance.den ≤ 10000 * at.den) found.interval_is (mul-le-mul_right at.den less)
