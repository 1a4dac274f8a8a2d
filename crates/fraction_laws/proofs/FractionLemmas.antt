-- A progress, a distance and the output of steps is a number from 0 to 1.
use Rattle.std.proofs.Common.{◌≡◌, ◌⊎◌, ℕ, ◌+◌, ◌-◌, ◌*◌, ◌/◌, ◌%◌, ◌<◌, ◌≤◌, Bool, true, false, not, ◌&&◌, nat_lt, nat_le, nat_eq, List, Some, filter, if◌then◌else◌, option_map, arith, subst, ap, inl, inr, mul-pos, mul-le-mul_right, lt_of_mul-lt-mul_right, eq-eqb, ne_eqb, lt-ltb, le-leb, ltb-true, leb-true}
use Rattle.std.proofs.lemmas.Bool.{and_parts, cases_lt, cases_eq, not-true}
use Rattle.std.proofs.lemmas.List.Elements.{filter_passes}
use Rattle.std.proofs.lemmas.Option.{option_and_then_some}
use Rattle.page_model.specs.declared.animation.Anim.{Anim}
use Rattle.page_model.specs.declared.animation.Count.{Count}
use Rattle.page_model.specs.declared.animation.Count.TheVariants.{Times, Infinite}
use Rattle.page_model.specs.declared.easing.Easing.{Easing}
use Rattle.page_model.specs.declared.easing.Jump.TheVariants.{Start, End, Neither, Both}
use Rattle.page_model.specs.declared.keyframe.Keyframe.{Keyframe}
use Rattle.page_model.specs.declared.property.Prop.{Prop}
use Rattle.page_model.specs.declared.property.Value.{Value}
use Rattle.page_model.specs.declared.setup.Setup.{Setup}
use Rattle.page_model.specs.Fraction.{Fraction, one_of_one}
use Rattle.page_model.specs.Keyframes.{Interval, Stop, distance, first_of, interval_between, interval_in, interval_of, is_reached, last_of, names, stops_of, whole}
use Rattle.page_model.specs.Progress.{Iterations, Phase, before, active, after, remainder_of, overall_in_time, overall_progress, overall_at_once, simple_progress, directed, runs_backwards, current_turn, is_at_end, progress_in, phase_of, active_time_of, active_duration_of, duration_of}
use Rattle.fraction_laws.specs.FractionLaws.{IsPart, ProgressIsPart, DistanceIsPart, SteppedIsPart}
use Rattle.fraction_laws.proofs.ListLemmas.{mapped_some, tested_some, All-slice_get}

-- the rest of a fraction with a positive denominator
rest-part : (num den : ℕ) → 0 < den → IsPart (record { num = num % den; den = den })
rest-part num den some = record { positive = some; at_most_one = omega arith }

at_once-part : (phase : Phase) (count : Count) → IsPart (remainder_of (overall_at_once phase count))
at_once-part before count = rest-part 0 1 (omega arith)
at_once-part active (Times thousandths) = rest-part thousandths 1000 (omega arith)
at_once-part active Infinite = record { positive = omega arith; at_most_one = omega arith }
at_once-part after (Times thousandths) = rest-part thousandths 1000 (omega arith)
at_once-part after Infinite = record { positive = omega arith; at_most_one = omega arith }

in_time-part :
    (phase : Phase) (count : Count) (duration time : ℕ) → 0 < duration / 1000 → IsPart (remainder_of (overall_in_time phase count duration time))
in_time-part before count duration time some = rest-part (time / 1000) (duration / 1000) some
in_time-part active count duration time some = rest-part (time / 1000) (duration / 1000) some
in_time-part after count duration time some = at_once-part after count

-- a duration is a whole number of thousands
overall-part :
    (phase : Phase) (count : Count) (duration time thousands : ℕ) → duration ≡ 1000 * thousands
    → IsPart (remainder_of (overall_progress phase count duration time))
overall-part phase count duration time thousands whole =
    elim (cases_eq duration 0) [
      | inl e ↦ rw (eq-eqb duration 0 e) (at_once-part phase count)
      | inr some ↦ rw (ne_eqb duration 0 some) (in_time-part phase count duration time (omega arith))
    ]

chosen-part : (test : Bool) (x y : Fraction) → IsPart x → IsPart y → IsPart (if test then x else y)
chosen-part true x y first second = first
chosen-part false x y first second = second

simple-part : (x : Fraction) (at_end : Bool) → IsPart x → IsPart (simple_progress x at_end)
simple-part x at_end part =
    chosen-part (nat_eq x.num 0 && at_end) one_of_one x (record { positive = omega arith; at_most_one = omega arith }) part

directed-part : (backwards : Bool) (x : Fraction) → IsPart x → IsPart (directed backwards x)
directed-part backwards x part =
    chosen-part backwards (record { num = x.den - x.num; den = x.den }) x
    (record { positive = part.positive; at_most_one = omega arith }) part

pub progress_in-part : (setup : Setup) (anim : Anim) (phase : Phase) (time : ℕ) → IsPart (progress_in setup anim phase time)
progress_in-part setup anim phase time =
    let overall : Iterations = overall_progress phase anim.count (duration_of setup anim) time in
    let at_end : Bool = is_at_end phase anim.count time (active_duration_of setup anim) in
    let simple : Fraction = simple_progress (remainder_of overall) at_end in
    directed-part (runs_backwards anim.direction (current_turn phase anim.count overall simple)) simple
    (simple-part (remainder_of overall) at_end
    (overall-part phase anim.count (duration_of setup anim) time (anim.duration * setup.num) (omega arith)))

pub progress-part : ProgressIsPart
progress-part setup anim frame x e =
    let found = mapped_some (λ time. progress_in setup anim (phase_of setup anim frame) time) (active_time_of setup anim frame) x e in
    subst IsPart found.2 (progress_in-part setup anim (phase_of setup anim frame) found.0)

-- between which two stops a property is
pub record IsFound (easing : Easing) (at : Fraction) (stops : List Stop) (interval : Interval) : Type 0 where
  pub first : Stop
  pub second : Stop
  pub first_is : last_of (filter (is_reached at) stops) ≡ Some first
  pub second_is : first_of (filter (λ stop. not (is_reached at stop)) stops) ≡ Some second
  pub interval_is : interval_between easing at first second ≡ interval

pub interval-found :
    (frames : List Keyframe) (prop : Prop) (own : Value) (easing : Easing) (at : Fraction) (interval : Interval)
    → interval_of frames prop own easing at ≡ Some interval → IsFound easing at (whole own (stops_of prop frames)) interval
interval-found frames prop own easing at interval e =
    let stops : List Stop = whole own (stops_of prop frames) in
    let there : interval_in easing at stops ≡ Some interval = tested_some (names prop frames) (interval_in easing at stops) interval e in
    option_and_then_some
    (λ first. option_map (interval_between easing at first) (first_of (filter (λ stop. not (is_reached at stop)) stops)))
    (last_of (filter (is_reached at) stops)) interval there
    (λ first first_is rest.
    let found = mapped_some (interval_between easing at first) (first_of (filter (λ stop. not (is_reached at stop)) stops)) interval rest in
    record { first = first; second = found.0; first_is = first_is; second_is = found.1; interval_is = found.2 })

-- the first of them is reached, and the second not
is_ahead : (at : Fraction) (stop : Stop) → is_reached at stop ≡ false → (10000 ≤ stop.offset) ⊎ (10000 * at.num < stop.offset * at.den)
is_ahead at stop e =
    elim (cases_lt stop.offset 10000) [
      | inl inside ↦ elim (cases_lt (10000 * at.num) (stop.offset * at.den)) [
        | inl ahead ↦ inr ahead
        | inr reached ↦ absurd (let p = lt-ltb stop.offset 10000 inside in let q = le-leb (stop.offset * at.den) (10000 * at.num) reached in clash at stop e p q)
      ]
      | inr outside ↦ inl outside
    ] where
      clash :
          (at : Fraction) (stop : Stop) → is_reached at stop ≡ false → nat_lt stop.offset 10000 ≡ true
          → nat_le (stop.offset * at.den) (10000 * at.num) ≡ true → ⊥
      clash at stop e p q = let f = rw (p, q) at e in cc

-- what is left of a distance, over the whole of it
sized : (from to : ℕ) (at : Fraction) → IsPart at → from < to → 10000 * at.num ≤ to * at.den → IsPart (distance from to at)
sized from to at part rises within =
    let e : to ≡ from + (to - from) = omega arith in
    let f = ap (λ (n : ℕ). n * at.den) e in
    let some : 0 < to - from = omega arith in
    record { positive = mul-pos some part.positive; at_most_one = omega arith }

distance-part :
    (from to : ℕ) (at : Fraction) → IsPart at → from < 10000 → from * at.den ≤ 10000 * at.num
    → (10000 ≤ to) ⊎ (10000 * at.num < to * at.den) → IsPart (distance from to at)
distance-part from to at part inside reached (inl outside) =
    let all = mul-le-mul_right at.den outside in
    let most = part.at_most_one in
    sized from to at part (omega arith) (omega arith)
distance-part from to at part inside reached (inr ahead) =
    let less : from * at.den < to * at.den = omega arith in
    sized from to at part (lt_of_mul-lt-mul_right at.den less) (omega arith)

pub distance-is_part : DistanceIsPart
distance-is_part frames prop own easing at interval part e =
    let stops : List Stop = whole own (stops_of prop frames) in
    let found = interval-found frames prop own easing at interval e in
    let reached : is_reached at found.first ≡ true =
    All-slice_get (λ stop. is_reached at stop ≡ true) (filter (is_reached at) stops) _ found.first (filter_passes (is_reached at) stops) found.first_is in
    let ahead : not (is_reached at found.second) ≡ true =
    All-slice_get (λ stop. not (is_reached at stop) ≡ true) (filter (λ stop. not (is_reached at stop)) stops) 0 found.second (filter_passes (λ stop. not (is_reached at stop)) stops) found.second_is in
    let parts = and_parts (nat_lt found.first.offset 10000) (nat_le (found.first.offset * at.den) (10000 * at.num)) reached in
    subst (λ (i : Interval). IsPart i.distance) found.interval_is
    (distance-part found.first.offset found.second.offset at part (ltb-true found.first.offset 10000 parts.0)
    (leb-true (found.first.offset * at.den) (10000 * at.num) parts.1)
    (is_ahead at found.second (not-true (is_reached at found.second) ahead)))

pub stepped-part : SteppedIsPart
stepped-part count Start at steps = record { positive = let n = steps.some in omega arith; at_most_one = omega arith }
stepped-part count End at steps = record { positive = let n = steps.some in omega arith; at_most_one = omega arith }
stepped-part count Neither at steps = record { positive = let n = steps.some in omega arith; at_most_one = omega arith }
stepped-part count Both at steps = record { positive = let n = steps.some in omega arith; at_most_one = omega arith }
