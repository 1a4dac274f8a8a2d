-- The overall progress is the active time over the duration.
use Rattle.std.proofs.Common.{◌≡◌, ℕ, suc, ◌+◌, ◌-◌, ◌*◌, ◌/◌, ◌<◌, ◌≤◌, Bool, true, false, Some, None, refl, arith, sym, subst, ap, ◌∙◌, inl, inr, ne_eqb}
use Rattle.std.specs.Prelude.{ℤ, pos, negsuc, ◌-ℤ◌, ◌*ℤ◌, ◌==◌, int_lt, if◌then◌else◌}
use Rattle.std.specs.Int.{int_min}
use Rattle.std.proofs.lemmas.Bool.{cases_Bool}
use Rattle.std.proofs.lemmas.Bool.Decides.{nat_tests}
use Rattle.std.proofs.lemmas.Int.{ints, clamps}
use Rattle.page_model.specs.declared.setup.Setup.{Setup}
use Rattle.page_model.specs.declared.animation.Anim.{Anim}
use Rattle.page_model.specs.declared.animation.Count.{Count}
use Rattle.page_model.specs.declared.animation.Count.TheVariants.{Times, Infinite}
use Rattle.page_model.specs.declared.animation.Fill.{Fill}
use Rattle.page_model.specs.Progress.{Extent, finite, endless, Phase, before, active, after, above_zero, active_duration_for, active_duration_of, active_from, active_time_in, after_from, delay_of, duration_of, fills_after, fills_before, has_come, later_by, lesser, lesser_extent, local_time_of, not_before_zero, overall_progress, phase_of}
use Rattle.page_model.specs.Time.{thousandths_of, time_of}
use Rattle.fraction_laws.specs.OverallLaws.{AreSoMany, OverallIsQuotient}

-- what has elapsed is a whole number of thousands
difference : (a b : ℕ) → above_zero (pos a -ℤ pos b) ≡ a - b
difference a b = grind (arith, ints)

elapsed_thousands : (l n : ℕ) (z : ℤ) → (m : ℕ) × (above_zero (pos (1000 * l) -ℤ (pos (1000 * 1 * n) *ℤ z)) ≡ 1000 * m)
elapsed_thousands l n (pos d) =
    let product : pos (1000 * 1 * n) *ℤ pos d ≡ pos (1000 * (n * d)) = omega (arith, ints) in
    let whole : 1000 * l - 1000 * (n * d) ≡ 1000 * (l - n * d) = omega arith in
    (l - n * d, ap (λ x. above_zero (pos (1000 * l) -ℤ x)) product ∙ (difference (1000 * l) (1000 * (n * d)) ∙ whole))
elapsed_thousands l n (negsuc d) =
    let sum : pos (1000 * l) -ℤ (pos (1000 * 1 * n) *ℤ negsuc d) ≡ pos (1000 * (l + n * suc d)) = omega (arith, ints) in
    (l + n * suc d, ap above_zero sum)

local_thousands : (setup : Setup) (anim : Anim) (frame : ℕ) → (l : ℕ) × (local_time_of setup anim frame ≡ pos (1000 * l))
local_thousands setup anim frame =
    elim (cases_Bool anim.paused) [
      | inl still ↦ (0, rw still refl)
      | inr runs ↦
          let moment : time_of setup frame ≡ 1000 * (1000 * setup.den * frame) = omega arith in
          (1000 * setup.den * frame, rw runs (ap pos moment))
    ]

elapsed-whole :
    (setup : Setup) (anim : Anim) (frame : ℕ)
    → (m : ℕ) × (above_zero (local_time_of setup anim frame -ℤ delay_of setup anim) ≡ 1000 * m)
elapsed-whole setup anim frame =
    let local = local_thousands setup anim frame in
    let found = elapsed_thousands local.0 setup.num anim.delay in
    (found.0, ap (λ x. above_zero (x -ℤ delay_of setup anim)) local.1 ∙ found.1)

-- two whole numbers of thousands make the fraction of their thousands
same_quotient : (time duration n m : ℕ) → time ≡ 1000 * n → duration ≡ 1000 * m → time / 1000 * duration ≡ time * (duration / 1000)
same_quotient time duration n m e f =
    let a : time / 1000 ≡ n = omega arith in
    let b : duration / 1000 ≡ m = omega arith in
    rw (a, b, e, f) (omega arith)

-- where there is an effect, it is of this time
effect-time : (test : Bool) (found time : ℕ) → (if test then Some found else None) ≡ Some time → found ≡ time
effect-time true found time e = cc
effect-time false found time e = absurd (cc)

-- behind the end the active time is the whole active duration
come-after : (setup : Setup) (anim : Anim) (frame : ℕ) → phase_of setup anim frame ≡ after → has_come (local_time_of setup anim frame) (after_from setup anim) ≡ true
come-after setup anim frame e =
    elim (cases_Bool (int_lt (local_time_of setup anim frame) (active_from setup anim))) [
      | inl early ↦ absurd (let f = rw early at e in cc)
      | inr late ↦ elim (cases_Bool (has_come (local_time_of setup anim frame) (after_from setup anim))) [
        | inl come ↦ come
        | inr running ↦ absurd (let f = rw (late, running) at e in cc)
      ]
    ]

whole-time : (moment length : ℕ) (delay : ℤ) → has_come (pos moment) (not_before_zero (lesser_extent (later_by delay (finite (pos length))) (not_before_zero (later_by delay (finite (pos length)))))) ≡ true
    → above_zero (lesser (pos moment -ℤ delay) (finite (pos length))) ≡ length
whole-time moment length delay come =
    let least : int_min (pos moment -ℤ delay) (pos length) ≡ pos length = grind (arith, ints, clamps) in
    ap above_zero least

count-time :
    (setup : Setup) (milliseconds moment time : ℕ) (count : Count) (delay : ℤ) → 0 < milliseconds
    → has_come (pos moment) (not_before_zero (lesser_extent (later_by delay (active_duration_for setup milliseconds count)) (not_before_zero (later_by delay (active_duration_for setup milliseconds count))))) ≡ true
    → above_zero (lesser (pos moment -ℤ delay) (active_duration_for setup milliseconds count)) ≡ time
    → AreSoMany (overall_progress after count (1000 * milliseconds * setup.num) time) (record { num = time; den = 1000 * milliseconds * setup.num })
count-time setup milliseconds moment time (Times thousandths) delay some come e =
    let whole = sym (whole-time moment (thousandths_of setup thousandths milliseconds) delay come) ∙ e in
    elim (cases_Bool (1000 * milliseconds * setup.num == 0)) [
      | inl none ↦ rw none (rw (sym whole) (omega arith))
      | inr lasting ↦ rw lasting (rw (sym whole) (omega arith))
    ]
count-time setup milliseconds moment time Infinite delay some come e =
    let lasting : (milliseconds == 0) ≡ false = grind (arith, nat_tests) in
    let never = rw lasting at come in
    absurd (cc)

duration-positive : (setup : Setup) (anim : Anim) → 0 < duration_of setup anim → 0 < anim.duration
duration-positive setup anim some =
    elim (cases_Bool (anim.duration == 0)) [
      | inl none ↦
          let z : anim.duration ≡ 0 = grind (arith, nat_tests) in
          absurd (let none_left = subst (λ x. 0 < 1000 * x * setup.num) z some in omega arith)
      | inr lasting ↦ grind (arith, nat_tests)
    ]

quotient-by :
    (setup : Setup) (anim : Anim) (frame time : ℕ) (phase : Phase) → phase_of setup anim frame ≡ phase → 0 < duration_of setup anim
    → active_time_in phase anim.fill (local_time_of setup anim frame -ℤ delay_of setup anim) (active_duration_of setup anim) ≡ Some time
    → AreSoMany (overall_progress phase anim.count (duration_of setup anim) time) (record { num = time; den = duration_of setup anim })
quotient-by setup anim frame time before e some effect =
    let whole = elapsed-whole setup anim frame in
    let found = effect-time (fills_before anim.fill) (above_zero (local_time_of setup anim frame -ℤ delay_of setup anim)) time effect in
    rw (ne_eqb (duration_of setup anim) 0 (omega arith))
    (same_quotient time (duration_of setup anim) whole.0 (anim.duration * setup.num) (sym found ∙ whole.1) (omega arith))
quotient-by setup anim frame time active e some effect =
    let whole = elapsed-whole setup anim frame in
    let found = effect-time true (above_zero (local_time_of setup anim frame -ℤ delay_of setup anim)) time effect in
    rw (ne_eqb (duration_of setup anim) 0 (omega arith))
    (same_quotient time (duration_of setup anim) whole.0 (anim.duration * setup.num) (sym found ∙ whole.1) (omega arith))
quotient-by setup anim frame time after e some effect =
    let local = local_thousands setup anim frame in
    let come = subst (λ x. has_come x (after_from setup anim) ≡ true) local.1 (come-after setup anim frame e) in
    let found =
    effect-time (fills_after anim.fill) (above_zero (lesser (local_time_of setup anim frame -ℤ delay_of setup anim) (active_duration_of setup anim)))
    time effect in
    count-time setup anim.duration (1000 * local.0) time anim.count (delay_of setup anim) (duration-positive setup anim some) come
    (subst (λ x. above_zero (lesser (x -ℤ delay_of setup anim) (active_duration_of setup anim)) ≡ time) local.1 found)

pub overall-quotient : OverallIsQuotient
overall-quotient setup anim frame time some effect = quotient-by setup anim frame time (phase_of setup anim frame) refl some effect
