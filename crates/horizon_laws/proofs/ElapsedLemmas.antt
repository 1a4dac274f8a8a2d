-- Progress as a function of the local time, and of the elapsed time while an endless animation runs.
use Rattle.std.proofs.Common.{◌≡◌, ℕ, ◌+◌, ◌*◌, ◌/◌, ◌%◌, ◌<◌, true, false, refl, arith, ap, sym, subst, ◌∙◌, inl, inr}
use Rattle.std.specs.Prelude.{◌⊎◌, ℤ, pos, negsuc, ◌-ℤ◌, ◌≤ℤ◌, ◌==◌, Option, Some, None, int_lt, option_map, if◌then◌else◌}
use Rattle.std.specs.Int.{int_max, int_min}
use Rattle.std.proofs.lemmas.Bool.{cases_Bool}
use Rattle.std.proofs.lemmas.Bool.Decides.{nat_tests}
use Rattle.std.proofs.lemmas.Int.{ints, clamps}
use Rattle.page_model.specs.declared.setup.Setup.{Setup}
use Rattle.page_model.specs.declared.animation.Anim.{Anim}
use Rattle.page_model.specs.declared.animation.Count.{Count}
use Rattle.page_model.specs.declared.animation.Count.TheVariants.{Times, Infinite}
use Rattle.page_model.specs.declared.animation.Direction.{Direction}
use Rattle.page_model.specs.Fraction.{Fraction}
use Rattle.page_model.specs.Progress.{Extent, finite, endless, Phase, before, active, after, Iterations, turn, above_zero, active_duration_for, active_duration_of, active_from, active_time_in, after_from, current_turn, delay_of, directed, duration_of, has_come, fills_after, is_at_end, lesser, lesser_extent, later_by, local_time_of, not_before_zero, overall_progress, phase_of, progress_in, progress_of, remainder_of, runs_backwards, simple_progress}
use Rattle.page_model.specs.Time.{time_of, thousandths_of}

-- the phase and the progress, by the local time
abbrev phase_by : ℤ → ℤ → Extent → Phase
phase_by local from to = if int_lt local from then before else (if has_come local to then after else active)

abbrev pub progress_by : Setup → Anim → Phase → ℤ → Option Fraction
progress_by setup anim phase local =
    option_map (λ time. progress_in setup anim phase time)
    (active_time_in phase anim.fill (local -ℤ delay_of setup anim) (active_duration_of setup anim))

abbrev pub progress_from : Setup → Anim → ℤ → Option Fraction
progress_from setup anim local =
    progress_by setup anim (phase_by local (active_from setup anim) (after_from setup anim)) local

pub progress-local : (setup : Setup) (anim : Anim) (frame : ℕ) → progress_of setup anim frame ≡ progress_from setup anim (local_time_of setup anim frame)
progress-local setup anim frame = refl

-- the two boundaries, by the delay and the active duration
abbrev from_by : ℤ → Extent → ℤ
from_by delay length = int_max (lesser delay (not_before_zero (later_by delay length))) (pos 0)

abbrev to_by : ℤ → Extent → Extent
to_by delay length = not_before_zero (lesser_extent (later_by delay length) (not_before_zero (later_by delay length)))

not_before : (time : ℕ) (delay : ℤ) → delay ≤ℤ pos time → int_lt (pos time) (int_max delay (pos 0)) ≡ false
not_before time delay h = grind (arith, ints)

-- an animation without an end is active from its delay on
endless-phase : (time : ℕ) (delay : ℤ) (length : Extent) → length ≡ endless → delay ≤ℤ pos time → phase_by (pos time) (from_by delay length) (to_by delay length) ≡ active
endless-phase time delay (finite l) e h = cc
endless-phase time delay endless e h = rw (not_before time delay h) refl

-- one that is over stands at its active duration
over-phase : (time length : ℕ) (delay : ℤ) → has_come (pos time) (to_by delay (finite (pos length))) ≡ true → phase_by (pos time) (from_by delay (finite (pos length))) (to_by delay (finite (pos length))) ≡ after
over-phase time length delay h =
    let n : int_lt (pos time) (from_by delay (finite (pos length))) ≡ false = grind (arith, ints, clamps) in
    rw (n, h) refl

over-time : (time length : ℕ) (delay : ℤ) → has_come (pos time) (to_by delay (finite (pos length))) ≡ true → int_min (pos time -ℤ delay) (pos length) ≡ pos length
over-time time length delay h = grind (arith, ints, clamps)

-- the elapsed time, which isn't negative
above_zero-is : (z : ℤ) → pos 0 ≤ℤ z → pos (above_zero z) ≡ z
above_zero-is (pos n) h = refl
above_zero-is (negsuc n) h = absurd (omega (arith, ints))

pub elapsed-more : (time more : ℕ) (delay : ℤ) → delay ≤ℤ pos time → above_zero (pos (time + more) -ℤ delay) ≡ above_zero (pos time -ℤ delay) + more
elapsed-more time more delay h =
    let one = above_zero-is (pos time -ℤ delay) (omega (arith, ints)) in
    let two = above_zero-is (pos (time + more) -ℤ delay) (omega (arith, ints)) in
    omega (arith, ints)

-- the progress of an endless animation, by its duration and its elapsed time, in thousands of the unit
abbrev in_by : Count → Extent → Direction → ℕ → ℕ → Fraction
in_by count length direction duration time =
    let overall : Iterations = overall_progress active count duration time in
    let at_end = is_at_end active count time length in
    let simple : Fraction = simple_progress (remainder_of overall) at_end in
    directed (runs_backwards direction (current_turn active count overall simple)) simple

abbrev pub by_time : Direction → ℕ → ℕ → Fraction
by_time direction duration time =
    directed (runs_backwards direction (turn (time / duration))) (record { num = time % duration; den = duration })

pub in-by_time :
    (direction : Direction) (duration time thousands : ℕ) → duration / 1000 ≡ thousands → 0 < thousands
    → in_by Infinite endless direction duration time ≡ by_time direction thousands (time / 1000)
in-by_time direction duration time thousands e some =
    let positive : 0 < duration = omega arith in
    let lasting : (duration == 0) ≡ false = grind (arith, nat_tests) in
    let below : time / 1000 % thousands < thousands = omega arith in
    let partly : (time / 1000 % thousands == thousands) ≡ false = grind (arith, nat_tests) in
    elim (cases_Bool (time / 1000 % thousands == 0)) [
      | inl z ↦ rw (lasting, e, z, partly) refl
      | inr z ↦ rw (lasting, e, z, partly) refl
    ]

progress_in-by : (setup : Setup) (anim : Anim) (time : ℕ) → progress_in setup anim active time ≡ in_by anim.count (active_duration_of setup anim) anim.direction (duration_of setup anim) time
progress_in-by setup anim time = refl

-- a number of whole thousands
in_thousands : (thousands n : ℕ) → n ≡ 1000 * thousands → n / 1000 ≡ thousands
in_thousands thousands n e = omega arith

-- the progress of an endless animation that has begun
local-running : (setup : Setup) (anim : Anim) (frame : ℕ) → anim.paused ≡ false → local_time_of setup anim frame ≡ pos (time_of setup frame)
local-running setup anim frame running = rw running refl

length-endless : (setup : Setup) (anim : Anim) → anim.count ≡ Infinite → 0 < anim.duration → active_duration_of setup anim ≡ endless
length-endless setup anim count lasting =
    let z : (anim.duration == 0) ≡ false = grind (arith, nat_tests) in
    ap (active_duration_for setup anim.duration) count ∙ rw z refl

pub endless-progress :
    (setup : Setup) (anim : Anim) (frame : ℕ) → anim.paused ≡ false → anim.count ≡ Infinite → 0 < anim.duration
    → 0 < anim.duration * setup.num → delay_of setup anim ≤ℤ pos (time_of setup frame)
    → progress_of setup anim frame
    ≡ Some (by_time anim.direction (anim.duration * setup.num) (above_zero (pos (time_of setup frame) -ℤ delay_of setup anim) / 1000))
endless-progress setup anim frame running count lasting some begun =
    let whole : duration_of setup anim / 1000 ≡ anim.duration * setup.num = in_thousands (anim.duration * setup.num) (duration_of setup anim) (omega arith) in
    let local = local-running setup anim frame running in
    let length = length-endless setup anim count lasting in
    let time = above_zero (pos (time_of setup frame) -ℤ delay_of setup anim) in
    let phase : phase_of setup anim frame ≡ active =
    ap (λ x. phase_by x (active_from setup anim) (after_from setup anim)) local
    ∙ endless-phase (time_of setup frame) (delay_of setup anim) (active_duration_of setup anim) length begun in
    let inside : progress_in setup anim active time ≡ by_time anim.direction (anim.duration * setup.num) (time / 1000) =
    ap (λ x. in_by x (active_duration_of setup anim) anim.direction (duration_of setup anim) time) count
    ∙ (ap (λ x. in_by Infinite x anim.direction (duration_of setup anim) time) length
    ∙ in-by_time anim.direction (duration_of setup anim) time (anim.duration * setup.num) whole some) in
    ap (λ x. progress_by setup anim x (local_time_of setup anim frame)) phase
    ∙ (ap (λ x. progress_by setup anim active x) local ∙ ap Some inside)

-- the progress of one that is over, by what is left of the time
abbrev after_by : Setup → Anim → ℤ → Option Fraction
after_by setup anim elapsed =
    option_map (λ time. progress_in setup anim after time) (if fills_after anim.fill then Some (above_zero elapsed) else None)

over-progress :
    (setup : Setup) (anim : Anim) (frame length : ℕ) → anim.paused ≡ false → active_duration_of setup anim ≡ finite (pos length)
    → has_come (pos (time_of setup frame)) (to_by (delay_of setup anim) (finite (pos length))) ≡ true
    → progress_of setup anim frame ≡ after_by setup anim (pos length)
over-progress setup anim frame length running e come =
    let local = local-running setup anim frame running in
    let phase : phase_of setup anim frame ≡ after =
    ap (λ x. phase_by x (active_from setup anim) (after_from setup anim)) local
    ∙ (ap (λ x. phase_by (pos (time_of setup frame)) (from_by (delay_of setup anim) x) (to_by (delay_of setup anim) x)) e
    ∙ over-phase (time_of setup frame) length (delay_of setup anim) come) in
    let rest : lesser (pos (time_of setup frame) -ℤ delay_of setup anim) (active_duration_of setup anim) ≡ pos length =
    ap (λ x. lesser (pos (time_of setup frame) -ℤ delay_of setup anim) x) e
    ∙ over-time (time_of setup frame) length (delay_of setup anim) come in
    ap (λ x. progress_by setup anim x (local_time_of setup anim frame)) phase
    ∙ (ap (λ x. progress_by setup anim after x) local ∙ ap (after_by setup anim) rest)

-- an active duration is finite, or there is none
length-cases : (setup : Setup) (milliseconds : ℕ) (count : Count) → ((length : ℕ) × (active_duration_for setup milliseconds count ≡ finite (pos length))) ⊎ (active_duration_for setup milliseconds count ≡ endless)
length-cases setup milliseconds (Times thousandths) = inl (thousandths_of setup thousandths milliseconds, refl)
length-cases setup milliseconds Infinite =
    elim (cases_Bool (milliseconds == 0)) [
      | inl z ↦ inl (0, rw z refl)
      | inr z ↦ inr (rw z refl)
    ]

pub come_later : (time more : ℕ) (to : Extent) → has_come (pos time) to ≡ true → has_come (pos (time + more)) to ≡ true
come_later time more (finite a) h = grind (arith, ints)
come_later time more endless h = cc

-- one that is over stays so
pub over-stays :
    (setup : Setup) (anim : Anim) (frame later : ℕ) → anim.paused ≡ false
    → has_come (pos (time_of setup frame)) (after_from setup anim) ≡ true
    → progress_of setup anim (frame + later) ≡ progress_of setup anim frame
over-stays setup anim frame later running come =
    elim (length-cases setup anim.duration anim.count) [
      | inr none ↦
          let never : has_come (pos (time_of setup frame)) (to_by (delay_of setup anim) endless) ≡ true =
          subst (λ x. has_come (pos (time_of setup frame)) (to_by (delay_of setup anim) x) ≡ true) none come in
          cc
      | inl some ↦
          let here : has_come (pos (time_of setup frame)) (to_by (delay_of setup anim) (finite (pos some.0))) ≡ true =
          subst (λ x. has_come (pos (time_of setup frame)) (to_by (delay_of setup anim) x) ≡ true) some.1 come in
          let sum : time_of setup frame + 1000000 * setup.den * later ≡ time_of setup (frame + later) = omega arith in
          let there : has_come (pos (time_of setup (frame + later))) (to_by (delay_of setup anim) (finite (pos some.0))) ≡ true =
          subst (λ x. has_come (pos x) (to_by (delay_of setup anim) (finite (pos some.0))) ≡ true) sum
          (come_later (time_of setup frame) (1000000 * setup.den * later) (to_by (delay_of setup anim) (finite (pos some.0))) here) in
          over-progress setup anim (frame + later) some.0 running some.1 there
          ∙ sym (over-progress setup anim frame some.0 running some.1 here)
    ]

-- and one that is paused never stirs
pub paused-stays : (setup : Setup) (anim : Anim) (frame later : ℕ) → anim.paused ≡ true → progress_of setup anim (frame + later) ≡ progress_of setup anim frame
paused-stays setup anim frame later paused =
    let here : local_time_of setup anim frame ≡ pos 0 = rw paused refl in
    let there : local_time_of setup anim (frame + later) ≡ pos 0 = rw paused refl in
    ap (progress_from setup anim) (there ∙ sym here)
