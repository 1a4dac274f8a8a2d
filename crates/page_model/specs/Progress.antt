-- How far an animation is at a frame: Web Animations Level 1, from "Phases and states" to "Calculating the directed
-- progress", for the timing properties of CSS Animations Level 1. Times are in the units of `Time`. Each step of the
-- standard is a definition of its own, in its order.
use Rattle.std.specs.Prelude.{ℕ, ℤ, pos, negsuc, Bool, true, false, not, Option, Some, None, ◌+◌, ◌-◌, ◌/◌, ◌%◌, ◌+ℤ◌, ◌-ℤ◌, ◌==◌, ◌&&◌, int_lt, int_le, if◌then◌else◌, option_map}
use Rattle.std.specs.Int.{int_min, int_max}
use Rattle.page_model.specs.declared.setup.Setup.{Setup}
use Rattle.page_model.specs.declared.animation.Anim.{Anim}
use Rattle.page_model.specs.declared.animation.Count.{Count}
use Rattle.page_model.specs.declared.animation.Count.TheVariants.{Times, Infinite}
use Rattle.page_model.specs.declared.animation.Direction.{Direction}
use Rattle.page_model.specs.declared.animation.Direction.TheVariants.{Normal, Reverse, Alternate, AlternateReverse}
use Rattle.page_model.specs.declared.animation.Fill.{Fill}
use Rattle.page_model.specs.declared.animation.Fill.TheVariants.{Absent, Forwards, Backwards, Both}
use Rattle.page_model.specs.Fraction.{Fraction, zero_of_one, one_of_one}
use Rattle.page_model.specs.Time.{time_of, ticks_of, signed_ticks_of, thousandths_of}

-- a time, or none because there is no end
pub data Extent : Type 0 where
  finite : ℤ → Extent
  endless : Extent

-- a time so much later
abbrev pub later_by : ℤ → Extent → Extent
later_by from (finite length) = finite (from +ℤ length)
later_by from endless = endless

-- the lesser of two times
abbrev pub lesser : ℤ → Extent → ℤ
lesser time (finite other) = int_min time other
lesser time endless = time

abbrev pub lesser_extent : Extent → Extent → Extent
lesser_extent (finite time) other = finite (lesser time other)
lesser_extent endless other = other

-- a time, or 0 where it is earlier
abbrev pub not_before_zero : Extent → Extent
not_before_zero (finite time) = finite (int_max time (pos 0))
not_before_zero endless = endless

-- a moment is at a time or past it
abbrev pub has_come : ℤ → Extent → Bool
has_come moment (finite time) = int_le time moment
has_come moment endless = false

-- a number, or 0 in place of a negative one
abbrev pub above_zero : ℤ → ℕ
above_zero (pos n) = n
above_zero (negsuc n) = 0

-- the local time at a frame; a paused animation stays at its start
abbrev pub local_time_of : Setup → Anim → ℕ → ℤ
local_time_of setup anim frame = if anim.paused then pos 0 else pos (time_of setup frame)

abbrev pub delay_of : Setup → Anim → ℤ
delay_of setup anim = signed_ticks_of setup anim.delay

abbrev pub duration_of : Setup → Anim → ℕ
duration_of setup anim = ticks_of setup anim.duration

-- the active duration: so many iterations; infinitely many of no duration take no time
abbrev pub active_duration_for : Setup → ℕ → Count → Extent
active_duration_for setup milliseconds (Times thousandths) = finite (pos (thousandths_of setup thousandths milliseconds))
active_duration_for setup milliseconds Infinite = if milliseconds == 0 then finite (pos 0) else endless

abbrev pub active_duration_of : Setup → Anim → Extent
active_duration_of setup anim = active_duration_for setup anim.duration anim.count

-- the delay and the active duration together
abbrev pub active_end_of : Setup → Anim → Extent
active_end_of setup anim = later_by (delay_of setup anim) (active_duration_of setup anim)

abbrev pub end_time_of : Setup → Anim → Extent
end_time_of setup anim = not_before_zero (active_end_of setup anim)

-- the before-active boundary time
abbrev pub active_from : Setup → Anim → ℤ
active_from setup anim = int_max (lesser (delay_of setup anim) (end_time_of setup anim)) (pos 0)

-- the active-after boundary time
abbrev pub after_from : Setup → Anim → Extent
after_from setup anim = not_before_zero (lesser_extent (active_end_of setup anim) (end_time_of setup anim))

pub data Phase : Type 0 where
  before : Phase
  active : Phase
  after : Phase

abbrev pub phase_of : Setup → Anim → ℕ → Phase
phase_of setup anim frame =
    if int_lt (local_time_of setup anim frame) (active_from setup anim) then before
    else (if has_come (local_time_of setup anim frame) (after_from setup anim) then after else active)

-- the fills with which there is an effect in the before phase, and in the after phase
abbrev pub fills_before : Fill → Bool
fills_before Absent = false
fills_before Forwards = false
fills_before Backwards = true
fills_before Both = true

abbrev pub fills_after : Fill → Bool
fills_after Absent = false
fills_after Forwards = true
fills_after Backwards = false
fills_after Both = true

-- the active time in a phase, or no effect; `elapsed` is the local time less the delay, which isn't negative in the active phase
abbrev pub active_time_in : Phase → Fill → ℤ → Extent → Option ℕ
active_time_in before fill elapsed length = if fills_before fill then Some (above_zero elapsed) else None
active_time_in active fill elapsed length = Some (above_zero elapsed)
active_time_in after fill elapsed length = if fills_after fill then Some (above_zero (lesser elapsed length)) else None

abbrev pub active_time_of : Setup → Anim → ℕ → Option ℕ
active_time_of setup anim frame =
    active_time_in (phase_of setup anim frame) anim.fill (local_time_of setup anim frame -ℤ delay_of setup anim)
    (active_duration_of setup anim)

-- a number of iterations: a fraction, or infinitely many
pub data Iterations : Type 0 where
  so_many : Fraction → Iterations
  infinite : Iterations

-- all the iterations of a count
abbrev pub all_of : Count → Iterations
all_of (Times thousandths) = so_many (record { num = thousandths; den = 1000 })
all_of Infinite = infinite

-- with no duration, none is over in the before phase, and all are over behind it
abbrev pub overall_at_once : Phase → Count → Iterations
overall_at_once before count = so_many zero_of_one
overall_at_once active count = all_of count
overall_at_once after count = all_of count

-- with a duration, it is the active time over the duration. Up to the end both are whole thousands of the unit of time, and the
-- fraction counts the thousands; behind the end, where the active time is the whole active duration, it is the count.
abbrev pub overall_in_time : Phase → Count → ℕ → ℕ → Iterations
overall_in_time before count duration time = so_many (record { num = time / 1000; den = duration / 1000 })
overall_in_time active count duration time = so_many (record { num = time / 1000; den = duration / 1000 })
overall_in_time after count duration time = all_of count

-- the overall progress
abbrev pub overall_progress : Phase → Count → ℕ → ℕ → Iterations
overall_progress phase count duration time =
    if duration == 0 then overall_at_once phase count else overall_in_time phase count duration time

-- the part of the current iteration that is over: the overall progress modulo 1
abbrev pub remainder_of : Iterations → Fraction
remainder_of (so_many x) = record { num = x.num % x.den; den = x.den }
remainder_of infinite = zero_of_one

abbrev pub is_before : Phase → Bool
is_before before = true
is_before active = false
is_before after = false

-- the active time is the whole active duration
abbrev pub is_whole : ℕ → Extent → Bool
is_whole time (finite (pos length)) = time == length
is_whole time (finite (negsuc length)) = false
is_whole time endless = false

abbrev pub is_none : Count → Bool
is_none (Times thousandths) = thousandths == 0
is_none Infinite = false

-- an iteration has just ended and no other begins: its end counts as 1 and not as 0
abbrev pub is_at_end : Phase → Count → ℕ → Extent → Bool
is_at_end phase count time length = not (is_before phase) && (is_whole time length && not (is_none count))

-- the simple iteration progress, of the remainder
abbrev pub simple_progress : Fraction → Bool → Fraction
simple_progress rest at_end = if (rest.num == 0) && at_end then one_of_one else rest

-- the number of an iteration, counted from 0, or none because there is no last one
pub data Turn : Type 0 where
  turn : ℕ → Turn
  no_last : Turn

-- whether the simple progress is 1
abbrev pub is_one : Fraction → Bool
is_one x = x.num == x.den

-- the whole iterations that are over; at the end of one, that one is still the current one
abbrev pub turn_at : Iterations → Fraction → Turn
turn_at (so_many x) simple = if is_one simple then turn (x.num / x.den - 1) else turn (x.num / x.den)
turn_at infinite simple = no_last

-- the current iteration: after infinitely many there is no last one
abbrev pub current_turn : Phase → Count → Iterations → Fraction → Turn
current_turn after Infinite overall simple = no_last
current_turn after (Times thousandths) overall simple = turn_at overall simple
current_turn before count overall simple = turn_at overall simple
current_turn active count overall simple = turn_at overall simple

abbrev pub is_odd : ℕ → Bool
is_odd n = n % 2 == 1

-- whether an iteration runs backwards
abbrev pub runs_backwards : Direction → Turn → Bool
runs_backwards Normal at = false
runs_backwards Reverse at = true
runs_backwards Alternate (turn n) = is_odd n
runs_backwards Alternate no_last = false
runs_backwards AlternateReverse (turn n) = is_odd (n + 1)
runs_backwards AlternateReverse no_last = false

-- the directed progress: from the other end where the iteration runs backwards
abbrev pub directed : Bool → Fraction → Fraction
directed backwards simple = if backwards then record { num = simple.den - simple.num; den = simple.den } else simple

-- the directed progress, from the phase and the active time
abbrev pub progress_in : Setup → Anim → Phase → ℕ → Fraction
progress_in setup anim phase time =
    let overall : Iterations = overall_progress phase anim.count (duration_of setup anim) time in
    let at_end : Bool = is_at_end phase anim.count time (active_duration_of setup anim) in
    let simple : Fraction = simple_progress (remainder_of overall) at_end in
    directed (runs_backwards anim.direction (current_turn phase anim.count overall simple)) simple

-- the directed progress of an animation at a frame, or no effect
abbrev pub progress_of : Setup → Anim → ℕ → Option Fraction
progress_of setup anim frame =
    option_map (λ time. progress_in setup anim (phase_of setup anim frame) time) (active_time_of setup anim frame)
