-- An animation has settled by a frame just where the moment of the frame isn't before a time.
use Rattle.std.proofs.Common.{◌≡◌, ℕ, ◌+◌, ◌*◌, ◌/◌, ◌%◌, ◌<◌, ◌≤◌, min, Bool, true, false, arith, sym, subst, ◌∙◌, inl, inr, mul-le-mul_right, le-leb, leb-true}
use Rattle.std.specs.Prelude.{ℤ, pos, ◌+ℤ◌, ◌==◌, ◌&&◌, ◌||◌, not, int_le, nat_le, IsTrue, if◌then◌else◌}
use Rattle.std.proofs.lemmas.Bool.{cases_Bool, cases_lt}
use Rattle.std.proofs.lemmas.Bool.Decides.{nat_tests}
use Rattle.std.proofs.lemmas.Grind.{div_ceil_times}
use Rattle.std.proofs.lemmas.Int.{ints, clamps}
use Rattle.page_model.specs.declared.setup.Setup.{Setup}
use Rattle.page_model.specs.declared.animation.Anim.{Anim}
use Rattle.page_model.specs.declared.animation.Count.{Count}
use Rattle.page_model.specs.declared.animation.Count.TheVariants.{Times, Infinite}
use Rattle.page_model.specs.Horizon.{has_settled, is_infinite}
use Rattle.page_model.specs.Least.{IsLeast}
use Rattle.page_model.specs.Progress.{Extent, finite, above_zero, active_duration_for, delay_of, has_come, later_by, lesser_extent, not_before_zero}
use Rattle.page_model.specs.Time.{time_of, thousandths_of}
use Rattle.period_frames.specs.Settling.{length_for, settled_time_of}

-- the active-after boundary
abbrev end_by : ℤ → Extent → Extent
end_by delay length = not_before_zero (lesser_extent (later_by delay length) (not_before_zero (later_by delay length)))

ended : (delay : ℤ) (length moment : ℕ) → has_come (pos moment) (end_by delay (finite (pos length))) ≡ nat_le (above_zero (delay +ℤ pos length)) moment
ended delay length moment = grind (arith, ints, clamps, nat_tests)

begun : (delay : ℤ) (moment : ℕ) → int_le delay (pos moment) ≡ nat_le (above_zero (delay +ℤ pos 0)) moment
begun delay moment = grind (arith, ints, nat_tests)

settled-by :
    (setup : Setup) (delay : ℤ) (duration : ℕ) (count : Count) (paused : Bool) (moment : ℕ)
    → (if not paused && (is_infinite count && not (duration == 0)) then int_le delay (pos moment)
    else paused || has_come (pos moment) (end_by delay (active_duration_for setup duration count)))
    ≡ nat_le (if paused then 0 else above_zero (delay +ℤ pos (length_for setup duration count))) moment
settled-by setup delay duration count true moment = grind (arith, nat_tests)
settled-by setup delay duration (Times thousandths) false moment = ended delay (thousandths_of setup thousandths duration) moment
settled-by setup delay duration Infinite false moment =
    elim (cases_Bool (duration == 0)) [
      | inl none ↦ rw none (ended delay 0 moment)
      | inr some ↦ rw some (begun delay moment)
    ]

settled-moment : (setup : Setup) (anim : Anim) (frame : ℕ) → has_settled setup anim frame ≡ nat_le (settled_time_of setup anim) (time_of setup frame)
settled-moment setup anim frame = settled-by setup (delay_of setup anim) anim.duration anim.count anim.paused (time_of setup frame)

-- the least number of units that are a time or more
least_units : (time unit ceil k : ℕ) → ceil * unit < time + unit → time ≤ unit * k → ceil ≤ k
least_units time unit ceil k above enough =
    elim (cases_lt k ceil) [
      | inr within ↦ within
      | inl past ↦
          let more : k + 1 ≤ ceil = omega arith in
          let longer = mul-le-mul_right unit more in
          absurd (omega arith)
    ]

pub settled-least :
    (setup : Setup) (anim : Anim) (time unit ceil : ℕ) → time ≡ settled_time_of setup anim → unit ≡ 1000000 * setup.den
    → 1 ≤ unit → ceil ≡ time / unit + min 1 (time % unit) → IsLeast (λ frame. IsTrue (has_settled setup anim frame)) ceil
settled-least setup anim time unit ceil e f some g =
    let bounds = div_ceil_times time unit (omega arith) in
    let enough : time ≤ ceil * unit = subst (λ x. time ≤ x * unit) (sym g) bounds.0 in
    let above : ceil * unit < time + unit = subst (λ x. x * unit < time + unit) (sym g) bounds.1 in
    let within : settled_time_of setup anim ≤ unit * ceil = subst (λ x. x ≤ unit * ceil) e (omega arith) in
    let at : settled_time_of setup anim ≤ time_of setup ceil = subst (λ x. settled_time_of setup anim ≤ x * ceil) f within in
    record {
      holds = settled-moment setup anim ceil ∙ le-leb (settled_time_of setup anim) (time_of setup ceil) at;
      least = λ k settled.
          let come : settled_time_of setup anim ≤ time_of setup k =
          leb-true (settled_time_of setup anim) (time_of setup k) (sym (settled-moment setup anim k) ∙ settled) in
          let here : settled_time_of setup anim ≤ unit * k = subst (λ x. settled_time_of setup anim ≤ x * k) (sym f) come in
          least_units time unit ceil k above (subst (λ x. x ≤ unit * k) (sym e) here);
    }
