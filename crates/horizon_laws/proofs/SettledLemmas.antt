-- A settled frame exists: each animation settles, and what has settled stays so.
use Rattle.std.proofs.Common.{◌≡◌, ℕ, ◌+◌, ◌*◌, ◌<◌, ◌≤◌, mul-le-mul_right, true, false, List, [], ◌∷◌, refl, arith, ap, sym, subst, ◌∙◌, inl, inr}
use Rattle.std.specs.Prelude.{◌⊎◌, ℤ, pos, negsuc, ◌==◌, ◌&&◌, ◌||◌, ◌≤ℤ◌, not, All, int_le, IsTrue}
use Rattle.std.proofs.lemmas.Bool.{cases_Bool}
use Rattle.std.proofs.lemmas.Int.{ints}
use Rattle.std.proofs.lemmas.List.Elements.{All-nil, All-cons, All-weaker}
use Rattle.page_model.specs.declared.setup.Setup.{Setup}
use Rattle.page_model.specs.declared.animation.Anim.{Anim}
use Rattle.page_model.specs.declared.animation.Count.{Count}
use Rattle.page_model.specs.declared.animation.Count.TheVariants.{Times, Infinite}
use Rattle.page_model.specs.Horizon.{IsHorizon, IsNeeded, IsSettled, has_settled, is_endless, is_infinite}
use Rattle.page_model.specs.Progress.{finite, above_zero, active_duration_for, active_duration_of, after_from, delay_of, has_come, later_by, lesser_extent, not_before_zero}
use Rattle.page_model.specs.Time.{HasFrames, time_of}
use Rattle.horizon_laws.proofs.LeastLemmas.{IsLeast-exists}
use Rattle.horizon_laws.proofs.PeriodLemmas.{all_decided, period-exists}
use Rattle.horizon_laws.proofs.RepeatLemmas.{settled-endless, settled-more, settled-other}

-- a moment that is late enough
late : (den : ℕ) (z : ℤ) → 0 < den → int_le z (pos (1000000 * den * above_zero z)) ≡ true
late den (pos n) some =
    let one : 1 ≤ den = omega arith in
    let more = mul-le-mul_right n one in
    let h : pos n ≤ℤ pos (1000000 * den * n) = omega (arith, ints) in
    grind (arith, ints)
late den (negsuc n) some = refl

-- an animation that is neither endless nor paused ends
ends-count : (setup : Setup) (milliseconds : ℕ) (count : Count) → (is_infinite count && not (milliseconds == 0)) ≡ false → (length : ℤ) × (active_duration_for setup milliseconds count ≡ finite length)
ends-count setup milliseconds (Times thousandths) h = (_, refl)
ends-count setup milliseconds Infinite h =
    elim (cases_Bool (milliseconds == 0)) [
      | inl z ↦ (pos 0, rw z refl)
      | inr z ↦ let t = rw z at h in cc
    ]

-- so it has a boundary behind which it is over
boundary : (setup : Setup) (anim : Anim) (length : ℤ) → active_duration_of setup anim ≡ finite length → (end_ : ℤ) × (after_from setup anim ≡ finite end_)
boundary setup anim length e =
    (_, ap (λ x. not_before_zero (lesser_extent (later_by (delay_of setup anim) x) (not_before_zero (later_by (delay_of setup anim) x)))) e)

come-settled :
    (setup : Setup) (anim : Anim) (frame : ℕ) → is_endless anim ≡ false → anim.paused ≡ false
    → has_come (pos (time_of setup frame)) (after_from setup anim) ≡ true → has_settled setup anim frame ≡ true
come-settled setup anim frame other running come = settled-other setup anim frame other ∙ (ap (λ x. x || has_come (pos (time_of setup frame)) (after_from setup anim)) running ∙ come)

-- each animation settles
settles : (setup : Setup) (anim : Anim) → HasFrames setup → (frame : ℕ) × (has_settled setup anim frame ≡ true)
settles setup anim rate =
    elim (cases_Bool (is_endless anim)) [
      | inl runs ↦ (above_zero (delay_of setup anim), settled-endless setup anim (above_zero (delay_of setup anim)) runs ∙ late setup.den (delay_of setup anim) rate.some_den)
      | inr other ↦ elim (cases_Bool anim.paused) [
        | inl paused ↦ (0, settled-other setup anim 0 other ∙ rw paused refl)
        | inr running ↦
            let finished : (is_infinite anim.count && not (anim.duration == 0)) ≡ false = rw running at other in
            let length = ends-count setup anim.duration anim.count finished in
            let last = boundary setup anim length.0 length.1 in
            let come : has_come (pos (time_of setup (above_zero last.0))) (after_from setup anim) ≡ true =
            subst (λ x. has_come (pos (time_of setup (above_zero last.0))) x ≡ true) (sym last.1) (late setup.den last.0 rate.some_den) in
            (above_zero last.0, come-settled setup anim (above_zero last.0) other running come)
      ]
    ]

abbrev AllSettled : Setup → ℕ → List Anim → Type 0
AllSettled setup frame anims = All (λ anim. IsTrue (has_settled setup anim frame)) anims

all-settle : (setup : Setup) (anims : List Anim) → HasFrames setup → (frame : ℕ) × AllSettled setup frame anims
all-settle setup [] rate = (0, All-nil (λ anim. IsTrue (has_settled setup anim 0)))
all-settle setup (anim ∷ rest) rate =
    let one = settles setup anim rate in
    let others = all-settle setup rest rate in
    let swap : others.0 + one.0 ≡ one.0 + others.0 = omega arith in (
      one.0 + others.0,
      All-cons (λ a. IsTrue (has_settled setup a (one.0 + others.0))) anim rest (settled-more setup anim one.0 others.0 one.1)
          (All-weaker (λ a. IsTrue (has_settled setup a others.0)) (λ a. IsTrue (has_settled setup a (one.0 + others.0)))
          (λ a h. subst (λ k. has_settled setup a k ≡ true) swap (settled-more setup a others.0 one.0 h)) rest others.1),
    )

one-decided : (setup : Setup) (frame : ℕ) (anim : Anim) → IsTrue (has_settled setup anim frame) ⊎ (IsTrue (has_settled setup anim frame) → ⊥)
one-decided setup frame anim =
    elim (cases_Bool (has_settled setup anim frame)) [
      | inl e ↦ inl e
      | inr e ↦ inr (λ h. cc)
    ]

settled-exists : (setup : Setup) (anims : List Anim) → HasFrames setup → (settled : ℕ) × IsSettled setup anims settled
settled-exists setup anims rate =
    let found = all-settle setup anims rate in
    IsLeast-exists (λ frame. AllSettled setup frame anims)
    (λ frame. all_decided (λ anim. IsTrue (has_settled setup anim frame)) (one-decided setup frame) anims) found.0 found.1

pub horizon-exists : (setup : Setup) (anims : List Anim) → HasFrames setup → (settled : ℕ) × (period : ℕ) × IsHorizon setup anims settled period
horizon-exists setup anims rate =
    let settled = settled-exists setup anims rate in
    let period = period-exists setup anims rate in
    (settled.0, period.0, record { settled_is = settled.1; period_is = period.1 })

pub needed-exists : (setup : Setup) (anims : List Anim) → HasFrames setup → (needed : ℕ) × IsNeeded setup anims needed
needed-exists setup anims rate =
    let found = horizon-exists setup anims rate in
    (found.0 + found.1, record { settled = found.0; period = found.1; horizon = found.2; needed_is = refl })
