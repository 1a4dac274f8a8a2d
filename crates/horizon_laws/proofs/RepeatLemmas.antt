-- Progress repeats: one whole number of cycles later for endless animations, and always for others that have settled.
use Rattle.std.proofs.Common.{◌≡◌, ℕ, ◌+◌, ◌*◌, ◌/◌, ◌%◌, ◌<◌, ◌≤◌, Bool, true, false, List, [], ◌∷◌, refl, arith, ap, sym, subst, ◌∙◌, inl, inr}
use Rattle.std.specs.Prelude.{◌-◌, ℤ, pos, ◌-ℤ◌, ◌≤ℤ◌, ◌==◌, ◌&&◌, ◌||◌, not, Some, int_le, All, filter, slice_index_or, if◌then◌else◌}
use Rattle.std.proofs.lemmas.Bool.{cases_Bool, and_parts, not-true}
use Rattle.std.proofs.lemmas.Int.{ints}
use Rattle.std.proofs.lemmas.List.Elements.{All-nil, All-cons, All-head, All-tail}
use Rattle.std.proofs.Math.Nat.{add-mul-mod_self_left, add-mul-div_left}
use Rattle.page_model.specs.declared.setup.Setup.{Setup}
use Rattle.page_model.specs.declared.animation.Anim.{Anim}
use Rattle.page_model.specs.declared.animation.Count.{Count}
use Rattle.page_model.specs.declared.animation.Count.TheVariants.{Times, Infinite}
use Rattle.page_model.specs.declared.animation.Direction.{Direction}
use Rattle.page_model.specs.declared.animation.Direction.TheVariants.{Normal, Reverse, Alternate, AlternateReverse}
use Rattle.page_model.specs.Horizon.{IsHorizon, cycle_of, has_settled, is_endless, is_infinite, turns_round}
use Rattle.page_model.specs.Progress.{finite, above_zero, after_from, delay_of, duration_of, has_come, progress_of}
use Rattle.page_model.specs.Time.{HasFrames, time_of}
use Rattle.horizon_laws.proofs.DivisionLemmas.{factor_divides, multiple}
use Rattle.horizon_laws.proofs.ElapsedLemmas.{by_time, come_later, elapsed-more, endless-progress, over-stays, paused-stays}
use Rattle.horizon_laws.proofs.PeriodLemmas.{endless-duration, thousands-some}

-- more time by whole cycles leaves the rest, and adds whole iterations
rest_same : (time duration more : ℕ) → more % duration ≡ 0 → (time + more) % duration ≡ time % duration
rest_same time duration more whole =
    ap (λ x. (time + x) % duration) (multiple more duration whole) ∙ add-mul-mod_self_left time duration (more / duration)

twice_multiple : (more duration k : ℕ) → more ≡ 2 * duration * k → more ≡ duration * (2 * k)
twice_multiple more duration k e = omega arith

rest_twice : (time duration more : ℕ) → more % (2 * duration) ≡ 0 → (time + more) % duration ≡ time % duration
rest_twice time duration more whole =
    let k = more / (2 * duration) in
    ap (λ x. (time + x) % duration) (twice_multiple more duration k (multiple more (2 * duration) whole))
    ∙ add-mul-mod_self_left time duration (2 * k)

turns_twice : (time duration more : ℕ) → 0 < duration → more % (2 * duration) ≡ 0 → (time + more) / duration ≡ time / duration + 2 * (more / (2 * duration))
turns_twice time duration more some whole =
    let k = more / (2 * duration) in
    ap (λ x. (time + x) / duration) (twice_multiple more duration k (multiple more (2 * duration) whole))
    ∙ add-mul-div_left time (2 * k) some

even_more : (n k : ℕ) → (n + 2 * k) % 2 ≡ n % 2
even_more n k = add-mul-mod_self_left n 2 k

odd_more : (n k : ℕ) → (n + 2 * k + 1) % 2 ≡ (n + 1) % 2
odd_more n k = let e : n + 2 * k + 1 ≡ n + 1 + 2 * k = omega arith in ap (λ x. x % 2) e ∙ add-mul-mod_self_left (n + 1) 2 k

-- the cycle, by the direction and the duration
abbrev cycle_by : Direction → ℕ → ℕ
cycle_by direction duration = if turns_round direction then 2 * duration else duration

by_time-repeats :
    (direction : Direction) (duration time more : ℕ) → 0 < duration → more % cycle_by direction duration ≡ 0
    → by_time direction duration (time + more) ≡ by_time direction duration time
by_time-repeats Normal duration time more some whole = rw (rest_same time duration more whole) refl
by_time-repeats Reverse duration time more some whole = rw (rest_same time duration more whole) refl
by_time-repeats Alternate duration time more some whole =
    rw (rest_twice time duration more whole, turns_twice time duration more some whole, even_more (time / duration) (more / (2 * duration))) refl
by_time-repeats AlternateReverse duration time more some whole =
    rw (rest_twice time duration more whole, turns_twice time duration more some whole, odd_more (time / duration) (more / (2 * duration))) refl

-- so many thousands are whole cycles where a thousand times as many are
whole_thousands : (cycle more ticks : ℕ) → ticks ≡ 1000 * more → ticks % (1000 * cycle) ≡ 0 → more % cycle ≡ 0
whole_thousands cycle more ticks e whole =
    let k = ticks / (1000 * cycle) in
    let sum : ticks ≡ 1000 * cycle * k = multiple ticks (1000 * cycle) whole in
    factor_divides cycle k more (omega arith)

twice_thousands : (duration thousands : ℕ) → duration ≡ 1000 * thousands → 2 * duration ≡ 1000 * (2 * thousands)
twice_thousands duration thousands e = omega arith

cycle-thousands :
    (direction : Direction) (thousands more duration ticks : ℕ) → duration ≡ 1000 * thousands → ticks ≡ 1000 * more
    → ticks % cycle_by direction duration ≡ 0 → more % cycle_by direction thousands ≡ 0
cycle-thousands Normal thousands more duration ticks e f whole =
    whole_thousands thousands more ticks f (subst (λ x. ticks % x ≡ 0) e whole)
cycle-thousands Reverse thousands more duration ticks e f whole =
    whole_thousands thousands more ticks f (subst (λ x. ticks % x ≡ 0) e whole)
cycle-thousands Alternate thousands more duration ticks e f whole =
    whole_thousands (2 * thousands) more ticks f (subst (λ x. ticks % x ≡ 0) (twice_thousands duration thousands e) whole)
cycle-thousands AlternateReverse thousands more duration ticks e f whole =
    whole_thousands (2 * thousands) more ticks f (subst (λ x. ticks % x ≡ 0) (twice_thousands duration thousands e) whole)

-- what an endless animation is
infinite_count : (count : Count) → is_infinite count ≡ true → count ≡ Infinite
infinite_count (Times thousandths) h = cc
infinite_count Infinite h = refl

endless-count : (anim : Anim) → is_endless anim ≡ true → anim.count ≡ Infinite
endless-count anim endless =
    let parts = and_parts (not anim.paused) (is_infinite anim.count && not (anim.duration == 0)) endless in
    infinite_count anim.count (and_parts (is_infinite anim.count) (not (anim.duration == 0)) parts.1).0

endless-runs : (anim : Anim) → is_endless anim ≡ true → anim.paused ≡ false
endless-runs anim endless =
    let parts = and_parts (not anim.paused) (is_infinite anim.count && not (anim.duration == 0)) endless in
    not-true anim.paused parts.0

-- what it is to have settled
abbrev begun : Setup → Anim → ℕ → Bool
begun setup anim frame = int_le (delay_of setup anim) (pos (time_of setup frame))

pub settled-endless : (setup : Setup) (anim : Anim) (frame : ℕ) → is_endless anim ≡ true → has_settled setup anim frame ≡ begun setup anim frame
settled-endless setup anim frame endless = rw endless refl

pub settled-other :
    (setup : Setup) (anim : Anim) (frame : ℕ) → is_endless anim ≡ false
    → has_settled setup anim frame ≡ (anim.paused || has_come (pos (time_of setup frame)) (after_from setup anim))
settled-other setup anim frame other = rw other refl

at_most : (a b : ℤ) → int_le a b ≡ true → a ≤ℤ b
at_most a b h = grind (arith, ints)

pub endless-repeats :
    (setup : Setup) (anim : Anim) (frame frames : ℕ) → HasFrames setup → is_endless anim ≡ true
    → has_settled setup anim frame ≡ true → time_of setup frames % cycle_of setup anim ≡ 0
    → progress_of setup anim (frame + frames) ≡ progress_of setup anim frame
endless-repeats setup anim frame frames rate endless settled whole =
    let running = endless-runs anim endless in
    let count = endless-count anim endless in
    let lasting = endless-duration anim endless in
    let some = thousands-some setup anim rate lasting in
    let here : delay_of setup anim ≤ℤ pos (time_of setup frame) =
    at_most (delay_of setup anim) (pos (time_of setup frame)) (sym (settled-endless setup anim frame endless) ∙ settled) in
    let there : delay_of setup anim ≤ℤ pos (time_of setup (frame + frames)) = omega (arith, ints) in
    let sum : time_of setup (frame + frames) ≡ time_of setup frame + time_of setup frames = omega arith in
    let elapsed : above_zero (pos (time_of setup (frame + frames)) -ℤ delay_of setup anim)
    ≡ above_zero (pos (time_of setup frame) -ℤ delay_of setup anim) + time_of setup frames =
    ap (λ x. above_zero (pos x -ℤ delay_of setup anim)) sum
    ∙ elapsed-more (time_of setup frame) (time_of setup frames) (delay_of setup anim) here in
    let time = above_zero (pos (time_of setup frame) -ℤ delay_of setup anim) in
    let more = 1000 * setup.den * frames in
    let by_more : time_of setup frames ≡ 1000 * more = omega arith in
    let thousands : above_zero (pos (time_of setup (frame + frames)) -ℤ delay_of setup anim) / 1000 ≡ time / 1000 + more = omega arith in
    let cycles : more % cycle_by anim.direction (anim.duration * setup.num) ≡ 0 =
    cycle-thousands anim.direction (anim.duration * setup.num) more (duration_of setup anim) (time_of setup frames) (omega arith)
    by_more whole in
    endless-progress setup anim (frame + frames) running count lasting some there
    ∙ (ap (λ x. Some (by_time anim.direction (anim.duration * setup.num) x)) thousands
    ∙ (ap Some (by_time-repeats anim.direction (anim.duration * setup.num) (time / 1000) more some cycles)
    ∙ sym (endless-progress setup anim frame running count lasting some here)))

pub others-stay :
    (setup : Setup) (anim : Anim) (frame later : ℕ) → is_endless anim ≡ false → has_settled setup anim frame ≡ true
    → progress_of setup anim (frame + later) ≡ progress_of setup anim frame
others-stay setup anim frame later other settled =
    let either : (anim.paused || has_come (pos (time_of setup frame)) (after_from setup anim)) ≡ true =
    sym (settled-other setup anim frame other) ∙ settled in
    elim (cases_Bool anim.paused) [
      | inl paused ↦ paused-stays setup anim frame later paused
      | inr running ↦ let come = rw running at either in over-stays setup anim frame later running come
    ]

-- what has settled stays settled
pub settled-more : (setup : Setup) (anim : Anim) (frame more : ℕ) → has_settled setup anim frame ≡ true → has_settled setup anim (frame + more) ≡ true
settled-more setup anim frame more settled =
    let sum : time_of setup frame + 1000000 * setup.den * more ≡ time_of setup (frame + more) = omega arith in
    elim (cases_Bool (is_endless anim)) [
      | inl endless ↦
          let here : begun setup anim frame ≡ true = sym (settled-endless setup anim frame endless) ∙ settled in
          settled-endless setup anim (frame + more) endless
          ∙ subst (λ x. int_le (delay_of setup anim) (pos x) ≡ true) sum
          (come_later (time_of setup frame) (1000000 * setup.den * more) (finite (delay_of setup anim)) here)
      | inr other ↦
          let here : (anim.paused || has_come (pos (time_of setup frame)) (after_from setup anim)) ≡ true =
          sym (settled-other setup anim frame other) ∙ settled in
          settled-other setup anim (frame + more) other
          ∙ elim (cases_Bool anim.paused) [
            | inl paused ↦ rw paused refl
            | inr running ↦
                let come = rw running at here in
                rw running
                (subst (λ x. has_come (pos x) (after_from setup anim) ≡ true) sum
                (come_later (time_of setup frame) (1000000 * setup.den * more) (after_from setup anim) come))
          ]
    ]

settled-later : (setup : Setup) (anim : Anim) (settled frame : ℕ) → settled ≤ frame → has_settled setup anim settled ≡ true → has_settled setup anim frame ≡ true
settled-later setup anim settled frame later h =
    let sum : settled + (frame - settled) ≡ frame = omega arith in
    subst (λ x. has_settled setup anim x ≡ true) sum (settled-more setup anim settled (frame - settled) h)

-- what holds of all that pass a test holds of each that does
where_passing : (p : Anim → Bool) (P : Anim → Type 0) (xs : List Anim) → All P (filter p xs) → All (λ (x : Anim). p x ≡ true → P x) xs
where_passing p P [] all = All-nil (λ (x : Anim). p x ≡ true → P x)
where_passing p P (x ∷ xs) all =
    elim (cases_Bool (p x)) [
      | inl e ↦
          let kept = rw e at all in
          All-cons (λ (y : Anim). p y ≡ true → P y) x xs (λ t. All-head P x (filter p xs) kept)
          (where_passing p P xs (All-tail P x (filter p xs) kept))
      | inr e ↦
          let kept = rw e at all in
          All-cons (λ (y : Anim). p y ≡ true → P y) x xs (λ t. cc) (where_passing p P xs kept)
    ]

pub repeats-together :
    (setup : Setup) (anims : List Anim) (settled period frame : ℕ) → HasFrames setup → IsHorizon setup anims settled period
    → settled ≤ frame → All (λ (anim : Anim). progress_of setup anim (frame + period) ≡ progress_of setup anim frame) anims
repeats-together setup anims settled period frame rate horizon later k d below =
    let h = settled-later setup (slice_index_or anims k d) settled frame later (horizon.settled_is.holds k d below) in
    elim (cases_Bool (is_endless (slice_index_or anims k d))) [
      | inl endless ↦
          endless-repeats setup (slice_index_or anims k d) frame period rate endless h
          (where_passing is_endless (λ (anim : Anim). time_of setup period % cycle_of setup anim ≡ 0) anims
          horizon.period_is.holds.whole k d below endless)
      | inr other ↦ others-stay setup (slice_index_or anims k d) frame period other h
    ]
