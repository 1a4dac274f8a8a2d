-- Periods: there is one, it is a multiple of each term, and it divides each common multiple of them.
use Rattle.std.proofs.Common.{◌≡◌, ℕ, ◌*◌, ◌%◌, ◌<◌, ◌≤◌, true, List, [], ◌∷◌, arith, refl, subst, inl, inr}
use Rattle.std.specs.Prelude.{◌⊎◌, All, filter, slice_index_or, not, ◌==◌, ◌&&◌}
use Rattle.std.proofs.lemmas.Bool.{cases_Bool, cases_lt, cases_eq, and_parts}
use Rattle.std.proofs.lemmas.List.Elements.{All-nil, All-cons, All-head, All-tail, All-weaker, filter_passes}
use Rattle.std.proofs.Math.Nat.{one-le-mul}
use Rattle.page_model.specs.declared.setup.Setup.{Setup}
use Rattle.page_model.specs.declared.animation.Anim.{Anim}
use Rattle.page_model.specs.Horizon.{IsPeriod, IsTerm, AreWholeCycles, is_endless, is_infinite, turns_round, cycle_of}
use Rattle.page_model.specs.Progress.{duration_of}
use Rattle.page_model.specs.Time.{HasFrames, time_of}
use Rattle.horizon_laws.specs.HorizonLaws.{IsCommonMultiple}
use Rattle.horizon_laws.proofs.DivisionLemmas.{rest_whole, multiple_whole, factor_divides}
use Rattle.horizon_laws.proofs.LeastLemmas.{IsDecided, IsLeast-exists}
use Rattle.horizon_laws.proofs.TermLemmas.{term-exists, term-divides}

-- so many frames leave no rest by the cycle of an animation
abbrev pub Whole : Setup → ℕ → Anim → Type 0
Whole setup frames anim = time_of setup frames % cycle_of setup anim ≡ 0

-- a fact on each of a list is decided where it is on one
pub all_decided : (P : Anim → Type 0) → ((anim : Anim) → P anim ⊎ (P anim → ⊥)) → (anims : List Anim) → All P anims ⊎ (All P anims → ⊥)
all_decided P decided [] = inl (All-nil P)
all_decided P decided (anim ∷ rest) =
    elim (decided anim) [
      | inr fails ↦ inr (λ all. fails (All-head P anim rest all))
      | inl here ↦ elim (all_decided P decided rest) [
        | inl others ↦ inl (All-cons P anim rest here others)
        | inr fails ↦ inr (λ all. fails (All-tail P anim rest all))
      ]
    ]

whole-decided : (setup : Setup) (frames : ℕ) (anim : Anim) → Whole setup frames anim ⊎ (Whole setup frames anim → ⊥)
whole-decided setup frames anim = cases_eq (time_of setup frames % cycle_of setup anim) 0

are-decided : (setup : Setup) (anims : List Anim) → IsDecided (AreWholeCycles setup anims)
are-decided setup anims n =
    elim (cases_lt 0 n) [
      | inr none ↦ inr (λ w. let some = w.some in omega arith)
      | inl some ↦ elim (all_decided (Whole setup n) (whole-decided setup n) (filter is_endless anims)) [
        | inl all ↦ inl (record { some = omega arith; whole = all })
        | inr fails ↦ inr (λ w. fails w.whole)
      ]
    ]

-- an endless animation's cycle takes time
pub endless-duration : (anim : Anim) → is_endless anim ≡ true → 0 < anim.duration
endless-duration anim endless =
    let infinite = and_parts (not anim.paused) (is_infinite anim.count && not (anim.duration == 0)) endless in
    let lasting = and_parts (is_infinite anim.count) (not (anim.duration == 0)) infinite.1 in
    elim (cases_lt 0 anim.duration) [
      | inl some ↦ some
      | inr none ↦
          let z : anim.duration ≡ 0 = omega arith in
          let t : not (0 == 0) ≡ true = subst (λ x. not (x == 0) ≡ true) z lasting.1 in
          cc
    ]

-- its duration is so many thousands of the unit
pub thousands-some : (setup : Setup) (anim : Anim) → HasFrames setup → 0 < anim.duration → 0 < anim.duration * setup.num
thousands-some setup anim rate lasting = one-le-mul lasting rate.some_num

pub duration-some : (setup : Setup) (anim : Anim) → HasFrames setup → 0 < anim.duration → 0 < duration_of setup anim
duration-some setup anim rate lasting =
    let thousands = thousands-some setup anim rate lasting in
    omega arith

endless-cycle : (setup : Setup) (anim : Anim) → HasFrames setup → is_endless anim ≡ true → 0 < cycle_of setup anim
endless-cycle setup anim rate endless =
    let some = duration-some setup anim rate (endless-duration anim endless) in
    elim (cases_Bool (turns_round anim.direction)) [
      | inl e ↦ rw e (omega arith)
      | inr e ↦ rw e some
    ]

endless-cycles :
    (setup : Setup) (anims : List Anim) → HasFrames setup → All (λ (anim : Anim). 0 < cycle_of setup anim) (filter is_endless anims)
endless-cycles setup anims rate k d below =
    endless-cycle setup (slice_index_or (filter is_endless anims) k d) rate (filter_passes is_endless anims k d below)

own_whole : (ticks m cycle : ℕ) → ticks * (m * cycle) % cycle ≡ 0
own_whole ticks m cycle = factor_divides cycle (ticks * m) (ticks * (m * cycle)) (omega arith)

more_whole : (ticks m by cycle : ℕ) → ticks * m % cycle ≡ 0 → ticks * (m * by) % cycle ≡ 0
more_whole ticks m by cycle w = multiple_whole ticks cycle m (m * by) w (factor_divides m by (m * by) refl)

-- some frames, at least one, are whole cycles of each of some animations whose cycles take time
common : (setup : Setup) (anims : List Anim) → All (λ (anim : Anim). 0 < cycle_of setup anim) anims → (n : ℕ) × (1 ≤ n) × All (Whole setup n) anims
common setup [] some = (1, omega arith, All-nil (Whole setup 1))
common setup (anim ∷ rest) some =
    let here = All-head (λ (a : Anim). 0 < cycle_of setup a) anim rest some in
    let others = common setup rest (All-tail (λ (a : Anim). 0 < cycle_of setup a) anim rest some) in (
      others.0 * cycle_of setup anim,
      one-le-mul others.1 here,
      All-cons (Whole setup (others.0 * cycle_of setup anim)) anim rest (own_whole (1000000 * setup.den) others.0 (cycle_of setup anim))
          (All-weaker (Whole setup others.0) (Whole setup (others.0 * cycle_of setup anim))
          (λ a w. more_whole (1000000 * setup.den) others.0 (cycle_of setup anim) (cycle_of setup a) w) rest others.2),
    )

pub period-exists : (setup : Setup) (anims : List Anim) → HasFrames setup → (period : ℕ) × IsPeriod setup anims period
period-exists setup anims rate =
    let found = common setup (filter is_endless anims) (endless-cycles setup anims rate) in
    IsLeast-exists (AreWholeCycles setup anims) (are-decided setup anims) found.0
    (record { some = found.1; whole = found.2 })

pub period-common : (setup : Setup) (anims : List Anim) (period : ℕ) → IsPeriod setup anims period → IsCommonMultiple setup anims period
period-common setup anims period is k d below term of =
    term-divides setup (slice_index_or (filter is_endless anims) k d) term period of
    (record { some = is.holds.some; whole = is.holds.whole k d below })

-- a common multiple of the terms is a whole number of cycles of each
multiple-whole :
    (setup : Setup) (anim : Anim) (n : ℕ) → 0 < cycle_of setup anim → ((term : ℕ) → IsTerm setup anim term → n % term ≡ 0)
    → Whole setup n anim
multiple-whole setup anim n cycle multiple =
    let found = term-exists setup anim cycle in
    multiple_whole (1000000 * setup.den) (cycle_of setup anim) found.0 n found.1.holds.whole (multiple found.0 found.1)

multiples-whole :
    (setup : Setup) (anims : List Anim) (n : ℕ) → HasFrames setup → IsCommonMultiple setup anims n
    → All (Whole setup n) (filter is_endless anims)
multiples-whole setup anims n rate multiple k d below =
    multiple-whole setup (slice_index_or (filter is_endless anims) k d) n (endless-cycles setup anims rate k d below)
    (multiple k d below)

pub period-divides :
    (setup : Setup) (anims : List Anim) (period n : ℕ) → HasFrames setup → IsPeriod setup anims period → 1 ≤ n
    → IsCommonMultiple setup anims n → n % period ≡ 0
period-divides setup anims period n rate is some multiple =
    let whole = multiples-whole setup anims n rate multiple in
    elim (cases_lt 0 (n % period)) [
      | inr none ↦ omega arith
      | inl rest ↦
          let w : AreWholeCycles setup anims (n % period) = record {
            some = omega arith;
            whole = λ k d below. rest_whole (1000000 * setup.den) (cycle_of setup (slice_index_or (filter is_endless anims) k d)) period n
                (is.holds.whole k d below) (whole k d below);
          } in
          let least = is.least (n % period) w in
          let first = is.holds.some in
          absurd (omega arith)
    ]
