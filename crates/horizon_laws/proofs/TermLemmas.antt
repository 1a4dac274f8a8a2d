-- Terms: there is one where a cycle takes time, just its multiples are whole numbers of cycles, and it is the cycle over the
-- greatest common divisor.
use Rattle.std.proofs.Common.{◌≡◌, ℕ, ◌*◌, ◌/◌, ◌%◌, ◌<◌, ◌≤◌, arith, subst, inl, inr}
use Rattle.std.specs.Prelude.{◌↔◌}
use Rattle.std.specs.Int.{IsGcd, ◌∣◌}
use Rattle.std.proofs.lemmas.Bool.{cases_lt, cases_eq}
use Rattle.std.proofs.lemmas.Nat.Gcd.{dvd_of_mod-eq-zero, mod-eq-zero_of_dvd}
use Rattle.std.proofs.Math.Nat.{le-mul_of_pos_right}
use Rattle.page_model.specs.declared.setup.Setup.{Setup}
use Rattle.page_model.specs.declared.animation.Anim.{Anim}
use Rattle.page_model.specs.Horizon.{IsTerm, IsWholeCycles, cycle_of}
use Rattle.page_model.specs.Time.{time_of}
use Rattle.horizon_laws.proofs.DivisionLemmas.{multiple, cycle_whole, rest_whole, multiple_whole, some_left, some_right, factor_divides, other_factor, part_whole, cycle_parts}
use Rattle.horizon_laws.proofs.LeastLemmas.{IsDecided, IsLeast-exists}

whole-decided : (setup : Setup) (anim : Anim) → IsDecided (IsWholeCycles setup anim)
whole-decided setup anim n =
    elim (cases_lt 0 n) [
      | inr none ↦ inr (λ w. let some = w.some in omega arith)
      | inl some ↦ elim (cases_eq (time_of setup n % cycle_of setup anim) 0) [
        | inl e ↦ inl (record { some = omega arith; whole = e })
        | inr f ↦ inr (λ w. f w.whole)
      ]
    ]

pub term-exists : (setup : Setup) (anim : Anim) → 0 < cycle_of setup anim → (term : ℕ) × IsTerm setup anim term
term-exists setup anim some =
    IsLeast-exists (IsWholeCycles setup anim) (whole-decided setup anim) (cycle_of setup anim)
    (record { some = omega arith; whole = cycle_whole (1000000 * setup.den) (cycle_of setup anim) })

-- a whole number of cycles is a multiple of the term
pub term-divides : (setup : Setup) (anim : Anim) (term frames : ℕ) → IsTerm setup anim term → IsWholeCycles setup anim frames → frames % term ≡ 0
term-divides setup anim term frames is whole =
    elim (cases_lt 0 (frames % term)) [
      | inr none ↦ omega arith
      | inl rest ↦
          let w : IsWholeCycles setup anim (frames % term) = record {
            some = omega arith;
            whole = rest_whole (1000000 * setup.den) (cycle_of setup anim) term frames is.holds.whole whole.whole;
          } in
          let least = is.least (frames % term) w in
          let some = is.holds.some in
          absurd (omega arith)
    ]

pub term-multiples :
    (setup : Setup) (anim : Anim) (term frames : ℕ) → 0 < cycle_of setup anim → IsTerm setup anim term → 1 ≤ frames
    → IsWholeCycles setup anim frames ↔ (frames % term ≡ 0)
term-multiples setup anim term frames cycle is some = (
  term-divides setup anim term frames is,
  λ rest. record { some = some; whole = multiple_whole (1000000 * setup.den) (cycle_of setup anim) term frames is.holds.whole rest },
)

-- the least whole number of frames is the cycle over the greatest common divisor
least_by_divisor :
    (ticks cycle t g : ℕ) → 0 < cycle → 0 < t → cycle % t ≡ 0 → ticks * t % cycle ≡ 0 → IsGcd cycle ticks g
    → ((m : ℕ) → 0 < m → ticks * m % cycle ≡ 0 → t ≤ m) → t ≡ cycle / g
least_by_divisor ticks cycle t g some first divides whole divisor least =
    let k = cycle / t in
    let q = ticks * t / cycle in
    let by_k : cycle ≡ t * k = multiple cycle t divides in
    let by_q : ticks * t ≡ cycle * q = multiple (ticks * t) cycle whole in
    let ticks_by_k : ticks ≡ k * q = other_factor ticks cycle t k q first by_k by_q in
    let k_divides_ticks : k ∣ ticks = dvd_of_mod-eq-zero k (factor_divides k q ticks ticks_by_k) in
    let cycle_by_k : cycle ≡ k * t = omega arith in
    let k_divides_cycle : k ∣ cycle = dvd_of_mod-eq-zero k (factor_divides k t cycle cycle_by_k) in
    let j = g / k in
    let by_j : g ≡ k * j = multiple g k (mod-eq-zero_of_dvd k (divisor.2 k k_divides_cycle k_divides_ticks)) in
    let a = cycle / g in
    let by_a : cycle ≡ g * a = multiple cycle g (mod-eq-zero_of_dvd g divisor.0) in
    let by_b : ticks ≡ g * (ticks / g) = multiple ticks g (mod-eq-zero_of_dvd g divisor.1) in
    let below : t ≤ a = least a (some_right g a cycle by_a some) (part_whole ticks cycle g a (ticks / g) by_a by_b) in
    let some_k : 0 < k = some_right t k cycle by_k some in
    let parts : t ≡ j * a = cycle_parts cycle t k g j a some_k by_k by_j by_a in
    let some_j : 0 < j = some_left j a t parts first in
    let above : a ≤ a * j = le-mul_of_pos_right a some_j in
    omega arith

pub term-by_divisor :
    (setup : Setup) (anim : Anim) (divisor : ℕ) → 0 < cycle_of setup anim
    → IsGcd (cycle_of setup anim) (time_of setup 1) divisor → IsTerm setup anim (cycle_of setup anim / divisor)
term-by_divisor setup anim divisor cycle is =
    let found = term-exists setup anim cycle in
    let term = found.1 in
    let own : IsWholeCycles setup anim (cycle_of setup anim) =
    record { some = omega arith; whole = cycle_whole (1000000 * setup.den) (cycle_of setup anim) } in
    let one_frame : time_of setup 1 ≡ 1000000 * setup.den = omega arith in
    let same : found.0 ≡ cycle_of setup anim / divisor =
    least_by_divisor (1000000 * setup.den) (cycle_of setup anim) found.0 divisor cycle (omega (arith, term.holds.some))
    (term-divides setup anim found.0 (cycle_of setup anim) term own) term.holds.whole
    (subst (λ x. IsGcd (cycle_of setup anim) x divisor) one_frame is)
    (λ m some whole. term.least m (record { some = some; whole = whole })) in
    subst (IsTerm setup anim) same term
