-- Linear light grows with the channel, and strictly so up to 255.
use Rattle.std.proofs.Common.{ℕ, suc, ◌*◌, ◌/◌, ◌^◌, ◌<◌, ◌≤◌, Bool, true, get_or, refl, arith, inl, inr}
use Rattle.std.specs.Prelude.{nat_lt}
use Rattle.std.proofs.lemmas.Bool.{cases_lt, ltb-true, agree_below_at}
use Rattle.page_model.specs.Light.{is_below_curve, linear_of}
use Rattle.srgb_luma.specs.declared.linear.TheConstants.{LINEAR}
use Rattle.srgb_luma.proofs.GreatestLemmas.{greatest_up_to-mono}
use Rattle.srgb_luma.proofs.CurveLemmas.{is_below_curve-channel}
use Rattle.srgb_luma.proofs.LinearLemmas.{linear_of-low, linear_of-high, linear_of-edge}
use Rattle.srgb_luma.proofs.TableLemmas.{linear_of-LINEAR}

-- a higher channel has no less light, above 255 too
pub linear_of-mono : (c d : ℕ) → c ≤ d → linear_of c ≤ linear_of d
linear_of-mono c d above =
    elim (cases_lt 10 d) [
      | inl high ↦ elim (cases_lt 10 c) [
        | inl both ↦ rw (linear_of-high c both, linear_of-high d high) (greatest_up_to-mono (2 ^ 32) (is_below_curve c) (is_below_curve d) (λ n. is_below_curve-channel c d n above))
        | inr low ↦ across c d low high
      ]
      | inr low ↦ rw (linear_of-low c (omega arith), linear_of-low d low) (omega arith)
    ] where
      across : (c d : ℕ) → c ≤ 10 → 10 < d → linear_of c ≤ linear_of d
      across c d low high =
          let at_low : c * 5 * 2 ^ 32 / 16473 ≤ 14373261 = omega arith in
          let eleven = linear_of-edge 11 14373261 (omega arith) (omega arith) refl refl in
          let first = greatest_up_to-mono (2 ^ 32) (is_below_curve 11) (is_below_curve d) (λ n. is_below_curve-channel 11 d n high) in
          let h = linear_of-high 11 (omega arith) in
          rw (linear_of-low c low, linear_of-high d high) (omega arith)

-- the entry after channel c is larger
abbrev is_step : ℕ → Bool
is_step c = nat_lt (get_or LINEAR c 0) (get_or LINEAR (suc c) 0)

linear_of-step : (c : ℕ) → c < 255 → linear_of c < linear_of (suc c)
linear_of-step c within =
    let step = ltb-true (get_or LINEAR c 0) (get_or LINEAR (suc c) 0) (agree_below_at is_step (λ _. true) 255 c refl within) in
    let here = linear_of-LINEAR c (omega arith) in
    let next = linear_of-LINEAR (suc c) (omega arith) in
    omega arith

-- up to 255 a higher channel has more light
pub linear_of-strict : (c d : ℕ) → c < d → d < 256 → linear_of c < linear_of d
linear_of-strict c d above within =
    let step = linear_of-step c (omega arith) in
    let rest = linear_of-mono (suc c) d above in
    omega arith
