-- Each entry of the table is the linear light of its channel, by computing the curve at the entry and at the next number.
use Rattle.std.proofs.Common.{◌≡◌, ℕ, zero, suc, ◌+◌, ◌*◌, ◌/◌, ◌^◌, ◌<◌, ◌≤◌, Bool, true, ◌&&◌, not, List, [], ◌∷◌, length, get_or, refl, subst, sym, arith, inl, inr}
use Rattle.std.specs.Prelude.{nat_le, nat_eq, if◌then◌else◌}
use Rattle.std.proofs.lemmas.Bool.{and_parts, cases_lt, eqb-true, leb-true, le-leb, lt-leb, not-true}
use Rattle.page_model.specs.Light.{is_below_curve, linear_of}
use Rattle.srgb_luma.specs.declared.linear.TheConstants.{LINEAR}
use Rattle.srgb_luma.proofs.LinearLemmas.{linear_of-low, linear_of-edge, linear_of_le}

-- the number is at most 2^32 and below the curve, and the next one is not
abbrev is_edge : ℕ → ℕ → Bool
is_edge c n = nat_le n (2 ^ 32) && (is_below_curve c n && not (is_below_curve c (suc n)))

-- the number is the linear light of the channel
abbrev is_entry : ℕ → ℕ → Bool
is_entry c n = if nat_le c 10 then nat_eq n (c * 5 * 2 ^ 32 / 16473) else is_edge c n

-- the numbers are those of the channels from c on
abbrev are_entries : ℕ → List ℕ → Bool
are_entries c [] = true
are_entries c (n ∷ rest) = is_entry c n && are_entries (suc c) rest

-- such a number is the linear light
linear_of-is_edge : (c n : ℕ) → 10 < c → is_edge c n ≡ true → linear_of c ≡ n
linear_of-is_edge c n high h =
    let parts = and_parts (nat_le n (2 ^ 32)) (is_below_curve c n && not (is_below_curve c (suc n))) h in
    let curve = and_parts (is_below_curve c n) (not (is_below_curve c (suc n))) parts.1 in
    linear_of-edge c n high (leb-true n (2 ^ 32) parts.0) curve.0 (not-true (is_below_curve c (suc n)) curve.1)

linear_of-is_entry : (c n : ℕ) → is_entry c n ≡ true → linear_of c ≡ n
linear_of-is_entry c n h =
    elim (cases_lt 10 c) [
      | inl high ↦ linear_of-is_edge c n high (rw (lt-leb c 10 high) at h)
      | inr low ↦ rw (linear_of-low c low) (sym (eqb-true n (c * 5 * 2 ^ 32 / 16473) (rw (le-leb c 10 low) at h)))
    ]

-- each of the numbers is one
entry :
    (table : List ℕ) (first i c : ℕ) → are_entries first table ≡ true → i < length table → c ≡ first + i
    → is_entry c (get_or table i 0) ≡ true
entry [] first i c h within e = absurd (omega arith)
entry (n ∷ rest) first zero c h within e =
    let same : first ≡ c = omega arith in
    subst (λ x. is_entry x n ≡ true) same (and_parts (is_entry first n) (are_entries (suc first) rest) h).0
entry (n ∷ rest) first (suc i) c h within e =
    entry rest (suc first) i c (and_parts (is_entry first n) (are_entries (suc first) rest) h).1 (omega arith) (omega arith)

-- the tests compute to true over the whole table
pub linear_of-LINEAR : (c : ℕ) → c < 256 → get_or LINEAR c 0 ≡ linear_of c
linear_of-LINEAR c within = sym (linear_of-is_entry c (get_or LINEAR c 0) (entry LINEAR 0 c c refl within (omega arith)))

pub LINEAR_le : (c : ℕ) → c < 256 → get_or LINEAR c 0 ≤ 2 ^ 32
LINEAR_le c within = rw (linear_of-LINEAR c within) (linear_of_le c)
