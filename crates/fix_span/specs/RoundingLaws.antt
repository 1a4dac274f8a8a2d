-- Lemmas on rounding half up, for the laws of `FracLaws`: a floor lies below a number by less than one.
use Rattle.std.proofs.Common.{ℕ, ℤ, pos, negsuc, ◌≡◌, ◌*◌, ◌<◌, ◌≤◌, ◌+ℤ◌, ◌-ℤ◌, ◌*ℤ◌, ◌≤ℤ◌, ◌<ℤ◌, arith, ap, ◌∙◌, refl, sym}
use Rattle.std.proofs.lemmas.Int.{ints}
use Rattle.std.specs.Int.{int_div_euclid}
use Rattle.std.proofs.Math.Nat.{div-add-mod', mul-le-mul}
use Rattle.fix_span.specs.IntLaws.{add-*ℤ, sub-*ℤ, times-times, times_le, times_lt, cancel_le, cancel_lt}
use Rattle.std.proofs.Math.IntN.{*ℤ_comm}

pub floor_at_most : (a : ℤ) (d : ℕ) → 0 < d → (int_div_euclid a (pos d) *ℤ pos d) ≤ℤ a
floor_at_most (pos a) d some = omega (arith, ints, div-add-mod' a d)
floor_at_most (negsuc a) d some = omega (arith, ints, div-add-mod' a d)

pub floor_above : (a : ℤ) (d : ℕ) → 0 < d → a <ℤ (int_div_euclid a (pos d) *ℤ pos d +ℤ pos d)
floor_above (pos a) d some = omega (arith, ints, div-add-mod' a d)
floor_above (negsuc a) d some = omega (arith, ints, div-add-mod' a d)

-- twice a number and one less or more, times another
twice_times : (v : ℤ) (n : ℕ) → (pos 2 *ℤ v) *ℤ pos n ≡ v *ℤ pos (2 * n)
twice_times v n = ap (λ (z : ℤ). z *ℤ pos n) (*ℤ_comm (pos 2) v) ∙ times-times v 2 n

pub twice_less : (v : ℤ) (n : ℕ) → (pos 2 *ℤ v -ℤ pos 1) *ℤ pos n ≡ v *ℤ pos (2 * n) -ℤ pos n
twice_less v n =
    let apart : (pos 2 *ℤ v -ℤ pos 1) *ℤ pos n ≡ (pos 2 *ℤ v) *ℤ pos n -ℤ pos 1 *ℤ pos n = sub-*ℤ (pos 2 *ℤ v) (pos 1) (pos n) in
    rw (apart, twice_times v n) (omega (arith, ints))

pub twice_more : (v : ℤ) (n : ℕ) → (pos 2 *ℤ v +ℤ pos 1) *ℤ pos n ≡ v *ℤ pos (2 * n) +ℤ pos n
twice_more v n =
    let apart : (pos 2 *ℤ v +ℤ pos 1) *ℤ pos n ≡ (pos 2 *ℤ v) *ℤ pos n +ℤ pos 1 *ℤ pos n = add-*ℤ (pos 2 *ℤ v) (pos 1) (pos n) in
    rw (apart, twice_times v n) (omega (arith, ints))

-- twice the numerator of a number over one denominator, over another
twice_over : (p : ℤ) (d : ℕ) → (pos 2 *ℤ p) *ℤ pos d ≡ (p *ℤ pos d) *ℤ pos 2
twice_over p d = twice_times p d ∙ ap (λ (n : ℕ). p *ℤ pos n) (omega arith) ∙ sym (times-times p d 2)

turned_below : (p x : ℤ) (b d : ℕ) → (p *ℤ pos d) ≤ℤ (x *ℤ pos b) → ((pos 2 *ℤ p) *ℤ pos d) ≤ℤ (x *ℤ pos (b * 2))
turned_below p x b d h = rw (twice_over p d, sym (times-times x b 2)) (times_le (p *ℤ pos d) (x *ℤ pos b) 2 h)

turned_above : (p x : ℤ) (b d : ℕ) → (x *ℤ pos b) ≤ℤ (p *ℤ pos d) → (x *ℤ pos (b * 2)) ≤ℤ ((pos 2 *ℤ p) *ℤ pos d)
turned_above p x b d h = rw (twice_over p d, sym (times-times x b 2)) (times_le (x *ℤ pos b) (p *ℤ pos d) 2 h)

-- where p / b is at most x / d, the lower end of a rounding of p / b in a unit, told of x / d
pub least_end : (p x v : ℤ) (u b d : ℕ) → 0 < b → (p *ℤ pos d) ≤ℤ (x *ℤ pos b)
    → ((pos 2 *ℤ v -ℤ pos 1) *ℤ pos (u * b)) ≤ℤ (pos 2 *ℤ p) → (v *ℤ pos (2 * u * d)) ≤ℤ (x *ℤ pos 2 +ℤ pos (u * d))
least_end p x v u b d some e h =
    let scaled : (((pos 2 *ℤ v -ℤ pos 1) *ℤ pos (u * b)) *ℤ pos d) ≤ℤ ((pos 2 *ℤ p) *ℤ pos d) = times_le _ _ d h in
    let left : ((pos 2 *ℤ v -ℤ pos 1) *ℤ pos (u * b)) *ℤ pos d ≡ v *ℤ pos (2 * (u * b * d)) -ℤ pos (u * b * d) =
    times-times (pos 2 *ℤ v -ℤ pos 1) (u * b) d ∙ twice_less v (u * b * d) in
    let sum : (x *ℤ pos 2 +ℤ pos (u * d)) *ℤ pos b ≡ x *ℤ pos (2 * b) +ℤ pos (u * d * b) =
    rw (add-*ℤ (x *ℤ pos 2) (pos (u * d)) (pos b), times-times x 2 b) refl in
    cancel_le (v *ℤ pos (2 * u * d)) (x *ℤ pos 2 +ℤ pos (u * d)) b some
    (rw (times-times v (2 * u * d) b, sum) (omega (arith, ints, scaled, left, turned_below p x b d e)))

-- where p / b is at least x / d, the upper end
pub greatest_end : (p x v : ℤ) (u b d : ℕ) → 0 < d → (x *ℤ pos b) ≤ℤ (p *ℤ pos d)
    → (pos 2 *ℤ p) <ℤ ((pos 2 *ℤ v +ℤ pos 1) *ℤ pos (u * b)) → (x *ℤ pos 2 +ℤ pos (u * d)) <ℤ (v *ℤ pos (2 * u * d) +ℤ pos (2 * u * d))
greatest_end p x v u b d some e h =
    let scaled : ((pos 2 *ℤ p) *ℤ pos d) <ℤ (((pos 2 *ℤ v +ℤ pos 1) *ℤ pos (u * b)) *ℤ pos d) = times_lt _ _ d some h in
    let right : ((pos 2 *ℤ v +ℤ pos 1) *ℤ pos (u * b)) *ℤ pos d ≡ v *ℤ pos (2 * (u * b * d)) +ℤ pos (u * b * d) =
    times-times (pos 2 *ℤ v +ℤ pos 1) (u * b) d ∙ twice_more v (u * b * d) in
    let sum : (x *ℤ pos 2 +ℤ pos (u * d)) *ℤ pos b ≡ x *ℤ pos (2 * b) +ℤ pos (u * d * b) =
    rw (add-*ℤ (x *ℤ pos 2) (pos (u * d)) (pos b), times-times x 2 b) refl in
    let bound : (v *ℤ pos (2 * u * d) +ℤ pos (2 * u * d)) *ℤ pos b ≡ v *ℤ pos (2 * u * d * b) +ℤ pos (2 * u * d * b) =
    rw (add-*ℤ (v *ℤ pos (2 * u * d)) (pos (2 * u * d)) (pos b), times-times v (2 * u * d) b) refl in
    cancel_lt (x *ℤ pos 2 +ℤ pos (u * d)) (v *ℤ pos (2 * u * d) +ℤ pos (2 * u * d)) b
    (rw (sum, bound) (omega (arith, ints, scaled, right, turned_above p x b d e)))

-- a multiple that is at most a number is at most that of the number's floor
pub at_most_floor : (w v a : ℤ) (n : ℕ) → (w *ℤ pos n) ≤ℤ a → a <ℤ (v *ℤ pos n +ℤ pos n) → w ≤ℤ v
at_most_floor w v a n h k =
    let next : (v +ℤ pos 1) *ℤ pos n ≡ v *ℤ pos n +ℤ pos 1 *ℤ pos n = add-*ℤ v (pos 1) (pos n) in
    let next' : (v +ℤ pos 1) *ℤ pos n ≡ v *ℤ pos n +ℤ pos n = rw next (omega (arith, ints)) in
    let below : w <ℤ (v +ℤ pos 1) = cancel_lt w (v +ℤ pos 1) n (rw next' (omega (arith, ints))) in
    omega (arith, ints)

-- a number over two denominators rounds to one whole number
pub rounding_is : (p x v d : ℤ) (u b : ℕ) → 0 < u → 0 < b → pos 0 <ℤ d → p *ℤ d ≡ x *ℤ pos b
    → ((pos 2 *ℤ v -ℤ pos 1) *ℤ pos (u * b)) ≤ℤ (pos 2 *ℤ p) → (pos 2 *ℤ p) <ℤ ((pos 2 *ℤ v +ℤ pos 1) *ℤ pos (u * b))
    → int_div_euclid (x *ℤ pos 2 +ℤ pos u *ℤ d) (pos (2 * u) *ℤ d) ≡ v
rounding_is p x v (pos d) u b some_unit some_parts positive e least greatest =
    let a : ℤ = x *ℤ pos 2 +ℤ pos (u * d) in
    let n : ℕ = 2 * u * d in
    let some : 0 < d = omega (arith, ints) in
    let step : 1 * 1 ≤ u * d = mul-le-mul some_unit some in
    let some_n : 0 < n = omega (arith, step) in
    let w : ℤ = int_div_euclid a (pos n) in
    let below : w ≤ℤ v = at_most_floor w v a n (floor_at_most a n some_n) (greatest_end p x v u b d some (omega (arith, ints, e)) greatest) in
    let above : v ≤ℤ w = at_most_floor v w a n (least_end p x v u b d some_parts (omega (arith, ints, e)) least) (floor_above a n some_n) in
    omega (arith, ints, below, above)
rounding_is p x v (negsuc d) u b some_unit some_parts positive e least greatest = absurd (omega (arith, ints))
