-- Lemmas for the laws of `SpanLaws`: a product lies between the least and the greatest product of two ends, and a ceiling is at
-- least its number.
use Rattle.std.proofs.Common.{ℕ, ℤ, suc, pos, negsuc, ◌≡◌, ◌+◌, ◌*◌, ◌^◌, ◌<◌, ◌≤◌, ◌+ℤ◌, ◌-ℤ◌, ◌*ℤ◌, ◌≤ℤ◌, arith, ap, ◌∙◌}
use Rattle.std.proofs.lemmas.Int.{ints, by_lt_z}
use Rattle.std.proofs.lemmas.Nat.{pow_pos}
use Rattle.std.proofs.Math.Nat.{mul-le-mul_right}
use Rattle.std.proofs.Math.IntN.{*ℤ_comm}
use borrow.Author.Differences.{up, down, product_is}
use Rattle.fix_span.specs.Span.{ceiling}
use Rattle.fix_span.specs.IntLaws.{*ℤ_assoc, times-times, times_le}
use Rattle.fix_span.specs.RoundingLaws.{floor_above}

pub some_power : (n : ℕ) → 0 < 2 ^ n
some_power n = pow_pos n

pub ceiling_at_least : (a : ℤ) (d : ℕ) → 0 < d → a ≤ℤ (ceiling a (pos d) *ℤ pos d)
ceiling_at_least a d some = omega (arith, ints, floor_above (a +ℤ (pos d -ℤ pos 1)) d some)

-- a factor that isn't negative keeps an order, and one that isn't positive turns it
pub times_le_up : (x y z : ℤ) → pos 0 ≤ℤ z → x ≤ℤ y → (x *ℤ z) ≤ℤ (y *ℤ z)
times_le_up x y (pos n) h k = times_le x y n k
times_le_up x y (negsuc n) h k = absurd (omega (arith, ints))

pub times_le_down : (x y z : ℤ) → z ≤ℤ pos 0 → x ≤ℤ y → (y *ℤ z) ≤ℤ (x *ℤ z)
times_le_down x y (pos n) h k =
    let none : n ≡ 0 = omega (arith, ints) in
    omega (arith, ints, ap (λ k. x *ℤ pos k) none, ap (λ k. y *ℤ pos k) none)
times_le_down x y (negsuc n) h k =
    let more : (up x + down y) * suc n ≤ (up y + down x) * suc n = mul-le-mul_right (suc n) (omega (arith, ints)) in
    omega (arith, ints, more, product_is x (negsuc n), product_is y (negsuc n))

-- three factors in another order
turned : (x y : ℤ) (d : ℕ) → (x *ℤ y) *ℤ pos d ≡ (y *ℤ pos d) *ℤ x
turned x y d = *ℤ_assoc x y (pos d) ∙ *ℤ_comm x (y *ℤ pos d)

-- a number that is at most the products of an end with two others is at most that with each number between these
pub end_least : (m l l' h' y : ℤ) (d : ℕ) → m ≤ℤ (l *ℤ l') → m ≤ℤ (l *ℤ h') → (l' *ℤ pos d) ≤ℤ y → y ≤ℤ (h' *ℤ pos d)
    → (m *ℤ pos d) ≤ℤ (y *ℤ l)
end_least m l l' h' y d first second low high =
    by_lt_z l (pos 0)
    (λ negative.
    let one : (m *ℤ pos d) ≤ℤ ((l *ℤ h') *ℤ pos d) = times_le m (l *ℤ h') d second in
    let two : ((h' *ℤ pos d) *ℤ l) ≤ℤ (y *ℤ l) = times_le_down y (h' *ℤ pos d) l (omega (arith, ints, negative)) high in
    omega (arith, ints, one, two, turned l h' d))
    (λ positive.
    let one : (m *ℤ pos d) ≤ℤ ((l *ℤ l') *ℤ pos d) = times_le m (l *ℤ l') d first in
    let two : ((l' *ℤ pos d) *ℤ l) ≤ℤ (y *ℤ l) = times_le_up (l' *ℤ pos d) y l positive low in
    omega (arith, ints, one, two, turned l l' d))

pub end_greatest : (m l l' h' y : ℤ) (d : ℕ) → (l *ℤ l') ≤ℤ m → (l *ℤ h') ≤ℤ m → (l' *ℤ pos d) ≤ℤ y → y ≤ℤ (h' *ℤ pos d)
    → (y *ℤ l) ≤ℤ (m *ℤ pos d)
end_greatest m l l' h' y d first second low high =
    by_lt_z l (pos 0)
    (λ negative.
    let one : ((l *ℤ l') *ℤ pos d) ≤ℤ (m *ℤ pos d) = times_le (l *ℤ l') m d first in
    let two : (y *ℤ l) ≤ℤ ((l' *ℤ pos d) *ℤ l) = times_le_down (l' *ℤ pos d) y l (omega (arith, ints, negative)) low in
    omega (arith, ints, one, two, turned l l' d))
    (λ positive.
    let one : ((l *ℤ h') *ℤ pos d) ≤ℤ (m *ℤ pos d) = times_le (l *ℤ h') m d second in
    let two : (y *ℤ l) ≤ℤ ((h' *ℤ pos d) *ℤ l) = times_le_up y (h' *ℤ pos d) l positive high in
    omega (arith, ints, one, two, turned l h' d))

-- the product of a number between l b and h b and one between l' d and h' d
pub product_least : (m l h l' h' x y : ℤ) (b d : ℕ) → m ≤ℤ (l *ℤ l') → m ≤ℤ (l *ℤ h') → m ≤ℤ (h *ℤ l') → m ≤ℤ (h *ℤ h')
    → (l *ℤ pos b) ≤ℤ x → x ≤ℤ (h *ℤ pos b) → (l' *ℤ pos d) ≤ℤ y → y ≤ℤ (h' *ℤ pos d) → (m *ℤ pos (b * d)) ≤ℤ (x *ℤ y)
product_least m l h l' h' x y b d ll lh hl hh x_low x_high y_low y_high =
    by_lt_z y (pos 0)
    (λ negative.
    let one : ((m *ℤ pos d) *ℤ pos b) ≤ℤ ((y *ℤ h) *ℤ pos b) = times_le _ _ b (end_least m h l' h' y d hl hh y_low y_high) in
    let two : ((h *ℤ pos b) *ℤ y) ≤ℤ (x *ℤ y) = times_le_down x (h *ℤ pos b) y (omega (arith, ints, negative)) x_high in
    omega (arith, ints, one, two, turned y h b, times-times m d b))
    (λ positive.
    let one : ((m *ℤ pos d) *ℤ pos b) ≤ℤ ((y *ℤ l) *ℤ pos b) = times_le _ _ b (end_least m l l' h' y d ll lh y_low y_high) in
    let two : ((l *ℤ pos b) *ℤ y) ≤ℤ (x *ℤ y) = times_le_up (l *ℤ pos b) x y positive x_low in
    omega (arith, ints, one, two, turned y l b, times-times m d b))

pub product_greatest : (m l h l' h' x y : ℤ) (b d : ℕ) → (l *ℤ l') ≤ℤ m → (l *ℤ h') ≤ℤ m → (h *ℤ l') ≤ℤ m → (h *ℤ h') ≤ℤ m
    → (l *ℤ pos b) ≤ℤ x → x ≤ℤ (h *ℤ pos b) → (l' *ℤ pos d) ≤ℤ y → y ≤ℤ (h' *ℤ pos d) → (x *ℤ y) ≤ℤ (m *ℤ pos (b * d))
product_greatest m l h l' h' x y b d ll lh hl hh x_low x_high y_low y_high =
    by_lt_z y (pos 0)
    (λ negative.
    let one : ((y *ℤ l) *ℤ pos b) ≤ℤ ((m *ℤ pos d) *ℤ pos b) = times_le _ _ b (end_greatest m l l' h' y d ll lh y_low y_high) in
    let two : (x *ℤ y) ≤ℤ ((l *ℤ pos b) *ℤ y) = times_le_down (l *ℤ pos b) x y (omega (arith, ints, negative)) x_low in
    omega (arith, ints, one, two, turned y l b, times-times m d b))
    (λ positive.
    let one : ((y *ℤ h) *ℤ pos b) ≤ℤ ((m *ℤ pos d) *ℤ pos b) = times_le _ _ b (end_greatest m h l' h' y d hl hh y_low y_high) in
    let two : (x *ℤ y) ≤ℤ ((h *ℤ pos b) *ℤ y) = times_le_up x (h *ℤ pos b) y positive x_high in
    omega (arith, ints, one, two, turned y h b, times-times m d b))
