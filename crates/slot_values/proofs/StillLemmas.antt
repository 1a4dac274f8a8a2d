-- A slot that is on its way from a number to itself is at that number, rounded, wherever it is on its way.
use Rattle.std.proofs.Common.{◌≡◌, ◌∙◌, ℕ, ◌*◌, ◌<◌, ℤ, pos, ◌+ℤ◌, ◌-ℤ◌, ◌*ℤ◌, ◌≤ℤ◌, arith, ap, sym, mul-le-mul}
use Rattle.std.specs.Int.{int_div_euclid, int_min, int_max}
use Rattle.std.proofs.lemmas.Int.{ints, clamps}
use Rattle.page_model.specs.Slot.{Slot, held}
use Rattle.fix_span.specs.IntLaws.{*ℤ_assoc, add-*ℤ, cancel_le, times-times, times_le}
use Rattle.slot_values.specs.Ends.{End, nothing_made}
use Rattle.slot_values.specs.Slots.{between, half_up, loose_of, slot_between, value_at}
use Rattle.slot_values.proofs.RoundingLemmas.{div-greatest}

-- a factor of both numbers may be left out of a quotient
quotient-scaled : (a : ℤ) (q d : ℕ) → 0 < q → 0 < d → int_div_euclid (a *ℤ pos d) (pos (q * d)) ≡ int_div_euclid a (pos q)
quotient-scaled a q d some more =
    let both : 0 < q * d = omega (arith, mul-le-mul some more) in
    let x : ℤ = int_div_euclid (a *ℤ pos d) (pos (q * d)) in
    let y : ℤ = int_div_euclid a (pos q) in
    let low : (x *ℤ pos (q * d)) ≤ℤ (a *ℤ pos d) = (div-greatest (a *ℤ pos d) x (q * d) both).1 (itself x) in
    let high : (y *ℤ pos q) ≤ℤ a = (div-greatest a y q some).1 (itself y) in
    let first : x ≤ℤ y = (div-greatest a x q some).0 (cancel_le (x *ℤ pos q) a d more (rw (← times-times x q d) at low)) in
    let second : y ≤ℤ x = (div-greatest (a *ℤ pos d) y (q * d) both).0 (rw (times-times y q d) at (times_le (y *ℤ pos q) a d high)) in
    same x y first second
  where
    itself : (z : ℤ) → z ≤ℤ z
    itself z = omega (arith, ints)

    same : (x y : ℤ) → x ≤ℤ y → y ≤ℤ x → x ≡ y
    same x y h k = omega (arith, ints, h, k)

half_up-scaled : (own : ℤ) (unit d : ℕ) → 0 < unit → 0 < d → half_up (own *ℤ pos d) (pos (unit * d)) ≡ half_up own (pos unit)
half_up-scaled own unit d some more =
    let twice = *ℤ_assoc (pos 2) own (pos d) in
    let spread = add-*ℤ (pos 2 *ℤ own) (pos unit) (pos d) in
    let value : pos 2 *ℤ (own *ℤ pos d) +ℤ pos (unit * d) ≡ (pos 2 *ℤ own +ℤ pos unit) *ℤ pos d =
    summed (pos 2 *ℤ (own *ℤ pos d)) ((pos 2 *ℤ own) *ℤ pos d) (pos (unit * d)) ((pos 2 *ℤ own +ℤ pos unit) *ℤ pos d) twice spread in
    let parts : pos 2 *ℤ pos (unit * d) ≡ pos (2 * unit * d) = ap pos (doubled unit d) in
    (λ i. int_div_euclid (value i) (parts i))
    ∙ quotient-scaled (pos 2 *ℤ own +ℤ pos unit) (2 * unit) d (omega arith) more
  where
    summed : (a b c e : ℤ) → b ≡ a → e ≡ b +ℤ c → a +ℤ c ≡ e
    summed a b c e h k = omega (arith, ints, h, k)

    doubled : (m n : ℕ) → 2 * (m * n) ≡ 2 * m * n
    doubled m n = omega arith

between-itself : (own : ℤ) (x : End) → between own own x ≡ own *ℤ pos x.den
between-itself own x =
    let none : own -ℤ own ≡ pos 0 = omega (arith, ints) in
    let nothing : (own -ℤ own) *ℤ x.num ≡ pos 0 = ap (λ (z : ℤ). z *ℤ x.num) none ∙ zero x.num in
    added (own *ℤ pos x.den) ((own -ℤ own) *ℤ x.num) nothing
  where
    zero : (z : ℤ) → pos 0 *ℤ z ≡ pos 0
    zero z = omega (arith, ints)

    added : (a b : ℤ) → b ≡ pos 0 → a +ℤ b ≡ a
    added a b e = omega (arith, ints, e)

pub value-stays : (slot : Slot) (own : ℤ) (x : End) → 0 < slot.unit → 0 < x.den → value_at slot own own x ≡ held slot (half_up own (pos slot.unit))
value-stays slot own x some more =
    ap (λ (z : ℤ). held slot (half_up z (pos (slot.unit * x.den)))) (between-itself own x)
    ∙ ap (held slot) (half_up-scaled own slot.unit x.den some more)

pub slot-stays : (slot : Slot) (from to : ℤ) (least greatest : End) → from ≡ to → 0 < slot.unit → 0 < least.den → 0 < greatest.den
    → slot_between slot from to least greatest ≡ slot_between slot from from nothing_made nothing_made
slot-stays slot from to least greatest e some first second =
    let still : value_at slot from from nothing_made ≡ held slot (half_up from (pos slot.unit)) = value-stays slot from nothing_made some (omega arith) in
    let low : value_at slot from from least ≡ value_at slot from from nothing_made = value-stays slot from least some first ∙ sym still in
    let high : value_at slot from from greatest ≡ value_at slot from from nothing_made = value-stays slot from greatest some second ∙ sym still in
    ap (λ (z : ℤ). slot_between slot from z least greatest) (sym e) ∙ (λ i. loose_of (low i) (high i))

-- one value as a loose one
pub still-is : (slot : Slot) (own v : ℤ) → 0 < slot.unit → v ≡ held slot (half_up own (pos slot.unit))
    → record { lo = v; hi = v } ≡ slot_between slot own own nothing_made nothing_made
still-is slot own v some e =
    let is : v ≡ value_at slot own own nothing_made = e ∙ sym (value-stays slot own nothing_made some (omega arith)) in
    let low : v ≡ int_min v v = omega (arith, ints, clamps) in
    let high : v ≡ int_max v v = omega (arith, ints, clamps) in
    (λ i. record { lo = low i; hi = high i }) ∙ (λ i. loose_of (is i) (is i))
