-- The number on the way from one whole number to another, at an end of an eased value: what is computed on the way fits, and is the
-- definition's.
use Rattle.std.proofs.Common.{ℕ, ℤ, pos, neg_ℤ, negsuc, ◌≡◌, ◌+◌, ◌-◌, ◌*◌, ◌^◌, ◌<◌, ◌≤◌, ◌+ℤ◌, ◌-ℤ◌, ◌*ℤ◌, ◌≤ℤ◌, FitsSigned, nat_abs, arith, ap, ◌∙◌, refl, sym, subst}
use Rattle.std.specs.Int.{w128}
use Rattle.std.proofs.lemmas.Int.{ints}
use Rattle.std.proofs.Math.Nat.{mul-le-mul}
use Rattle.page_model.specs.ValidScene.{IsBetween}
use Rattle.fix_span.specs.declared.frac.Frac.{Frac}
use Rattle.fix_span.specs.Frac.{Fits, difference, product, sum, whole_frac}
use Rattle.slot_values.specs.Ends.{IsEnd, end_of}
use Rattle.slot_values.specs.Slots.{between}

-- a number that 32 bits hold
pub record IsSmall (z : ℤ) : Type 0 where
  pub least : neg_ℤ (pos (2 ^ 31)) ≤ℤ z
  pub greatest : z ≤ℤ pos (2 ^ 31 - 1)

-- a number is at most so great, either way
record IsAtMost (n : ℕ) (z : ℤ) : Type 0 where
  least : neg_ℤ (pos n) ≤ℤ z
  greatest : z ≤ℤ pos n

-- a product is at most the product of the limits
product-at_most : (a b : ℤ) (m n : ℕ) → IsAtMost m a → IsAtMost n b → IsAtMost (m * n) (a *ℤ b)
product-at_most (pos a) (pos b) m n first second =
    let h : a ≤ m = omega (arith, ints, first.greatest) in
    let k : b ≤ n = omega (arith, ints, second.greatest) in
    let times = mul-le-mul h k in
    record { least = omega (arith, ints, times); greatest = omega (arith, ints, times) }
product-at_most (pos a) (negsuc b) m n first second =
    let h : a ≤ m = omega (arith, ints, first.greatest) in
    let k : b + 1 ≤ n = omega (arith, ints, second.least) in
    let times = mul-le-mul h k in
    record { least = omega (arith, ints, times); greatest = omega (arith, ints, times) }
product-at_most (negsuc a) (pos b) m n first second =
    let h : a + 1 ≤ m = omega (arith, ints, first.least) in
    let k : b ≤ n = omega (arith, ints, second.greatest) in
    let times = mul-le-mul h k in
    record { least = omega (arith, ints, times); greatest = omega (arith, ints, times) }
product-at_most (negsuc a) (negsuc b) m n first second =
    let h : a + 1 ≤ m = omega (arith, ints, first.least) in
    let k : b + 1 ≤ n = omega (arith, ints, second.least) in
    let times = mul-le-mul h k in
    record { least = omega (arith, ints, times); greatest = omega (arith, ints, times) }

-- an end in its natural denominator
pub den-is : (x : Frac) → IsEnd x → pos (nat_abs x.den) ≡ x.den
den-is x end = natural x.den (omega (arith, ints, end.positive))
  where
    natural : (z : ℤ) → pos 0 ≤ℤ z → pos (nat_abs z) ≡ z
    natural (pos n) h = refl
    natural (negsuc n) h = absurd (omega (arith, ints))

pub den-positive : (x : Frac) → IsEnd x → 0 < nat_abs x.den
den-positive x end = let e = den-is x end in omega (arith, ints, e, end.positive)

pub den-few : (x : Frac) → IsEnd x → nat_abs x.den ≤ 2 ^ 48
den-few x end = let e = den-is x end in omega (arith, ints, e, end.few)

-- the way between two numbers, and the part of it that is made
abbrev way_between : ℤ → ℤ → Frac
way_between from to = difference (whole_frac to) (whole_frac from)

pub difference-fits : (from to : ℤ) → IsSmall from → IsSmall to → Fits (difference (whole_frac to) (whole_frac from))
difference-fits from to first second =
    record { num = omega (arith, ints, first.least, first.greatest, second.least, second.greatest); den = omega (arith, ints) }

made-at_most : (from to : ℤ) (x : Frac) → IsSmall from → IsSmall to → IsEnd x → IsAtMost (2 ^ 32 * 2 ^ 60) ((to *ℤ pos 1 -ℤ from *ℤ pos 1) *ℤ x.num)
made-at_most from to x first second end =
    product-at_most (to *ℤ pos 1 -ℤ from *ℤ pos 1) x.num (2 ^ 32) (2 ^ 60)
    (record {
      least = omega (arith, ints, first.least, first.greatest, second.least, second.greatest);
      greatest = omega (arith, ints, first.least, first.greatest, second.least, second.greatest);
    })
    (record { least = end.least; greatest = end.greatest })

product-fits : (from to : ℤ) (x : Frac) → IsSmall from → IsSmall to → IsEnd x → Fits (product (way_between from to) x)
product-fits from to x first second end =
    let made = made-at_most from to x first second end in
    let least = made.least in
    let greatest = made.greatest in
    record {
      num = omega (arith, ints, least, greatest);
      den = omega (arith, ints, end.positive, end.few);
    }

-- what it comes to
difference-is : (from to : ℤ) → to *ℤ pos 1 -ℤ from *ℤ pos 1 ≡ to -ℤ from
difference-is from to = omega (arith, ints)

one_part : (d : ℤ) → pos 1 *ℤ pos 1 *ℤ d ≡ d
one_part (pos d) = omega (arith, ints)
one_part (negsuc d) = omega (arith, ints)

num-is : (from to : ℤ) (x : Frac)
    → (sum (whole_frac from) (product (way_between from to) x)).num ≡ from *ℤ x.den +ℤ (to -ℤ from) *ℤ x.num
num-is from to x =
    let e = ap (λ (z : ℤ). from *ℤ z) (one_part x.den) in
    let f = ap (λ (z : ℤ). z *ℤ x.num) (difference-is from to) in
    sums (from *ℤ (pos 1 *ℤ pos 1 *ℤ x.den)) (from *ℤ x.den) ((to *ℤ pos 1 -ℤ from *ℤ pos 1) *ℤ x.num) ((to -ℤ from) *ℤ x.num) e f
  where
    sums : (a b c d : ℤ) → a ≡ b → c ≡ d → a +ℤ c *ℤ pos 1 ≡ b +ℤ d
    sums a b c d e f = omega (arith, ints, e, f)

-- the whole lies in a range
whole-at_most : (from to : ℤ) (x : Frac) → IsSmall from → IsSmall to → IsEnd x → IsAtMost (2 ^ 100) (from *ℤ x.den +ℤ (to -ℤ from) *ℤ x.num)
whole-at_most from to x first second end =
    let made = rw (difference-is from to) at (made-at_most from to x first second end) in
    let own = product-at_most from x.den (2 ^ 31) (2 ^ 48)
    (record { least = first.least; greatest = omega (arith, ints, first.greatest) })
    (record { least = omega (arith, ints, end.positive); greatest = end.few }) in
    sums (from *ℤ x.den) ((to -ℤ from) *ℤ x.num) own made
  where
    sums : (a b : ℤ) → IsAtMost (2 ^ 31 * 2 ^ 48) a → IsAtMost (2 ^ 32 * 2 ^ 60) b → IsAtMost (2 ^ 100) (a +ℤ b)
    sums a b first second =
        let least = first.least in
        let greatest = first.greatest in
        let other_least = second.least in
        let other_greatest = second.greatest in
        record { least = omega (arith, ints); greatest = omega (arith, ints) }

sum-fits : (from to : ℤ) (x : Frac) → IsSmall from → IsSmall to → IsEnd x → Fits (sum (whole_frac from) (product (way_between from to) x))
sum-fits from to x first second end =
    let whole = whole-at_most from to x first second end in
    record {
      num = rw (num-is from to x) (fits (from *ℤ x.den +ℤ (to -ℤ from) *ℤ x.num) whole);
      den = omega (arith, ints, end.positive, end.few);
    }
  where
    fits : (z : ℤ) → IsAtMost (2 ^ 100) z → FitsSigned w128 z
    fits z at_most = let least = at_most.least in let greatest = at_most.greatest in omega (arith, ints)

-- what `mix` asks for
pub part-fits : (from to : ℤ) (x way : Frac) → IsSmall from → IsSmall to → IsEnd x → way ≡ way_between from to → Fits (product way x)
part-fits from to x way first second end e = rw e (product-fits from to x first second end)

pub all-fits : (from to : ℤ) (x part : Frac) → IsSmall from → IsSmall to → IsEnd x → part ≡ product (way_between from to) x
    → Fits (sum (whole_frac from) part)
all-fits from to x part first second end e = rw e (sum-fits from to x first second end)

-- and what it gives
pub mixed-is : (from to : ℤ) (x first second way part r : Frac) → IsEnd x → first ≡ whole_frac from → second ≡ whole_frac to
    → way ≡ difference second first → part ≡ product way x → r ≡ sum first part → r.num ≡ between from to (end_of x)
mixed-is from to x first second way part r end first_is second_is way_is part_is r_is =
    let way_is' : way ≡ way_between from to = rw (first_is, second_is) at way_is in
    let part_is' : part ≡ product (way_between from to) x = part_is ∙ ap (λ (z : Frac). product z x) way_is' in
    let all : r ≡ sum (whole_frac from) (product (way_between from to) x) =
    r_is ∙ ap (λ (z : Frac). sum z part) first_is ∙ ap (λ (z : Frac). sum (whole_frac from) z) part_is' in
    ap (λ (z : Frac). z.num) all ∙ num-is from to x
    ∙ ap (λ (d : ℤ). from *ℤ d +ℤ (to -ℤ from) *ℤ x.num) (sym (den-is x end))

pub between-small : (from to : ℤ) (x : Frac) → IsSmall from → IsSmall to → IsEnd x
    → IsBetween (neg_ℤ (pos (2 ^ 100))) (pos (2 ^ 100)) (between from to (end_of x))
between-small from to x first second end =
    let whole = whole-at_most from to x first second end in
    subst (λ (d : ℤ). IsBetween (neg_ℤ (pos (2 ^ 100))) (pos (2 ^ 100)) (from *ℤ d +ℤ (to -ℤ from) *ℤ x.num)) (sym (den-is x end))
    (record { at_least = whole.least; at_most = whole.greatest })
