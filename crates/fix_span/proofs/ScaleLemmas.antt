-- Quotients in parts of two to a power: by halving parts, and by the whole part and what is left.
use Rattle.std.proofs.Common.{ℕ, ℤ, pos, negsuc, ◌≡◌, ◌∙◌, ◌+◌, ◌*◌, ◌^◌, ◌<◌, ◌≤◌, ◌+ℤ◌, ◌-ℤ◌, ◌*ℤ◌, ◌≤ℤ◌, ◌<ℤ◌, arith, ap, sym, subst, FitsSigned}
use Rattle.std.specs.Int.{int_div_euclid, int_rem_euclid, w64, w128}
use Rattle.std.proofs.lemmas.Int.{ints}
use Rattle.std.proofs.Math.Nat.{mul-le-mul_left}
use Rattle.std.proofs.Math.Nat.{pow-suc}
use Rattle.std.proofs.Math.Pow.{pow_mono}
use Rattle.fix_span.specs.Span.{IsFloorIn, ceiling}
use Rattle.fix_span.specs.IntLaws.{add-*ℤ, times-times, times_le}
use Rattle.fix_span.specs.RoundingLaws.{floor_at_most, floor_above, at_most_floor}
use Rattle.fix_span.proofs.NestedLemmas.{rest_is, rest_range}

-- so many parts, each 2^-k of a denominator, and a rest below it make a number
pub record AreParts (num den k parts rest : ℕ) : Type 0 where
  pub whole : parts * den + rest ≡ num * 2 ^ k
  pub below : rest < den
  pub few : parts < 2 ^ k

-- a whole number whose multiple is at most a number, and less than one more multiple below it, is the floor
pub floor_is : (a w : ℤ) (d : ℕ) → 0 < d → (w *ℤ pos d) ≤ℤ a → a <ℤ (w *ℤ pos d +ℤ pos d) → int_div_euclid a (pos d) ≡ w
floor_is a w d some low high =
    let v : ℤ = int_div_euclid a (pos d) in
    let first : w ≤ℤ v = at_most_floor w v a d low (floor_above a d some) in
    let second : v ≤ℤ w = at_most_floor v w a d (floor_at_most a d some) high in
    omega (arith, ints, first, second)

-- the ceiling is the floor where nothing is left, and else one more
ceiling-none : (a w : ℤ) (d : ℕ) → 0 < d → a ≡ w *ℤ pos d → ceiling a (pos d) ≡ w
ceiling-none a w d some e = floor_is (a +ℤ (pos d -ℤ pos 1)) w d some (omega (arith, ints, e, some)) (omega (arith, ints, e, some))

ceiling-some : (a w : ℤ) (d r : ℕ) → 0 < r → r < d → a ≡ w *ℤ pos d +ℤ pos r → ceiling a (pos d) ≡ w +ℤ pos 1
ceiling-some a w d r some below e =
    let next : (w +ℤ pos 1) *ℤ pos d ≡ w *ℤ pos d +ℤ pos d = add-*ℤ w (pos 1) (pos d) ∙ ap (λ (n : ℕ). w *ℤ pos d +ℤ pos n) (omega arith) in
    floor_is (a +ℤ (pos d -ℤ pos 1)) (w +ℤ pos 1) d (omega (arith, some, below)) (omega (arith, ints, e, some, below, next))
    (omega (arith, ints, e, some, below, next))

pub ceiling-whole : (num den : ℤ) → pos 0 <ℤ den → int_rem_euclid num den ≤ℤ pos 0 → ceiling num den ≡ int_div_euclid num den
ceiling-whole num (pos d) positive none =
    let some : 0 < d = omega (arith, ints) in
    let range = rest_range num d some in
    ceiling-none num (int_div_euclid num (pos d)) d some (omega (arith, ints, rest_is num d some, range.0, none))
ceiling-whole num (negsuc d) positive none = absurd (omega (arith, ints))

pub ceiling-more : (num den : ℤ) → pos 0 <ℤ den → pos 0 <ℤ int_rem_euclid num den → ceiling num den ≡ int_div_euclid num den +ℤ pos 1
ceiling-more num (pos d) positive more =
    let some : 0 < d = omega (arith, ints) in
    let range = rest_range num d some in
    one_more num (int_div_euclid num (pos d)) (int_rem_euclid num (pos d)) d more range.1 (rest_is num d some) where
      one_more : (a w r : ℤ) (d : ℕ) → pos 0 <ℤ r → r <ℤ pos d → a ≡ w *ℤ pos d +ℤ r → ceiling a (pos d) ≡ w +ℤ pos 1
      one_more a w (pos r) d more below e = ceiling-some a w d r (omega (arith, ints)) (omega (arith, ints)) e
      one_more a w (negsuc r) d more below e = absurd (omega (arith, ints))
ceiling-more num (negsuc d) positive more = absurd (omega (arith, ints))

-- where something is left, one more than the floor isn't past the number
pub next_below : (num den : ℤ) → pos 0 <ℤ den → pos 0 <ℤ int_rem_euclid num den → num <ℤ pos (2 ^ 127) → (int_div_euclid num den +ℤ pos 1) <ℤ pos (2 ^ 127)
next_below num (pos d) positive more below =
    let some : 0 < d = omega (arith, ints) in
    let range = rest_range num d some in
    next num (int_div_euclid num (pos d)) (int_rem_euclid num (pos d)) d more range.1 (rest_is num d some) below where
      next : (a w r : ℤ) (d : ℕ) → pos 0 <ℤ r → r <ℤ pos d → a ≡ w *ℤ pos d +ℤ r → a <ℤ pos (2 ^ 127) → (w +ℤ pos 1) <ℤ pos (2 ^ 127)
      next a (pos n) r d more below e small =
          let twice : n * 2 ≤ n * d = mul-le-mul_left n (omega (arith, ints, more, below)) in
          omega (arith, ints, more, e, small, twice)
      next a (negsuc n) r d more below e small = omega (arith, ints)
next_below num (negsuc d) positive more below = absurd (omega (arith, ints))

-- so many parts beside those of the whole part are the floor, and what is left beside them makes the ceiling one more
joined_is : (num w : ℤ) (d n k parts rest : ℕ) → num ≡ w *ℤ pos d +ℤ pos n → parts * d + rest ≡ n * k
    → num *ℤ pos k ≡ (w *ℤ pos k +ℤ pos parts) *ℤ pos d +ℤ pos rest
joined_is num w d n k parts rest e halved =
    let scaled : num *ℤ pos k ≡ (w *ℤ pos d) *ℤ pos k +ℤ pos (n * k) = ap (λ (z : ℤ). z *ℤ pos k) e ∙ add-*ℤ (w *ℤ pos d) (pos n) (pos k) in
    let apart : (w *ℤ pos k +ℤ pos parts) *ℤ pos d ≡ (w *ℤ pos k) *ℤ pos d +ℤ pos (parts * d) = add-*ℤ (w *ℤ pos k) (pos parts) (pos d) in
    omega (arith, ints, scaled, apart, halved, times-times w d k, times-times w k d)

pub joined_floor : (num den : ℤ) (n d k parts rest : ℕ) → pos 0 <ℤ den → pos n ≡ int_rem_euclid num den → pos d ≡ den → rest < d
    → parts * d + rest ≡ n * k → IsFloorIn num den k (int_div_euclid num den *ℤ pos k +ℤ pos parts) rest
joined_floor num (pos e) n d k parts rest positive left size below halved =
    let w : ℤ = int_div_euclid num (pos e) in
    let alike : d ≡ e = omega (arith, ints, size) in
    let some : 0 < e = omega (arith, ints) in
    let below' : rest < e = omega (arith, below, alike) in
    let whole : num ≡ w *ℤ pos e +ℤ pos n =
    rest_is num e some ∙ ap (λ z. w *ℤ pos e +ℤ z) (sym left) in
    let all : num *ℤ pos k ≡ (w *ℤ pos k +ℤ pos parts) *ℤ pos e +ℤ pos rest =
    joined_is num w e n k parts rest whole (subst (λ m. parts * m + rest ≡ n * k) alike halved) in
    record {
      is = sym (floor_is (num *ℤ pos k) (w *ℤ pos k +ℤ pos parts) e some (omega (arith, ints, all)) (omega (arith, ints, all, below')));
      none = λ no. ceiling-none (num *ℤ pos k) (w *ℤ pos k +ℤ pos parts) e some (omega (arith, ints, all, no));
      some = λ more. ceiling-some (num *ℤ pos k) (w *ℤ pos k +ℤ pos parts) e rest more below' all;
    }
joined_floor num (negsuc e) n d k parts rest positive left size below halved = absurd (omega (arith, ints))

-- at most 2^60 parts
pub few_parts : (k : ℕ) → k ≤ 60 → 2 ^ k ≤ 2 ^ 60
few_parts k few = pow_mono few

pub parts_fit : (k : ℕ) → k ≤ 60 → FitsSigned w128 (pos (2 ^ k))
parts_fit k few = omega (arith, ints, few_parts k few)

pub wide_fits : (n : ℤ) → FitsSigned w64 n → FitsSigned w128 n
wide_fits n fits = omega (arith, ints, fits)

pub raised_fits : (n : ℤ) (k : ℕ) → k ≤ 60 → FitsSigned w64 n → FitsSigned w128 (n *ℤ pos (2 ^ k))
raised_fits n k few fits =
    let low : (negsuc (2 ^ 63) *ℤ pos (2 ^ k)) ≤ℤ (n *ℤ pos (2 ^ k)) = times_le (negsuc (2 ^ 63)) n (2 ^ k) (omega (arith, ints, fits)) in
    let high : (n *ℤ pos (2 ^ k)) ≤ℤ (pos (2 ^ 63) *ℤ pos (2 ^ k)) = times_le n (pos (2 ^ 63)) (2 ^ k) (omega (arith, ints, fits)) in
    omega (arith, ints, low, high, few_parts k few)

-- one more halving
pub halves : (num den k parts rest more left : ℕ) → AreParts num den k parts rest → more * den + left ≡ 2 * (parts * den + rest)
    → left < den → more ≤ 2 * parts + 1 → AreParts num den (k + 1) more left
halves num den k parts rest more left before halved below few =
    let double : 2 ^ (k + 1) ≡ 2 ^ k * 2 = ap (λ n. 2 ^ n) (omega arith) ∙ pow-suc 2 k in
    let twice : num * 2 ^ (k + 1) ≡ num * (2 ^ k * 2) = ap (λ n. num * n) double in
    record {
      whole = omega (arith, halved, before.whole, twice);
      below = below;
      few = omega (arith, few, before.few, double);
    }
