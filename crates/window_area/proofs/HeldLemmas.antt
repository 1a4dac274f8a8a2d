-- What a window holds: as it slides by a place, over a stride, from a negative position and past the end.
use Rattle.std.proofs.Common.{ℕ, zero, suc, Bool, true, false, ◌≡◌, ◌≢◌, ◌+◌, ◌-◌, ◌*◌, ◌<◌, ◌≤◌, ◌∙◌, ap, refl, inl, inr, arith, ◌⊎◌}
use Rattle.std.specs.Prelude.{ℤ, pos, negsuc, nat_le, nat_lt, ◌==◌, ◌&&◌, IsTrue, min}
use Rattle.std.proofs.lemmas.Bool.{cases_lt, cases_eq, and_parts, and_from, and_right, lt-ltb, le-ltb, le-leb, leb-true}
use Rattle.std.proofs.lemmas.Bool.Decides.{nat_tests}
use Rattle.std.proofs.lemmas.Int.{ints}
use Rattle.std.proofs.Math.Nat.{mul-le-mul_left}
use Rattle.page_model.specs.Flash.{sum_below}
use Rattle.window_area.specs.FlaggedArea.{has_place}
use Rattle.window_area.specs.Sliding.{held, only_if}
use Rattle.window_area.proofs.SumLemmas.{sum-le, sum-bounded, sum-same, sum-steps, sum-more}

-- a weight, where the place is below a limit
abbrev pub within : ℕ → (ℕ → ℕ) → ℕ → ℕ
within limit weight place = only_if (nat_lt place limit) (weight place)

-- a place is one of a window's that begins at a place from 0 on
abbrev inside : ℕ → ℕ → ℕ → Bool
inside size x place = nat_le x place && nat_lt place (x + size)

one-slid : (size x p c : ℕ) → 0 < size
    → only_if (inside size (x + 1) p) c + only_if (p == x) c ≡ only_if (inside size x p) c + only_if (p == x + size) c
one-slid size x p c some = grind (arith, nat_tests)

within-suc : (limit : ℕ) (weight : ℕ → ℕ) (x : ℕ)
    → within (suc limit) weight x ≡ within limit weight x + only_if (limit == x) (weight limit)
within-suc limit weight x =
    elim (cases_eq limit x) [
      | inl same ↦ let moved : weight limit ≡ weight x = ap weight same in rw moved (counts limit x (weight x))
      | inr other ↦ counts_not limit x (weight x) (weight limit) other
    ] where
      counts : (limit x c : ℕ) → only_if (nat_lt x (suc limit)) c ≡ only_if (nat_lt x limit) c + only_if (limit == x) c
      counts limit x c = grind (arith, nat_tests)

      counts_not : (limit x c d : ℕ) → limit ≢ x → only_if (nat_lt x (suc limit)) c ≡ only_if (nat_lt x limit) c + only_if (limit == x) d
      counts_not limit x c d other = grind (arith, nat_tests)

-- A window that slides by one place gains the place behind its end and loses its first.
pub held-slid : (size limit : ℕ) (weight : ℕ → ℕ) (x : ℕ) → 0 < size
    → held size limit weight (pos (x + 1)) + within limit weight x
    ≡ held size limit weight (pos x) + within limit weight (x + size)
unfolding held
held-slid size zero weight x some = none x (x + size) (weight x) (weight (x + size)) where
  none : (p q c d : ℕ) → 0 + only_if (nat_lt p 0) c ≡ 0 + only_if (nat_lt q 0) d
  none p q c d = grind (arith, nat_tests)
held-slid size (suc limit) weight x some =
    omega (
      arith,
      held-slid size limit weight x some,
      one-slid size x limit (weight limit) some,
      within-suc limit weight x,
      within-suc limit weight (x + size),
    )

-- over a stride with one gain and one loss
pub slid-by : (area : ℕ → ℕ) (x gain loss stride : ℕ)
    → ((t : ℕ) → t < stride → area (x + t + 1) + loss ≡ area (x + t) + gain)
    → (t : ℕ) → t ≤ stride → area (x + t) + t * loss ≡ area x + t * gain
slid-by area x gain loss stride each zero fits =
    let here : x + zero ≡ x = omega arith in rw here (omega arith)
slid-by area x gain loss stride each (suc t) fits =
    let next : x + suc t ≡ x + t + 1 = omega arith in
    rw next (omega (arith, slid-by area x gain loss stride each t (omega arith), each t (omega arith)))

-- within a stride there is no more than at its start, or less than at its end
pub no_more_within : (at start end t stride gain loss : ℕ) → at + t * loss ≡ start + t * gain
    → end + stride * loss ≡ start + stride * gain → t < stride → (at ≤ start) ⊎ (at < end)
no_more_within at start end t stride gain loss so_far whole less =
    elim (cases_lt loss gain) [
      | inl grows ↦ inr (rises at start end t stride gain loss so_far whole less grows)
      | inr falls ↦ inl (omega (arith, so_far, mul-le-mul_left t falls))
    ] where
      finish : (at start end t rest excess loss : ℕ) → at + t * loss ≡ start + t * (loss + excess)
          → end + (t + suc rest) * loss ≡ start + (t + suc rest) * (loss + excess) → 0 < excess → at < end
      finish at start end t rest excess loss so_far whole some = omega (arith, so_far, whole)

      by_excess : (at start end t stride excess loss : ℕ) → at + t * loss ≡ start + t * (loss + excess)
          → end + stride * loss ≡ start + stride * (loss + excess) → t < stride → 0 < excess → at < end
      by_excess at start end t stride excess loss so_far whole less some =
          let last : stride ≡ t + suc (stride - suc t) = omega arith in
          finish at start end t (stride - suc t) excess loss so_far (rw (← last) whole) some

      rises : (at start end t stride gain loss : ℕ) → at + t * loss ≡ start + t * gain
          → end + stride * loss ≡ start + stride * gain → t < stride → loss < gain → at < end
      rises at start end t stride gain loss so_far whole less grows =
          let more : gain ≡ loss + (gain - loss) = omega arith in
          by_excess at start end t stride (gain - loss) loss (rw (← more) so_far) (rw (← more) whole) less (omega arith)

-- a window whose places are among another's holds no more
held-le-places : (limit : ℕ) (weight : ℕ → ℕ) (first second : ℕ → Bool)
    → ((p : ℕ) → p < limit → IsTrue (first p) → IsTrue (second p))
    → sum_below limit (λ p. only_if (first p) (weight p)) ≤ sum_below limit (λ p. only_if (second p) (weight p))
held-le-places limit weight first second implied =
    sum-le limit (λ p. only_if (first p) (weight p)) (λ p. only_if (second p) (weight p))
    (λ p below. no_more (first p) (second p) (weight p) (implied p below)) where
      no_more : (a b : Bool) (c : ℕ) → (IsTrue a → IsTrue b) → only_if a c ≤ only_if b c
      no_more true b c implied = rw (implied refl) (omega arith)
      no_more false b c implied = omega arith

-- a window at a negative position holds no more than the one at 0
pub held-negative : (size limit : ℕ) (weight : ℕ → ℕ) (a : ℕ)
    → held size limit weight (negsuc a) ≤ held size limit weight (pos 0)
unfolding held
held-negative size limit weight a =
    held-le-places limit weight (has_place size (negsuc a)) (has_place size (pos 0)) (λ p below h. moved size a p h) where
      moved : (size a p : ℕ) → IsTrue (has_place size (negsuc a) p) → IsTrue (has_place size (pos 0) p)
      moved size a p h = and_from (nat_le 0 p) (nat_lt p (0 + size)) (le-leb 0 p (omega arith)) (lt-ltb p (0 + size) (grind (arith, ints)))

-- a window that holds the last place holds no less than a later one
pub held-ended : (size limit : ℕ) (weight : ℕ → ℕ) (x later : ℕ) → limit ≤ x + size → x ≤ later
    → held size limit weight (pos later) ≤ held size limit weight (pos x)
unfolding held
held-ended size limit weight x later ends after =
    held-le-places limit weight (has_place size (pos later)) (has_place size (pos x)) (λ p below h.
    let parts = and_parts (nat_le later p) (nat_lt p (later + size)) h in
    let from : later ≤ p = leb-true later p parts.0 in
    and_from (nat_le x p) (nat_lt p (x + size)) (le-leb x p (omega arith)) (lt-ltb p (x + size) (omega arith)))

-- it holds no more than its limit times the greatest weight
pub held-bounded : (size limit bound : ℕ) (weight : ℕ → ℕ) (x : ℤ) → ((p : ℕ) → p < limit → weight p ≤ bound)
    → held size limit weight x ≤ limit * bound
unfolding held
held-bounded size limit bound weight x small =
    sum-bounded limit bound (λ p. only_if (has_place size x p) (weight p)) (λ p below. no_more (has_place size x p) (weight p) bound (small p below)) where
      no_more : (b : Bool) (c bound : ℕ) → c ≤ bound → only_if b c ≤ bound
      no_more true c bound fits = fits
      no_more false c bound fits = omega arith

-- weights below a limit that are the same, no less, or change by a stride
pub held-same : (size limit : ℕ) (v w : ℕ → ℕ) (x : ℤ) → ((p : ℕ) → p < limit → v p ≡ w p)
    → held size limit v x ≡ held size limit w x
unfolding held
held-same size limit v w x same =
    sum-same limit (λ p. only_if (has_place size x p) (v p)) (λ p. only_if (has_place size x p) (w p))
    (λ p below. ap (only_if (has_place size x p)) (same p below))

pub held-le : (size limit : ℕ) (v w : ℕ → ℕ) (x : ℤ) → ((p : ℕ) → p < limit → v p ≤ w p)
    → held size limit v x ≤ held size limit w x
unfolding held
held-le size limit v w x less =
    sum-le limit (λ p. only_if (has_place size x p) (v p)) (λ p. only_if (has_place size x p) (w p))
    (λ p below. no_more (has_place size x p) (v p) (w p) (less p below)) where
      no_more : (b : Bool) (c d : ℕ) → c ≤ d → only_if b c ≤ only_if b d
      no_more true c d less = less
      no_more false c d less = omega arith

pub held-steps : (size limit t : ℕ) (a b l g : ℕ → ℕ) (x : ℤ) → ((p : ℕ) → p < limit → a p + t * l p ≡ b p + t * g p)
    → held size limit a x + t * held size limit l x ≡ held size limit b x + t * held size limit g x
unfolding held
held-steps size limit t a b l g x each =
    sum-steps limit t (counted a) (counted b) (counted l) (counted g)
    (λ p below. one (has_place size x p) (a p) (b p) (l p) (g p) t (each p below)) where
      counted : (ℕ → ℕ) → ℕ → ℕ
      counted w p = only_if (has_place size x p) (w p)

      one : (test : Bool) (a b l g t : ℕ) → a + t * l ≡ b + t * g
          → only_if test a + t * only_if test l ≡ only_if test b + t * only_if test g
      one true a b l g t each = each
      one false a b l g t each = refl

-- a window at place 0 over more places, which have one weight: it holds those of them that it reaches
pub held-more : (size from to amount value : ℕ) (weight : ℕ → ℕ) → from ≤ to → amount + min from size ≡ min to size
    → ((p : ℕ) → from ≤ p → p < to → weight p ≡ value)
    → held size to weight (pos 0) ≡ held size from weight (pos 0) + amount * value
unfolding held
held-more size from to amount value weight order reached same =
    let end : to ≡ from + amount + (to - (from + amount)) = omega arith in
    let first : sum_below (from + amount) term ≡ sum_below from term + amount * value =
    sum-more from amount term value (λ p low high. within_size p (omega arith) ∙ same p low (omega arith)) in
    let rest : sum_below (from + amount + (to - (from + amount))) term ≡ sum_below (from + amount) term + (to - (from + amount)) * 0 =
    sum-more (from + amount) (to - (from + amount)) term 0 (λ p low high. behind p (omega arith)) in
    rw end (omega (arith, first, rest)) where
      term : ℕ → ℕ
      term p = only_if (has_place size (pos 0) p) (weight p)

      within_size : (p : ℕ) → p < size → term p ≡ weight p
      within_size p below = rw (le-leb 0 p (omega arith), lt-ltb p (0 + size) (omega arith)) refl

      behind : (p : ℕ) → size ≤ p → term p ≡ 0
      behind p above = rw (and_right (nat_le 0 p) (nat_lt p (0 + size)) (le-ltb p (0 + size) (omega arith))) refl
