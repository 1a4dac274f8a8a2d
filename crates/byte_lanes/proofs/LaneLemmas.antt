-- Four lanes of 16 bits in a word: what is reckoned with words is reckoned lane by lane.
use Rattle.std.proofs.Common.{ℕ, zero, suc, List, [], ◌∷◌, ◌≡◌, ◌∙◌, ◌+◌, ◌-◌, ◌*◌, ◌/◌, ◌%◌, ◌^◌, ◌<◌, ◌≤◌, get_or, arith, inl, inr, ap, refl}
use Rattle.std.specs.Prelude.{bit_and, min}
use Rattle.std.proofs.lemmas.Bool.{cases_lt}
use Rattle.std.proofs.lemmas.Nat.{and_block, and_mask}
use Rattle.std.proofs.lemmas.Grind.{and_high_numeral}
use Rattle.byte_lanes.specs.Lanes.{AreLanesBelow, in_turn, lanes_of}

-- the word of four lanes
abbrev pub four : ℕ → ℕ → ℕ → ℕ → ℕ
four a b c d = ((d * 65536 + c) * 65536 + b) * 65536 + a

-- a word by its lanes
pub record IsFour (word a b c d : ℕ) : Type 0 where
  pub first : a < 65536
  pub second : b < 65536
  pub third : c < 65536
  pub fourth : d < 65536
  pub is : word ≡ four a b c d

pub by-lanes : (word : ℕ) → word < 2 ^ 64
    → IsFour word (get_or (lanes_of word) 0 0) (get_or (lanes_of word) 1 0) (get_or (lanes_of word) 2 0) (get_or (lanes_of word) 3 0)
unfolding lanes_of
by-lanes word fits = record { first = omega arith; second = omega arith; third = omega arith; fourth = omega arith; is = omega arith }

pub lanes-are : (word a b c d : ℕ) → IsFour word a b c d → lanes_of word ≡ a ∷ b ∷ c ∷ d ∷ []
unfolding lanes_of
lanes-are word a b c d is =
    let first : word % 65536 ≡ a = omega (arith, is.first, is.is) in
    let second : word / 65536 % 65536 ≡ b = omega (arith, is.first, is.second, is.is) in
    let third : word / 4294967296 % 65536 ≡ c = omega (arith, is.first, is.second, is.third, is.is) in
    let fourth : word / 281474976710656 % 65536 ≡ d = omega (arith, is.first, is.second, is.third, is.fourth, is.is) in
    rw (first, second, third, fourth) refl

-- the common bits of two words
pub and-four : (a b c d a' b' c' d' : ℕ) → a < 65536 → b < 65536 → c < 65536 → a' < 65536 → b' < 65536 → c' < 65536
    → bit_and (four a b c d) (four a' b' c' d') ≡ four (bit_and a a') (bit_and b b') (bit_and c c') (bit_and d d')
and-four a b c d a' b' c' d' first second third first' second' third' =
    and_block 16 ((d * 65536 + c) * 65536 + b) ((d' * 65536 + c') * 65536 + b') a a' first first'
    ∙ ap (λ k. k * 65536 + bit_and a a')
    (and_block 16 (d * 65536 + c) (d' * 65536 + c') b b' second second'
    ∙ ap (λ k. k * 65536 + bit_and b b') (and_block 16 d d' c c' third third'))

-- the highest bit of a lane
high-bit : (d : ℕ) → d < 65536 → bit_and d 32768 ≡ 32768 * (d / 32768)
high-bit d small =
    let whole : bit_and d 32768 + d % 32768 ≡ d = and_high_numeral d 32767 refl small in
    omega (arith, whole)

-- what is more than a lane of another word, from the difference with that bit
excess : (a b d : ℕ) → a < 32768 → b < 32768 → d + b ≡ 32768 + a → bit_and d (32767 * (d / 32768)) ≡ a - b
excess a b d first second is = elim (cases_lt a b) [
  | inl less ↦
      let none : 32767 * (d / 32768) ≡ 0 = omega (arith, is, less) in
      let over : a - b ≡ 0 = omega (arith, less) in
      rw (none, over) (and-none d)
  | inr more ↦
      let all : 32767 * (d / 32768) ≡ 32767 = omega (arith, is, more, first) in
      let rest : d % 32768 ≡ a - b = omega (arith, is, more, first) in
      ap (λ k. bit_and d k) all ∙ and_mask d 15 ∙ rest
] where
  and-none : (d : ℕ) → bit_and d 0 ≡ 0
  and-none d = and_mask d 0 ∙ omega arith

pub four-same : (a b c d a' b' c' d' : ℕ) → a ≡ a' → b ≡ b' → c ≡ c' → d ≡ d' → four a b c d ≡ four a' b' c' d'
four-same a b c d a' b' c' d' first second third fourth = omega (arith, first, second, third, fourth)

-- four lanes, each below a limit
pub record FourBelow (limit a b c d : ℕ) : Type 0 where
  pub first : a < limit
  pub second : b < limit
  pub third : c < limit
  pub fourth : d < limit

pub four-below : (limit word : ℕ) → AreLanesBelow limit word
    → FourBelow limit (get_or (lanes_of word) 0 0) (get_or (lanes_of word) 1 0) (get_or (lanes_of word) 2 0) (get_or (lanes_of word) 3 0)
four-below limit word below = record {
  first = below 0 (omega arith);
  second = below 1 (omega arith);
  third = below 2 (omega arith);
  fourth = below 3 (omega arith);
}

-- one lane of a difference that keeps a bit on top
pub record IsOver (a b d : ℕ) : Type 0 where
  pub first : a < 32768
  pub second : b < 32768
  pub is : d + b ≡ 32768 + a

over-below : (a b d : ℕ) → IsOver a b d → d < 65536
over-below a b d over = omega (arith, over.first, over.second, over.is)

mask-below : (a b d : ℕ) → IsOver a b d → 32767 * (d / 32768) < 65536
mask-below a b d over = omega (arith, over.first, over.second, over.is)

-- with that bit alone, and with all bits below it where it is there
pub high-four : (a b c d e f g h i j k l word : ℕ) → IsOver a b c → IsOver d e f → IsOver g h i → IsOver j k l → word ≡ four c f i l
    → bit_and word 9223512776490647552 ≡ four (32768 * (c / 32768)) (32768 * (f / 32768)) (32768 * (i / 32768)) (32768 * (l / 32768))
high-four a b c d e f g h i j k l word one two three four_ is =
    ap (λ w. bit_and w 9223512776490647552) is
    ∙ and-four c f i l 32768 32768 32768 32768 (over-below a b c one) (over-below d e f two) (over-below g h i three) (omega arith) (omega arith)
    (omega arith)
    ∙ four-same (bit_and c 32768) (bit_and f 32768) (bit_and i 32768) (bit_and l 32768) (32768 * (c / 32768)) (32768 * (f / 32768))
    (32768 * (i / 32768)) (32768 * (l / 32768)) (high-bit c (over-below a b c one)) (high-bit f (over-below d e f two))
    (high-bit i (over-below g h i three)) (high-bit l (over-below j k l four_))

mask-four : (p q r s more : ℕ) → more ≡ four (32768 * p) (32768 * q) (32768 * r) (32768 * s)
    → more - more / 32768 ≡ four (32767 * p) (32767 * q) (32767 * r) (32767 * s)
mask-four p q r s more is =
    let down : more / 32768 ≡ four p q r s = omega (arith, is) in
    omega (arith, is, down)

pub excess-four : (a b c d e f g h i j k l word : ℕ) → IsOver a b c → IsOver d e f → IsOver g h i → IsOver j k l → word ≡ four c f i l
    → bit_and word (bit_and word 9223512776490647552 - bit_and word 9223512776490647552 / 32768) ≡ four (a - b) (d - e) (g - h) (j - k)
excess-four a b c d e f g h i j k l word one two three four_ is =
    let more = high-four a b c d e f g h i j k l word one two three four_ is in
    let mask = mask-four (c / 32768) (f / 32768) (i / 32768) (l / 32768) (bit_and word 9223512776490647552) more in
    ap (λ m. bit_and word m) mask
    ∙ ap (λ w. bit_and w (four (32767 * (c / 32768)) (32767 * (f / 32768)) (32767 * (i / 32768)) (32767 * (l / 32768)))) is
    ∙ and-four c f i l (32767 * (c / 32768)) (32767 * (f / 32768)) (32767 * (i / 32768)) (32767 * (l / 32768)) (over-below a b c one)
    (over-below d e f two) (over-below g h i three) (mask-below a b c one) (mask-below d e f two) (mask-below g h i three)
    ∙ four-same (bit_and c (32767 * (c / 32768))) (bit_and f (32767 * (f / 32768))) (bit_and i (32767 * (i / 32768)))
    (bit_and l (32767 * (l / 32768))) (a - b) (d - e) (g - h) (j - k) (excess a b c one.first one.second one.is)
    (excess d e f two.first two.second two.is) (excess g h i three.first three.second three.is) (excess j k l four_.first four_.second four_.is)

-- the difference of two words of small lanes, with a bit on top of each, has these lanes
pub over-four : (a b c d e f g h x y : ℕ) → FourBelow 32768 a b c d → FourBelow 32768 e f g h → x ≡ four a b c d → y ≡ four e f g h
    → x + 9223512776490647552 - y ≡ four (32768 + a - e) (32768 + b - f) (32768 + c - g) (32768 + d - h)
over-four a b c d e f g h x y small small' first second =
    apart a b c d e f g h (32768 + a - e) (32768 + b - f) (32768 + c - g) (32768 + d - h) x y first second (is a e small.first small'.first)
    (is b f small.second small'.second) (is c g small.third small'.third) (is d h small.fourth small'.fourth) where
      is : (a e : ℕ) → a < 32768 → e < 32768 → 32768 + a - e + e ≡ 32768 + a
      is a e first second = omega (arith, first, second)

      apart : (a b c d e f g h i j k l x y : ℕ) → x ≡ four a b c d → y ≡ four e f g h → i + e ≡ 32768 + a → j + f ≡ 32768 + b → k + g ≡ 32768 + c
          → l + h ≡ 32768 + d → x + 9223512776490647552 - y ≡ four i j k l
      apart a b c d e f g h i j k l x y first second one two three four_ = omega (arith, first, second, one, two, three, four_)

pub is-over : (a e : ℕ) → a < 32768 → e < 32768 → IsOver a e (32768 + a - e)
is-over a e first second = record { first = first; second = second; is = omega (arith, first, second) }

-- a word of lanes without what is too much in each
pub without-four : (a b c d e f g h x taken : ℕ) → x ≡ four a b c d → taken ≡ four (a - e) (b - f) (c - g) (d - h)
    → (taken ≤ x) × (x - taken ≡ four (min a e) (min b f) (min c g) (min d h))
without-four a b c d e f g h x taken first second =
    rest a b c d (a - e) (b - f) (c - g) (d - h) (min a e) (min b f) (min c g) (min d h) x taken first second (part a e) (part b f) (part c g)
    (part d h) where
      part : (a e : ℕ) → a ≡ min a e + (a - e)
      part a e = omega arith

      rest : (a b c d e f g h i j k l x taken : ℕ) → x ≡ four a b c d → taken ≡ four e f g h → a ≡ i + e → b ≡ j + f → c ≡ k + g → d ≡ l + h
          → (taken ≤ x) × (x - taken ≡ four i j k l)
      rest a b c d e f g h i j k l x taken first second one two three four_ =
          (omega (arith, first, second, one, two, three, four_), omega (arith, first, second, one, two, three, four_))

-- two words of lanes in turn, by their lanes
pub in_turn-are : (even odd a b c d e f g h : ℕ) → IsFour even a c e g → IsFour odd b d f h
    → in_turn (lanes_of even) (lanes_of odd) ≡ a ∷ b ∷ c ∷ d ∷ e ∷ f ∷ g ∷ h ∷ []
in_turn-are even odd a b c d e f g h first second =
    ap (λ (ls : List ℕ). in_turn ls (lanes_of odd)) (lanes-are even a c e g first)
    ∙ ap (in_turn (a ∷ c ∷ e ∷ g ∷ [])) (lanes-are odd b d f h second)

-- each of both is below a limit
pub even-below : (even odd limit : ℕ) → ((n : ℕ) → n < 8 → get_or (in_turn (lanes_of even) (lanes_of odd)) n 0 < limit) → AreLanesBelow limit even
even-below even odd limit below zero few = below 0 (omega arith)
even-below even odd limit below (suc zero) few = below 2 (omega arith)
even-below even odd limit below (suc (suc zero)) few = below 4 (omega arith)
even-below even odd limit below (suc (suc (suc zero))) few = below 6 (omega arith)
even-below even odd limit below (suc (suc (suc (suc i)))) few = absurd (omega arith)

pub odd-below : (even odd limit : ℕ) → ((n : ℕ) → n < 8 → get_or (in_turn (lanes_of even) (lanes_of odd)) n 0 < limit) → AreLanesBelow limit odd
odd-below even odd limit below zero few = below 1 (omega arith)
odd-below even odd limit below (suc zero) few = below 3 (omega arith)
odd-below even odd limit below (suc (suc zero)) few = below 5 (omega arith)
odd-below even odd limit below (suc (suc (suc zero))) few = below 7 (omega arith)
odd-below even odd limit below (suc (suc (suc (suc i)))) few = absurd (omega arith)
