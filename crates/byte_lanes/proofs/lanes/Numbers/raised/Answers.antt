-- The lower halves of the lanes of a word are its bytes at even places, and those of the word moved up are the others.
use Rattle.std.proofs.Common.{ℕ, zero, suc, ◌≡◌, ◌∙◌, ◌+◌, ◌*◌, ◌%◌, ◌^◌, ◌<◌, ◌∷◌, [], List, get_or, arith, ap, refl}
use Rattle.std.specs.Prelude.{bit_and}
use Rattle.std.proofs.lemmas.Nat.{and_mask}
use Rattle.byte_lanes.specs.Lanes.{in_turn, lanes_of}
use Rattle.byte_lanes.specs.Bytes.{byte, number_of}
use Rattle.byte_lanes.proofs.LaneLemmas.{IsFour, and-four, by-lanes, four, four-same, in_turn-are}
use Rattle.byte_lanes.proofs.lanes.Numbers.raised.Goals as goal

-- with an age in each lane
masked : (word a b c d age : ℕ) → age < 256 → IsFour word a b c d
    → IsFour (bit_and word 71777214294589695 + age * 281479271743489) (a % 256 + age) (b % 256 + age) (c % 256 + age) (d % 256 + age)
masked word a b c d age small is =
    let halves : bit_and word 71777214294589695 ≡ four (a % 256) (b % 256) (c % 256) (d % 256) =
    ap (λ w. bit_and w 71777214294589695) is.is
    ∙ and-four a b c d 255 255 255 255 is.first is.second is.third (omega arith) (omega arith) (omega arith)
    ∙ four-same (bit_and a 255) (bit_and b 255) (bit_and c 255) (bit_and d 255) (a % 256) (b % 256) (c % 256) (d % 256) (and_mask a 8) (and_mask b 8)
    (and_mask c 8) (and_mask d 8) in
    record {
      first = omega (arith, small);
      second = omega (arith, small);
      third = omega (arith, small);
      fourth = omega (arith, small);
      is = omega (arith, halves);
    }

abbrev lane : ℕ → ℕ → ℕ
lane word i = get_or (lanes_of word) i 0

halves : (word n : ℕ) → n < 8
    → get_or ((lane (word * 256 % 2 ^ 64) 0 % 256) ∷ (lane word 0 % 256) ∷ (lane (word * 256 % 2 ^ 64) 1 % 256) ∷ (lane word 1 % 256)
    ∷ (lane (word * 256 % 2 ^ 64) 2 % 256) ∷ (lane word 2 % 256) ∷ (lane (word * 256 % 2 ^ 64) 3 % 256) ∷ (lane word 3 % 256) ∷ []) n 0
    ≡ number_of word n
unfolding lanes_of byte
halves word zero few = omega arith
halves word (suc zero) few = omega arith
halves word (suc (suc zero)) few = omega arith
halves word (suc (suc (suc zero))) few = omega arith
halves word (suc (suc (suc (suc zero)))) few = omega arith
halves word (suc (suc (suc (suc (suc zero))))) few = omega arith
halves word (suc (suc (suc (suc (suc (suc zero)))))) few = omega arith
halves word (suc (suc (suc (suc (suc (suc (suc zero))))))) few = omega arith
halves word (suc (suc (suc (suc (suc (suc (suc (suc n)))))))) few = absurd (omega arith)

-- the age is added to each
added : (a b c d e f g h age n : ℕ) → n < 8
    → get_or ((a + age) ∷ (b + age) ∷ (c + age) ∷ (d + age) ∷ (e + age) ∷ (f + age) ∷ (g + age) ∷ (h + age) ∷ []) n 0
    ≡ get_or (a ∷ b ∷ c ∷ d ∷ e ∷ f ∷ g ∷ h ∷ []) n 0 + age
added a b c d e f g h age zero few = refl
added a b c d e f g h age (suc zero) few = refl
added a b c d e f g h age (suc (suc zero)) few = refl
added a b c d e f g h age (suc (suc (suc zero))) few = refl
added a b c d e f g h age (suc (suc (suc (suc zero)))) few = refl
added a b c d e f g h age (suc (suc (suc (suc (suc zero))))) few = refl
added a b c d e f g h age (suc (suc (suc (suc (suc (suc zero)))))) few = refl
added a b c d e f g h age (suc (suc (suc (suc (suc (suc (suc zero))))))) few = refl
added a b c d e f g h age (suc (suc (suc (suc (suc (suc (suc (suc n)))))))) few = absurd (omega arith)

value : (word age n : ℕ) → word < 2 ^ 64 → age < 256 → n < 8
    → get_or (in_turn (lanes_of (bit_and (word * 256 % 2 ^ 64) 71777214294589695 + age * 281479271743489))
    (lanes_of (bit_and word 71777214294589695 + age * 281479271743489))) n 0
    ≡ number_of word n + age
value word age n fits small few =
    let up : ℕ = word * 256 % 2 ^ 64 in
    let up_fits : up < 2 ^ 64 = omega arith in
    ap (λ (ns : List ℕ). get_or ns n 0)
    (in_turn-are (bit_and up 71777214294589695 + age * 281479271743489) (bit_and word 71777214294589695 + age * 281479271743489)
    (lane up 0 % 256 + age) (lane word 0 % 256 + age) (lane up 1 % 256 + age) (lane word 1 % 256 + age) (lane up 2 % 256 + age)
    (lane word 2 % 256 + age) (lane up 3 % 256 + age) (lane word 3 % 256 + age)
    (masked up (lane up 0) (lane up 1) (lane up 2) (lane up 3) age small (by-lanes up up_fits))
    (masked word (lane word 0) (lane word 1) (lane word 2) (lane word 3) age small (by-lanes word fits)))
    ∙ added (lane up 0 % 256) (lane word 0 % 256) (lane up 1 % 256) (lane word 1 % 256) (lane up 2 % 256) (lane word 2 % 256) (lane up 3 % 256)
    (lane word 3 % 256) age n few
    ∙ ap (λ k. k + age) (halves word n few)

number-below : (word n : ℕ) → n < 8 → number_of word n < 256
unfolding byte
number-below word zero few = omega arith
number-below word (suc zero) few = omega arith
number-below word (suc (suc zero)) few = omega arith
number-below word (suc (suc (suc zero))) few = omega arith
number-below word (suc (suc (suc (suc zero)))) few = omega arith
number-below word (suc (suc (suc (suc (suc zero))))) few = omega arith
number-below word (suc (suc (suc (suc (suc (suc zero)))))) few = omega arith
number-below word (suc (suc (suc (suc (suc (suc (suc zero))))))) few = omega arith
number-below word (suc (suc (suc (suc (suc (suc (suc (suc n)))))))) few = absurd (omega arith)

pub returns-clause-value : goal.returns-clause-value
returns-clause-value c n few = value c.args.word c.args.age n c.ranges.word.fits c.ranges.age.fits few

pub returns-clause-small : goal.returns-clause-small
returns-clause-small c n few =
    omega (arith, value c.args.word c.args.age n c.ranges.word.fits c.ranges.age.fits few, number-below c.args.word n few, c.ranges.age.fits)
