-- Lemmas on the words of `light` and `demo`.
use Rattle.std.proofs.Common.{◌≡◌, ℕ, ◌<◌, ◌≤◌, ◌^◌, List, [], ◌∷◌, map, length, get_or, arith, codes, decimal, IfSome, sym, ◌∙◌, Option, Some, None}
use Rattle.page_model.specs.Viewing.{Viewing}
use Rattle.page_model.specs.declared.colour.Rgb.{Rgb}
use Rattle.flash_words.specs.Colours.{SpellsColour}
use Rattle.flash_words.specs.Words.{SpellsDemo, SpellsLight, SpellsSetup}
use Rattle.flash_words.proofs.CheckWords.{parts_of_four, rate-same}

-- the texts of a list of two
pub map-two : {X : Type 0} (f : X → List ℕ) (xs : List X) (a b : X) (p q : List ℕ) → 2 ≤ length xs → length xs < 3
    → a ≡ get_or xs 0 a → b ≡ get_or xs 1 b → p ≡ f a → q ≡ f b → map f xs ≡ p ∷ q ∷ []
map-two f [] a b p q low high = absurd (omega arith)
map-two f (x ∷ []) a b p q low high = absurd (omega arith)
map-two f (x ∷ y ∷ []) a b p q low high = λ e1 e2 e3 e4. cc
map-two f (x ∷ y ∷ z ∷ zs) a b p q low high = absurd (omega arith)

-- words with the right name and a colour spell a light of it
pub light_read : (words : List (List ℕ)) (name word : List ℕ) (result : Option Rgb) → words ≡ name ∷ word ∷ [] → name ≡ codes "light"
    → IfSome result (SpellsColour word) → IfSome result (λ c. SpellsLight words c)
light_read words name word None e named good = tt
light_read words name word (Some c) e named good = record { word = word; words_are = cc; colour_is = good }

-- words with the right name, a number and a setup spell a demo of them
pub demo_read : (words : List (List ℕ)) (name word size rate : List ℕ) (number : ℕ) (s : Viewing) → words ≡ name ∷ word ∷ size ∷ rate ∷ []
    → name ≡ codes "demo" → word ≡ decimal number → number < 2 ^ 32 → SpellsSetup size rate s → SpellsDemo words number s
demo_read words name word size rate number s e named written limit good =
    record { size = size; rate = rate; words_are = cc; limit = limit; setup_is = good }

second_of_four : {Y : Type 0} (a b c d e f g h : Y) → a ∷ b ∷ c ∷ d ∷ [] ≡ e ∷ f ∷ g ∷ h ∷ [] → b ≡ f
second_of_four a b c d e f g h same = cc

-- and what they spell is that
pub demo_spelled : (words : List (List ℕ)) (name word size rate : List ℕ) (number : ℕ) (s : Viewing) → words ≡ name ∷ word ∷ size ∷ rate ∷ []
    → SpellsDemo words number s → (word ≡ decimal number) × (number < 2 ^ 32) × SpellsSetup size rate s
demo_spelled words name word size rate number s e w =
    let same = sym e ∙ w.words_are in
    let parts = parts_of_four name word size rate (codes "demo") (decimal number) w.size w.rate same in
    let good = w.setup_is in (
      second_of_four name word size rate (codes "demo") (decimal number) w.size w.rate same,
      w.limit,
      record {
        width = good.width;
        height = good.height;
        size_is = parts.0 ∙ good.size_is;
        rate_is = rate-same (sym parts.1) good.rate_is;
      },
    )
