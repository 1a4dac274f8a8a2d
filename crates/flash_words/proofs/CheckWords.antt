-- Lemmas on the words of `check`, `verify` and `tint`.
use Rattle.std.proofs.Common.{◌≡◌, ℕ, ◌<◌, ◌≤◌, List, [], ◌∷◌, map, length, get_or, arith, codes, decimal, IfSome, refl, subst, sym, ◌∙◌, Option, Some, None}
use Rattle.page_model.specs.Viewing.{Viewing}
use Rattle.flash_words.specs.Words.{IsSpot, SpellsCheck, SpellsRate, SpellsSetup, SpellsTint, SpellsVerify, Spot}

-- the texts of a list of four
pub map-four : {X : Type 0} (f : X → List ℕ) (xs : List X) (a b c d : X) (p r s : List ℕ) → 4 ≤ length xs → length xs < 5
    → a ≡ get_or xs 0 a → b ≡ get_or xs 1 b → c ≡ get_or xs 2 c → d ≡ get_or xs 3 d → p ≡ f a → r ≡ f c → s ≡ f d
    → map f xs ≡ p ∷ f b ∷ r ∷ s ∷ []
map-four f [] a b c d p r s low high = absurd (omega arith)
map-four f (x ∷ []) a b c d p r s low high = absurd (omega arith)
map-four f (x ∷ y ∷ []) a b c d p r s low high = absurd (omega arith)
map-four f (x ∷ y ∷ z ∷ []) a b c d p r s low high = absurd (omega arith)
map-four f (x ∷ y ∷ z ∷ w ∷ []) a b c d p r s low high = λ e1 e2 e3 e4 e5 e6 e7. cc
map-four f (x ∷ y ∷ z ∷ w ∷ v ∷ vs) a b c d p r s low high = absurd (omega arith)

-- the texts of a list of five
pub map-five : {X : Type 0} (f : X → List ℕ) (xs : List X) (a b c d e : X) (p s t : List ℕ) → 5 ≤ length xs → length xs < 6
    → a ≡ get_or xs 0 a → b ≡ get_or xs 1 b → c ≡ get_or xs 2 c → d ≡ get_or xs 3 d → e ≡ get_or xs 4 e → p ≡ f a → s ≡ f d → t ≡ f e
    → map f xs ≡ p ∷ f b ∷ f c ∷ s ∷ t ∷ []
map-five f [] a b c d e p s t low high = absurd (omega arith)
map-five f (x ∷ []) a b c d e p s t low high = absurd (omega arith)
map-five f (x ∷ y ∷ []) a b c d e p s t low high = absurd (omega arith)
map-five f (x ∷ y ∷ z ∷ []) a b c d e p s t low high = absurd (omega arith)
map-five f (x ∷ y ∷ z ∷ w ∷ []) a b c d e p s t low high = absurd (omega arith)
map-five f (x ∷ y ∷ z ∷ w ∷ v ∷ []) a b c d e p s t low high = λ e1 e2 e3 e4 e5 e6 e7 e8. cc
map-five f (x ∷ y ∷ z ∷ w ∷ v ∷ u ∷ us) a b c d e p s t low high = absurd (omega arith)

-- the texts of a list of seven
pub map-seven : {X : Type 0} (f : X → List ℕ) (xs : List X) (a b c d e g h : X) (p r s t u v : List ℕ) → 7 ≤ length xs → length xs < 8
    → a ≡ get_or xs 0 a → b ≡ get_or xs 1 b → c ≡ get_or xs 2 c → d ≡ get_or xs 3 d → e ≡ get_or xs 4 e → g ≡ get_or xs 5 g → h ≡ get_or xs 6 h
    → p ≡ f a → r ≡ f c → s ≡ f d → t ≡ f e → u ≡ f g → v ≡ f h → map f xs ≡ p ∷ f b ∷ r ∷ s ∷ t ∷ u ∷ v ∷ []
map-seven f [] a b c d e g h p r s t u v low high = absurd (omega arith)
map-seven f (x1 ∷ []) a b c d e g h p r s t u v low high = absurd (omega arith)
map-seven f (x1 ∷ x2 ∷ []) a b c d e g h p r s t u v low high = absurd (omega arith)
map-seven f (x1 ∷ x2 ∷ x3 ∷ []) a b c d e g h p r s t u v low high = absurd (omega arith)
map-seven f (x1 ∷ x2 ∷ x3 ∷ x4 ∷ []) a b c d e g h p r s t u v low high = absurd (omega arith)
map-seven f (x1 ∷ x2 ∷ x3 ∷ x4 ∷ x5 ∷ []) a b c d e g h p r s t u v low high = absurd (omega arith)
map-seven f (x1 ∷ x2 ∷ x3 ∷ x4 ∷ x5 ∷ x6 ∷ []) a b c d e g h p r s t u v low high = absurd (omega arith)
map-seven f (x1 ∷ x2 ∷ x3 ∷ x4 ∷ x5 ∷ x6 ∷ x7 ∷ []) a b c d e g h p r s t u v low high = λ e1 e2 e3 e4 e5 e6 e7 f1 f2 f3 f4 f5 f6. cc
map-seven f (x1 ∷ x2 ∷ x3 ∷ x4 ∷ x5 ∷ x6 ∷ x7 ∷ x8 ∷ xs) a b c d e g h p r s t u v low high = absurd (omega arith)

-- equal lists of four have equal parts
pub parts_of_four : {Y : Type 0} (a b c d e f g h : Y) → a ∷ b ∷ c ∷ d ∷ [] ≡ e ∷ f ∷ g ∷ h ∷ [] → (c ≡ g) × (d ≡ h)
parts_of_four a b c d e f g h same = (cc, cc)

-- equal words spell one rate
pub rate-same : {rate other : List ℕ} {width height : ℕ} {s : Viewing} → rate ≡ other → SpellsRate rate width height s → SpellsRate other width height s
rate-same {rate} {other} {width} {height} {s} e good = subst (λ word. SpellsRate word width height s) e good

-- words with the right name and a setup spell a check of the page at place 1
pub spells_check : (words : List (List ℕ)) (name page size rate : List ℕ) (s : Viewing) → words ≡ name ∷ page ∷ size ∷ rate ∷ []
    → name ≡ codes "check" → SpellsSetup size rate s → SpellsCheck words 1 s
spells_check words name page size rate s e named good =
    record { page_name = page; size = size; rate = rate; words_are = cc; page_is = refl; setup_is = good }

-- and what they spell is that check
pub check_spelled : (words : List (List ℕ)) (name page size rate : List ℕ) (place : ℕ) (s : Viewing) → words ≡ name ∷ page ∷ size ∷ rate ∷ []
    → SpellsCheck words place s → (place ≡ 1) × SpellsSetup size rate s
check_spelled words name page size rate place s e w =
    let parts = parts_of_four name page size rate (codes "check") w.page_name w.size w.rate (sym e ∙ w.words_are) in
    let good = w.setup_is in (
      w.page_is,
      record {
        width = good.width;
        height = good.height;
        size_is = parts.0 ∙ good.size_is;
        rate_is = rate-same (sym parts.1) good.rate_is;
      },
    )

-- a setup, a frame and a pixel that words write
pub record AreRead (size rate frame column row : List ℕ) (setup : Viewing) (spot : Spot) : Type 0 where
  pub setup_is : SpellsSetup size rate setup
  pub frame_is : frame ≡ decimal spot.frame
  pub column_is : column ≡ decimal spot.column
  pub row_is : row ≡ decimal spot.row
  pub spot_is : IsSpot setup spot

parts_of_seven : {Y : Type 0} (a b c d e f g h i j k l m n : Y) → a ∷ b ∷ c ∷ d ∷ e ∷ f ∷ g ∷ [] ≡ h ∷ i ∷ j ∷ k ∷ l ∷ m ∷ n ∷ [] → (c ≡ j) × (d ≡ k) × (e ≡ l) × (f ≡ m) × (g ≡ n)
parts_of_seven a b c d e f g h i j k l m n same = (cc, cc, cc, cc, cc)

pub spells_tint : (words : List (List ℕ)) (name page size rate frame column row : List ℕ) (s : Viewing) (spot : Spot)
    → words ≡ name ∷ page ∷ size ∷ rate ∷ frame ∷ column ∷ row ∷ [] → name ≡ codes "tint" → AreRead size rate frame column row s spot → SpellsTint words 1 s spot
spells_tint words name page size rate frame column row s spot e named are =
    let f = are.frame_is in
    let c = are.column_is in
    let r = are.row_is in
    record { page_name = page; size = size; rate = rate; words_are = cc; page_is = refl; setup_is = are.setup_is; spot_is = are.spot_is }

pub tint_spelled : (words : List (List ℕ)) (name page size rate frame column row : List ℕ) (place : ℕ) (s : Viewing) (spot : Spot)
    → words ≡ name ∷ page ∷ size ∷ rate ∷ frame ∷ column ∷ row ∷ [] → SpellsTint words place s spot → (place ≡ 1) × AreRead size rate frame column row s spot
tint_spelled words name page size rate frame column row place s spot e w =
    let parts = parts_of_seven name page size rate frame column row (codes "tint") w.page_name w.size w.rate (decimal spot.frame) (decimal spot.column) (decimal spot.row) (sym e ∙ w.words_are) in
    let good = w.setup_is in (
      w.page_is,
      record {
        setup_is = record {
          width = good.width;
          height = good.height;
          size_is = parts.0 ∙ good.size_is;
          rate_is = rate-same (sym parts.1) good.rate_is;
        };
        frame_is = parts.2;
        column_is = parts.3;
        row_is = parts.4;
        spot_is = w.spot_is;
      },
    )

-- what is read behind the right name
pub check_read : (words : List (List ℕ)) (name page size rate : List ℕ) (result : Option Viewing) → words ≡ name ∷ page ∷ size ∷ rate ∷ [] → name ≡ codes "check"
    → IfSome result (λ s. SpellsSetup size rate s) → IfSome result (λ s. SpellsCheck words 1 s)
check_read words name page size rate None e named good = tt
check_read words name page size rate (Some s) e named good = spells_check words name page size rate s e named good

-- equal lists of five have equal parts
parts_of_five : {Y : Type 0} (a b c d e f g h i j : Y) → a ∷ b ∷ c ∷ d ∷ e ∷ [] ≡ f ∷ g ∷ h ∷ i ∷ j ∷ [] → (d ≡ i) × (e ≡ j)
parts_of_five a b c d e f g h i j same = (cc, cc)

-- five words with the right name and a setup spell a verify of the files at places 1 and 2
pub verify_read : (words : List (List ℕ)) (name page witness size rate : List ℕ) (result : Option Viewing) → words ≡ name ∷ page ∷ witness ∷ size ∷ rate ∷ []
    → name ≡ codes "verify" → IfSome result (λ s. SpellsSetup size rate s) → IfSome result (λ s. SpellsVerify words 1 2 s)
verify_read words name page witness size rate None e named good = tt
verify_read words name page witness size rate (Some s) e named good =
    record { page_name = page; witness_name = witness; size = size; rate = rate; words_are = cc; page_is = refl; witness_is = refl; setup_is = good }

-- and what they spell is that
pub verify_spelled : (words : List (List ℕ)) (name page witness size rate : List ℕ) (place other : ℕ) (s : Viewing) → words ≡ name ∷ page ∷ witness ∷ size ∷ rate ∷ []
    → SpellsVerify words place other s → (place ≡ 1) × (other ≡ 2) × SpellsSetup size rate s
verify_spelled words name page witness size rate place other s e w =
    let parts = parts_of_five name page witness size rate (codes "verify") w.page_name w.witness_name w.size w.rate (sym e ∙ w.words_are) in
    let good = w.setup_is in (
      w.page_is,
      w.witness_is,
      record {
        width = good.width;
        height = good.height;
        size_is = parts.0 ∙ good.size_is;
        rate_is = rate-same (sym parts.1) good.rate_is;
      },
    )
