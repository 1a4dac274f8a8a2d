-- Easings: CSS Easing Functions Level 1, as a profile.
use Rattle.std.specs.Prelude.{ℕ, ℤ, pos, neg_ℤ, true, ◌≡◌, ◌⊎◌, ◌≤◌, ◌<◌, ◌<ℤ◌, List, [], ◌∷◌, codes}
use Rattle.page_model.specs.declared.easing.Easing.{Easing}
use Rattle.page_model.specs.declared.easing.Easing.TheVariants.{Steps, Cubic}
use Rattle.page_model.specs.declared.easing.Jump.{Jump}
use Rattle.page_model.specs.declared.easing.Jump.TheVariants.{End}
use Rattle.page_model.specs.ValidScene.{IsBetween, least_steps}
use Rattle.style_tokens.specs.declared.token.CssKind.TheVariants.{Comma, Function, Ident, Number, RightParen}
use Rattle.css_words.specs.Keywords.{is_keyword}
use Rattle.css_easings.specs.EasingWords.{easing_words, jump_words}
use Rattle.css_words.specs.Words.{Word}
use Rattle.css_word_laws.specs.SpelledNumbers.{Sign, word, with_sign, IsNumber, IsSize}
use Rattle.css_word_laws.specs.SpelledWords.{IsEntry, IsWhole, SpellsKeyword}

-- `)` alone
pub record IsClose (words : List Word) : Type 0 where
  pub bytes : List ℕ
  pub alone : words ≡ word RightParen bytes ∷ []

-- a comma, a word for the jump, and `)`
pub record IsNamedJump (words : List Word) (jump : Jump) : Type 0 where
  pub comma : List ℕ
  pub name : List ℕ
  pub end : List ℕ
  pub joined : words ≡ word Comma comma ∷ word Ident name ∷ word RightParen end ∷ []
  pub entry : IsEntry jump_words name jump

-- where steps jump: at the end, where nothing is said
abbrev pub IsJump : List Word → Jump → Type 0
IsJump words jump = (IsClose words × (jump ≡ End)) ⊎ IsNamedJump words jump

-- `steps(`, a whole number, and where they jump
pub record IsSteps (words : List Word) (count : ℕ) (jump : Jump) : Type 0 where
  pub name : List ℕ
  pub number : List ℕ
  pub tail : List Word
  pub joined : words ≡ word Function name ∷ word Number number ∷ tail
  pub called : is_keyword (codes "steps(") name ≡ true
  pub is_count : IsWhole number count
  pub is_jump : IsJump tail jump

-- a number without unit and with three decimals at most, in thousandths
pub record IsThousandths (bytes : List ℕ) (v : ℤ) : Type 0 where
  pub sign : Sign
  pub whole : List ℕ
  pub fraction : List ℕ
  pub size : ℕ
  pub number : IsNumber sign whole fraction [] bytes
  pub is_size : IsSize 3 whole fraction size
  pub value : v ≡ with_sign sign size

-- `cubic-bezier(`, four such numbers with commas between, and `)`
pub record IsCurve (words : List Word) (x1 y1 x2 y2 : ℤ) : Type 0 where
  pub name : List ℕ
  pub a : List ℕ
  pub b : List ℕ
  pub c : List ℕ
  pub d : List ℕ
  pub first : List ℕ
  pub second : List ℕ
  pub third : List ℕ
  pub end : List ℕ
  pub joined : words ≡ word Function name ∷ word Number a ∷ word Comma first ∷ word Number b ∷ word Comma second ∷ word Number c ∷ word Comma third
      ∷ word Number d ∷ word RightParen end ∷ []
  pub called : is_keyword (codes "cubic-bezier(") name ≡ true
  pub is_x1 : IsThousandths a x1
  pub is_y1 : IsThousandths b y1
  pub is_x2 : IsThousandths c x2
  pub is_y2 : IsThousandths d y2

-- steps up to 1,000, and at least as many as their jump needs
pub record SpellsSteps (words : List Word) (easing : Easing) : Type 0 where
  pub count : ℕ
  pub jump : Jump
  pub steps : IsSteps words count jump
  pub enough : least_steps jump ≤ count
  pub few : count ≤ 1000
  pub value : easing ≡ Steps count jump

-- a curve whose points lie from 0 to 1 across, and up to 4 on either side of 0 upwards
pub record SpellsCurve (words : List Word) (easing : Easing) : Type 0 where
  pub x1 : ℕ
  pub y1 : ℤ
  pub x2 : ℕ
  pub y2 : ℤ
  pub curve : IsCurve words (pos x1) y1 (pos x2) y2
  pub first : x1 ≤ 1000
  pub second : x2 ≤ 1000
  pub first_height : IsBetween (neg_ℤ (pos 4000)) (pos 4000) y1
  pub second_height : IsBetween (neg_ℤ (pos 4000)) (pos 4000) y2
  pub value : easing ≡ Cubic x1 y1 x2 y2

-- an easing: a word of the table, steps, or a curve
abbrev pub SpellsEasing : List Word → Easing → Type 0
SpellsEasing words easing = SpellsKeyword easing_words words easing ⊎ (SpellsSteps words easing ⊎ SpellsCurve words easing)

-- steps past their limit
pub record PastSteps (words : List Word) : Type 0 where
  pub count : ℕ
  pub jump : Jump
  pub steps : IsSteps words count jump
  pub many : 1000 < count

-- a height past its limit
abbrev pub IsHigh : ℤ → Type 0
IsHigh y = (pos 4000 <ℤ y) ⊎ (y <ℤ neg_ℤ (pos 4000))

-- a curve with a height past its limit
pub record PastCurve (words : List Word) : Type 0 where
  pub x1 : ℕ
  pub y1 : ℤ
  pub x2 : ℕ
  pub y2 : ℤ
  pub curve : IsCurve words (pos x1) y1 (pos x2) y2
  pub first : x1 ≤ 1000
  pub second : x2 ≤ 1000
  pub high : IsHigh y1 ⊎ IsHigh y2

abbrev pub PastEasing : List Word → Type 0
PastEasing words = PastSteps words ⊎ PastCurve words
