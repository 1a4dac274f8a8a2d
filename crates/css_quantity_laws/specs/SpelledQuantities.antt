-- Lengths, times, percentages and plain numbers, and those past a limit.
use Rattle.std.specs.Prelude.{ℕ, ℤ, pos, Bool, true, false, ◌≡◌, ◌⊎◌, ◌<◌, ◌≤◌, ◌≤ℤ◌, List, [], codes}
use Rattle.page_model.specs.declared.animation.Count.{Count}
use Rattle.page_model.specs.declared.animation.Count.TheVariants.{Times, Infinite}
use Rattle.css_words.specs.Words.{Word}
use Rattle.css_word_laws.specs.SpelledNumbers.{Sign, with_sign, IsHeld, IsMeasure, IsNought}
use Rattle.css_word_laws.specs.SpelledWords.{IsWord}

-- a negative number stands only where it may
abbrev pub MayStand : Bool → ℤ → Type 0
MayStand signed v = signed ≡ false → pos 0 ≤ℤ v

-- a number with this unit in parts of ten to the places, up to a limit on either side of 0
pub record IsWithin (unit : List ℕ) (places limit : ℕ) (signed : Bool) (words : List Word) (v : ℤ) : Type 0 where
  pub sign : Sign
  pub size : ℕ
  pub measure : IsMeasure unit places words sign size
  pub value : v ≡ with_sign sign size
  pub may : MayStand signed v
  pub small : size ≤ limit

-- such a number past the limit
pub record IsPast (unit : List ℕ) (places limit : ℕ) (signed : Bool) (words : List Word) : Type 0 where
  pub sign : Sign
  pub size : ℕ
  pub measure : IsMeasure unit places words sign size
  pub may : MayStand signed (with_sign sign size)
  pub large : limit < size

-- a length in hundredths of a pixel, up to 8,192 px: with the unit `px` and two decimals at most, or 0 without unit
abbrev pub SpellsLength : Bool → List Word → ℤ → Type 0
SpellsLength signed words v = IsWithin (codes "px") 2 819200 signed words v ⊎ (IsNought [] words × (v ≡ pos 0))

abbrev pub PastLength : Bool → List Word → Type 0
PastLength signed words = IsPast (codes "px") 2 819200 signed words

-- a time in milliseconds, up to 100 s: with the unit `s` and three decimals at most, or with `ms` and none
abbrev pub SpellsTime : Bool → List Word → ℤ → Type 0
SpellsTime signed words v = IsWithin (codes "s") 3 100000 signed words v ⊎ IsWithin (codes "ms") 0 100000 signed words v

abbrev pub PastTime : Bool → List Word → Type 0
PastTime signed words = IsPast (codes "s") 3 100000 signed words ⊎ IsPast (codes "ms") 0 100000 signed words

-- a time that is not negative
abbrev pub SpellsDuration : List Word → ℕ → Type 0
SpellsDuration words n = SpellsTime false words (pos n)

-- hundredths of a percent, with two decimals at most
pub record SpellsPercentage (words : List Word) (v : ℤ) : Type 0 where
  pub sign : Sign
  pub size : ℕ
  pub measure : IsMeasure (codes "%") 2 words sign size
  pub value : v ≡ with_sign sign size

-- an opacity in thousandths, held to 0 and 1
pub record SpellsOpacity (words : List Word) (n : ℕ) : Type 0 where
  pub sign : Sign
  pub size : ℕ
  pub measure : IsMeasure [] 3 words sign size
  pub held : IsHeld sign size n

-- a place in the order of boxes: `auto`, which is 0, or a whole number up to 1,000,000
abbrev pub SpellsZIndex : List Word → ℤ → Type 0
SpellsZIndex words v = (IsWord (codes "auto") words × (v ≡ pos 0)) ⊎ IsWithin [] 0 1000000 true words v

abbrev pub PastZIndex : List Word → Type 0
PastZIndex words = IsPast [] 0 1000000 true words

-- how often: `infinite`, or thousandths of an iteration, up to 10,000 iterations
pub data SpellsCount (words : List Word) : Count → Type 0 where
  endless : IsWord (codes "infinite") words → SpellsCount words Infinite
  times : (n : ℕ) → IsWithin [] 3 10000000 false words (pos n) → SpellsCount words (Times n)

abbrev pub PastCount : List Word → Type 0
PastCount words = IsPast [] 3 10000000 false words

-- nothing: 0 without unit, or with `px`
abbrev pub SpellsNothing : List Word → Type 0
SpellsNothing words = IsNought [] words ⊎ IsNought (codes "px") words
