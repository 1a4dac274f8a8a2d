-- The shorthand `animation`: CSS Animations Level 1, as a profile. An item is words, each of which takes a slot.
use Rattle.std.specs.Prelude.{ℕ, ℤ, pos, Bool, true, false, ◌≡◌, ◌<◌, ◌||◌, List, [], ◌∷◌, ◌++◌, length, Option, Some, None}
use Rattle.page_model.specs.declared.animation.Count.{Count}
use Rattle.page_model.specs.declared.animation.Count.TheVariants.{Times}
use Rattle.page_model.specs.declared.animation.Direction.{Direction}
use Rattle.page_model.specs.declared.animation.Direction.TheVariants.{Normal}
use Rattle.page_model.specs.declared.animation.Fill.{Fill}
use Rattle.page_model.specs.declared.animation.Fill.TheVariants.{Absent}
use Rattle.page_model.specs.declared.easing.Easing.{Easing}
use Rattle.page_model.specs.declared.easing.Easing.TheVariants.{Cubic}
use Rattle.css_columns.specs.declared.item.Shorthand.{Shorthand}
use Rattle.css_items.specs.ItemWords.{direction_words, fill_words, play_words}
use Rattle.css_words.specs.Words.{Word}
use Rattle.css_easing_laws.specs.SpelledEasings.{SpellsEasing, PastEasing}
use Rattle.css_value_laws.specs.SpelledLists.{IsMarked}
use Rattle.css_quantity_laws.specs.SpelledQuantities.{SpellsTime, PastTime, SpellsDuration, SpellsCount, PastCount}
use Rattle.css_word_laws.specs.SpelledWords.{SpellsKeyword}
use Rattle.css_value_laws.specs.SpelledNames.{SpellsName}

-- the slots of an item
pub data Slot : Type 0 where
  duration_slot : Slot
  delay_slot : Slot
  easing_slot : Slot
  count_slot : Slot
  direction_slot : Slot
  fill_slot : Slot
  play_slot : Slot
  name_slot : Slot

-- a slot with its value, or with none where that is past its limit
pub data Part : Type 0 where
  duration : Option ℕ → Part
  delay : Option ℤ → Part
  easing : Option Easing → Part
  count : Option Count → Part
  direction : Direction → Part
  fill : Fill → Part
  play : Bool → Part
  name : Option (List ℕ) → Part

abbrev pub slot_of : Part → Slot
slot_of (duration n) = duration_slot
slot_of (delay v) = delay_slot
slot_of (easing e) = easing_slot
slot_of (count c) = count_slot
slot_of (direction d) = direction_slot
slot_of (fill f) = fill_slot
slot_of (play p) = play_slot
slot_of (name n) = name_slot

abbrev pub same_slot : Slot → Slot → Bool
same_slot duration_slot duration_slot = true
same_slot delay_slot delay_slot = true
same_slot easing_slot easing_slot = true
same_slot count_slot count_slot = true
same_slot direction_slot direction_slot = true
same_slot fill_slot fill_slot = true
same_slot play_slot play_slot = true
same_slot name_slot name_slot = true
same_slot slot other = false

-- one of the parts has this slot
abbrev pub is_taken : Slot → List Part → Bool
is_taken slot [] = false
is_taken slot (part ∷ parts) = same_slot slot (slot_of part) || is_taken slot parts

-- a word spells a part
abbrev pub IsPart : List Word → Part → Type 0
IsPart word (duration n) = IsMarked SpellsDuration (PastTime false) word n
IsPart word (delay v) = IsMarked (SpellsTime true) (PastTime true) word v
IsPart word (easing e) = IsMarked SpellsEasing PastEasing word e
IsPart word (count c) = IsMarked SpellsCount PastCount word c
IsPart word (direction d) = SpellsKeyword direction_words word d
IsPart word (fill f) = SpellsKeyword fill_words word f
IsPart word (play p) = SpellsKeyword play_words word p
IsPart word (name n) = SpellsName word n

-- behind these parts a word may take this one: its slot is free, a delay stands behind a duration, and a name is a word
-- for which no other slot is free
pub record MayTake (before : List Part) (word : List Word) (part : Part) : Type 0 where
  pub free : is_taken (slot_of part) before ≡ false
  pub second : same_slot delay_slot (slot_of part) ≡ true → is_taken duration_slot before ≡ true
  pub left : same_slot name_slot (slot_of part) ≡ true → (other : Part) → IsPart word other → same_slot name_slot (slot_of other) ≡ false
      → is_taken (slot_of other) before ≡ true

-- behind the first parts the words take the others, one after the other; the last one stands first in the list
pub data Takes : List Part → List Word → List Part → Type 0 where
  all : (parts : List Part) → Takes parts [] parts
  next : (before : List Part) (word rest : List Word) (part : Part) (parts : List Part) → IsPart word part → MayTake before word part
      → Takes (part ∷ before) rest parts → Takes before (word ++ rest) parts

-- a part is past its limit
abbrev pub is_over : Part → Bool
is_over (duration None) = true
is_over (delay None) = true
is_over (easing None) = true
is_over (count None) = true
is_over other = false

abbrev pub is_past : List Part → Bool
is_past [] = false
is_past (part ∷ parts) = is_over part || is_past parts

-- the value of each slot, which is the initial one where no part has it
abbrev pub duration_in : List Part → ℕ
duration_in [] = 0
duration_in (duration (Some n) ∷ parts) = n
duration_in (other ∷ parts) = duration_in parts

abbrev pub delay_in : List Part → ℤ
delay_in [] = pos 0
delay_in (delay (Some v) ∷ parts) = v
delay_in (other ∷ parts) = delay_in parts

abbrev pub easing_in : List Part → Easing
easing_in [] = Cubic 250 (pos 100) 250 (pos 1000)
easing_in (easing (Some e) ∷ parts) = e
easing_in (other ∷ parts) = easing_in parts

abbrev pub count_in : List Part → Count
count_in [] = Times 1000
count_in (count (Some c) ∷ parts) = c
count_in (other ∷ parts) = count_in parts

abbrev pub direction_in : List Part → Direction
direction_in [] = Normal
direction_in (direction d ∷ parts) = d
direction_in (other ∷ parts) = direction_in parts

abbrev pub fill_in : List Part → Fill
fill_in [] = Absent
fill_in (fill f ∷ parts) = f
fill_in (other ∷ parts) = fill_in parts

abbrev pub play_in : List Part → Bool
play_in [] = false
play_in (play p ∷ parts) = p
play_in (other ∷ parts) = play_in parts

abbrev pub name_in : List Part → Option (List ℕ)
name_in [] = None
name_in (name n ∷ parts) = n
name_in (other ∷ parts) = name_in parts

abbrev pub item_with : List Part → Shorthand
item_with parts = record {
  name = name_in parts;
  duration = duration_in parts;
  easing = easing_in parts;
  delay = delay_in parts;
  count = count_in parts;
  direction = direction_in parts;
  fill = fill_in parts;
  paused = play_in parts;
}

-- the words are one word or more, each of which takes a slot, and none is past its limit
pub record SpellsItem (words : List Word) (item : Shorthand) : Type 0 where
  pub parts : List Part
  pub takes : Takes [] words parts
  pub some : 0 < length parts
  pub within : is_past parts ≡ false
  pub value : item ≡ item_with parts

-- such words, of which one is past its limit
pub record PastItem (words : List Word) : Type 0 where
  pub parts : List Part
  pub takes : Takes [] words parts
  pub over : is_past parts ≡ true
