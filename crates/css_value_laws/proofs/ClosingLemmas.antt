-- No item of a list has a comma outside parentheses.
use Rattle.std.proofs.Common.{ℕ, ℤ, pos, ◌≡◌, Bool, true, false, List, [], ◌∷◌, Option, Some, None, refl, inl, inr}
use Rattle.page_model.specs.declared.animation.Count.{Count}
use Rattle.page_model.specs.declared.easing.Jump.{Jump}
use Rattle.style_tokens.specs.declared.token.CssKind.TheVariants.{Ident, Number}
use Rattle.css_words.specs.Words.{Word}
use Rattle.css_easing_laws.specs.SpelledEasings.{IsJump, IsSteps, IsCurve, SpellsEasing, PastEasing}
use Rattle.css_word_laws.specs.SpelledNumbers.{Sign, word, IsMeasure}
use Rattle.css_quantity_laws.specs.SpelledQuantities.{SpellsTime, PastTime, SpellsDuration, SpellsCount, PastCount}
use Rattle.css_quantity_laws.specs.SpelledQuantities.SpellsCount.{endless, times}
use Rattle.css_word_laws.specs.SpelledWords.{SpellsKeyword}
use Rattle.css_value_laws.specs.SpelledNames.{SpellsName}
use Rattle.css_word_laws.specs.ValueLaws.{NonePast}
use Rattle.css_value_laws.proofs.ListLemmas.{Closes, closes}

number_closes : (words : List Word) (bytes : List ℕ) → words ≡ word Number bytes ∷ [] → closes false words ≡ true
number_closes words bytes e = rw e refl

ident_closes : (words : List Word) (bytes : List ℕ) → words ≡ word Ident bytes ∷ [] → closes false words ≡ true
ident_closes words bytes e = rw e refl

measure_closes : (unit : List ℕ) (places : ℕ) (words : List Word) (sign : Sign) (size : ℕ) → IsMeasure unit places words sign size → closes false words ≡ true
measure_closes unit places words sign size is = number_closes words is.bytes is.alone

pub time_closes : (signed : Bool) → Closes (SpellsTime signed) (PastTime signed)
time_closes signed = (
  λ words v s. elim s [ inl w ↦ number_closes words w.measure.bytes w.measure.alone | inr w ↦ number_closes words w.measure.bytes w.measure.alone ],
  λ words p. elim p [ inl w ↦ number_closes words w.measure.bytes w.measure.alone | inr w ↦ number_closes words w.measure.bytes w.measure.alone ],
)

pub duration_closes : Closes SpellsDuration (PastTime false)
duration_closes = (λ words v s. (time_closes false).0 words (pos v) s, (time_closes false).1)

count_value : (words : List Word) (c : Count) → SpellsCount words c → closes false words ≡ true
count_value words c (endless w) = ident_closes words w.bytes w.alone
count_value words c (times n w) = number_closes words w.measure.bytes w.measure.alone

pub count_closes : Closes SpellsCount PastCount
count_closes = (count_value, λ words p. number_closes words p.measure.bytes p.measure.alone)

pub keyword_closes : {A : Type 0} (table : List (List ℕ × A)) → Closes (SpellsKeyword table) NonePast
keyword_closes table = (λ words v s. ident_closes words s.bytes s.alone, λ words p. absurd p)

name_value : (words : List Word) (v : Option (List ℕ)) → SpellsName words v → closes false words ≡ true
name_value words None s = ident_closes words s.bytes s.alone
name_value words (Some bytes) s = ident_closes words bytes s.alone

pub name_closes : Closes SpellsName NonePast
name_closes = (name_value, λ words p. absurd p)

jump_closes : (words : List Word) (jump : Jump) → IsJump words jump → closes true words ≡ true
jump_closes words jump s = elim s [ inl bare_one ↦ rw bare_one.0.alone refl | inr named ↦ rw named.joined refl ]

steps_close : (words : List Word) (count : ℕ) (jump : Jump) → IsSteps words count jump → closes false words ≡ true
steps_close words count jump s = let tail = jump_closes s.tail jump s.is_jump in rw s.joined tail

curve_closes : (words : List Word) (x1 y1 x2 y2 : ℤ) → IsCurve words x1 y1 x2 y2 → closes false words ≡ true
curve_closes words x1 y1 x2 y2 c = rw c.joined refl

pub easing_closes : Closes SpellsEasing PastEasing
easing_closes = (
  λ words e s. elim s [
    | inl k ↦ ident_closes words k.bytes k.alone
    | inr more ↦ elim more [ inl t ↦ steps_close words t.count t.jump t.steps | inr c ↦ curve_closes words (pos c.x1) c.y1 (pos c.x2) c.y2 c.curve ]
  ],
  λ words p. elim p [ inl t ↦ steps_close words t.count t.jump t.steps | inr c ↦ curve_closes words (pos c.x1) c.y1 (pos c.x2) c.y2 c.curve ],
)
