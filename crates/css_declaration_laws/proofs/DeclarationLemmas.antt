-- Declarations that are read are those that are spelled.
use Rattle.std.proofs.Common.{◌≡◌, ◌⊎◌, inl, inr, refl, Result, Ok, Err, List, [], ◌∷◌}
use Rattle.page_model.specs.declared.rule.Longhand.{Longhand}
use Rattle.css_words.specs.declared.fault.ValueFault.{ValueFault}
use Rattle.css_words.specs.declared.fault.ValueFault.TheVariants.{BadValue, OverLimit, NoMemory}
use Rattle.css_values.specs.declared.types.Property.{Property}
use Rattle.css_values.specs.declared.types.Property.TheVariants.{Animation}
use Rattle.css_items.specs.Lists.{Gives, list_of}
use Rattle.css_values.specs.ShorthandGrammar.{item_of}
use Rattle.css_columns.specs.Columns.{columns}
use Rattle.css_values.specs.ValueGrammar.{declaration_of, longhand_of}
use Rattle.css_words.specs.Words.{Word, mapped}
use Rattle.css_value_laws.specs.SpelledLists.{IsPastList}
use Rattle.css_declaration_laws.specs.SpelledLonghands.{PastLonghand}
use Rattle.css_declaration_laws.specs.SpelledShorthand.{PastItem, SpellsItem}
use Rattle.css_declaration_laws.specs.Spelling.{Answers, Spells, SpellsNone, SpellsOne, SpellsPast, SpellsShorthand}
use Rattle.css_declaration_laws.proofs.ItemLemmas.{item_closes, item_reads}
use Rattle.css_value_laws.proofs.ListLemmas.{list_reads}
use Rattle.css_declaration_laws.proofs.LonghandLemmas.{longhand_reads}
use Rattle.css_word_laws.proofs.Readings.{Reads, reads_like, reads_mapped}

one_reads : (property : Property) (words : List Word) → Reads (mapped (λ longhand. longhand ∷ []) (longhand_of property words)) (SpellsOne property words) (PastLonghand property words)
one_reads property words =
    reads_like (SpellsOne property words) (PastLonghand property words)
    (reads_mapped (λ longhand. longhand ∷ []) (longhand_of property words) _ _ (longhand_reads property words))
    (λ all s. record { longhand = s.0; spelled = s.1; value = s.2 })
    (λ all s. (s.longhand, s.spelled, s.value))
    (λ p. p) (λ p. p)

shorthand_reads : (words : List Word) → Reads (mapped columns (list_of item_of words)) (SpellsShorthand words) (IsPastList SpellsItem PastItem words)
shorthand_reads words =
    reads_like (SpellsShorthand words) (IsPastList SpellsItem PastItem words)
    (reads_mapped columns (list_of item_of words) _ _ (list_reads item_of SpellsItem PastItem item_reads item_closes words))
    (λ all s. record { items = s.0; spelled = s.1; value = s.2 })
    (λ all s. (s.items, s.spelled, s.value))
    (λ p. p) (λ p. p)

pub declaration_reads : (property : Property) (words : List Word) → Reads (declaration_of property words) (Spells property words) (SpellsPast property words)
unfolding declaration_of
declaration_reads Animation words = shorthand_reads words
declaration_reads other words = one_reads other words

-- where no value is read, none is spelled
none_spelled : (property : Property) (words : List Word) → declaration_of property words ≡ Err BadValue → SpellsNone property words
none_spelled property words bad = record {
  no_value = λ all s. let e = (declaration_reads property words).ok_from all s in cc;
  no_past = λ p. let e = (declaration_reads property words).past_from p in cc;
}

-- one of the three is so
abbrev IsJudged : Property → List Word → Type 0
IsJudged property words = ((all : List Longhand) × Spells property words all) ⊎ (SpellsPast property words ⊎ SpellsNone property words)

judged_as : (property : Property) (words : List Word) (read : Result (List Longhand) ValueFault) → declaration_of property words ≡ read → IsJudged property words
judged_as property words (Ok all) e = inl (all, (declaration_reads property words).ok_to all e)
judged_as property words (Err OverLimit) e = inr (inl ((declaration_reads property words).past_to e))
judged_as property words (Err BadValue) e = inr (inr (none_spelled property words e))
judged_as property words (Err NoMemory) e = absurd ((declaration_reads property words).kept e)

pub declaration_judged : (property : Property) (words : List Word) → IsJudged property words
declaration_judged property words = judged_as property words (declaration_of property words) refl

-- what a call answers that gives what is read
pub answers_are : (property : Property) (words : List Word) (result : Result (List Longhand) ValueFault) → Gives result (declaration_of property words)
    → Answers property words result
answers_are property words (Ok all) gives = (declaration_reads property words).ok_to all gives
answers_are property words (Err OverLimit) gives = (declaration_reads property words).past_to gives
answers_are property words (Err BadValue) gives = none_spelled property words gives
answers_are property words (Err NoMemory) gives = tt
