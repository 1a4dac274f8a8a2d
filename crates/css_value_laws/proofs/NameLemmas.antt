-- Keywords of a table and names, read and spelled.
use Rattle.std.proofs.Common.{ℕ, ◌≡◌, Bool, true, false, List, [], ◌∷◌, Option, Some, None, Ok, Err, option_and_then, refl, ap, sym, subst, inl, inr, codes}
use Rattle.std.proofs.lemmas.Bool.{cases_Bool}
use Rattle.style_tokens.specs.declared.token.CssKind.TheVariants.{Ident}
use Rattle.css_words.specs.declared.fault.ValueFault.TheVariants.{BadValue}
use Rattle.css_words.specs.Keywords.{is_keyword, lookup}
use Rattle.css_items.specs.ItemWords.{reserved_words}
use Rattle.css_items.specs.Names.{keyword_of, name_of, named}
use Rattle.css_words.specs.Words.{Word, lone, when_ident}
use Rattle.css_word_laws.specs.SpelledNumbers.{word}
use Rattle.css_word_laws.specs.SpelledWords.{IsWord, IsEntry, SpellsKeyword}
use Rattle.css_value_laws.specs.SpelledNames.{SpellsName}
use Rattle.css_word_laws.specs.ValueLaws.{NonePast}
use Rattle.css_word_laws.proofs.KeywordLemmas.{same_bytes, then_to, lone_ident_is, ident_alone}
use Rattle.css_word_laws.proofs.Readings.{Reads, reads_bad, reads_ok, reads_of}
use Rattle.css_word_laws.proofs.WordLemmas.{are_distinct, entry_from, entry_to}

pub keyword_reads : {A : Type 0} (table : List (List ℕ × A)) → are_distinct table ≡ true → (words : List Word)
    → Reads (keyword_of table words) (SpellsKeyword table words) (NonePast words)
unfolding keyword_of
keyword_reads {A} table distinct words = reads_of (option_and_then (lookup table) (lone when_ident words)) _ (SpellsKeyword table words) (NonePast words)
    (λ none. reads_bad _ _ (λ v s. let f = found_from v s in cc) (λ p. p))
    (λ value some. reads_ok _ _ value
    (let both = then_to (lookup table) (lone when_ident words) value some in
    record { bytes = both.x; alone = lone_ident_is words both.x both.first; entry = entry_to table both.x value both.second })
    (λ v s. let f = found_from v s in cc)
    (λ p. p)) where
      found_from : (value : A) → SpellsKeyword table words value → option_and_then (lookup table) (lone when_ident words) ≡ Some value
      found_from value s = rw (s.alone, ident_alone s.bytes) (entry_from table s.bytes value distinct s.entry)

reserved_distinct : are_distinct reserved_words ≡ true
unfolding reserved_words is_keyword
reserved_distinct = refl

-- the name that an identifier is
named_to : (words : List Word) (bytes : List ℕ) → words ≡ word Ident bytes ∷ [] → Reads (named bytes) (SpellsName words) (NonePast words)
unfolding named
named_to words bytes alone = elim (cases_Bool (is_keyword (codes "none") bytes)) [
  | inl none ↦ rw none (reads_ok (SpellsName words) (NonePast words) None (record { bytes = bytes; alone = alone; is = none }) (is_none none) (λ p. p))
  | inr other ↦ rw other (own other (lookup reserved_words bytes) (λ v e. e) (λ e. e))
] where
  is_bytes : (b : List ℕ) → words ≡ word Ident b ∷ [] → bytes ≡ b
  is_bytes b e = same_bytes words Ident Ident bytes b [] [] alone e

  is_none : is_keyword (codes "none") bytes ≡ true → (v : Option (List ℕ)) → SpellsName words v → None ≡ v
  is_none none None s = refl
  is_none none (Some b) s = absurd (s.is_some (subst (λ t. is_keyword (codes "none") t ≡ true) (is_bytes b s.alone) none))

  none_is : is_keyword (codes "none") bytes ≡ false → IsWord (codes "none") words → ⊥
  none_is other s = let e = subst (λ t. is_keyword (codes "none") t ≡ true) (sym (is_bytes s.bytes s.alone)) s.is in cc

  refused : is_keyword (codes "none") bytes ≡ false → (is : Bool) → IsEntry reserved_words bytes is → (v : Option (List ℕ)) → SpellsName words v → ⊥
  refused other is entry None s = none_is other s
  refused other is entry (Some b) s = s.is_own is (subst (λ t. IsEntry reserved_words t is) (is_bytes b s.alone) entry)

  is_own : is_keyword (codes "none") bytes ≡ false → (v : Option (List ℕ)) → SpellsName words v → Some bytes ≡ v
  is_own other None s = absurd (none_is other s)
  is_own other (Some b) s = ap (λ t. Some t) (is_bytes b s.alone)

  own : is_keyword (codes "none") bytes ≡ false → (o : Option Bool) → ((v : Bool) → o ≡ Some v → lookup reserved_words bytes ≡ Some v)
      → (o ≡ None → lookup reserved_words bytes ≡ None)
      → Reads {A = Option (List ℕ)} (elim o [ Some is ↦ Err BadValue | None ↦ Ok (Some bytes) ]) (SpellsName words) (NonePast words)
  own other (Some is) some none = reads_bad _ _ (refused other is (entry_to reserved_words bytes is (some is refl))) (λ p. p)
  own other None some none = reads_ok (SpellsName words) (NonePast words) (Some bytes)
      (record {
        alone = alone;
        is_some = λ e. cc;
        is_own = λ v s. let e = entry_from reserved_words bytes v reserved_distinct s in let f = none refl in cc;
      })
      (is_own other) (λ p. p)

no_name : (words : List Word) (v : Option (List ℕ)) → lone when_ident words ≡ None → SpellsName words v → ⊥
no_name words None none s = let alone = s.alone in let e : lone when_ident words ≡ Some s.bytes = rw alone (ident_alone s.bytes) in cc
no_name words (Some b) none s = let alone = s.alone in let e : lone when_ident words ≡ Some b = rw alone (ident_alone b) in cc

pub name_reads : (words : List Word) → Reads (name_of words) (SpellsName words) (NonePast words)
unfolding name_of
name_reads words = reads_of (lone when_ident words) named (SpellsName words) (NonePast words)
    (λ none. reads_bad _ _ (λ v s. no_name words v none s) (λ p. p))
    (λ bytes some. named_to words bytes (lone_ident_is words bytes some))
