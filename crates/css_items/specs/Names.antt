-- Items that are one word.
use Rattle.std.specs.Prelude.{ℕ, List, Option, Some, None, Result, Ok, Err, codes, option_and_then, if◌then◌else◌}
use Rattle.css_words.specs.declared.fault.ValueFault.{ValueFault}
use Rattle.css_words.specs.declared.fault.ValueFault.TheVariants.{BadValue}
use Rattle.css_words.specs.Keywords.{is_keyword, lookup}
use Rattle.css_items.specs.ItemWords.{reserved_words}
use Rattle.css_words.specs.Words.{Word, lone, when_ident, or_bad}

-- a keyword of a table
unfoldable pub keyword_of : {A : Type 0} → List (List ℕ × A) → List Word → Result A ValueFault
keyword_of table words = or_bad (option_and_then (lookup table) (lone when_ident words)) (λ value. Ok value)

-- the name of a keyframe set that the bytes of an identifier are: `none` is no name, and CSS-wide keywords are refused
unfoldable pub named : List ℕ → Result (Option (List ℕ)) ValueFault
named bytes = if is_keyword (codes "none") bytes then Ok None else elim (lookup reserved_words bytes) [ Some is ↦ Err BadValue | None ↦ Ok (Some bytes) ]

unfoldable pub name_of : List Word → Result (Option (List ℕ)) ValueFault
name_of words = or_bad (lone when_ident words) named
