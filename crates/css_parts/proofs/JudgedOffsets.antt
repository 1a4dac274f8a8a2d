-- Offsets: of all tokens it is said what they begin with, or which fault they have.
use Rattle.std.proofs.Common.{ℕ, List, [], ◌∷◌, ◌++◌, Result, Ok, Err}
use Rattle.std.specs.Prelude.{ℤ, pos, negsuc, codes, nat_le}
use Rattle.style_tokens.specs.declared.token.CssToken.{CssToken}
use Rattle.css_words.specs.declared.fault.ValueFault.{ValueFault}
use Rattle.css_quantities.specs.Quantities.{percentage_of}
use Rattle.css_words.specs.Words.{words}
use Rattle.css_declarations.specs.declared.fault.SheetFault.TheVariants.{BadSheet, BadKeyframes}
use Rattle.css_declarations.specs.TokenKinds.{is_word, place_of}
use Rattle.css_declarations.proofs.ToldUnits.{IsSure, sure_after, sure_if}
use Rattle.css_parts.specs.KeyframeGrammar.{Offsets, is_given, is_percentage, measured, new_offset, offset_at, said_at, within_set}
use Rattle.css_selectors.specs.Readings.{Exactly}
use Rattle.css_selectors.proofs.JudgedReadings.{Judges, exactly_judges, listed_judges}
use Rattle.css_parts.proofs.OffsetLemmas.{offset_keeps}

within_sure : (place : ℕ) (rest : List CssToken) (hundredths : ℤ) → IsSure (within_set place rest hundredths)
within_sure place rest (pos n) = sure_if (nat_le n 10000) (Ok (n, rest)) (Err (BadKeyframes place)) tt tt
within_sure place rest (negsuc n) = tt

measured_sure : (place : ℕ) (rest : List CssToken) (read : Result ℤ ValueFault) → IsSure (measured place rest read)
measured_sure place rest (Ok hundredths) = within_sure place rest hundredths
measured_sure place rest (Err fault) = tt

said_sure : (text : List ℕ) (end : ℕ) (tokens : List CssToken) → IsSure (said_at text end tokens)
unfolding said_at
said_sure text end [] = tt
said_sure text end (token ∷ rest) =
    sure_if (is_word (codes "from") text token) (Ok (0, rest)) _ tt
    (sure_if (is_word (codes "to") text token) (Ok (10000, rest)) _ tt
    (sure_if (is_percentage text token) (measured token.place.from rest (percentage_of (words text (token ∷ [])))) (Err (BadSheet token.place.from))
    (measured_sure token.place.from rest (percentage_of (words text (token ∷ [])))) tt))

offset_sure : (text : List ℕ) (end : ℕ) (given : List ℕ) (tokens : List CssToken) → IsSure (offset_at text end given tokens)
unfolding offset_at
offset_sure text end given tokens =
    sure_after (said_at text end tokens) (new_offset given (place_of end tokens)) (said_sure text end tokens)
    (λ said. sure_if (is_given given said.0) (Err (BadKeyframes (place_of end tokens))) (Ok said) tt tt)

pub offsets_judge : (text : List ℕ) (end : ℕ) (given : List ℕ) → Judges (Offsets text end given)
offsets_judge text end given =
    listed_judges (λ before. Exactly (offset_at text end (given ++ before))) (λ before. exactly_judges (offset_at text end (given ++ before)) (offset_sure text end (given ++ before)))
    (λ before. offset_keeps text end (given ++ before))
