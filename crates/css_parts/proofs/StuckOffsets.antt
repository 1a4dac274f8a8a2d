-- Offsets look ahead by one token.
use Rattle.std.proofs.Common.{◌≡◌, ℕ, Bool, true, false, cond, List, [], ◌∷◌, ◌++◌, Result, Ok, Err, refl, sym, ap, ◌∙◌}
use Rattle.std.specs.Prelude.{ℤ, pos, negsuc, codes, nat_le}
use Rattle.style_tokens.specs.declared.token.CssToken.{CssToken}
use Rattle.css_words.specs.declared.fault.ValueFault.{ValueFault}
use Rattle.css_quantities.specs.Quantities.{percentage_of}
use Rattle.css_words.specs.Words.{words}
use Rattle.css_declarations.specs.declared.fault.SheetFault.{SheetFault}
use Rattle.css_declarations.specs.declared.fault.SheetFault.TheVariants.{BadSheet, UnknownProperty, BadValue, BadKeyframes, OverLimit, NoMemory}
use Rattle.css_declarations.specs.DeclarationReading.{after}
use Rattle.css_declarations.specs.TokenKinds.{is_word}
use Rattle.css_parts.specs.KeyframeGrammar.{Offsets, is_given, is_percentage, measured, new_offset, offset_at, said_at, within_set}
use Rattle.css_selectors.specs.Readings.{Exactly}
use Rattle.css_selectors.proofs.StuckReadings.{LooksAhead, listed_looks}
use Rattle.css_selectors.proofs.StuckFronts.{IsPlaced, placed_if, rest_if, told_looks, with_rest}

kept_within : ℕ → ℤ → Result ℕ SheetFault
kept_within place (pos hundredths) = cond (nat_le hundredths 10000) (Ok hundredths) (Err (BadKeyframes place))
kept_within place (negsuc n) = Err (BadKeyframes place)

kept_measured : ℕ → Result ℤ ValueFault → Result ℕ SheetFault
kept_measured place (Ok hundredths) = kept_within place hundredths
kept_measured place (Err fault) = Err (BadValue place)

kept_said : List ℕ → CssToken → Result ℕ SheetFault
kept_said text token =
    cond (is_word (codes "from") text token) (Ok 0) (cond (is_word (codes "to") text token) (Ok 10000)
    (cond (is_percentage text token) (kept_measured token.place.from (percentage_of (words text (token ∷ [])))) (Err (BadSheet token.place.from))))

kept_offset : List ℕ → List ℕ → CssToken → Result ℕ SheetFault
kept_offset text given token = after (kept_said text token) (λ offset. cond (is_given given offset) (Err (BadKeyframes token.place.from)) (Ok offset))

within_with : (place : ℕ) (more : List CssToken) (hundredths : ℤ) → within_set place more hundredths ≡ with_rest more (kept_within place hundredths)
unfolding kept_within
within_with place more (pos n) = sym (rest_if more (nat_le n 10000) (Ok n) (Err (BadKeyframes place)))
within_with place more (negsuc n) = refl

measured_with : (place : ℕ) (more : List CssToken) (read : Result ℤ ValueFault) → measured place more read ≡ with_rest more (kept_measured place read)
unfolding kept_measured
measured_with place more (Ok hundredths) = within_with place more hundredths
measured_with place more (Err fault) = refl

said_with : (text : List ℕ) (end : ℕ) (token : CssToken) (more : List CssToken) → said_at text end (token ∷ more) ≡ with_rest more (kept_said text token)
unfolding said_at kept_said
said_with text end token more = by_tests (is_word (codes "from") text token) (is_word (codes "to") text token) (is_percentage text token) where
  by_tests : (a b c : Bool)
      → cond a (Ok (0, more)) (cond b (Ok (10000, more)) (cond c (measured token.place.from more (percentage_of (words text (token ∷ [])))) (Err (BadSheet token.place.from))))
      ≡ with_rest more (cond a (Ok 0) (cond b (Ok 10000) (cond c (kept_measured token.place.from (percentage_of (words text (token ∷ [])))) (Err (BadSheet token.place.from)))))
  by_tests true b c = refl
  by_tests false true c = refl
  by_tests false false true = measured_with token.place.from more (percentage_of (words text (token ∷ [])))
  by_tests false false false = refl

offset_with : (text : List ℕ) (end : ℕ) (given : List ℕ) (token : CssToken) (more : List CssToken) → offset_at text end given (token ∷ more) ≡ with_rest more (kept_offset text given token)
unfolding offset_at kept_offset
offset_with text end given token more = ap (λ r. after r (new_offset given token.place.from)) (said_with text end token more) ∙ by_said (kept_said text token) where
  by_said : (said : Result ℕ SheetFault)
      → after (with_rest more said) (new_offset given token.place.from) ≡ with_rest more (after said (λ offset. cond (is_given given offset) (Err (BadKeyframes token.place.from)) (Ok offset)))
  by_said (Err fault) = refl
  by_said (Ok offset) = sym (rest_if more (is_given given offset) (Err (BadKeyframes token.place.from)) (Ok offset))

measured_placed : (token : CssToken) (read : Result ℤ ValueFault) → IsPlaced token (kept_measured token.place.from read)
unfolding kept_measured kept_within
measured_placed token (Ok (pos n)) = placed_if token (nat_le n 10000) (Ok n) (Err (BadKeyframes token.place.from)) tt tt
measured_placed token (Ok (negsuc n)) = tt
measured_placed token (Err fault) = tt

said_placed : (text : List ℕ) (token : CssToken) → IsPlaced token (kept_said text token)
unfolding kept_said
said_placed text token =
    placed_if token (is_word (codes "from") text token) (Ok 0) _ tt (placed_if token (is_word (codes "to") text token) (Ok 10000) _ tt
    (placed_if token (is_percentage text token) (kept_measured token.place.from (percentage_of (words text (token ∷ [])))) (Err (BadSheet token.place.from))
    (measured_placed token (percentage_of (words text (token ∷ [])))) refl))

offset_placed : (text given : List ℕ) (token : CssToken) → IsPlaced token (kept_offset text given token)
unfolding kept_offset
offset_placed text given token = by_said (kept_said text token) (said_placed text token) where
  by_said : (said : Result ℕ SheetFault) → IsPlaced token said → IsPlaced token (after said (λ offset. cond (is_given given offset) (Err (BadKeyframes token.place.from)) (Ok offset)))
  by_said (Ok offset) placed = placed_if token (is_given given offset) (Err (BadKeyframes token.place.from)) (Ok offset) tt tt
  by_said (Err (BadSheet place)) placed = placed
  by_said (Err (UnknownProperty place)) placed = tt
  by_said (Err (BadValue place)) placed = tt
  by_said (Err (BadKeyframes place)) placed = tt
  by_said (Err (OverLimit place)) placed = tt
  by_said (Err NoMemory) placed = tt

offset_ends : (text : List ℕ) (end : ℕ) (given : List ℕ) → offset_at text end given [] ≡ Err (BadSheet end)
unfolding offset_at said_at
offset_ends text end given = refl

pub offset_looks : (text : List ℕ) (end : ℕ) (given : List ℕ) → LooksAhead end (Exactly (offset_at text end given))
offset_looks text end given = told_looks end (offset_at text end given) (kept_offset text given) (offset_ends text end given) (offset_with text end given) (offset_placed text given)

pub offsets_look : (text : List ℕ) (end : ℕ) (given : List ℕ) → LooksAhead end (Offsets text end given)
offsets_look text end given = listed_looks end (λ before. Exactly (offset_at text end (given ++ before))) (λ before. offset_looks text end (given ++ before))
