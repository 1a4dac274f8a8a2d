-- What is spelled so is read: with a word of the grammar at the front a reader gets at least as far as behind it.
use Rattle.std.proofs.Common.{ℕ, ◌≡◌, ◌<◌, ◌∙◌, ◌⊎◌, true, false, ◌==◌, ◌&&◌, List, [], ◌∷◌, ◌++◌, length, Option, Some, None, unwrap_or, refl, ap, sym, inl, inr, subst, append_assoc, arith, length-append}
use Rattle.std.proofs.lemmas.Bool.{cases_Bool}
use Rattle.std.proofs.lemmas.Bool.Decides.{nat_tests}
use Rattle.text_tokens.specs.Classes.{is_white, is_digit, is_name_start, is_name_byte}
use Rattle.style_tokens.specs.declared.token.CssKind.{CssKind}
use Rattle.style_tokens.specs.declared.token.CssKind.TheVariants.{Ident, Function, AtWord, Hash, Number, Colon, Semicolon, Comma, LeftBrace, RightBrace, RightParen, Bang, Dot}
use Rattle.style_tokens.specs.CssGrammar.{IsBare, name, IsIdent, bare, dashed, AreDigits, digits, IsSign, unsigned, plus, minus, IsDecimal, whole, pointed, fraction, IsUnit, none, percent, unit, Spells, ident, function, at_word, hash, number, colon, semicolon, comma, left_brace, right_brace, right_paren, bang, dot, holds_close, Gap, white, comment}
use Rattle.style_tokens.specs.CssReading.{skip, run_at, ident_at, after_fraction, decimal_at, after_unit, after_sign, number_at, named, mark_of, marked_at, token_at, after_close, comment_at, gap_at}
use Rattle.style_tokens.specs.CssTokens.{IsFront}
use Rattle.style_tokens.proofs.CssTakes.{ident_takes, digits_take}
use Rattle.style_tokens.proofs.CssRuns.{neither, Within, within_within, skip_over, skip_within}

-- a name's first byte is neither a digit nor one of the signs and marks
record IsPlain (b : ℕ) : Type 0 where
  pub no_digit : is_digit b ≡ false
  pub no_minus : (b == 45) ≡ false
  pub no_plus : (b == 43) ≡ false
  pub no_point : (b == 46) ≡ false
  pub no_percent : (b == 37) ≡ false

plain_start : (b : ℕ) → is_name_start b ≡ true → IsPlain b
plain_start b is = record {
  no_digit = grind (arith, nat_tests);
  no_minus = grind (arith, nat_tests);
  no_plus = grind (arith, nat_tests);
  no_point = grind (arith, nat_tests);
  no_percent = grind (arith, nat_tests);
}

record IsFigure (b : ℕ) : Type 0 where
  pub no_minus : (b == 45) ≡ false
  pub no_plus : (b == 43) ≡ false
  pub no_point : (b == 46) ≡ false

figure : (b : ℕ) → is_digit b ≡ true → IsFigure b
figure b is = record {
  no_minus = grind (arith, nat_tests);
  no_plus = grind (arith, nat_tests);
  no_point = grind (arith, nat_tests);
}

digits_reach : (word rest : List ℕ) → AreDigits word → run_at is_digit is_digit (word ++ rest) ≡ Some (skip is_digit rest)
unfolding run_at
digits_reach word rest (digits b more is_first are_more) = rw is_first (ap Some (skip_over is_digit more rest are_more))

bare_reaches : (word rest : List ℕ) → IsBare word → run_at is_name_start is_name_byte (word ++ rest) ≡ Some (skip is_name_byte rest)
unfolding run_at
bare_reaches word rest (name b more is_first are_more) = rw is_first (ap Some (skip_over is_name_byte more rest are_more))

pub ident_reaches : (word rest : List ℕ) → IsIdent word → ident_at (word ++ rest) ≡ Some (skip is_name_byte rest)
unfolding ident_at
ident_reaches word rest (bare _ (name b more is_first are_more)) =
    let plain = plain_start b is_first in
    rw plain.no_minus (bare_reaches (b ∷ more) rest (name b more is_first are_more))
ident_reaches word rest (dashed tail is) = bare_reaches tail rest is

-- a word that is taken makes the rest shorter
pub taken_shorter : (bytes word rest : List ℕ) → bytes ≡ word ++ rest → 0 < length word → length rest < length bytes
taken_shorter bytes word rest split some = omega (arith, ap length split, length-append {A = ℕ})

pub ident_some : (word : List ℕ) → IsIdent word → 0 < length word
ident_some word (bare _ (name b more f m)) = omega arith
ident_some word (dashed tail is) = omega arith

digits_some : (word : List ℕ) → AreDigits word → 0 < length word
digits_some word (digits b more f m) = omega arith

unwrap_within : (o : Option (List ℕ)) (bytes : List ℕ) → ((left : List ℕ) → o ≡ Some left → length left < length bytes) → Within (unwrap_or o bytes) bytes
unwrap_within None bytes shorter = inl refl
unwrap_within (Some left) bytes shorter = inr (shorter left refl)

run_shorter : (bytes left : List ℕ) → run_at is_digit is_digit bytes ≡ Some left → length left < length bytes
run_shorter bytes left e = let taken = digits_take bytes left e in taken_shorter bytes taken.word left taken.split (digits_some taken.word taken.is)

fraction_within : (bytes : List ℕ) → Within (after_fraction bytes) bytes
unfolding after_fraction
fraction_within [] = inl refl
fraction_within (b ∷ bytes) =
    elim (cases_Bool (b == 46)) [
      | inl point ↦ rw point (unwrap_within (run_at is_digit is_digit bytes) (b ∷ bytes) (λ left e. let h = run_shorter bytes left e in omega arith))
      | inr no_point ↦ rw no_point (inl refl)
    ]

unit_within : (bytes : List ℕ) → Within (after_unit bytes) bytes
unfolding after_unit
unit_within [] = inl refl
unit_within (b ∷ bytes) =
    elim (cases_Bool (b == 37)) [
      | inl sign ↦ rw sign (inr (omega arith))
      | inr no_sign ↦ rw no_sign (unwrap_within (ident_at (b ∷ bytes)) (b ∷ bytes) (λ left e.
          let taken = ident_takes (b ∷ bytes) left e in
          taken_shorter (b ∷ bytes) taken.word left taken.split (ident_some taken.word taken.is)))
    ]

-- a decimal is read at least to its end
record DecimalRead (bytes rest : List ℕ) : Type 0 where
  pub left : List ℕ
  pub read : decimal_at bytes ≡ Some left
  pub way : (left ≡ after_fraction (skip is_digit rest)) ⊎ (left ≡ skip is_digit rest)

whole_reads : (front rest : List ℕ) → AreDigits front → decimal_at (front ++ rest) ≡ Some (after_fraction (skip is_digit rest))
unfolding decimal_at
whole_reads front rest (digits b more is_first are_more) =
    rw ((figure b is_first).no_point, digits_reach (b ∷ more) rest (digits b more is_first are_more)) refl

decimal_reaches : (word rest : List ℕ) → IsDecimal word → DecimalRead (word ++ rest) rest
unfolding decimal_at after_fraction
decimal_reaches word rest (whole _ is) = record { left = after_fraction (skip is_digit rest); read = whole_reads word rest is; way = inl refl }
decimal_reaches word rest (pointed front behind is are) = record {
  left = skip is_digit rest;
  read =
      ap decimal_at (append_assoc front (46 ∷ behind) rest) ∙ whole_reads front (46 ∷ (behind ++ rest)) is
      ∙ ap (λ o. Some (unwrap_or o (46 ∷ (behind ++ rest)))) (digits_reach behind rest are);
  way = inr refl;
}
decimal_reaches word rest (fraction behind are) = record { left = skip is_digit rest; read = digits_reach behind rest are; way = inr refl }

-- a sign is passed, and a decimal has none
sign_over : (sign word rest : List ℕ) → IsSign sign → IsDecimal word → after_sign (sign ++ (word ++ rest)) ≡ word ++ rest
unfolding after_sign
sign_over sign word rest unsigned (whole _ (digits b more f m)) = let fig = figure b f in rw (fig.no_plus, fig.no_minus) refl
sign_over sign word rest unsigned (pointed _ behind (digits b more f m) are) = let fig = figure b f in rw (fig.no_plus, fig.no_minus) refl
sign_over sign word rest unsigned (fraction behind are) = refl
sign_over sign word rest plus is = refl
sign_over sign word rest minus is = refl

-- no decimal goes on with an identifier
ident_stays : (word rest : List ℕ) → IsIdent word → (skip is_digit (word ++ rest) ≡ word ++ rest) × (after_fraction (word ++ rest) ≡ word ++ rest)
unfolding after_fraction
ident_stays word rest (bare _ (name b more f m)) = let plain = plain_start b f in (rw plain.no_digit refl, rw plain.no_point refl)
ident_stays word rest (dashed tail is) = (refl, refl)

unit_reaches : (word rest : List ℕ) → IsIdent word → after_unit (word ++ rest) ≡ skip is_name_byte rest
unfolding after_unit
unit_reaches word rest (bare _ (name b more f m)) =
    rw ((plain_start b f).no_percent, ident_reaches (b ∷ more) rest (bare (b ∷ more) (name b more f m))) refl
unit_reaches word rest (dashed tail is) = rw (ident_reaches (45 ∷ tail) rest (dashed tail is)) refl

-- behind the decimal the unit is read at least to its end
unit_far : (word rest left : List ℕ) → IsUnit word → (left ≡ after_fraction (skip is_digit (word ++ rest))) ⊎ (left ≡ skip is_digit (word ++ rest))
    → Within (after_unit left) rest
unfolding after_unit after_fraction
unit_far word rest left none (inl e) =
    rw e (within_within _ _ rest (unit_within _) (within_within _ _ rest (fraction_within (skip is_digit rest)) (skip_within is_digit rest)))
unit_far word rest left none (inr e) = rw e (within_within _ _ rest (unit_within _) (skip_within is_digit rest))
unit_far word rest left percent (inl e) = rw e (inl refl)
unit_far word rest left percent (inr e) = rw e (inl refl)
unit_far word rest left (unit _ is) (inl e) =
    let stays = ident_stays word rest is in
    rw (e ∙ ap after_fraction stays.0 ∙ stays.1, unit_reaches word rest is) (skip_within is_name_byte rest)
unit_far word rest left (unit _ is) (inr e) =
    let stays = ident_stays word rest is in
    rw (e ∙ stays.0, unit_reaches word rest is) (skip_within is_name_byte rest)

-- the token that is read is the one of this kind with this rest, or it leaves less
pub record Reaches (kind : CssKind) (bytes rest : List ℕ) : Type 0 where
  pub found : CssKind × List ℕ
  pub read : token_at bytes ≡ Some found
  pub far : (length found.1 < length rest) ⊎ ((kind ≡ found.0) × (rest ≡ found.1))

far_from : (kind : CssKind) (left rest : List ℕ) → Within left rest → (length left < length rest) ⊎ ((kind ≡ kind) × (rest ≡ left))
far_from kind left rest (inl same) = inr (refl, sym same)
far_from kind left rest (inr less) = inl less

number_reaches : (sign decimal word rest : List ℕ) → IsSign sign → IsDecimal decimal → IsUnit word → Reaches Number (sign ++ (decimal ++ (word ++ rest))) rest
unfolding token_at number_at
number_reaches sign decimal word rest is_sign is_decimal is_unit =
    let over = sign_over sign decimal (word ++ rest) is_sign is_decimal in
    let read = decimal_reaches decimal (word ++ rest) is_decimal in
    record {
      found = (Number, after_unit read.left);
      read = rw (over, read.read) refl;
      far = far_from Number (after_unit read.left) rest (unit_far word rest read.left is_unit read.way);
    }

no_number : (word rest : List ℕ) → IsIdent word → number_at (word ++ rest) ≡ None
unfolding number_at after_sign decimal_at run_at
no_number word rest (bare _ (name b more f m)) = let plain = plain_start b f in rw (plain.no_plus, plain.no_minus, plain.no_point, plain.no_digit) refl
no_number word rest (dashed _ (name b more f m)) = let plain = plain_start b f in rw (plain.no_point, plain.no_digit) refl

named_far : (left rest : List ℕ) → Within left rest → (length (named left).1 < length rest) ⊎ ((Ident ≡ (named left).0) × (rest ≡ (named left).1))
unfolding named
named_far [] rest within = far_from Ident [] rest within
named_far (b ∷ left) rest within =
    elim (cases_Bool (b == 40)) [
      | inl opens ↦ rw opens (inl (shorter_rest within))
      | inr other ↦ rw other (far_from Ident (b ∷ left) rest within)
    ] where
      shorter_rest : Within (b ∷ left) rest → length left < length rest
      shorter_rest (inl same) = let e = ap length same in omega arith
      shorter_rest (inr less) = omega arith

dot_reaches : (rest : List ℕ) (o : Option (List ℕ)) → run_at is_digit is_digit rest ≡ o → Reaches Dot (46 ∷ rest) rest
unfolding token_at number_at after_sign decimal_at ident_at run_at marked_at mark_of
dot_reaches rest None e = record { found = (Dot, rest); read = rw e refl; far = inr (refl, refl) }
dot_reaches rest (Some left) e = record {
  found = (Number, after_unit left);
  read = rw e refl;
  far = inl (less (unit_within left));
} where
  less : Within (after_unit left) left → length (after_unit left) < length rest
  less (inl same) = let h = run_shorter rest left e in rw same h
  less (inr shorter) = let h = run_shorter rest left e in omega arith

word_reaches : (kind : CssKind) (word rest : List ℕ) → Spells kind word → Reaches kind (word ++ rest) rest
unfolding token_at number_at after_sign decimal_at ident_at run_at marked_at mark_of named
word_reaches kind word rest (ident _ is) = record {
  found = named (skip is_name_byte rest);
  read = rw (no_number word rest is, ident_reaches word rest is) refl;
  far = named_far (skip is_name_byte rest) rest (skip_within is_name_byte rest);
}
word_reaches kind word rest (function text is) = record {
  found = (Function, rest);
  read = rw (append_assoc text (40 ∷ []) rest, no_number text (40 ∷ rest) is, ident_reaches text (40 ∷ rest) is) refl;
  far = inr (refl, refl);
}
word_reaches kind word rest (at_word text is) = record {
  found = (AtWord, skip is_name_byte rest);
  read = rw (ident_reaches text rest is) refl;
  far = far_from AtWord (skip is_name_byte rest) rest (skip_within is_name_byte rest);
}
word_reaches kind word rest (hash b more is_first are_more) = record {
  found = (Hash, skip is_name_byte rest);
  read = rw (is_first, skip_over is_name_byte more rest are_more) refl;
  far = far_from Hash (skip is_name_byte rest) rest (skip_within is_name_byte rest);
}
word_reaches kind word rest (number sign decimal suffix is_sign is_decimal is_unit) =
    let together = append_assoc sign (decimal ++ suffix) rest ∙ ap (λ t. sign ++ t) (append_assoc decimal suffix rest) in
    let P : List ℕ → Type 0 = λ t. Reaches Number t rest in
    subst P (sym together) (number_reaches sign decimal suffix rest is_sign is_decimal is_unit)
word_reaches kind word rest colon = record { found = (Colon, rest); read = refl; far = inr (refl, refl) }
word_reaches kind word rest semicolon = record { found = (Semicolon, rest); read = refl; far = inr (refl, refl) }
word_reaches kind word rest comma = record { found = (Comma, rest); read = refl; far = inr (refl, refl) }
word_reaches kind word rest left_brace = record { found = (LeftBrace, rest); read = refl; far = inr (refl, refl) }
word_reaches kind word rest right_brace = record { found = (RightBrace, rest); read = refl; far = inr (refl, refl) }
word_reaches kind word rest right_paren = record { found = (RightParen, rest); read = refl; far = inr (refl, refl) }
word_reaches kind word rest bang = record { found = (Bang, rest); read = refl; far = inr (refl, refl) }
word_reaches kind word rest dot = dot_reaches rest (run_at is_digit is_digit rest) refl

-- a token at the front is the one that is read, or that one leaves less
pub token_reaches : (kind : CssKind) (bytes rest : List ℕ) → IsFront kind bytes rest → Reaches kind bytes rest
token_reaches kind bytes rest front =
    let P : List ℕ → Type 0 = λ t. Reaches kind t rest in
    subst P (sym front.split) (word_reaches kind front.word rest front.spelled)

close_reaches : (inner rest : List ℕ) → holds_close inner ≡ false → after_close (inner ++ 42 ∷ 47 ∷ rest) ≡ Some rest
unfolding after_close
close_reaches [] rest is_open = refl
close_reaches (a ∷ []) rest is_open = elim (cases_Bool (a == 42)) [ inl star ↦ rw star refl | inr no_star ↦ rw no_star refl ]
close_reaches (a ∷ (b ∷ inner)) rest is_open =
    let parts = neither (a == 42 && b == 47) (holds_close (b ∷ inner)) is_open in
    rw parts.0 (close_reaches (b ∷ inner) rest parts.1)

-- a gap at the front is the one that is read
pub gap_reaches : (bytes rest : List ℕ) → Gap bytes rest → gap_at bytes ≡ Some rest
unfolding gap_at comment_at
gap_reaches bytes rest (white b _ is) = rw is refl
gap_reaches bytes rest (comment inner _ is_open) = close_reaches inner rest is_open

white_is : (b : ℕ) → is_white b ≡ true → (b ≡ 32) ⊎ ((b ≡ 9) ⊎ ((b ≡ 10) ⊎ ((b ≡ 12) ⊎ (b ≡ 13))))
white_is b is = grind (arith, nat_tests)

-- no token begins as a gap does
pub gap_no_token : (bytes rest : List ℕ) → Gap bytes rest → token_at bytes ≡ None
unfolding token_at number_at after_sign decimal_at ident_at run_at marked_at mark_of
gap_no_token bytes rest (white b _ is) =
    elim (white_is b is) [
      | inl e ↦ rw e refl
      | inr (inl e) ↦ rw e refl
      | inr (inr (inl e)) ↦ rw e refl
      | inr (inr (inr (inl e))) ↦ rw e refl
      | inr (inr (inr (inr e))) ↦ rw e refl
    ]
gap_no_token bytes rest (comment inner _ is_open) = refl
