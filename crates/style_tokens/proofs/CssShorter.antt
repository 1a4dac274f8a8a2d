-- Each gap and each token takes a byte or more.
use Rattle.std.proofs.Common.{ℕ, ◌<◌, List, length, arith, length-append}
use Rattle.style_tokens.specs.declared.token.CssKind.{CssKind}
use Rattle.style_tokens.specs.CssGrammar.{Gap, white, comment, Spells, ident, function, at_word, hash, number, colon, semicolon, comma, left_brace, right_brace, right_paren, bang, dot, IsDecimal, whole, pointed, fraction, digits}
use Rattle.style_tokens.specs.CssTokens.{IsFront}
use Rattle.style_tokens.proofs.CssReaches.{taken_shorter, ident_some}

pub gap_shorter : (bytes rest : List ℕ) → Gap bytes rest → length rest < length bytes
gap_shorter bytes rest (white b _ is) = omega arith
gap_shorter bytes rest (comment inner _ is) = omega (arith, length-append {A = ℕ})

decimal_some : (word : List ℕ) → IsDecimal word → 0 < length word
decimal_some word (whole _ (digits b more f m)) = omega arith
decimal_some word (pointed front behind is are) = omega (arith, length-append {A = ℕ})
decimal_some word (fraction behind are) = omega arith

word_some : (kind : CssKind) (word : List ℕ) → Spells kind word → 0 < length word
word_some kind word (ident _ is) = ident_some word is
word_some kind word (function text is) = omega (arith, length-append {A = ℕ})
word_some kind word (at_word text is) = omega arith
word_some kind word (hash b more f m) = omega arith
word_some kind word (number sign decimal unit is_sign is_decimal is_unit) =
    omega (arith, length-append {A = ℕ}, decimal_some decimal is_decimal)
word_some kind word colon = omega arith
word_some kind word semicolon = omega arith
word_some kind word comma = omega arith
word_some kind word left_brace = omega arith
word_some kind word right_brace = omega arith
word_some kind word right_paren = omega arith
word_some kind word bang = omega arith
word_some kind word dot = omega arith

pub front_shorter : (kind : CssKind) (bytes rest : List ℕ) → IsFront kind bytes rest → length rest < length bytes
front_shorter kind bytes rest front = taken_shorter bytes front.word rest front.split (word_some kind front.word front.spelled)
