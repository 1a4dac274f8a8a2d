-- Numbers without unit that are held to 0 and 1.
use Rattle.std.proofs.Common.{ℕ, ◌≡◌, ◌==◌, true, cond, List, [], ◌∷◌, length, min, Option, Some, None, option_and_then, refl, ap, sym, subst, inl, inr, arith}
use Rattle.std.proofs.lemmas.Bool.{cases_Bool, eqb-true}
use Rattle.style_tokens.specs.declared.token.CssKind.TheVariants.{Number}
use Rattle.css_words.specs.Words.{Word, front_of, when_number}
use Rattle.css_words.specs.Numerals.{Numeral, number_of, number_at, share_of, share_at, amount}
use Rattle.css_word_laws.specs.SpelledNumbers.{Sign, IsNumber, IsHeld, IsShare, word}
use Rattle.css_word_laws.specs.SpelledNumbers.Sign.{bare, plus, minus}
use Rattle.css_word_laws.proofs.FrontLemmas.{front_then, number_front, number_stands}
use Rattle.css_word_laws.proofs.KeywordLemmas.{then_to}
use Rattle.css_word_laws.proofs.NumberLemmas.{is_minus, made, sign_of, number_from, number_to}
use Rattle.css_word_laws.proofs.SizeLemmas.{size_to, size_from}

pub held_is : (n : Numeral) (size : ℕ) → IsHeld (sign_of n) size (cond n.negative 0 (min size 1000))
held_is n size = elim (cases_Bool n.negative) [
  | inl is ↦ rw is refl
  | inr other ↦ elim (cases_Bool n.signed) [ inl is ↦ rw (other, is) refl | inr none ↦ rw (other, none) refl ]
]

pub held_back : (sign : Sign) (size v : ℕ) → IsHeld sign size v → cond (is_minus sign) 0 (min size 1000) ≡ v
held_back bare size v is = sym is
held_back plus size v is = sym is
held_back minus size v is = sym is

-- what a number is that is held so
pub record Parts (n : Numeral) (k : ℕ) : Type 0 where
  pub size : ℕ
  pub no_unit : n.unit ≡ []
  pub amount_is : amount 3 n ≡ Some size
  pub held : IsHeld (sign_of n) size k

none_is : {A : Type 0} (xs : List A) → (length xs == 0) ≡ true → xs ≡ []
none_is [] few = refl
none_is (x ∷ xs) few = absurd (let e = eqb-true (length (x ∷ xs)) 0 few in omega arith)

pub share_parts : (n : Numeral) (k : ℕ) → share_of n ≡ Some k → Parts n k
unfolding share_of
share_parts n k e = elim (cases_Bool (length n.unit == 0)) [
  | inl none ↦ by (none_is n.unit none) (amount 3 n) refl (rw none at e)
  | inr has ↦ absurd (let f : None ≡ Some k = rw has at e in cc)
] where
  by : n.unit ≡ [] → (o : Option ℕ) → amount 3 n ≡ o → option_and_then (λ size. Some (cond n.negative 0 (min size 1000))) o ≡ Some k → Parts n k
  by none None is f = absurd (cc)
  by none (Some size) is f =
      let same : cond n.negative 0 (min size 1000) ≡ k = cc in
      record { size = size; no_unit = none; amount_is = is; held = subst (IsHeld (sign_of n) size) same (held_is n size) }

pub share_to : (bytes : List ℕ) (k : ℕ) → option_and_then share_of (number_of bytes) ≡ Some k → IsShare bytes k
share_to bytes k e =
    let both = then_to share_of (number_of bytes) k e in
    let parts = share_parts both.x k both.second in
    let number = number_to bytes both.x both.first in
    record {
      sign = sign_of both.x;
      whole = both.x.whole;
      fraction = both.x.fraction;
      size = parts.size;
      number = subst (λ u. IsNumber (sign_of both.x) both.x.whole both.x.fraction u bytes) parts.no_unit number;
      is_size = size_to 3 both.x parts.size number.whole_digits number.fraction_digits parts.amount_is;
      held = parts.held;
    }

pub share_from : (bytes : List ℕ) (k : ℕ) → IsShare bytes k → option_and_then share_of (number_of bytes) ≡ Some k
unfolding share_of
share_from bytes k is =
    let read = number_from is.sign is.whole is.fraction [] bytes is.number refl in
    let size = size_from 3 (made is.sign is.whole is.fraction []) is.size is.number.whole_digits is.number.fraction_digits is.is_size in
    rw (read, size) (ap (λ t. Some t) (held_back is.sign is.size k is.held))

-- such a number at the front
pub record ShareFront (words : List Word) (n : ℕ) (rest : List Word) : Type 0 where
  pub bytes : List ℕ
  pub split : words ≡ word Number bytes ∷ rest
  pub is : IsShare bytes n

pub share_front : (words : List Word) (f : ℕ × List Word) → share_at words ≡ Some f → ShareFront words f.0 f.1
unfolding share_at number_at
share_front words f e =
    let outer = front_then share_of (number_at words) f e in
    let inner = front_then number_of (front_of when_number words) (outer.x, f.1) outer.first in
    record {
      bytes = inner.x;
      split = number_front words (inner.x, f.1) inner.first;
      is = share_to inner.x f.0 (rw inner.second outer.second);
    }

pub share_stands : (bytes : List ℕ) (n : ℕ) (rest : List Word) → IsShare bytes n → share_at (word Number bytes ∷ rest) ≡ Some (n, rest)
unfolding share_at number_at
share_stands bytes n rest is =
    let both = then_to share_of (number_of bytes) n (share_from bytes n is) in
    rw (number_stands bytes rest, both.first, both.second) refl
