-- Words at the front of others.
use Rattle.std.proofs.Common.{ℕ, ◌≡◌, ◌∙◌, Bool, true, cond, List, [], ◌∷◌, Option, Some, None, option_and_then, refl, ap, subst, inl, inr}
use Rattle.std.proofs.lemmas.Bool.{cases_Bool}
use Rattle.style_tokens.specs.declared.token.CssKind.{CssKind}
use Rattle.style_tokens.specs.declared.token.CssKind.TheVariants.{Ident, Function, Number, Comma, RightParen}
use Rattle.css_words.specs.Words.{function_at, ended, Word, front_of, behind, when_ident, when_number, when_function, is_comma, is_close}
use Rattle.css_words.specs.Numerals.{whole_at, number_of, number_at, whole_of}
use Rattle.css_words.specs.Keywords.{is_keyword}
use Rattle.css_word_laws.specs.SpelledNumbers.{word}
use Rattle.css_word_laws.specs.SpelledWords.{IsWhole}
use Rattle.css_word_laws.proofs.KeywordLemmas.{then_to}
use Rattle.css_word_laws.proofs.WordLemmas.{whole_to, whole_from}

-- a word of a kind at the front
pub record Front (kind : CssKind) (words : List Word) (bytes : List ℕ) (rest : List Word) : Type 0 where
  pub split : words ≡ word kind bytes ∷ rest

front_to : (when : CssKind → List ℕ → Option (List ℕ)) (kind : CssKind) → ((k : CssKind) (b bytes : List ℕ) → when k b ≡ Some bytes → word k b ≡ word kind bytes)
    → (words : List Word) (f : List ℕ × List Word) → front_of when words ≡ Some f → words ≡ word kind f.0 ∷ f.1
unfolding front_of
front_to when kind is [] f e = absurd (cc)
front_to when kind is (w ∷ rest) f e =
    let both = then_to (λ bytes. Some (bytes, rest)) (when w.kind w.bytes) f e in
    let same : (both.x, rest) ≡ f = some_same both.second in
    let first = is w.kind w.bytes both.x both.first in
    subst (λ (g : List ℕ × List Word). w ∷ rest ≡ word kind g.0 ∷ g.1) same (ap (λ t. t ∷ rest) first) where
      some_same : {A : Type 0} {x y : A} → Some x ≡ Some y → x ≡ y
      some_same e = cc

number_is : (k : CssKind) (b bytes : List ℕ) → when_number k b ≡ Some bytes → word k b ≡ word Number bytes
number_is Number b bytes e = let same : b ≡ bytes = cc in ap (λ t. word Number t) same
number_is k b bytes e = absurd (cc)

ident_is : (k : CssKind) (b bytes : List ℕ) → when_ident k b ≡ Some bytes → word k b ≡ word Ident bytes
ident_is Ident b bytes e = let same : b ≡ bytes = cc in ap (λ t. word Ident t) same
ident_is k b bytes e = absurd (cc)

function_is : (k : CssKind) (b bytes : List ℕ) → when_function k b ≡ Some bytes → word k b ≡ word Function bytes
function_is Function b bytes e = let same : b ≡ bytes = cc in ap (λ t. word Function t) same
function_is k b bytes e = absurd (cc)

pub number_front : (words : List Word) (f : List ℕ × List Word) → front_of when_number words ≡ Some f → words ≡ word Number f.0 ∷ f.1
number_front = front_to when_number Number number_is

pub ident_front : (words : List Word) (f : List ℕ × List Word) → front_of when_ident words ≡ Some f → words ≡ word Ident f.0 ∷ f.1
ident_front = front_to when_ident Ident ident_is

pub number_stands : (bytes : List ℕ) (rest : List Word) → front_of when_number (word Number bytes ∷ rest) ≡ Some (bytes, rest)
unfolding front_of
number_stands bytes rest = refl

pub ident_stands : (bytes : List ℕ) (rest : List Word) → front_of when_ident (word Ident bytes ∷ rest) ≡ Some (bytes, rest)
unfolding front_of
ident_stands bytes rest = refl

-- a mark at the front
pub record Mark (kind : CssKind) (words rest : List Word) : Type 0 where
  pub bytes : List ℕ
  pub split : words ≡ word kind bytes ∷ rest

mark_to : (is : CssKind → Bool) (kind : CssKind) → ((k : CssKind) (b : List ℕ) → is k ≡ true → word k b ≡ word kind b) → (words rest : List Word)
    → behind is words ≡ Some rest → Mark kind words rest
unfolding behind
mark_to is kind same [] rest e = absurd (cc)
mark_to is kind same (w ∷ more) rest e = elim (cases_Bool (is w.kind)) [
  | inl yes_it ↦ let f : Some more ≡ Some rest = rw yes_it at e in
      let tail : more ≡ rest = cc in
      record { bytes = w.bytes; split = ap (λ t. t ∷ more) (same w.kind w.bytes yes_it) ∙ ap (λ t. word kind w.bytes ∷ t) tail }
  | inr other ↦ absurd (let f : None ≡ Some rest = rw other at e in cc)
]

comma_is : (k : CssKind) (b : List ℕ) → is_comma k ≡ true → word k b ≡ word Comma b
comma_is Comma b e = refl
comma_is k b e = absurd (cc)

close_is : (k : CssKind) (b : List ℕ) → is_close k ≡ true → word k b ≡ word RightParen b
close_is RightParen b e = refl
close_is k b e = absurd (cc)

pub comma_front : (words rest : List Word) → behind is_comma words ≡ Some rest → Mark Comma words rest
comma_front = mark_to is_comma Comma comma_is

pub close_front : (words rest : List Word) → behind is_close words ≡ Some rest → Mark RightParen words rest
close_front = mark_to is_close RightParen close_is

pub comma_stands : (bytes : List ℕ) (rest : List Word) → behind is_comma (word Comma bytes ∷ rest) ≡ Some rest
unfolding behind
comma_stands bytes rest = refl

pub close_stands : (bytes : List ℕ) (rest : List Word) → behind is_close (word RightParen bytes ∷ rest) ≡ Some rest
unfolding behind
close_stands bytes rest = refl

-- a function of a name at the front
pub record Called (name : List ℕ) (words rest : List Word) : Type 0 where
  pub bytes : List ℕ
  pub split : words ≡ word Function bytes ∷ rest
  pub is : is_keyword name bytes ≡ true

pub called : (name : List ℕ) (words rest : List Word) → function_at name words ≡ Some rest → Called name words rest
unfolding function_at
called name words rest e =
    let both = then_to (λ f. cond (is_keyword name f.0) (Some f.1) None) (front_of when_function words) rest e in
    let split = front_to when_function Function function_is words both.x both.first in
    elim (cases_Bool (is_keyword name both.x.0)) [
      | inl is ↦ let f : Some both.x.1 ≡ Some rest = rw is at both.second in
          let tail : both.x.1 ≡ rest = cc in
          record { bytes = both.x.0; split = split ∙ ap (λ t. word Function both.x.0 ∷ t) tail; is = is }
      | inr other ↦ absurd (let f : None ≡ Some rest = rw other at both.second in cc)
    ]

pub call_stands : (name bytes : List ℕ) (rest : List Word) → is_keyword name bytes ≡ true → function_at name (word Function bytes ∷ rest) ≡ Some rest
unfolding function_at front_of
call_stands name bytes rest is = rw is refl

-- a whole number at the front
pub record WholeFront (words : List Word) (n : ℕ) (rest : List Word) : Type 0 where
  pub bytes : List ℕ
  pub split : words ≡ word Number bytes ∷ rest
  pub is : IsWhole bytes n

some_same : {A : Type 0} {x y : A} → Some x ≡ Some y → x ≡ y
some_same e = cc

-- what stands at the front, and what it is taken for
pub record FrontThen {A B : Type 0} (g : A → Option B) (o : Option (A × List Word)) (y : B × List Word) : Type 0 where
  pub x : A
  pub first : o ≡ Some (x, y.1)
  pub second : g x ≡ Some y.0

pub front_then : {A B : Type 0} (g : A → Option B) (o : Option (A × List Word)) (y : B × List Word)
    → option_and_then (λ f. option_and_then (λ n. Some (n, f.1)) (g f.0)) o ≡ Some y → FrontThen g o y
front_then g None y e = absurd (cc)
front_then {A} {B} g (Some p) y e = by (g p.0) refl e where
  by : (r : Option B) → g p.0 ≡ r → option_and_then (λ n. Some (n, p.1)) r ≡ Some y → FrontThen g (Some p) y
  by None is e = absurd (cc)
  by (Some n) is e =
      let same : (n, p.1) ≡ y = some_same e in
      record { x = p.0; first = ap (λ (q : B × List Word). Some (p.0, q.1)) same; second = is ∙ ap (λ (q : B × List Word). Some q.0) same }

-- the same with a comma behind it
pub record CommaThen {A : Type 0} (o : Option (A × List Word)) (y : A × List Word) : Type 0 where
  pub middle : List Word
  pub first : o ≡ Some (y.0, middle)
  pub comma : Mark Comma middle y.1

pub comma_then : {A : Type 0} (o : Option (A × List Word)) (y : A × List Word)
    → option_and_then (λ f. option_and_then (λ rest. Some (f.0, rest)) (behind is_comma f.1)) o ≡ Some y → CommaThen o y
comma_then None y e = absurd (cc)
comma_then {A} (Some p) y e = by (behind is_comma p.1) refl e where
  by : (r : Option (List Word)) → behind is_comma p.1 ≡ r → option_and_then (λ rest. Some (p.0, rest)) r ≡ Some y → CommaThen (Some p) y
  by None is e = absurd (cc)
  by (Some rest) is e =
      let same : (p.0, rest) ≡ y = some_same e in
      record {
        middle = p.1;
        first = ap (λ (q : A × List Word). Some (q.0, p.1)) same;
        comma = comma_front p.1 y.1 (is ∙ ap (λ (q : A × List Word). Some q.1) same);
      }

pub whole_front : (words : List Word) (f : ℕ × List Word) → whole_at words ≡ Some f → WholeFront words f.0 f.1
unfolding whole_at number_at
whole_front words f e =
    let outer = front_then whole_of (number_at words) f e in
    let inner = front_then number_of (front_of when_number words) (outer.x, f.1) outer.first in
    record {
      bytes = inner.x;
      split = number_front words (inner.x, f.1) inner.first;
      is = whole_to inner.x f.0 (rw inner.second outer.second);
    }

pub whole_stands : (bytes : List ℕ) (n : ℕ) (rest : List Word) → IsWhole bytes n → whole_at (word Number bytes ∷ rest) ≡ Some (n, rest)
unfolding whole_at number_at
whole_stands bytes n rest is =
    let both = then_to whole_of (number_of bytes) n (whole_from bytes n is) in
    rw (number_stands bytes rest, both.first, both.second) refl

pub end_is : {A : Type 0} (value found : A) (words : List Word) → ended value words ≡ Some found → (words ≡ []) × (value ≡ found)
end_is value found [] e = (refl, cc)
end_is value found (w ∷ words) e = absurd (cc)
