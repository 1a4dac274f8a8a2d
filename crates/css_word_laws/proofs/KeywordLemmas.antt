-- Keywords in any case, and lone words.
use Rattle.std.proofs.Common.{ℕ, ◌≡◌, ◌∙◌, ◌==◌, ◌&&◌, not, Bool, true, false, List, [], ◌∷◌, length, Option, Some, None, option_and_then, refl, ap, sym, subst, inl, inr, arith, map, nat_lt}
use Rattle.std.proofs.lemmas.Bool.{cases_Bool, eqb-true}
use Rattle.std.proofs.lemmas.Bool.Decides.{nat_tests}
use Rattle.std.proofs.lemmas.Slice.Eq.{bytes_eq-Decides}
use Rattle.std.specs.Char.{to_ascii_lowercase}
use Rattle.text_tokens.specs.Classes.{is_digit}
use Rattle.style_tokens.specs.declared.token.CssKind.{CssKind}
use Rattle.style_tokens.specs.declared.token.CssKind.TheVariants.{Ident, Hash, Number, Comma}
use Rattle.css_words.specs.Keywords.{is_keyword}
use Rattle.css_words.specs.Words.{Word, lone, is_lone, when_ident, when_hash, when_number}
use Rattle.css_word_laws.specs.SpelledNumbers.{word}
use Rattle.css_word_laws.specs.SpelledWords.{IsWord}
use Rattle.css_word_laws.proofs.NumberLemmas.{is_clear}

-- the same letters, in lower case
pub lower_is : (keyword bytes : List ℕ) → is_keyword keyword bytes ≡ true → map to_ascii_lowercase bytes ≡ map to_ascii_lowercase keyword
unfolding is_keyword
lower_is keyword bytes is = (bytes_eq-Decides (map to_ascii_lowercase bytes) (map to_ascii_lowercase keyword)).0 is

-- two keywords that are the same bytes are one
pub one_keyword : (a b bytes : List ℕ) → is_keyword a bytes ≡ true → is_keyword b bytes ≡ true → is_keyword a b ≡ true
unfolding is_keyword
one_keyword a b bytes p q =
    (bytes_eq-Decides (map to_ascii_lowercase b) (map to_ascii_lowercase a)).1 (sym (lower_is b bytes q) ∙ lower_is a bytes p)

pub empty_from : (bytes : List ℕ) → is_keyword [] bytes ≡ true → (length bytes == 0) ≡ true
unfolding is_keyword
empty_from [] is = refl
empty_from (b ∷ rest) is = absurd (cc)

pub empty_to : (bytes : List ℕ) → (length bytes == 0) ≡ true → is_keyword [] bytes ≡ true
unfolding is_keyword
empty_to [] is = refl
empty_to (b ∷ rest) is = absurd (let e = eqb-true (length (b ∷ rest)) 0 is in omega arith)

-- a unit stands behind a number without a digit or a point between
abbrev clear_byte : ℕ → Bool
clear_byte b = not (is_digit b) && not (b == 46)

lower_clear : (b k : ℕ) → to_ascii_lowercase b ≡ k → clear_byte k ≡ true → clear_byte b ≡ true
lower_clear b k e clear =
    elim (cases_Bool (nat_lt b 65)) [
      | inl low ↦ let same : b ≡ k = rw low at e in subst (λ t. clear_byte t ≡ true) (sym same) clear
      | inr high ↦ grind (arith, nat_tests)
    ]

pub unit_clear : (k : ℕ) (more bytes : List ℕ) → clear_byte (to_ascii_lowercase k) ≡ true → is_keyword (k ∷ more) bytes ≡ true → is_clear bytes ≡ true
unit_clear k more [] clear is = refl
unit_clear k more (b ∷ rest) clear is =
    lower_clear b (to_ascii_lowercase k) (first (lower_is (k ∷ more) (b ∷ rest) is)) clear where
      first : {xs ys : List ℕ} {x y : ℕ} → x ∷ xs ≡ y ∷ ys → x ≡ y
      first e = cc

pub none_clear : (bytes : List ℕ) → is_keyword [] bytes ≡ true → is_clear bytes ≡ true
unfolding is_keyword
none_clear [] is = refl
none_clear (b ∷ rest) is = absurd (cc)

-- what a chain of options gives
pub record Both {A B : Type 0} (f : A → Option B) (o : Option A) (y : B) : Type 0 where
  pub x : A
  pub first : o ≡ Some x
  pub second : f x ≡ Some y

pub then_to : {A B : Type 0} (f : A → Option B) (o : Option A) (y : B) → option_and_then f o ≡ Some y → Both f o y
then_to f None y e = absurd (cc)
then_to f (Some x) y e = record { x = x; first = refl; second = e }

-- the kind and the bytes of the first word
first_kind : List Word → CssKind
first_kind [] = Comma
first_kind (w ∷ rest) = w.kind

first_bytes : List Word → List ℕ
first_bytes [] = []
first_bytes (w ∷ rest) = w.bytes

pub same_bytes : (words : List Word) (j k : CssKind) (a b : List ℕ) (q r : List Word) → words ≡ word j a ∷ q → words ≡ word k b ∷ r → a ≡ b
unfolding first_bytes
same_bytes words j k a b q r e f = ap first_bytes (sym e ∙ f)

pub same_kind : (words : List Word) (j k : CssKind) (a b : List ℕ) (q r : List Word) → words ≡ word j a ∷ q → words ≡ word k b ∷ r → j ≡ k
unfolding first_kind
same_kind words j k a b q r e f = ap first_kind (sym e ∙ f)

-- a lone word of a kind
lone_to : (when : CssKind → List ℕ → Option (List ℕ)) (kind : CssKind) → ((k : CssKind) (b bytes : List ℕ) → when k b ≡ Some bytes → word k b ≡ word kind bytes)
    → (words : List Word) (bytes : List ℕ) → lone when words ≡ Some bytes → words ≡ word kind bytes ∷ []
unfolding lone
lone_to when kind is [] bytes e = absurd (cc)
lone_to when kind is (w ∷ []) bytes e = ap (λ t. t ∷ []) (is w.kind w.bytes bytes e)
lone_to when kind is (w ∷ (v ∷ rest)) bytes e = absurd (cc)

number_is : (k : CssKind) (b bytes : List ℕ) → when_number k b ≡ Some bytes → word k b ≡ word Number bytes
number_is Number b bytes e = let same : b ≡ bytes = cc in ap (λ t. word Number t) same
number_is k b bytes e = absurd (cc)

ident_is : (k : CssKind) (b bytes : List ℕ) → when_ident k b ≡ Some bytes → word k b ≡ word Ident bytes
ident_is Ident b bytes e = let same : b ≡ bytes = cc in ap (λ t. word Ident t) same
ident_is k b bytes e = absurd (cc)

hash_is : (k : CssKind) (b bytes : List ℕ) → when_hash k b ≡ Some bytes → word k b ≡ word Hash bytes
hash_is Hash b bytes e = let same : b ≡ bytes = cc in ap (λ t. word Hash t) same
hash_is k b bytes e = absurd (cc)

pub lone_number_is : (words : List Word) (bytes : List ℕ) → lone when_number words ≡ Some bytes → words ≡ word Number bytes ∷ []
lone_number_is = lone_to when_number Number number_is

pub lone_ident_is : (words : List Word) (bytes : List ℕ) → lone when_ident words ≡ Some bytes → words ≡ word Ident bytes ∷ []
lone_ident_is = lone_to when_ident Ident ident_is

pub lone_hash_is : (words : List Word) (bytes : List ℕ) → lone when_hash words ≡ Some bytes → words ≡ word Hash bytes ∷ []
lone_hash_is = lone_to when_hash Hash hash_is

pub ident_alone : (bytes : List ℕ) → lone when_ident (word Ident bytes ∷ []) ≡ Some bytes
unfolding lone
ident_alone bytes = refl

pub hash_alone : (bytes : List ℕ) → lone when_hash (word Hash bytes ∷ []) ≡ Some bytes
unfolding lone
hash_alone bytes = refl

pub number_alone : (bytes : List ℕ) → lone when_number (word Number bytes ∷ []) ≡ Some bytes
unfolding lone
number_alone bytes = refl

pub word_to : (keyword : List ℕ) (words : List Word) → is_lone keyword words ≡ true → IsWord keyword words
unfolding is_lone
word_to keyword words e = found (lone when_ident words) (lone_ident_is words) e where
  found : (o : Option (List ℕ)) → ((bytes : List ℕ) → o ≡ Some bytes → words ≡ word Ident bytes ∷ [])
      → elim o [ None ↦ false | Some bytes ↦ is_keyword keyword bytes ] ≡ true → IsWord keyword words
  found None alone f = absurd (cc)
  found (Some bytes) alone f = record { bytes = bytes; alone = alone bytes refl; is = f }

pub word_from : (keyword : List ℕ) (words : List Word) → IsWord keyword words → is_lone keyword words ≡ true
unfolding is_lone lone
word_from keyword words is = let alone = is.alone in rw alone is.is
