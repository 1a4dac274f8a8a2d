-- A newline at the end of a text changes nothing of what is read: it ends the word before it, and no string goes on over it.
use Rattle.std.proofs.Common.{◌≡◌, ℕ, ◌+◌, ◌-◌, ◌≤◌, ◌==◌, ◌&&◌, ◌||◌, Bool, true, false, cond, List, [], ◌∷◌, ◌++◌, length, drop, Option, Some, None, option_map, option_and_then, length-append, nat_eq, refl, ap, ◌∙◌, arith, inl, inr}
use Rattle.std.specs.Prelude.{⊤}
use Rattle.std.specs.List.{prefix_len, starts_with}
use Rattle.std.specs.Char.{is_ascii_digit, encode_utf8}
use Rattle.std.proofs.lemmas.Bool.{cases_Bool}
use Rattle.std.proofs.lemmas.List.{drop-append-le, take-append-le}
use Rattle.std.proofs.lemmas.List.Sums.{prefix_len-le-length}
use Rattle.json.specs.Ascii as ascii
use Rattle.json.specs.Token.{Token, boolean, null, bad}
use Rattle.json.specs.Lex.{Lexeme, Class, quote, backslash, operator, space, other, class, Mode, between, in_word, in_string, in_escape, lex_byte, lex, fresh, punctuate}
use Rattle.json.specs.Text.{Within, plain, after_backslash, after_u, after_high, content, code_unit, short_escape, is_high_surrogate, is_low_surrogate, prepend}
use Rattle.json.specs.Word.{ends_word, after_digits, after_minus, after_sign, after_whole, after_fraction, after_exponent, after_number, number_before, word}
use Rattle.json.specs.Json.{if_last, value}
use Rattle.serde_json.specs.Read.{of_json, max_depth, read}

abbrev line_end : List ℕ
line_end = 10 ∷ []

abbrev more : Option (List ℕ) → Option (List ℕ)
more o = option_map (λ rest. rest ++ line_end) o

-- ---- words

ends-again : (t : List ℕ) → ends_word (t ++ line_end) ≡ ends_word t
ends-again [] = refl
ends-again (x ∷ t) = refl

cond-more : (b : Bool) (p q : List ℕ) → cond b (p ++ line_end) (q ++ line_end) ≡ cond b p q ++ line_end
cond-more true p q = refl
cond-more false p q = refl

cond-option : (b : Bool) (p q : Option (List ℕ)) → cond b (more p) (more q) ≡ more (cond b p q)
cond-option true p q = refl
cond-option false p q = refl

minus-again : (t : List ℕ) → after_minus (t ++ line_end) ≡ after_minus t ++ line_end
minus-again [] = refl
minus-again (x ∷ t) = cond-more (x == ascii.minus) t (x ∷ t)

sign-again : (t : List ℕ) → after_sign (t ++ line_end) ≡ after_sign t ++ line_end
sign-again [] = refl
sign-again (x ∷ t) = cond-more ((x == ascii.minus) || (x == ascii.plus)) t (x ∷ t)

prefix-again : (t : List ℕ) → prefix_len is_ascii_digit (t ++ line_end) ≡ prefix_len is_ascii_digit t
prefix-again [] = refl
prefix-again (x ∷ t) = ap (λ n. cond (is_ascii_digit x) (1 + n) 0) (prefix-again t)

digits-again : (t : List ℕ) → after_digits (t ++ line_end) ≡ more (after_digits t)
digits-again t =
    let n = prefix_len is_ascii_digit t in
    let rest = drop-append-le n t line_end (prefix_len-le-length is_ascii_digit t) in
    rw (prefix-again t, rest) (cond-option (n == 0) None (Some (drop n t)))

whole-again : (t : List ℕ) → after_whole (t ++ line_end) ≡ more (after_whole t)
whole-again [] = refl
whole-again (x ∷ t) = rw (digits-again (x ∷ t)) (cond-option (x == ascii.zero) (Some t) (after_digits (x ∷ t)))

fraction-again : (t : List ℕ) → after_fraction (t ++ line_end) ≡ more (after_fraction t)
fraction-again [] = refl
fraction-again (x ∷ t) = rw (digits-again t) (cond-option (x == ascii.dot) (after_digits t) (Some (x ∷ t)))

exponent-again : (t : List ℕ) → after_exponent (t ++ line_end) ≡ more (after_exponent t)
exponent-again [] = refl
exponent-again (x ∷ t) =
    rw (sign-again t, digits-again (after_sign t)) (cond-option ((x == ascii.lower_e) || (x == ascii.upper_e)) (after_digits (after_sign t)) (Some (x ∷ t)))

then-again : (f : List ℕ → Option (List ℕ)) → ((t : List ℕ) → f (t ++ line_end) ≡ more (f t)) → (o : Option (List ℕ)) → option_and_then f (more o) ≡ more (option_and_then f o)
then-again f again None = refl
then-again f again (Some t) = again t

number-again : (t : List ℕ) → after_number (t ++ line_end) ≡ more (after_number t)
unfolding after_number
number-again t =
    ap (λ s. option_and_then after_exponent (option_and_then after_fraction (after_whole s))) (minus-again t)
    ∙ ap (λ o. option_and_then after_exponent (option_and_then after_fraction o)) (whole-again (after_minus t))
    ∙ ap (option_and_then after_exponent) (then-again after_fraction fraction-again (after_whole (after_minus t)))
    ∙ then-again after_exponent exponent-again (option_and_then after_fraction (after_whole (after_minus t)))

before-again : (t : List ℕ) (o : Option (List ℕ)) → number_before (t ++ line_end) (more o) ≡ number_before t o
before-again t None = refl
before-again t (Some rest) =
    let shorter : length (t ++ line_end) - length (rest ++ line_end) ≡ length t - length rest = omega (arith, length-append t line_end, length-append rest line_end) in
    let within : length t - length rest ≤ length t = omega arith in
    rw (ends-again rest, shorter, take-append-le (length t - length rest) t line_end within) refl

-- no byte of a name is a newline
abbrev Clear : List ℕ → Type 0
Clear [] = ⊤
Clear (n ∷ name) = (nat_eq n 10 ≡ false) × Clear name

name-again : (name t : List ℕ) → Clear name → (starts_with nat_eq (t ++ line_end) name && ends_word (drop (length name) (t ++ line_end))) ≡ (starts_with nat_eq t name && ends_word (drop (length name) t))
name-again [] t clear = ends-again t
name-again (n ∷ name) [] clear = rw (clear.0) refl
name-again (n ∷ name) (x ∷ t) clear = elim (cases_Bool (nat_eq n x)) [
  | inl same ↦ rw same (name-again name t clear.1)
  | inr apart ↦ rw apart refl
]

word-again : (x : ℕ) (t : List ℕ) → word (x ∷ (t ++ line_end)) ≡ word (x ∷ t)
unfolding word
word-again x t =
    let yes = name-again ascii.true_text (x ∷ t) (refl, (refl, (refl, (refl, tt)))) in
    let no = name-again ascii.false_text (x ∷ t) (refl, (refl, (refl, (refl, (refl, tt))))) in
    let none = name-again ascii.null_text (x ∷ t) (refl, (refl, (refl, (refl, tt)))) in
    let numeral = ap (number_before (x ∷ (t ++ line_end))) (number-again (x ∷ t)) ∙ before-again (x ∷ t) (after_number (x ∷ t)) in
    ap₄ (ap (λ b. cond b (boolean true) bad) yes) (ap (λ b. cond b (boolean false) bad) no) (ap (λ b. cond b null bad) none) numeral where
      ap₄ : {a b c d e f g h : Token} → a ≡ b → c ≡ d → e ≡ f → g ≡ h
          → cond (x == ascii.lower_t) a (cond (x == ascii.lower_f) c (cond (x == ascii.lower_n) e g)) ≡ cond (x == ascii.lower_t) b (cond (x == ascii.lower_f) d (cond (x == ascii.lower_n) f h))
      ap₄ p q r s = λ i. cond (x == ascii.lower_t) (p i) (cond (x == ascii.lower_f) (q i) (cond (x == ascii.lower_n) (r i) (s i)))

-- ---- strings

and_no : (b : Bool) → (b && false) ≡ false
and_no true = refl
and_no false = refl

no_unit : (a b c : ℕ) → code_unit a b c 10 ≡ None
unfolding code_unit
no_unit a b c = simp and_no

abbrev no_bytes : Option (List ℕ)
no_bytes = None

either_none : (b : Bool) → cond b no_bytes no_bytes ≡ no_bytes
either_none true = refl
either_none false = refl

-- what a code unit leads to
abbrev by_unit : Option (List ℕ) → (ℕ → Option (List ℕ)) → Option ℕ → Option (List ℕ)
by_unit rest low o =
    option_and_then (λ u. cond (is_high_surrogate u) (low u) (cond (is_low_surrogate u) None (prepend (encode_utf8 u) rest))) o

unit-again : (first second : Option (List ℕ)) (low high : ℕ → Option (List ℕ)) → first ≡ second → ((u : ℕ) → low u ≡ high u) → (o : Option ℕ) → by_unit first low o ≡ by_unit second high o
unit-again first second low high same each None = refl
unit-again first second low high same each (Some u) = rw (same, each u) refl

content-again : (w : Within) (xs : List ℕ) → content w (xs ++ line_end) ≡ content w xs
unfolding content short_escape
content-again plain [] = refl
content-again plain (x ∷ xs) = rw (content-again after_backslash xs, content-again plain xs) refl
content-again after_backslash [] = refl
content-again after_backslash (x ∷ xs) = rw (content-again after_u xs, content-again plain xs) refl
content-again after_u [] = refl
content-again after_u (a ∷ []) = refl
content-again after_u (a ∷ b ∷ []) = refl
content-again after_u (a ∷ b ∷ c ∷ []) = rw (no_unit a b c) refl
content-again after_u (a ∷ b ∷ c ∷ d ∷ xs) =
    unit-again (content plain (xs ++ line_end)) (content plain xs) (λ u. content (after_high u) (xs ++ line_end)) (λ u. content (after_high u) xs)
    (content-again plain xs) (λ u. content-again (after_high u) xs) (code_unit a b c d)
content-again (after_high h) [] = refl
content-again (after_high h) (s ∷ []) = refl
content-again (after_high h) (s ∷ u ∷ []) = refl
content-again (after_high h) (s ∷ u ∷ a ∷ []) = refl
content-again (after_high h) (s ∷ u ∷ a ∷ b ∷ []) = refl
content-again (after_high h) (s ∷ u ∷ a ∷ b ∷ c ∷ []) = rw (no_unit a b c) (either_none ((s == ascii.backslash) && (u == ascii.lower_u)))
content-again (after_high h) (s ∷ u ∷ a ∷ b ∷ c ∷ d ∷ xs) = rw (content-again plain xs) refl

-- ---- tokens

byte-again : (m : Mode) (c : Class) (x : ℕ) (xs : List ℕ) (k k' : Mode → List Lexeme) → ((next : Mode) → k next ≡ k' next) → lex_byte m c x (xs ++ line_end) k ≡ lex_byte m c x xs k'
byte-again between quote x xs k k' same = rw (content-again plain xs, same in_string) refl
byte-again between backslash x xs k k' same = rw (same in_word) refl
byte-again between operator x xs k k' same = rw (same between) refl
byte-again between space x xs k k' same = same between
byte-again between other x xs k k' same = rw (word-again x xs, same in_word) refl
byte-again in_word quote x xs k k' same = same in_word
byte-again in_word backslash x xs k k' same = same in_word
byte-again in_word operator x xs k k' same = rw (same between) refl
byte-again in_word space x xs k k' same = same between
byte-again in_word other x xs k k' same = same in_word
byte-again in_string quote x xs k k' same = same between
byte-again in_string backslash x xs k k' same = same in_escape
byte-again in_string operator x xs k k' same = same in_string
byte-again in_string space x xs k k' same = same in_string
byte-again in_string other x xs k k' same = same in_string
byte-again in_escape c x xs k k' same = same in_string

lex-again : (xs : List ℕ) (m : Mode) → lex m (xs ++ line_end) ≡ lex m xs
unfolding lex
lex-again [] between = refl
lex-again [] in_word = refl
lex-again [] in_string = refl
lex-again [] in_escape = refl
lex-again (x ∷ xs) m = byte-again m (class x) x xs (λ next. lex next (xs ++ line_end)) (λ next. lex next xs) (λ next. lex-again xs next)

pub read_line : (text : List ℕ) → read (text ++ 10 ∷ []) ≡ read text
read_line text =
    ap (λ ls. option_and_then of_json (option_and_then (λ p. if_last p.0 p.1) (value max_depth (punctuate fresh ls)))) (lex-again text between)
