-- Easings that are read are those that are spelled.
use Rattle.std.proofs.Common.{ℕ, ℤ, ◌≡◌, ◌∙◌, ◌==◌, Bool, true, List, [], ◌∷◌, length, Option, Some, None, option_and_then, refl, ap, sym, subst, inl, inr, arith, codes}
use Rattle.std.proofs.lemmas.Bool.{cases_Bool, eqb-true}
use Rattle.page_model.specs.declared.easing.Jump.{Jump}
use Rattle.page_model.specs.declared.easing.Jump.TheVariants.{End}
use Rattle.style_tokens.specs.declared.token.CssKind.TheVariants.{Comma, Function, Ident, Number, RightParen}
use Rattle.css_words.specs.Words.{function_at, ended, Word, front_of, behind, when_ident, when_number, is_comma, is_close, or_else}
use Rattle.css_words.specs.Numerals.{whole_at, Numeral, number_of, number_at, amount, signed_int}
use Rattle.css_easings.specs.Easings.{Points, jump_word, jump_at, steps_at, thousandths_of, thousandths_at, point_and_comma, points_at}
use Rattle.css_words.specs.Keywords.{lookup}
use Rattle.css_easings.specs.EasingWords.{jump_words}
use Rattle.css_easing_laws.specs.SpelledEasings.{IsNamedJump, IsJump, IsSteps, IsThousandths, IsCurve}
use Rattle.css_word_laws.specs.SpelledNumbers.{Sign, word, with_sign, IsNumber}
use Rattle.css_word_laws.specs.SpelledNumbers.Sign.{bare, plus, minus}
use Rattle.css_word_laws.specs.SpelledWords.{IsWhole}
use Rattle.css_word_laws.proofs.FrontLemmas.{front_then, comma_then, Mark, called, call_stands, comma_front, comma_stands, close_front, close_stands, whole_front, whole_stands, end_is, number_front, number_stands, ident_front, ident_stands}
use Rattle.css_word_laws.proofs.KeywordLemmas.{then_to}
use Rattle.css_word_laws.proofs.NumberLemmas.{made, is_minus, sign_of, number_from, number_to}
use Rattle.css_word_laws.proofs.SizeLemmas.{size_to, size_from}
use Rattle.css_easing_laws.proofs.TableLemmas.{jumps_differ}
use Rattle.css_word_laws.proofs.WordLemmas.{entry_to, entry_from}

some_same : {A : Type 0} {x y : A} → Some x ≡ Some y → x ≡ y
some_same e = cc

-- where steps jump
jump_word_to : (words : List Word) (jump : Jump) → jump_word words ≡ Some jump → IsNamedJump words jump
unfolding jump_word
jump_word_to words jump e =
    let a = then_to _ (behind is_comma words) jump e in
    let b = then_to _ (front_of when_ident a.x) jump a.second in
    let j = then_to _ (lookup jump_words b.x.0) jump b.second in
    let z = then_to _ (behind is_close b.x.1) jump j.second in
    let last = end_is j.x jump z.x z.second in
    let comma = comma_front words a.x a.first in
    let name = ident_front a.x b.x b.first in
    let close = close_front b.x.1 z.x z.first in
    record {
      comma = comma.bytes;
      name = b.x.0;
      end = close.bytes;
      joined = comma.split ∙ ap (λ t. word Comma comma.bytes ∷ t) (name ∙ ap (λ t. word Ident b.x.0 ∷ t) (close.split ∙ ap (λ t. word RightParen close.bytes ∷ t) last.0));
      entry = entry_to jump_words b.x.0 jump (j.first ∙ ap (λ t. Some t) last.1);
    }

jump_word_read : (words : List Word) (jump : Jump) → IsNamedJump words jump → jump_word words ≡ Some jump
unfolding jump_word
jump_word_read words jump is =
    rw (
      is.joined,
      comma_stands is.comma (word Ident is.name ∷ word RightParen is.end ∷ []),
      ident_stands is.name (word RightParen is.end ∷ []),
      entry_from jump_words is.name jump jumps_differ is.entry,
      close_stands is.end [],
    ) refl

jump_to : (words : List Word) (jump : Jump) → jump_at words ≡ Some jump → IsJump words jump
unfolding jump_at
jump_to words jump e = by (option_and_then (ended End) (behind is_close words)) (λ j f. f) e where
  by : (o : Option Jump) → ((j : Jump) → o ≡ Some j → option_and_then (ended End) (behind is_close words) ≡ Some j) → or_else o (jump_word words) ≡ Some jump → IsJump words jump
  by None is f = inr (jump_word_to words jump f)
  by (Some j) is f =
      let both = then_to (ended End) (behind is_close words) j (is j refl) in
      let close = close_front words both.x both.first in
      let last = end_is End j both.x both.second in
      inl (record { bytes = close.bytes; alone = close.split ∙ ap (λ t. word RightParen close.bytes ∷ t) last.0 }, sym (some_same f) ∙ sym last.1)

jump_read : (words : List Word) (jump : Jump) → IsJump words jump → jump_at words ≡ Some jump
unfolding jump_at behind
jump_read words jump s = elim s [
  | inl bare_one ↦ rw (bare_one.0.alone, bare_one.1) refl
  | inr named ↦ let read = jump_word_read words jump named in
      let not_close : behind is_close words ≡ None = rw named.joined refl in
      rw not_close read
]

-- steps
pub steps_to : (words : List Word) (count : ℕ) (jump : Jump) → steps_at words ≡ Some (count, jump) → IsSteps words count jump
unfolding steps_at
steps_to words count jump e =
    let a = then_to _ (function_at (codes "steps(") words) (count, jump) e in
    let n = then_to _ (whole_at a.x) (count, jump) a.second in
    let j = then_to _ (jump_at n.x.1) (count, jump) n.second in
    let name = called (codes "steps(") words a.x a.first in
    let number = whole_front a.x n.x n.first in
    let same = some_same j.second in
    record {
      name = name.bytes;
      number = number.bytes;
      tail = n.x.1;
      joined = name.split ∙ ap (λ t. word Function name.bytes ∷ t) number.split;
      called = name.is;
      is_count = subst (λ k. IsWhole number.bytes k) (ap (λ p. p.0) same) number.is;
      is_jump = subst (λ k. IsJump n.x.1 k) (ap (λ p. p.1) same) (jump_to n.x.1 j.x j.first);
    }

pub steps_read : (words : List Word) (count : ℕ) (jump : Jump) → IsSteps words count jump → steps_at words ≡ Some (count, jump)
unfolding steps_at
steps_read words count jump is =
    rw (
      is.joined,
      call_stands (codes "steps(") is.name (word Number is.number ∷ is.tail) is.called,
      whole_stands is.number count is.tail is.is_count,
      jump_read is.tail jump is.is_jump,
    ) refl

-- thousandths
record ThousandthsFront (words : List Word) (v : ℤ) (rest : List Word) : Type 0 where
  pub bytes : List ℕ
  pub split : words ≡ word Number bytes ∷ rest
  pub is : IsThousandths bytes v

signed_of : (n : Numeral) (size : ℕ) → signed_int n.negative size ≡ with_sign (sign_of n) size
signed_of n size = elim (cases_Bool n.negative) [
  | inl is ↦ rw is refl
  | inr other ↦ elim (cases_Bool n.signed) [ inl is ↦ rw (other, is) refl | inr none ↦ rw (other, none) refl ]
]

empty_is : {A : Type 0} (xs : List A) → (length xs == 0) ≡ true → xs ≡ []
empty_is [] e = refl
empty_is (x ∷ xs) e = absurd (let f = eqb-true (length (x ∷ xs)) 0 e in omega arith)

thousandths_to : (bytes : List ℕ) (n : Numeral) (t : Bool × ℕ) → number_of bytes ≡ Some n → thousandths_of n ≡ Some t → IsThousandths bytes (signed_int t.0 t.1)
unfolding thousandths_of
thousandths_to bytes n t is e = elim (cases_Bool (length n.unit == 0)) [
  | inl none ↦ let f : option_and_then (λ size. Some (n.negative, size)) (amount 3 n) ≡ Some t = rw none at e in
      let both = then_to (λ size. Some (n.negative, size)) (amount 3 n) t f in
      let same = some_same both.second in
      let number = number_to bytes n is in
      subst (λ (p : Bool × ℕ). IsThousandths bytes (signed_int p.0 p.1)) same (record {
        sign = sign_of n;
        whole = n.whole;
        fraction = n.fraction;
        size = both.x;
        number = subst (λ u. IsNumber (sign_of n) n.whole n.fraction u bytes) (empty_is n.unit none) number;
        is_size = size_to 3 n both.x number.whole_digits number.fraction_digits both.first;
        value = signed_of n both.x;
      })
  | inr has ↦ absurd (let f : None ≡ Some t = rw has at e in cc)
]

thousandths_front : (words : List Word) (f : (Bool × ℕ) × List Word) → thousandths_at words ≡ Some f → ThousandthsFront words (signed_int f.0.0 f.0.1) f.1
unfolding thousandths_at number_at
thousandths_front words f e =
    let outer = front_then thousandths_of (number_at words) f e in
    let inner = front_then number_of (front_of when_number words) (outer.x, f.1) outer.first in
    record {
      bytes = inner.x;
      split = number_front words (inner.x, f.1) inner.first;
      is = thousandths_to inner.x outer.x f.0 inner.second outer.second;
    }

thousandths_stands : (bytes : List ℕ) (v : ℤ) (rest : List Word) (is : IsThousandths bytes v) → thousandths_at (word Number bytes ∷ rest) ≡ Some ((is_minus is.sign, is.size), rest)
unfolding thousandths_at number_at thousandths_of
thousandths_stands bytes v rest is =
    let read = number_from is.sign is.whole is.fraction [] bytes is.number refl in
    let size = size_from 3 (made is.sign is.whole is.fraction []) is.size is.number.whole_digits is.number.fraction_digits is.is_size in
    rw (number_stands bytes rest, read, size) refl

kept_value : (bytes : List ℕ) (v : ℤ) (is : IsThousandths bytes v) → signed_int (is_minus is.sign) is.size ≡ v
kept_value bytes v is = by is.sign is.size ∙ sym is.value where
  by : (sign : Sign) (size : ℕ) → signed_int (is_minus sign) size ≡ with_sign sign size
  by bare size = refl
  by plus size = refl
  by minus size = refl

comma_point : (words : List Word) (f : (Bool × ℕ) × List Word) → point_and_comma words ≡ Some f
    → (middle : List Word) × (ThousandthsFront words (signed_int f.0.0 f.0.1) middle) × (Mark Comma middle f.1)
unfolding point_and_comma
comma_point words f e =
    let both = comma_then (thousandths_at words) f e in
    (both.middle, thousandths_front words (f.0, both.middle) both.first, both.comma)

comma_point_stands : (bytes comma : List ℕ) (v : ℤ) (rest : List Word) (is : IsThousandths bytes v)
    → point_and_comma (word Number bytes ∷ (word Comma comma ∷ rest)) ≡ Some ((is_minus is.sign, is.size), rest)
unfolding point_and_comma
comma_point_stands bytes comma v rest is = rw (thousandths_stands bytes v (word Comma comma ∷ rest) is, comma_stands comma rest) refl

-- the points of a curve
abbrev pub at : Bool × ℕ → ℤ
at t = signed_int t.0 t.1

pub curve_to : (words : List Word) (p : Points) → points_at words ≡ Some p → IsCurve words (at p.x1) (at p.y1) (at p.x2) (at p.y2)
unfolding points_at
curve_to words p e =
    let i = then_to _ (function_at (codes "cubic-bezier(") words) p e in
    let a = then_to _ (point_and_comma i.x) p i.second in
    let b = then_to _ (point_and_comma a.x.1) p a.second in
    let c = then_to _ (point_and_comma b.x.1) p b.second in
    let d = then_to _ (thousandths_at c.x.1) p c.second in
    let z = then_to _ (behind is_close d.x.1) p d.second in
    let last = end_is _ p z.x z.second in
    let name = called (codes "cubic-bezier(") words i.x i.first in
    let x1 = comma_point i.x a.x a.first in
    let y1 = comma_point a.x.1 b.x b.first in
    let x2 = comma_point b.x.1 c.x c.first in
    let y2 = thousandths_front c.x.1 d.x d.first in
    let close = close_front d.x.1 z.x z.first in
    subst (λ (q : Points). IsCurve words (at q.x1) (at q.y1) (at q.x2) (at q.y2)) last.1 (record {
      name = name.bytes;
      a = x1.1.bytes;
      b = y1.1.bytes;
      c = x2.1.bytes;
      d = y2.bytes;
      first = x1.2.bytes;
      second = y1.2.bytes;
      third = x2.2.bytes;
      end = close.bytes;
      joined = name.split ∙ ap (λ t. word Function name.bytes ∷ t) (x1.1.split ∙ ap (λ t. word Number x1.1.bytes ∷ t) (x1.2.split ∙ ap (λ t. word Comma x1.2.bytes ∷ t)
          (y1.1.split ∙ ap (λ t. word Number y1.1.bytes ∷ t) (y1.2.split ∙ ap (λ t. word Comma y1.2.bytes ∷ t)
          (x2.1.split ∙ ap (λ t. word Number x2.1.bytes ∷ t) (x2.2.split ∙ ap (λ t. word Comma x2.2.bytes ∷ t)
          (y2.split ∙ ap (λ t. word Number y2.bytes ∷ t) (close.split ∙ ap (λ t. word RightParen close.bytes ∷ t) last.0))))))));
      called = name.is;
      is_x1 = x1.1.is;
      is_y1 = y1.1.is;
      is_x2 = x2.1.is;
      is_y2 = y2.is;
    })

-- what is kept of a curve
pub record KeptCurve (words : List Word) (x1 y1 x2 y2 : ℤ) : Type 0 where
  pub points : Points
  pub read : points_at words ≡ Some points
  pub is_x1 : at points.x1 ≡ x1
  pub is_y1 : at points.y1 ≡ y1
  pub is_x2 : at points.x2 ≡ x2
  pub is_y2 : at points.y2 ≡ y2

pub curve_read : (words : List Word) (x1 y1 x2 y2 : ℤ) → IsCurve words x1 y1 x2 y2 → KeptCurve words x1 y1 x2 y2
unfolding points_at
curve_read words x1 y1 x2 y2 is =
    let t3 = word Number is.d ∷ (word RightParen is.end ∷ []) in
    let t2 = word Number is.c ∷ (word Comma is.third ∷ t3) in
    let t1 = word Number is.b ∷ (word Comma is.second ∷ t2) in
    let inside = word Number is.a ∷ (word Comma is.first ∷ t1) in
    record {
      points = record {
        x1 = (is_minus is.is_x1.sign, is.is_x1.size);
        y1 = (is_minus is.is_y1.sign, is.is_y1.size);
        x2 = (is_minus is.is_x2.sign, is.is_x2.size);
        y2 = (is_minus is.is_y2.sign, is.is_y2.size);
      };
      read = rw (
        is.joined,
        call_stands (codes "cubic-bezier(") is.name inside is.called,
        comma_point_stands is.a is.first x1 t1 is.is_x1,
        comma_point_stands is.b is.second y1 t2 is.is_y1,
        comma_point_stands is.c is.third x2 t3 is.is_x2,
        thousandths_stands is.d y2 (word RightParen is.end ∷ []) is.is_y2,
        close_stands is.end [],
      ) refl;
      is_x1 = kept_value is.a x1 is.is_x1;
      is_y1 = kept_value is.b y1 is.is_y1;
      is_x2 = kept_value is.c x2 is.is_x2;
      is_y2 = kept_value is.d y2 is.is_y2;
    }

-- a curve has one set of points
pub record SamePoints (p : Points) (x1 y1 x2 y2 : ℤ) : Type 0 where
  pub is_x1 : at p.x1 ≡ x1
  pub is_y1 : at p.y1 ≡ y1
  pub is_x2 : at p.x2 ≡ x2
  pub is_y2 : at p.y2 ≡ y2

pub same_points : (words : List Word) (p : Points) (x1 y1 x2 y2 : ℤ) → points_at words ≡ Some p → IsCurve words x1 y1 x2 y2 → SamePoints p x1 y1 x2 y2
same_points words p x1 y1 x2 y2 e is =
    let k = curve_read words x1 y1 x2 y2 is in
    let same : k.points ≡ p = some_same (sym k.read ∙ e) in
    subst (λ q. SamePoints q x1 y1 x2 y2) same (record { is_x1 = k.is_x1; is_y1 = k.is_y1; is_x2 = k.is_x2; is_y2 = k.is_y2 })
