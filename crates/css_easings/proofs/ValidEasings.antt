-- Easings that are given are in their limits.
use Rattle.std.proofs.Common.{ℕ, pos, neg_ℤ, Bool, true, false, not, ◌==◌, ◌&&◌, ◌||◌, ◌≡◌, ◌≤◌, List, Option, Some, None, Ok, Err, refl, subst, arith, nat_lt, option_and_then}
use Rattle.std.proofs.lemmas.Bool.Decides.{nat_tests}
use Rattle.page_model.specs.declared.easing.Easing.{Easing}
use Rattle.page_model.specs.declared.easing.Easing.TheVariants.{Steps, Cubic}
use Rattle.page_model.specs.declared.easing.Jump.{Jump}
use Rattle.page_model.specs.ValidScene.{IsBetween, IsEasing, IsCurve, least_steps}
use Rattle.css_words.specs.declared.fault.ValueFault.TheVariants.{BadValue, OverLimit}
use Rattle.css_words.specs.Keywords.{lookup}
use Rattle.css_easings.specs.EasingWords.{easing_words}
use Rattle.css_words.specs.Words.{Word, lone, when_ident, or_bad}
use Rattle.css_easings.specs.Easings.{Points, steps_at, steps_of, points_at, is_column, curve_of, stepped, worded, easing_function, easing_of}
use Rattle.css_words.specs.Numerals.{signed_int}
use Rattle.css_words.proofs.GivenLemmas.{if_ok, bad_ok}
use Rattle.css_words.proofs.TableLemmas.{Entries, lookup_is}
use Rattle.css_words.proofs.SignLemmas.{between}

pub small_curve : (x1 y1 x2 y2 : ℕ) → x1 ≤ 1000 → y1 ≤ 4000 → x2 ≤ 1000 → y2 ≤ 4000 → IsCurve x1 (pos y1) x2 (pos y2)
small_curve x1 y1 x2 y2 a b c d = record {
  first_column = a;
  first_height = between true false 4000 y1 (record { small = b; sign = λ p q. absurd (cc) });
  second_column = c;
  second_height = between true false 4000 y2 (record { small = d; sign = λ p q. absurd (cc) });
}

words_are : Entries IsEasing easing_words
unfolding easing_words
words_are = (
  tt,
  (
    small_curve 250 100 250 1000 (omega arith) (omega arith) (omega arith) (omega arith),
    (
      small_curve 420 0 1000 1000 (omega arith) (omega arith) (omega arith) (omega arith),
      (
        small_curve 0 0 580 1000 (omega arith) (omega arith) (omega arith) (omega arith),
        (
          small_curve 420 0 580 1000 (omega arith) (omega arith) (omega arith) (omega arith),
          (record { some = omega arith; limit = omega arith }, (record { some = omega arith; limit = omega arith }, tt)),
        ),
      ),
    ),
  ),
)

steps_are : (count : ℕ) (jump : Jump) (e : Easing) → steps_of count jump ≡ Ok e → IsEasing e
unfolding steps_of
steps_are count jump e is =
    if_ok IsEasing (nat_lt count (least_steps jump)) (Err BadValue) _ (λ x few bad. absurd (cc))
    (λ x enough f. if_ok IsEasing (nat_lt 1000 count) (Err OverLimit) (Ok (Steps count jump)) (λ y many bad. absurd (cc))
    (λ y not_many same.
    let e_is : Steps count jump ≡ y = cc in
    subst IsEasing e_is (record { some = at_least count (least_steps jump) enough; limit = at_most count not_many }))
    x f)
    e is where
      at_least : (count least : ℕ) → nat_lt count least ≡ false → least ≤ count
      at_least count least enough = grind (arith, nat_tests)

      at_most : (count : ℕ) → nat_lt 1000 count ≡ false → count ≤ 1000
      at_most count few = grind (arith, nat_tests)

both : (a b : Bool) → (a && b) ≡ true → (a ≡ true) × (b ≡ true)
both true b h = (refl, h)
both false b h = absurd (cc)

neither : (a b : Bool) → (a || b) ≡ false → (a ≡ false) × (b ≡ false)
neither true b h = absurd (cc)
neither false b h = (refl, h)

column_is : (x : Bool × ℕ) → is_column x ≡ true → x.1 ≤ 1000
unfolding is_column
column_is x e = few (nat_lt 1000 x.1) refl (both (not x.0 || x.1 == 0) (not (nat_lt 1000 x.1)) e).1 where
  few : (b : Bool) → nat_lt 1000 x.1 ≡ b → not (nat_lt 1000 x.1) ≡ true → x.1 ≤ 1000
  few true is opposite = absurd (let g : not (nat_lt 1000 x.1) ≡ false = rw is refl in cc)
  few false is opposite = grind (arith, nat_tests)

height_is : (y : Bool × ℕ) → nat_lt 4000 y.1 ≡ false → IsBetween (neg_ℤ (pos 4000)) (pos 4000) (signed_int y.0 y.1)
height_is y few = between true y.0 4000 y.1 (record { small = at_most y.1 few; sign = λ p q. absurd (cc) }) where
  at_most : (n : ℕ) → nat_lt 4000 n ≡ false → n ≤ 4000
  at_most n few = grind (arith, nat_tests)

curve_is : (p : Points) (e : Easing) → curve_of p ≡ Ok e → IsEasing e
unfolding curve_of
curve_is p e is =
    if_ok IsEasing (is_column p.x1 && is_column p.x2) _ (Err BadValue)
    (λ x columns f. if_ok IsEasing (nat_lt 4000 p.y1.1 || nat_lt 4000 p.y2.1) (Err OverLimit) (Ok (Cubic p.x1.1 (signed_int p.y1.0 p.y1.1) p.x2.1 (signed_int p.y2.0 p.y2.1)))
    (λ y many bad. absurd (cc))
    (λ y few same.
    let xs = both (is_column p.x1) (is_column p.x2) columns in
    let ys = neither (nat_lt 4000 p.y1.1) (nat_lt 4000 p.y2.1) few in
    let e_is : Cubic p.x1.1 (signed_int p.y1.0 p.y1.1) p.x2.1 (signed_int p.y2.0 p.y2.1) ≡ y = cc in
    subst IsEasing e_is (record {
      first_column = column_is p.x1 xs.0;
      first_height = height_is p.y1 ys.0;
      second_column = column_is p.x2 xs.1;
      second_height = height_is p.y2 ys.1;
    }))
    x f)
    (λ x other bad. absurd (cc)) e is

function_is : (words : List Word) (e : Easing) → easing_function words ≡ Ok e → IsEasing e
unfolding easing_function
function_is words e is = told (steps_at words) is where
  told : (o : Option (ℕ × Jump)) → stepped o (or_bad (points_at words) curve_of) ≡ Ok e → IsEasing e
  told (Some s) is = steps_are s.0 s.1 e is
  told None is = bad_ok IsEasing (points_at words) curve_of (λ p there x f. curve_is p x f) e is

pub easing_is : (words : List Word) (e : Easing) → easing_of words ≡ Ok e → IsEasing e
unfolding easing_of
easing_is words e is = told (lone when_ident words) is where
  named : (o : Option Easing) (bytes : List ℕ) → lookup easing_words bytes ≡ o → worded o (easing_function words) ≡ Ok e → IsEasing e
  named (Some easing) bytes found is = let same : easing ≡ e = cc in subst IsEasing same (lookup_is IsEasing easing_words bytes words_are easing found)
  named None bytes found is = function_is words e is

  told : (o : Option (List ℕ)) → worded (option_and_then (lookup easing_words) o) (easing_function words) ≡ Ok e → IsEasing e
  told (Some bytes) is = named (lookup easing_words bytes) bytes refl is
  told None is = function_is words e is
