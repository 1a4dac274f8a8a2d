-- Easings that are read are those that are spelled.
use Rattle.std.proofs.Common.{ℕ, ℤ, pos, neg_ℤ, ◌≡◌, ◌∙◌, ◌≤◌, ◌<◌, ◌==◌, ◌&&◌, ◌||◌, not, Bool, true, false, List, [], Option, Some, None, Result, Ok, option_and_then, nat_lt, refl, ap, sym, subst, inl, inr, arith, codes}
use Rattle.std.proofs.lemmas.Bool.{and_parts, and_from, or_cases, or_parts, ltb-true, ltb-false, le-ltb, eqb-true, eq-eqb, not-true, not_from_false}
use Rattle.std.proofs.lemmas.Int.{ints}
use Rattle.page_model.specs.declared.easing.Easing.{Easing}
use Rattle.page_model.specs.declared.easing.Easing.TheVariants.{Steps, Cubic}
use Rattle.page_model.specs.declared.easing.Jump.{Jump}
use Rattle.page_model.specs.declared.easing.Jump.TheVariants.{Start, End, Neither, Both}
use Rattle.page_model.specs.ValidScene.{IsBetween, least_steps}
use Rattle.style_tokens.specs.declared.token.CssKind.TheVariants.{Function, Ident}
use Rattle.css_words.specs.declared.fault.ValueFault.{ValueFault}
use Rattle.css_easings.specs.Easings.{Points, steps_at, steps_of, points_at, is_column, curve_of, stepped, worded, easing_function, easing_of}
use Rattle.css_words.specs.Keywords.{is_keyword, lookup}
use Rattle.css_easings.specs.EasingWords.{easing_words}
use Rattle.css_words.specs.Numerals.{signed_int}
use Rattle.css_words.specs.Words.{Word, lone, when_ident}
use Rattle.css_easing_laws.specs.SpelledEasings.{IsSteps, IsCurve, SpellsSteps, SpellsCurve, SpellsEasing, PastSteps, IsHigh, PastCurve, PastEasing}
use Rattle.css_word_laws.specs.SpelledWords.{SpellsKeyword}
use Rattle.css_easing_laws.proofs.EasingLemmas.{at, steps_to, steps_read, curve_to, curve_read, same_points}
use Rattle.css_word_laws.proofs.KeywordLemmas.{then_to, one_keyword, lone_ident_is, ident_alone, same_bytes, same_kind}
use Rattle.css_word_laws.proofs.Readings.{Reads, reads_bad, reads_ok, reads_over, reads_of, reads_if}
use Rattle.css_easing_laws.proofs.TableLemmas.{easings_differ}
use Rattle.css_word_laws.proofs.WordLemmas.{entry_to, entry_from}

some_same : {A : Type 0} {x y : A} → Some x ≡ Some y → x ≡ y
some_same e = cc

named_of : List Word → Option Easing
named_of words = option_and_then (lookup easing_words) (lone when_ident words)

named_to : (words : List Word) (e : Easing) → named_of words ≡ Some e → SpellsKeyword easing_words words e
unfolding named_of
named_to words e is =
    let both = then_to (lookup easing_words) (lone when_ident words) e is in
    record { bytes = both.x; alone = lone_ident_is words both.x both.first; entry = entry_to easing_words both.x e both.second }

named_read : (words : List Word) (e : Easing) → SpellsKeyword easing_words words e → named_of words ≡ Some e
unfolding named_of
named_read words e is = rw (is.alone, ident_alone is.bytes) (entry_from easing_words is.bytes e easings_differ is.entry)

-- words of three sorts
word_no_steps : (words : List Word) (e : Easing) (count : ℕ) (jump : Jump) → SpellsKeyword easing_words words e → IsSteps words count jump → ⊥
word_no_steps words e count jump k s = let same : Ident ≡ Function = same_kind words Ident Function k.bytes s.name [] _ k.alone s.joined in cc

word_no_curve : (words : List Word) (e : Easing) (x1 y1 x2 y2 : ℤ) → SpellsKeyword easing_words words e → IsCurve words x1 y1 x2 y2 → ⊥
word_no_curve words e x1 y1 x2 y2 k s = let same : Ident ≡ Function = same_kind words Ident Function k.bytes s.name [] _ k.alone s.joined in cc

names_differ : is_keyword (codes "steps(") (codes "cubic-bezier(") ≡ false
unfolding is_keyword
names_differ = refl

steps_no_curve : (words : List Word) (count : ℕ) (jump : Jump) (x1 y1 x2 y2 : ℤ) → IsSteps words count jump → IsCurve words x1 y1 x2 y2 → ⊥
steps_no_curve words count jump x1 y1 x2 y2 s c =
    let same = same_bytes words Function Function s.name c.name _ _ s.joined c.joined in
    let is = one_keyword (codes "steps(") (codes "cubic-bezier(") c.name (subst (λ t. is_keyword (codes "steps(") t ≡ true) same s.called) c.called in
    let differ = names_differ in cc

-- a count of steps
least_few : (jump : Jump) → least_steps jump ≤ 2
least_few Start = omega arith
least_few End = omega arith
least_few Neither = omega arith
least_few Both = omega arith

-- the count and jump that are read
same_steps : (words : List Word) (count other : ℕ) (jump way : Jump) → IsSteps words count jump → IsSteps words other way → (count ≡ other) × (jump ≡ way)
same_steps words count other jump way s t =
    let e = some_same (sym (steps_read words count jump s) ∙ steps_read words other way t) in
    (ap (λ p. p.0) e, ap (λ p. p.1) e)

pub steps_reads : (words : List Word) (count : ℕ) (jump : Jump) → IsSteps words count jump → Reads (steps_of count jump) (SpellsEasing words) (PastEasing words)
unfolding steps_of
steps_reads words count jump is =
    reads_if (nat_lt count (least_steps jump)) _ _ (SpellsEasing words) (PastEasing words)
    (λ low. let less = ltb-true count (least_steps jump) low in
    reads_bad _ _ (none (λ e s. let same = same_steps words count s.count jump s.jump is s.steps in too_few count s.count jump s.jump same.0 same.1 less s.enough))
    (no_past (λ s. let same = same_steps words count s.count jump s.jump is s.steps in too_many count s.count jump same.0 less (least_few jump) s.many)))
    (λ enough. let least = ltb-false count (least_steps jump) enough in
    reads_if (nat_lt 1000 count) _ _ (SpellsEasing words) (PastEasing words)
    (λ many. let more = ltb-true 1000 count many in
    reads_over _ _ (inl (record { count = count; jump = jump; steps = is; many = more }))
    (none (λ e s. let same = same_steps words count s.count jump s.jump is s.steps in over_few count s.count same.0 more s.few)))
    (λ few. let less = ltb-false 1000 count few in
    reads_ok _ _ (Steps count jump) (inr (inl (record { count = count; jump = jump; steps = is; enough = least; few = less; value = refl })))
    one
    (no_past (λ s. let same = same_steps words count s.count jump s.jump is s.steps in over_few s.count count (sym same.0) s.many less)))) where
      none : ((e : Easing) → SpellsSteps words e → ⊥) → (e : Easing) → SpellsEasing words e → ⊥
      none never e s = elim s [
        | inl k ↦ word_no_steps words e count jump k is
        | inr more ↦ elim more [ inl t ↦ never e t | inr c ↦ steps_no_curve words count jump (pos c.x1) c.y1 (pos c.x2) c.y2 is c.curve ]
      ]

      no_past : (PastSteps words → ⊥) → PastEasing words → ⊥
      no_past never p = elim p [ inl s ↦ never s | inr c ↦ steps_no_curve words count jump (pos c.x1) c.y1 (pos c.x2) c.y2 is c.curve ]

      one : (e : Easing) → SpellsEasing words e → Steps count jump ≡ e
      one e s = elim s [
        | inl k ↦ absurd (word_no_steps words e count jump k is)
        | inr more ↦ elim more [
          | inl t ↦ let same = same_steps words count t.count jump t.jump is t.steps in ap (λ k. Steps k jump) same.0 ∙ ap (λ j. Steps t.count j) same.1 ∙ sym t.value
          | inr c ↦ absurd (steps_no_curve words count jump (pos c.x1) c.y1 (pos c.x2) c.y2 is c.curve)
        ]
      ]

      too_few : (count other : ℕ) (jump way : Jump) → count ≡ other → jump ≡ way → count < least_steps jump → least_steps way ≤ other → ⊥
      too_few count other jump way p q less enough = let e = ap least_steps q in omega arith

      too_many : (count other : ℕ) (jump : Jump) → count ≡ other → count < least_steps jump → least_steps jump ≤ 2 → 1000 < other → ⊥
      too_many count other jump p less few many = omega arith

      over_few : (count other : ℕ) → count ≡ other → 1000 < count → other ≤ 1000 → ⊥
      over_few count other p more few = omega arith

-- across
column_to : (t : Bool × ℕ) → is_column t ≡ true → (at t ≡ pos t.1) × (t.1 ≤ 1000)
unfolding is_column
column_to t e =
    let both = and_parts (not t.0 || t.1 == 0) (not (nat_lt 1000 t.1)) e in
    (value t.0 t.1 both.0, ltb-false 1000 t.1 (not-true (nat_lt 1000 t.1) both.1)) where
      value : (b : Bool) (n : ℕ) → (not b || n == 0) ≡ true → signed_int b n ≡ pos n
      value false n e = refl
      value true n e = let z : n ≡ 0 = eqb-true n 0 e in rw z refl

column_from : (t : Bool × ℕ) (k : ℕ) → at t ≡ pos k → k ≤ 1000 → (is_column t ≡ true) × (t.1 ≡ k)
unfolding is_column
column_from t k e few = (
  and_from (not t.0 || t.1 == 0) (not (nat_lt 1000 t.1)) (sign t.0 t.1 k e) (not_from_false (nat_lt 1000 t.1) (le-ltb 1000 t.1 (let same = size t.0 t.1 k e in omega arith))),
  size t.0 t.1 k e,
) where
  size : (b : Bool) (n k : ℕ) → signed_int b n ≡ pos k → n ≡ k
  size false n k e = omega (arith, ints)
  size true n k e = omega (arith, ints)

  sign : (b : Bool) (n k : ℕ) → signed_int b n ≡ pos k → (not b || n == 0) ≡ true
  sign false n k e = refl
  sign true n k e = eq-eqb n 0 (omega (arith, ints))

-- upwards
height_in : (t : Bool × ℕ) → nat_lt 4000 t.1 ≡ false → IsBetween (neg_ℤ (pos 4000)) (pos 4000) (at t)
height_in t e = by t.0 t.1 (ltb-false 4000 t.1 e) where
  by : (b : Bool) (n : ℕ) → n ≤ 4000 → IsBetween (neg_ℤ (pos 4000)) (pos 4000) (signed_int b n)
  by true n few = record { at_least = omega (arith, ints); at_most = omega (arith, ints) }
  by false n few = record { at_least = omega (arith, ints); at_most = omega (arith, ints) }

height_out : (t : Bool × ℕ) → nat_lt 4000 t.1 ≡ true → IsHigh (at t)
height_out t e = by t.0 t.1 (ltb-true 4000 t.1 e) where
  by : (b : Bool) (n : ℕ) → 4000 < n → IsHigh (signed_int b n)
  by true n many = inr (omega (arith, ints))
  by false n many = inl (omega (arith, ints))

in_not_out : (y : ℤ) → IsBetween (neg_ℤ (pos 4000)) (pos 4000) y → IsHigh y → ⊥
in_not_out y is high = let low = is.at_least in let most = is.at_most in elim high [ inl up ↦ omega (arith, ints) | inr down ↦ omega (arith, ints) ]

pub curve_reads : (words : List Word) (p : Points) → points_at words ≡ Some p → Reads (curve_of p) (SpellsEasing words) (PastEasing words)
unfolding curve_of
curve_reads words p read =
    reads_if (is_column p.x1 && is_column p.x2) _ _ (SpellsEasing words) (PastEasing words)
    (λ columns. let both = and_parts (is_column p.x1) (is_column p.x2) columns in
    let first = column_to p.x1 both.0 in let second = column_to p.x2 both.1 in
    let exact = subst (λ x. IsCurve words (pos p.x1.1) (at p.y1) x (at p.y2)) second.0 (subst (λ x. IsCurve words x (at p.y1) (at p.x2) (at p.y2)) first.0 curve) in
    reads_if (nat_lt 4000 p.y1.1 || nat_lt 4000 p.y2.1) _ _ (SpellsEasing words) (PastEasing words)
    (λ high. reads_over _ _
    (inr (record {
      x1 = p.x1.1;
      y1 = at p.y1;
      x2 = p.x2.1;
      y2 = at p.y2;
      curve = exact;
      first = first.1;
      second = second.1;
      high = elim (or_cases (nat_lt 4000 p.y1.1) (nat_lt 4000 p.y2.1) high) [ inl h ↦ inl (height_out p.y1 h) | inr h ↦ inr (height_out p.y2 h) ];
    }))
    (none (λ e c. let same = same_points words p (pos c.x1) c.y1 (pos c.x2) c.y2 read c.curve in
    elim (or_cases (nat_lt 4000 p.y1.1) (nat_lt 4000 p.y2.1) high) [
      | inl h ↦ in_not_out c.y1 c.first_height (subst IsHigh same.is_y1 (height_out p.y1 h))
      | inr h ↦ in_not_out c.y2 c.second_height (subst IsHigh same.is_y2 (height_out p.y2 h))
    ])))
    (λ low. let heights = or_parts (nat_lt 4000 p.y1.1) (nat_lt 4000 p.y2.1) low in
    reads_ok _ _ (Cubic p.x1.1 (at p.y1) p.x2.1 (at p.y2))
    (inr (inr (record {
      x1 = p.x1.1;
      y1 = at p.y1;
      x2 = p.x2.1;
      y2 = at p.y2;
      curve = exact;
      first = first.1;
      second = second.1;
      first_height = height_in p.y1 heights.0;
      second_height = height_in p.y2 heights.1;
      value = refl;
    })))
    (λ e s. one _ e s (λ c. let same = same_points words p (pos c.x1) c.y1 (pos c.x2) c.y2 read c.curve in
    let m = column_from p.x1 c.x1 same.is_x1 c.first in let n = column_from p.x2 c.x2 same.is_x2 c.second in
    ap (λ x. Cubic x (at p.y1) p.x2.1 (at p.y2)) m.1 ∙ ap (λ y. Cubic c.x1 y p.x2.1 (at p.y2)) same.is_y1 ∙ ap (λ x. Cubic c.x1 c.y1 x (at p.y2)) n.1
    ∙ ap (λ y. Cubic c.x1 c.y1 c.x2 y) same.is_y2 ∙ sym c.value))
    (no_past (λ c. let same = same_points words p (pos c.x1) c.y1 (pos c.x2) c.y2 read c.curve in
    elim c.high [
      | inl h ↦ in_not_out (at p.y1) (height_in p.y1 heights.0) (subst IsHigh (sym same.is_y1) h)
      | inr h ↦ in_not_out (at p.y2) (height_in p.y2 heights.1) (subst IsHigh (sym same.is_y2) h)
    ]))))
    (λ other. reads_bad _ _
    (none (λ e c. let same = same_points words p (pos c.x1) c.y1 (pos c.x2) c.y2 read c.curve in
    let m = column_from p.x1 c.x1 same.is_x1 c.first in let n = column_from p.x2 c.x2 same.is_x2 c.second in
    let both = and_from (is_column p.x1) (is_column p.x2) m.0 n.0 in cc))
    (no_past (λ c. let same = same_points words p (pos c.x1) c.y1 (pos c.x2) c.y2 read c.curve in
    let m = column_from p.x1 c.x1 same.is_x1 c.first in let n = column_from p.x2 c.x2 same.is_x2 c.second in
    let both = and_from (is_column p.x1) (is_column p.x2) m.0 n.0 in cc))) where
      curve : IsCurve words (at p.x1) (at p.y1) (at p.x2) (at p.y2)
      curve = curve_to words p read

      none : ((e : Easing) → SpellsCurve words e → ⊥) → (e : Easing) → SpellsEasing words e → ⊥
      none never e s = elim s [
        | inl k ↦ word_no_curve words e (at p.x1) (at p.y1) (at p.x2) (at p.y2) k curve
        | inr more ↦ elim more [ inl t ↦ steps_no_curve words t.count t.jump (at p.x1) (at p.y1) (at p.x2) (at p.y2) t.steps curve | inr c ↦ never e c ]
      ]

      no_past : (PastCurve words → ⊥) → PastEasing words → ⊥
      no_past never q = elim q [ inl s ↦ steps_no_curve words s.count s.jump (at p.x1) (at p.y1) (at p.x2) (at p.y2) s.steps curve | inr c ↦ never c ]

      one : (x e : Easing) → SpellsEasing words e → (SpellsCurve words e → x ≡ e) → x ≡ e
      one x e s same = elim s [
        | inl k ↦ absurd (word_no_curve words e (at p.x1) (at p.y1) (at p.x2) (at p.y2) k curve)
        | inr more ↦ elim more [ inl t ↦ absurd (steps_no_curve words t.count t.jump (at p.x1) (at p.y1) (at p.x2) (at p.y2) t.steps curve) | inr c ↦ same c ]
      ]

worded_reads : (o : Option Easing) (other : Result Easing ValueFault) (S : Easing → Type 0) (P : Type 0) → ((e : Easing) → o ≡ Some e → Reads (Ok e) S P)
    → (o ≡ None → Reads other S P) → Reads (worded o other) S P
worded_reads None other S P some none = none refl
worded_reads (Some e) other S P some none = some e refl

stepped_reads : (o : Option (ℕ × Jump)) (other : Result Easing ValueFault) (S : Easing → Type 0) (P : Type 0)
    → ((s : ℕ × Jump) → o ≡ Some s → Reads (steps_of s.0 s.1) S P) → (o ≡ None → Reads other S P) → Reads (stepped o other) S P
stepped_reads None other S P some none = none refl
stepped_reads (Some s) other S P some none = some s refl

pub easing_reads : (words : List Word) → Reads (easing_of words) (SpellsEasing words) (PastEasing words)
unfolding easing_of easing_function named_of
easing_reads words =
    worded_reads (named_of words) _ (SpellsEasing words) (PastEasing words)
    (λ e is. let word = named_to words e is in
    reads_ok _ _ e (inl word)
    (λ d s. elim s [
      | inl k ↦ some_same (sym is ∙ named_read words d k)
      | inr more ↦ absurd (elim more [ inl t ↦ word_no_steps words e t.count t.jump word t.steps | inr c ↦ word_no_curve words e (pos c.x1) c.y1 (pos c.x2) c.y2 word c.curve ])
    ])
    (λ p. elim p [ inl s ↦ word_no_steps words e s.count s.jump word s.steps | inr c ↦ word_no_curve words e (pos c.x1) c.y1 (pos c.x2) c.y2 word c.curve ]))
    (λ no_word. stepped_reads (steps_at words) _ (SpellsEasing words) (PastEasing words)
    (λ s is. steps_reads words s.0 s.1 (steps_to words s.0 s.1 is))
    (λ no_steps. reads_of (points_at words) curve_of (SpellsEasing words) (PastEasing words)
    (λ no_curve. reads_bad _ _
    (λ e s. elim s [
      | inl k ↦ let f = named_read words e k in cc
      | inr more ↦ elim more [
        | inl t ↦ let f = steps_read words t.count t.jump t.steps in cc
        | inr c ↦ let k = curve_read words (pos c.x1) c.y1 (pos c.x2) c.y2 c.curve in let f = k.read in cc
      ]
    ])
    (λ p. elim p [
      | inl s ↦ let f = steps_read words s.count s.jump s.steps in cc
      | inr c ↦ let k = curve_read words (pos c.x1) c.y1 (pos c.x2) c.y2 c.curve in let f = k.read in cc
    ]))
    (λ p is. curve_reads words p is)))
