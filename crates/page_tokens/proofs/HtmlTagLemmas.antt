-- Attributes and the ends of tags: what is read is spelled so, and what is spelled so is read.
use Rattle.std.proofs.Common.{◌≡◌, ℕ, zero, suc, ◌+◌, ◌<◌, ◌≤◌, Bool, true, false, cond, List, [], ◌∷◌, ◌++◌, length, map, Option, Some, None, refl, sym, ap, ◌∙◌, subst, inl, inr, arith, length-append, append_assoc, append-nil, eq-eqb}
use Rattle.std.specs.Prelude.{IsTrue, option_and_then, ◌&&◌, ◌||◌, not, ◌==◌}
use Rattle.std.specs.Option.{option_map}
use Rattle.std.specs.List.{list_all}
use Rattle.std.proofs.lemmas.Bool.{cases_Bool, and_parts, and_from, eqb-true}
use Rattle.std.proofs.lemmas.Bool.Decides.{nat_tests}
use Rattle.std.proofs.lemmas.List.{map-append}
use Rattle.text_tokens.specs.Classes.{is_white, is_letter}
use Rattle.page_tokens.specs.HtmlRuns.{IsRun, MaybeWhite, IsWhite, IsNamed, begins_with_letter, is_attribute_byte, is_tag_byte, is_quote, is_value_byte}
use Rattle.page_tokens.specs.HtmlTags.{Attribute, IsEquals, IsQuoted, IsAttribute, IsTail, closes}
use Rattle.page_tokens.specs.HtmlReading.{run_of, after_run, byte_at, white_at, name_at, spaced_byte_at, equals_at, value_at, quoted_at, attribute_at, sign_at, end_at, put_first, tail_from, tail_within, tail_at}
use Rattle.page_tokens.proofs.HtmlRunLemmas.{bound, tested, unsome, some_pair, Stops, run_is, run_again, byte_takes, byte_again, white_is, white_gone, white_takes, white_again, name_takes, name_again, name_stops_white, spaced_takes, spaced_again, run_shorter, maybe_white_shorter, white_shorter, white_stops}

-- `=`
equals_takes : (bytes rest : List ℕ) → equals_at bytes ≡ Some rest → IsEquals bytes rest
unfolding equals_at
equals_takes bytes rest e =
    let step = bound _ (spaced_byte_at 61 bytes) rest e in
    record { after = step.0; before_sign = spaced_takes 61 bytes step.0 step.1; after_sign = subst (MaybeWhite step.0) (unsome (after_run is_white step.0) rest step.2) (white_is step.0) }

equals_again : (bytes rest : List ℕ) → IsEquals bytes rest → Stops is_white rest → equals_at bytes ≡ Some rest
unfolding equals_at
equals_again bytes rest is stops =
    let sign = spaced_again 61 bytes is.after refl is.before_sign in
    rw sign (ap Some (white_gone is.after rest is.after_sign stops))

-- a value in quotes
quoted_takes : (bytes value : List ℕ) (left : ℕ) (rest : List ℕ) → quoted_at bytes ≡ Some (value, left, rest) → IsQuoted bytes value left rest
unfolding quoted_at value_at
quoted_takes [] value left rest e = absurd (cc)
quoted_takes (q ∷ after) value left rest e =
    let parts = tested (is_quote q) (value_at q after) (value, left, rest) e in
    let step = bound _ (byte_at q (after_run (is_value_byte q) after)) (value, left, rest) parts.1 in
    let found = byte_takes q (after_run (is_value_byte q) after) step.0 step.1 in
    let ended = subst (λ r. IsRun (is_value_byte q) after (run_of (is_value_byte q) after) r) found (run_is (is_value_byte q) after) in
    let P : List ℕ × ℕ × List ℕ → Type 0 = λ v. IsQuoted (q ∷ after) v.0 v.1 v.2 in
    subst P (unsome (run_of (is_value_byte q) after, length after, step.0) (value, left, rest) step.2) (record { quote = q; after = after; is_first = refl; quotes = parts.0; run = ended; left_is = refl })

quoted_again : (bytes value : List ℕ) (left : ℕ) (rest : List ℕ) → IsQuoted bytes value left rest → quoted_at bytes ≡ Some (value, left, rest)
unfolding quoted_at value_at
quoted_again bytes value left rest is =
    let quotes : is_quote is.quote ≡ true = is.quotes in
    let read = run_again (is_value_byte is.quote) is.after value (is.quote ∷ rest) is.run (own_quote is.quote) in
    let ends = byte_again is.quote rest in
    rw (is.is_first, quotes, read.1, ends, read.0, is.left_is) refl where
      own_quote : (q : ℕ) → is_value_byte q q ≡ false
      own_quote q = grind (arith, nat_tests)

-- an attribute
pub attribute_takes : (bytes : List ℕ) (attribute : Attribute) (rest : List ℕ) → attribute_at bytes ≡ Some (attribute, rest) → IsAttribute bytes attribute rest
unfolding attribute_at
attribute_takes bytes attribute rest e =
    let space = bound _ (white_at bytes) (attribute, rest) e in
    let name = bound _ (name_at is_attribute_byte space.0) (attribute, rest) space.2 in
    let sign = bound _ (equals_at name.0.1) (attribute, rest) name.2 in
    let value = bound _ (quoted_at sign.0) (attribute, rest) sign.2 in
    let P : Attribute × List ℕ → Type 0 = λ a. IsAttribute bytes a.0 a.1 in
    subst P (unsome (record { name = name.0.0; value = value.0.0; left = value.0.1 }, value.0.2) (attribute, rest) value.2) (record {
      at_name = space.0;
      at_equals = name.0.1;
      at_value = sign.0;
      space = white_takes bytes space.0 space.1;
      name = name_takes is_attribute_byte space.0 name.0.0 name.0.1 name.1;
      equals = equals_takes name.0.1 sign.0 sign.1;
      value = quoted_takes sign.0 value.0.0 value.0.1 value.0.2 value.1;
    })

white_apart : (b : ℕ) → is_white b ≡ true → is_attribute_byte b ≡ false
white_apart b white = grind (arith, nat_tests)

quote_is_not_white : (b : ℕ) → is_quote b ≡ true → is_white b ≡ false
quote_is_not_white b quote = grind (arith, nat_tests)

pub attribute_again : (bytes : List ℕ) (attribute : Attribute) (rest : List ℕ) → IsAttribute bytes attribute rest → attribute_at bytes ≡ Some (attribute, rest)
unfolding attribute_at
attribute_again bytes attribute rest is =
    let space = white_again bytes is.at_name is.space (name_stops_white is_attribute_byte is.at_name attribute.name is.at_equals is.name) in
    let name = name_again is_attribute_byte is.at_name attribute.name is.at_equals is.name (white_stops is_attribute_byte white_apart is.at_equals (61 ∷ is.equals.after) is.equals.before_sign refl) in
    let sign = equals_again is.at_equals is.at_value is.equals (subst (Stops is_white) (sym is.value.is_first) (quote_is_not_white is.value.quote is.value.quotes)) in
    let value = quoted_again is.at_value attribute.value attribute.left rest is.value in
    rw (space, name, sign, value) refl

pub attribute_shorter : (bytes : List ℕ) (attribute : Attribute) (rest : List ℕ) → IsAttribute bytes attribute rest → length rest < length bytes
attribute_shorter bytes attribute rest is =
    omega (
      arith,
      white_shorter bytes is.at_name is.space,
      run_shorter is_attribute_byte is.at_name attribute.name is.at_equals is.name.run,
      maybe_white_shorter is.at_equals (61 ∷ is.equals.after) is.equals.before_sign,
      maybe_white_shorter is.equals.after is.at_value is.equals.after_sign,
      ap length is.value.is_first,
      run_shorter (is_value_byte is.value.quote) is.value.after attribute.value (is.value.quote ∷ rest) is.value.run,
    )

-- the end of an opening tag
sign_takes : (bytes : List ℕ) (slash : Bool) (rest : List ℕ) → sign_at bytes ≡ Some (slash, rest) → bytes ≡ closes slash rest
unfolding sign_at
sign_takes [] slash rest e = absurd (cc)
sign_takes (b ∷ bs) slash rest e =
    elim (cases_Bool (b == 47)) [
      | inl is_slash ↦ with_slash (eqb-true b 47 is_slash) (byte_at 62 bs) refl (rw is_slash at e)
      | inr no_slash ↦
          let parts = tested (b == 62) (Some (false, bs)) (slash, rest) (rw no_slash at e) in
          let same = eqb-true b 62 parts.0 in
          let both = some_pair false slash bs rest parts.1 in
          ap (λ x. x ∷ bs) same ∙ ap (λ r. 62 ∷ r) both.1 ∙ ap (λ s. closes s rest) both.0
    ] where
      with_slash : b ≡ 47 → (o : Option (List ℕ)) → byte_at 62 bs ≡ o → option_map {U = Bool × List ℕ} (λ r. (true, r)) o ≡ Some (slash, rest) → b ∷ bs ≡ closes slash rest
      with_slash same None found e = absurd (cc)
      with_slash same (Some r) found e =
          let both = some_pair true slash r rest e in
          ap (λ x. x ∷ bs) same ∙ ap (λ x. 47 ∷ x) (byte_takes 62 bs r found) ∙ ap (λ x. 47 ∷ 62 ∷ x) both.1 ∙ ap (λ s. closes s rest) both.0

sign_again : (slash : Bool) (rest : List ℕ) → sign_at (closes slash rest) ≡ Some (slash, rest)
unfolding sign_at
sign_again true rest = ap (option_map {U = Bool × List ℕ} (λ r. (true, r))) (byte_again 62 rest)
sign_again false rest = refl

sign_stops : (slash : Bool) (rest : List ℕ) → Stops is_white (closes slash rest)
sign_stops true rest = refl
sign_stops false rest = refl

pub end_takes : (bytes : List ℕ) (slash : Bool) (rest : List ℕ) → end_at bytes ≡ Some (slash, rest) → MaybeWhite bytes (closes slash rest)
unfolding end_at
end_takes bytes slash rest e = subst (MaybeWhite bytes) (sign_takes (after_run is_white bytes) slash rest e) (white_is bytes)

pub end_again : (bytes : List ℕ) (slash : Bool) (rest : List ℕ) → MaybeWhite bytes (closes slash rest) → end_at bytes ≡ Some (slash, rest)
unfolding end_at
end_again bytes slash rest is = ap sign_at (white_gone bytes (closes slash rest) is (sign_stops slash rest)) ∙ sign_again slash rest

-- no name stands at such an end
no_name : (class : ℕ → Bool) (slash : Bool) (name after rest : List ℕ) → IsNamed class (closes slash rest) name after → ⊥
no_name class slash [] after rest is = absurd (let no : false ≡ true = is.begins in cc)
no_name class true (n ∷ ns) after rest is = let letter : is_letter n ≡ true = is.begins in let same : n ≡ 47 = cc in let no : is_letter 47 ≡ true = ap is_letter (sym same) ∙ letter in cc
no_name class false (n ∷ ns) after rest is = let letter : is_letter n ≡ true = is.begins in let same : n ≡ 62 = cc in let no : is_letter 62 ≡ true = ap is_letter (sym same) ∙ letter in cc

-- and so no attribute
no_attribute_at_end : (bytes : List ℕ) (slash : Bool) (rest : List ℕ) → MaybeWhite bytes (closes slash rest) → attribute_at bytes ≡ None
no_attribute_at_end bytes slash rest is = none (attribute_at bytes) refl where
  none : (o : Option (Attribute × List ℕ)) → attribute_at bytes ≡ o → o ≡ None
  none None e = refl
  none (Some (a, after)) e =
      let at = attribute_takes bytes a after e in
      let stops = name_stops_white is_attribute_byte at.at_name a.name at.at_equals at.name in
      let white : MaybeWhite bytes at.at_name = record { white = at.space.first ∷ at.space.more_white.white; run = record { spelled = at.space.is_first ∙ ap (λ x. at.space.first ∷ x) at.space.more_white.run.spelled; of_class = and_from (is_white at.space.first) (list_all is_white at.space.more_white.white) at.space.first_white at.space.more_white.run.of_class } } in
      let same : at.at_name ≡ closes slash rest = sym (white_gone bytes at.at_name white stops) ∙ white_gone bytes (closes slash rest) is (sign_stops slash rest) in
      absurd (no_name is_attribute_byte slash a.name at.at_equals rest (subst (λ b. IsNamed is_attribute_byte b a.name at.at_equals) same at.name))

-- attributes and an end, of any length that is enough
pub tail_takes : (n : ℕ) (bytes : List ℕ) (attributes : List Attribute) (slash : Bool) (rest : List ℕ) → tail_within n bytes ≡ Some (attributes, slash, rest) → IsTail bytes attributes slash rest
tail_takes zero bytes attributes slash rest e = absurd (cc)
tail_takes (suc n) bytes attributes slash rest e = by_first (attribute_at bytes) refl e (tail_takes n) where
  Tail : Type 0
  Tail = List Attribute × Bool × List ℕ

  Spelled : List ℕ → Tail → Type 0
  Spelled b t = IsTail b t.0 t.1 t.2

  ended : (o : Option (Bool × List ℕ)) → end_at bytes ≡ o → option_map {U = Tail} (λ closed. ([], closed.0, closed.1)) o ≡ Some (attributes, slash, rest) → IsTail bytes attributes slash rest
  ended None at h = absurd (cc)
  ended (Some closed) at h = subst (Spelled bytes) (unsome ([], closed.0, closed.1) (attributes, slash, rest) h) (end_takes bytes closed.0 closed.1 at)

  further : (a : Attribute) (middle : List ℕ) → attribute_at bytes ≡ Some (a, middle) → ((t : Tail) → tail_within n middle ≡ Some t → Spelled middle t) → (o : Option Tail) → tail_within n middle ≡ o → option_map (put_first a) o ≡ Some (attributes, slash, rest) → IsTail bytes attributes slash rest
  further a middle at more None within h = absurd (cc)
  further a middle at more (Some t) within h = subst (Spelled bytes) (unsome (put_first a t) (attributes, slash, rest) h) (middle, attribute_takes bytes a middle at, more t within)

  by_first : (o : Option (Attribute × List ℕ)) → attribute_at bytes ≡ o → tail_from (tail_within n) bytes o ≡ Some (attributes, slash, rest)
      → ((b : List ℕ) (xs : List Attribute) (s : Bool) (r : List ℕ) → tail_within n b ≡ Some (xs, s, r) → IsTail b xs s r) → IsTail bytes attributes slash rest
  by_first None at h more = ended (end_at bytes) refl h
  by_first (Some read) at h more = further read.0 read.1 at (λ t within. more read.1 t.0 t.1 t.2 within) (tail_within n read.1) refl h

pub tail_within_again : (attributes : List Attribute) (n : ℕ) (bytes : List ℕ) (slash : Bool) (rest : List ℕ) → IsTail bytes attributes slash rest → length bytes < n → tail_within n bytes ≡ Some (attributes, slash, rest)
tail_within_again attributes zero bytes slash rest is fits = absurd (omega arith)
tail_within_again [] (suc n) bytes slash rest is fits =
    let none = no_attribute_at_end bytes slash rest is in
    let ends = end_again bytes slash rest is in
    rw (none, ends) refl
tail_within_again (a ∷ others) (suc n) bytes slash rest is fits =
    let at = attribute_again bytes a is.0 is.1 in
    let more = tail_within_again others n is.0 slash rest is.2 (omega (arith, attribute_shorter bytes a is.0 is.1)) in
    rw (at, more) refl

-- attributes and an end, of the length of the text
pub tail_again : (attributes : List Attribute) (bytes : List ℕ) (slash : Bool) (rest : List ℕ) → IsTail bytes attributes slash rest → tail_at bytes ≡ Some (attributes, slash, rest)
unfolding tail_at
tail_again attributes bytes slash rest is = tail_within_again attributes (suc (length bytes)) bytes slash rest is (omega arith)

pub tail_is : (bytes : List ℕ) (attributes : List Attribute) (slash : Bool) (rest : List ℕ) → tail_at bytes ≡ Some (attributes, slash, rest) → IsTail bytes attributes slash rest
unfolding tail_at
tail_is bytes attributes slash rest e = tail_takes (suc (length bytes)) bytes attributes slash rest e

-- more length than is enough changes nothing
tail_within_more : (n m : ℕ) (bytes : List ℕ) → length bytes < n → length bytes < m → tail_within n bytes ≡ tail_within m bytes
tail_within_more zero m bytes fits also = absurd (omega arith)
tail_within_more (suc n) zero bytes fits also = absurd (omega arith)
tail_within_more (suc n) (suc m) bytes fits also = by_first (attribute_at bytes) refl (tail_within_more n m) where
  by_first : (o : Option (Attribute × List ℕ)) → attribute_at bytes ≡ o → ((b : List ℕ) → length b < n → length b < m → tail_within n b ≡ tail_within m b) → tail_from (tail_within n) bytes o ≡ tail_from (tail_within m) bytes o
  by_first None at more = refl
  by_first (Some read) at more =
      let shorter = attribute_shorter bytes read.0 read.1 (attribute_takes bytes read.0 read.1 at) in
      ap (option_map (put_first read.0)) (more read.1 (omega arith) (omega arith))

-- attributes that were read before these
abbrev pub put_before : List Attribute → List Attribute × Bool × List ℕ → List Attribute × Bool × List ℕ
put_before before tail = (before ++ tail.0, tail.1, tail.2)

-- one attribute more was read
pub tail_step : (before : List Attribute) (bytes : List ℕ) (attribute : Attribute) (rest : List ℕ) → attribute_at bytes ≡ Some (attribute, rest)
    → option_map (put_before (before ++ attribute ∷ [])) (tail_at rest) ≡ option_map (put_before before) (tail_at bytes)
unfolding tail_at
tail_step before bytes attribute rest at =
    let shorter = attribute_shorter bytes attribute rest (attribute_takes bytes attribute rest at) in
    let same = tail_within_more (suc (length rest)) (length bytes) rest (omega arith) (omega arith) in
    rw (at, same) (regroup (tail_within (length bytes) rest)) where
      regroup : (o : Option (List Attribute × Bool × List ℕ)) → option_map (put_before (before ++ attribute ∷ [])) o ≡ option_map (put_before before) (option_map (put_first attribute) o)
      regroup None = refl
      regroup (Some t) = let one : (before ++ attribute ∷ []) ++ t.0 ≡ before ++ attribute ∷ t.0 = append_assoc before (attribute ∷ []) t.0 in rw one refl

-- no attribute is left
pub tail_ends : (before : List Attribute) (bytes : List ℕ) → attribute_at bytes ≡ None
    → option_map {U = List Attribute × Bool × List ℕ} (λ closed. (before, closed.0, closed.1)) (end_at bytes) ≡ option_map (put_before before) (tail_at bytes)
unfolding tail_at
tail_ends before bytes none = rw none (regroup (end_at bytes)) where
  regroup : (o : Option (Bool × List ℕ)) → option_map {U = List Attribute × Bool × List ℕ} (λ closed. (before, closed.0, closed.1)) o ≡ option_map (put_before before) (option_map {U = List Attribute × Bool × List ℕ} (λ closed. ([], closed.0, closed.1)) o)
  regroup None = refl
  regroup (Some closed) = let all : before ++ [] ≡ before = append-nil before in rw all refl

-- what a loop over attributes needs: the rest is shorter, and what was read joins what was read before
pub found_shorter : (bytes : List ℕ) (attribute : Attribute) (rest : List ℕ) → ◌≡◌ {A = Option (Attribute × List ℕ)} (Some (attribute, rest)) (attribute_at bytes) → length rest < length bytes
found_shorter bytes attribute rest at = attribute_shorter bytes attribute rest (attribute_takes bytes attribute rest (sym at))

pub tail_kept : {X : Type 0} (f : X → Attribute) (xs ys : List X) (x : X) (bytes rest : List ℕ) (all : Option (List Attribute × Bool × List ℕ)) → ys ≡ xs ++ x ∷ []
    → ◌≡◌ {A = Option (Attribute × List ℕ)} (Some (f x, rest)) (attribute_at bytes) → option_map (put_before (map f xs)) (tail_at bytes) ≡ all → option_map (put_before (map f ys)) (tail_at rest) ≡ all
tail_kept f xs ys x bytes rest all pushed at before =
    let maps : map f ys ≡ map f xs ++ f x ∷ [] = ap (map f) pushed ∙ map-append f xs (x ∷ []) in
    ap (λ as_read. option_map (put_before as_read) (tail_at rest)) maps ∙ tail_step (map f xs) bytes (f x) rest (sym at) ∙ before
