-- What is read is spelled so: each reader's answer leaves the rest behind a word of the grammar.
use Rattle.std.proofs.Common.{ℕ, ◌≡◌, ◌∙◌, ◌⊎◌, Bool, true, false, cond, ◌==◌, ◌&&◌, List, [], ◌∷◌, ◌++◌, Option, Some, None, option_map, unwrap_or, refl, ap, sym, inl, inr, subst, append_assoc}
use Rattle.std.proofs.lemmas.Bool.{cases_Bool}
use Rattle.std.proofs.lemmas.Bool.Decides.{eqb_tells}
use Rattle.text_tokens.specs.Classes.{is_white, is_digit, is_name_start, is_name_byte}
use Rattle.style_tokens.specs.declared.token.CssKind.{CssKind}
use Rattle.style_tokens.specs.declared.token.CssKind.TheVariants.{AtWord, Hash, Number, Colon, Semicolon, Comma, LeftBrace, RightBrace, RightParen, Bang, Dot}
use Rattle.style_tokens.specs.CssGrammar.{IsBare, name, IsIdent, bare, dashed, AreDigits, digits, IsSign, unsigned, plus, minus, IsDecimal, whole, pointed, fraction, IsUnit, none, percent, unit, Spells, ident, function, at_word, hash, number, colon, semicolon, comma, left_brace, right_brace, right_paren, bang, dot, holds_close, Gap, white, comment}
use Rattle.style_tokens.specs.CssReading.{run_at, ident_at, after_fraction, decimal_at, after_unit, after_sign, number_at, named, mark_of, marked_at, or_else, token_at, after_close, comment_at, gap_at}
use Rattle.style_tokens.specs.CssTokens.{IsFront}
use Rattle.style_tokens.proofs.CssRuns.{both, Taken, IsRun, run, run_takes}

-- what an equation on an option tells
pub map_some : {A B : Type 0} (f : A → B) (o : Option A) (y : B) → option_map f o ≡ Some y → (x : A) × (o ≡ Some x) × (f x ≡ y)
map_some f None y e = absurd (cc)
map_some f (Some x) y e = (x, refl, cc)

pub either_some : {A : Type 0} (b : Bool) (p q : Option A) (y : A) → cond b p q ≡ Some y → ((b ≡ true) × (p ≡ Some y)) ⊎ ((b ≡ false) × (q ≡ Some y))
either_some true p q y e = inl (refl, e)
either_some false p q y e = inr (refl, e)

-- a byte that passes a test for a number is that number
pub equal_from : (a b : ℕ) → (a == b) ≡ true → a ≡ b
equal_from a b e = elim (eqb_tells a b) [ inl t ↦ t.1 | inr f ↦ absurd (let g = f.0 in cc) ]

bare_from_run : (word : List ℕ) → IsRun is_name_start is_name_byte word → IsBare word
bare_from_run word (run byte more is_first are_more) = name byte more is_first are_more

digits_from_run : (word : List ℕ) → IsRun is_digit is_digit word → AreDigits word
digits_from_run word (run byte more is_first are_more) = digits byte more is_first are_more

pub digits_take : (bytes rest : List ℕ) → run_at is_digit is_digit bytes ≡ Some rest → Taken AreDigits bytes rest
digits_take bytes rest e =
    let taken = run_takes is_digit is_digit bytes rest e in
    record { word = taken.word; is = digits_from_run taken.word taken.is; split = taken.split }

pub ident_takes : (bytes rest : List ℕ) → ident_at bytes ≡ Some rest → Taken IsIdent bytes rest
unfolding ident_at
ident_takes [] rest e = absurd (cc)
ident_takes (b ∷ bytes) rest e =
    elim (either_some (b == 45) (run_at is_name_start is_name_byte bytes) (run_at is_name_start is_name_byte (b ∷ bytes)) rest e) [
      | inl minus_first ↦
          let taken = run_takes is_name_start is_name_byte bytes rest minus_first.1 in
          record {
            word = 45 ∷ taken.word;
            is = dashed taken.word (bare_from_run taken.word taken.is);
            split = let same = equal_from b 45 minus_first.0 in rw same (ap (λ t. 45 ∷ t) taken.split);
          }
      | inr other_first ↦
          let taken = run_takes is_name_start is_name_byte (b ∷ bytes) rest other_first.1 in
          record { word = taken.word; is = bare taken.word (bare_from_run taken.word taken.is); split = taken.split }
    ]

-- digits that were read, with the fraction behind them if there is one
fraction_takes : (front bytes : List ℕ) → AreDigits front → Taken IsDecimal (front ++ bytes) (after_fraction bytes)
unfolding after_fraction
fraction_takes front [] is = record { word = front; is = whole front is; split = refl }
fraction_takes front (b ∷ bytes) is =
    elim (cases_Bool (b == 46)) [
      | inl point ↦ rw point (behind_point (equal_from b 46 point) (run_at is_digit is_digit bytes) refl)
      | inr no_point ↦ rw no_point (record { word = front; is = whole front is; split = refl })
    ] where
      behind_point : b ≡ 46 → (o : Option (List ℕ)) → run_at is_digit is_digit bytes ≡ o → Taken IsDecimal (front ++ b ∷ bytes) (unwrap_or o (b ∷ bytes))
      behind_point same None e = record { word = front; is = whole front is; split = refl }
      behind_point same (Some rest) e =
          let taken = digits_take bytes rest e in
          record {
            word = front ++ 46 ∷ taken.word;
            is = pointed front taken.word is taken.is;
            split = rw (same, append_assoc) (ap (λ t. front ++ 46 ∷ t) taken.split);
          }

decimal_takes : (bytes rest : List ℕ) → decimal_at bytes ≡ Some rest → Taken IsDecimal bytes rest
unfolding decimal_at
decimal_takes [] rest e = absurd (cc)
decimal_takes (b ∷ bytes) rest e =
    elim (either_some (b == 46) (run_at is_digit is_digit bytes) (option_map after_fraction (run_at is_digit is_digit (b ∷ bytes))) rest e) [
      | inl point ↦
          let taken = digits_take bytes rest point.1 in
          record {
            word = 46 ∷ taken.word;
            is = fraction taken.word taken.is;
            split = let same = equal_from b 46 point.0 in rw same (ap (λ t. 46 ∷ t) taken.split);
          }
      | inr no_point ↦
          let found = map_some after_fraction (run_at is_digit is_digit (b ∷ bytes)) rest no_point.1 in
          let taken = digits_take (b ∷ bytes) found.0 found.1 in
          let all = fraction_takes taken.word found.0 taken.is in
          record { word = all.word; is = all.is; split = taken.split ∙ all.split ∙ ap (λ t. all.word ++ t) found.2 }
    ]

sign_takes : (bytes : List ℕ) → Taken IsSign bytes (after_sign bytes)
unfolding after_sign
sign_takes [] = record { word = []; is = unsigned; split = refl }
sign_takes (b ∷ bytes) =
    elim (eqb_tells b 43) [
      | inl is_plus ↦ rw is_plus.0 (record { word = 43 ∷ []; is = plus; split = ap (λ x. x ∷ bytes) is_plus.1 })
      | inr no_plus ↦ rw no_plus.0 (elim (eqb_tells b 45) [
        | inl is_minus ↦ rw is_minus.0 (record { word = 45 ∷ []; is = minus; split = ap (λ x. x ∷ bytes) is_minus.1 })
        | inr no_minus ↦ rw no_minus.0 (record { word = []; is = unsigned; split = refl })
      ])
    ]

unit_takes : (bytes : List ℕ) → Taken IsUnit bytes (after_unit bytes)
unfolding after_unit
unit_takes [] = record { word = []; is = none; split = refl }
unit_takes (b ∷ bytes) =
    elim (eqb_tells b 37) [
      | inl is_percent ↦ rw is_percent.0 (record { word = 37 ∷ []; is = percent; split = ap (λ x. x ∷ bytes) is_percent.1 })
      | inr no_percent ↦ rw no_percent.0 (name_or_none (ident_at (b ∷ bytes)) refl)
    ] where
      name_or_none : (o : Option (List ℕ)) → ident_at (b ∷ bytes) ≡ o → Taken IsUnit (b ∷ bytes) (unwrap_or o (b ∷ bytes))
      name_or_none None e = record { word = []; is = none; split = refl }
      name_or_none (Some rest) e =
          let taken = ident_takes (b ∷ bytes) rest e in
          record { word = taken.word; is = unit taken.word taken.is; split = taken.split }

pub number_takes : (bytes rest : List ℕ) → number_at bytes ≡ Some rest → IsFront Number bytes rest
unfolding number_at
number_takes bytes rest e =
    let found = map_some after_unit (decimal_at (after_sign bytes)) rest e in
    let sign = sign_takes bytes in
    let decimal = decimal_takes (after_sign bytes) found.0 found.1 in
    let unit_taken = unit_takes found.0 in
    record {
      word = sign.word ++ (decimal.word ++ unit_taken.word);
      spelled = number sign.word decimal.word unit_taken.word sign.is decimal.is unit_taken.is;
      split =
          sign.split ∙ ap (λ t. sign.word ++ t) (decimal.split ∙ ap (λ t. decimal.word ++ t) (unit_taken.split ∙ ap (λ t. unit_taken.word ++ t) found.2))
          ∙ sym (append_assoc sign.word (decimal.word ++ unit_taken.word) rest ∙ ap (λ t. sign.word ++ t) (append_assoc decimal.word unit_taken.word rest));
    }

named_takes : (bytes behind : List ℕ) → Taken IsIdent bytes behind → IsFront (named behind).0 bytes (named behind).1
unfolding named
named_takes bytes [] taken = record { word = taken.word; spelled = ident taken.word taken.is; split = taken.split }
named_takes bytes (b ∷ rest) taken =
    elim (eqb_tells b 40) [
      | inl opens ↦ rw opens.0 (record {
        word = taken.word ++ 40 ∷ [];
        spelled = function taken.word taken.is;
        split = taken.split ∙ ap (λ x. taken.word ++ x ∷ rest) opens.1 ∙ sym (append_assoc taken.word (40 ∷ []) rest);
      })
      | inr other ↦ rw other.0 (record { word = taken.word; spelled = ident taken.word taken.is; split = taken.split })
    ]

-- a mark spells its kind
mark_takes : (b : ℕ) (kind : CssKind) → mark_of b ≡ Some kind → Spells kind (b ∷ [])
unfolding mark_of
mark_takes b kind e =
    step b 58 Colon colon _ kind (λ e. step b 59 Semicolon semicolon _ kind (λ e. step b 44 Comma comma _ kind (λ e.
    step b 123 LeftBrace left_brace _ kind (λ e. step b 125 RightBrace right_brace _ kind (λ e. step b 41 RightParen right_paren _ kind (λ e.
    step b 33 Bang bang _ kind (λ e. step b 46 Dot dot _ kind (λ e. absurd (cc)) e) e) e) e) e) e) e) e
  where
    step : (b code : ℕ) (this : CssKind) → Spells this (code ∷ []) → (others : Option CssKind) (kind : CssKind)
        → (others ≡ Some kind → Spells kind (b ∷ [])) → cond (b == code) (Some this) others ≡ Some kind → Spells kind (b ∷ [])
    step b code this spelled others kind later e =
        elim (either_some (b == code) (Some this) others kind e) [
          | inl here ↦
              let same : this ≡ kind = let h = here.1 in cc in
              let P : CssKind → ℕ → Type 0 = λ k x. Spells k (x ∷ []) in
              subst (λ k. P k b) same (subst (λ x. P this x) (sym (equal_from b code here.0)) spelled)
          | inr there ↦ later there.1
        ]

hash_spells : (word : List ℕ) → IsRun is_name_byte is_name_byte word → Spells Hash (35 ∷ word)
hash_spells word (run byte more is_first are_more) = hash byte more is_first are_more

front_along : (kind other : CssKind) (bytes rest left : List ℕ) → kind ≡ other → rest ≡ left → IsFront kind bytes rest → IsFront other bytes left
front_along kind other bytes rest left same_kind same_rest front =
    let P : CssKind → List ℕ → Type 0 = λ k r. IsFront k bytes r in
    subst (λ k. P k left) same_kind (subst (λ r. P kind r) same_rest front)

pub pair_parts : {A B : Type 0} (a x : A) (b y : B) → ◌≡◌ {A = A × B} (a, b) (x, y) → (a ≡ x) × (b ≡ y)
pair_parts a x b y e = (ap (λ p. p.0) e, ap (λ p. p.1) e)

marked_takes : (bytes : List ℕ) (found : CssKind × List ℕ) → marked_at bytes ≡ Some found → IsFront found.0 bytes found.1
unfolding marked_at
marked_takes [] found e = absurd (cc)
marked_takes (b ∷ bytes) found e =
    elim (either_some (b == 64) _ _ found e) [
      | inl is_at ↦
          let got = map_some (λ (left : List ℕ). (AtWord, left)) (ident_at bytes) found is_at.1 in
          let taken = ident_takes bytes got.0 got.1 in
          let front : IsFront AtWord (b ∷ bytes) got.0 = record {
            word = 64 ∷ taken.word;
            spelled = at_word taken.word taken.is;
            split = let same = equal_from b 64 is_at.0 in rw same (ap (λ t. 64 ∷ t) taken.split);
          } in
          front_along AtWord found.0 (b ∷ bytes) got.0 found.1 (ap (λ p. p.0) got.2) (ap (λ p. p.1) got.2) front
      | inr no_at ↦ elim (either_some (b == 35) _ _ found no_at.1) [
        | inl is_hash ↦
            let got = map_some (λ (left : List ℕ). (Hash, left)) (run_at is_name_byte is_name_byte bytes) found is_hash.1 in
            let taken = run_takes is_name_byte is_name_byte bytes got.0 got.1 in
            let front : IsFront Hash (b ∷ bytes) got.0 = record {
              word = 35 ∷ taken.word;
              spelled = hash_spells taken.word taken.is;
              split = let same = equal_from b 35 is_hash.0 in rw same (ap (λ t. 35 ∷ t) taken.split);
            } in
            front_along Hash found.0 (b ∷ bytes) got.0 found.1 (ap (λ p. p.0) got.2) (ap (λ p. p.1) got.2) front
        | inr no_hash ↦
            let got = map_some (λ (kind : CssKind). (kind, bytes)) (mark_of b) found no_hash.1 in
            let front : IsFront got.0 (b ∷ bytes) bytes = record { word = b ∷ []; spelled = mark_takes b got.0 got.1; split = refl } in
            front_along got.0 found.0 (b ∷ bytes) bytes found.1 (ap (λ p. p.0) got.2) (ap (λ p. p.1) got.2) front
      ]
    ]

or_some : {A : Type 0} (o p : Option A) (y : A) → or_else o p ≡ Some y → (o ≡ Some y) ⊎ ((o ≡ None) × (p ≡ Some y))
or_some (Some x) p y e = inl e
or_some None p y e = inr (refl, e)

pub token_takes : (bytes : List ℕ) (found : CssKind × List ℕ) → token_at bytes ≡ Some found → IsFront found.0 bytes found.1
unfolding token_at
token_takes bytes found e =
    elim (or_some (option_map (λ (left : List ℕ). (Number, left)) (number_at bytes)) _ found e) [
      | inl is_number ↦
          let got = map_some (λ (left : List ℕ). (Number, left)) (number_at bytes) found is_number in
          front_along Number found.0 bytes got.0 found.1 (ap (λ p. p.0) got.2) (ap (λ p. p.1) got.2) (number_takes bytes got.0 got.1)
      | inr no_number ↦ elim (or_some (option_map named (ident_at bytes)) _ found no_number.1) [
        | inl is_name ↦
            let got = map_some named (ident_at bytes) found is_name in
            front_along (named got.0).0 found.0 bytes (named got.0).1 found.1 (ap (λ p. p.0) got.2) (ap (λ p. p.1) got.2)
            (named_takes bytes got.0 (ident_takes bytes got.0 got.1))
        | inr no_name ↦ marked_takes bytes found no_name.1
      ]
    ]

-- what stands before the first `*/`
record Closed (bytes rest : List ℕ) : Type 0 where
  pub inner : List ℕ
  pub open_inside : holds_close inner ≡ false
  pub split : bytes ≡ inner ++ 42 ∷ 47 ∷ rest

longer : (a b : ℕ) (bytes rest inner : List ℕ) → (a == 42 && b == 47) ≡ false → holds_close inner ≡ false
    → b ∷ bytes ≡ inner ++ 42 ∷ 47 ∷ rest → holds_close (a ∷ inner) ≡ false
longer a b bytes rest [] no_close inside split = refl
longer a b bytes rest (c ∷ inner) no_close inside split =
    let same : c ≡ b = cc in
    rw (same, no_close) inside

close_takes : (bytes rest : List ℕ) → after_close bytes ≡ Some rest → Closed bytes rest
unfolding after_close
close_takes [] rest e = absurd (cc)
close_takes (a ∷ []) rest e = absurd (cc)
close_takes (a ∷ (b ∷ bytes)) rest e =
    elim (either_some (a == 42 && b == 47) (Some bytes) (after_close (b ∷ bytes)) rest e) [
      | inl closes ↦
          let parts = both (a == 42) (b == 47) closes.0 in
          let star = equal_from a 42 parts.0 in
          let slash = equal_from b 47 parts.1 in
          let same : bytes ≡ rest = let h = closes.1 in cc in
          record { inner = []; open_inside = refl; split = cc }
      | inr on ↦
          let behind = close_takes (b ∷ bytes) rest on.1 in
          record {
            inner = a ∷ behind.inner;
            open_inside = longer a b bytes rest behind.inner on.0 behind.open_inside behind.split;
            split = ap (λ t. a ∷ t) behind.split;
          }
    ]

comment_takes : (bytes rest : List ℕ) → comment_at bytes ≡ Some rest → Gap bytes rest
unfolding comment_at
comment_takes [] rest e = absurd (cc)
comment_takes (a ∷ []) rest e = absurd (cc)
comment_takes (a ∷ (b ∷ bytes)) rest e =
    elim (either_some (a == 47 && b == 42) (after_close bytes) None rest e) [
      | inl begins ↦
          let parts = both (a == 47) (b == 42) begins.0 in
          let closed = close_takes bytes rest begins.1 in
          let slash = equal_from a 47 parts.0 in
          let star = equal_from b 42 parts.1 in
          let split = closed.split in
          let same : 47 ∷ 42 ∷ (closed.inner ++ 42 ∷ 47 ∷ rest) ≡ a ∷ (b ∷ bytes) = cc in
          let P : List ℕ → Type 0 = λ t. Gap t rest in
          subst P same (comment closed.inner rest closed.open_inside)
      | inr other ↦ absurd (let h = other.1 in cc)
    ]

pub gap_takes : (bytes rest : List ℕ) → gap_at bytes ≡ Some rest → Gap bytes rest
unfolding gap_at
gap_takes [] rest e = absurd (cc)
gap_takes (b ∷ bytes) rest e =
    elim (either_some (is_white b) (Some bytes) (comment_at (b ∷ bytes)) rest e) [
      | inl is ↦
          let same : bytes ≡ rest = let h = is.1 in cc in
          let P : List ℕ → Type 0 = λ t. Gap (b ∷ bytes) t in
          subst P same (white b bytes is.0)
      | inr other ↦ comment_takes (b ∷ bytes) rest other.1
    ]
