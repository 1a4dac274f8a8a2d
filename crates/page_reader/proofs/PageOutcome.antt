-- Each text is a page of few boxes, a page of many, or bad at a place.
use Rattle.std.proofs.Common.{◌≡◌, ℕ, zero, suc, ◌<◌, ◌≤◌, ◌⊎◌, false, true, List, length, take, Option, Some, None, Result, Ok, Err, refl, sym, ◌∙◌, subst, inl, inr, arith}
use Rattle.std.specs.Prelude.{position, IsUtf8}
use Rattle.std.specs.Str.{IsValidUpTo, is_utf8}
use Rattle.std.proofs.lemmas.Bool.{cases_Bool, cases_eq, cases_lt}
use Rattle.std.proofs.lemmas.List.{take_all}
use Rattle.std.proofs.lemmas.Str.{IsUtf8-from_is_utf8, is_utf8-from_IsUtf8, IsUtf8-nil}
use Rattle.page_model.specs.declared.element.PageText.{PageText}
use Rattle.page_model.specs.declared.place.Place.{Place}
use Rattle.text_tokens.specs.declared.fault.ScanFault.TheVariants.{BadToken}
use Rattle.page_tokens.specs.HtmlText.{Word, AreWordsOf}
use Rattle.page_tokens.proofs.HtmlOutcome.{every_scanned}
use Rattle.page_reader.specs.PageElements.{elements_of}
use Rattle.page_reader.specs.PageReading.{judged}
use Rattle.page_reader.specs.PageText.{IsRead, SpellsMany, SpellsNone, is_control}
use Rattle.page_reader.specs.declared.stage.Stage.TheVariants.{AtDoctype}
use Rattle.page_reader.proofs.PageLemmas.{has_control, has_no_page, has_scan_fault, is_few, is_not_utf8, too_many}

abbrev pub IsJudgedText : List ℕ → Type 0
IsJudgedText text = ((page : PageText) × IsRead text page) ⊎ SpellsMany text ⊎ ((place : ℕ) × SpellsNone text place)

-- of the fronts up to a length the longest that is UTF-8
record HasLongest (text : List ℕ) (last : ℕ) : Type 0 where
  place : ℕ
  within : place ≤ last
  front : IsUtf8 (take place text)
  longest : (other : ℕ) → place < other → other ≤ last → IsUtf8 (take other text) → ⊥

not_utf8 : (text : List ℕ) → is_utf8 text ≡ false → IsUtf8 text → ⊥
not_utf8 text failed is = let both : false ≡ true = sym failed ∙ is_utf8-from_IsUtf8 text is in cc

longest_up_to : (text : List ℕ) (last : ℕ) → HasLongest text last
longest_up_to text zero = record {
  place = 0;
  within = omega arith;
  front = IsUtf8-nil;
  longest = λ other above upto _. absurd (omega (arith, above, upto));
}
longest_up_to text (suc last) =
    elim (cases_Bool (is_utf8 (take (suc last) text))) [
      | inl utf8 ↦ record {
        place = suc last;
        within = omega arith;
        front = IsUtf8-from_is_utf8 (take (suc last) text) utf8;
        longest = λ other above upto _. absurd (omega (arith, above, upto));
      }
      | inr failed ↦
          let shorter = longest_up_to text last in
          record {
            place = shorter.place;
            within = omega (arith, shorter.within);
            front = shorter.front;
            longest = λ other above upto utf8.
                elim (cases_eq other (suc last)) [
                  | inl is ↦ not_utf8 (take (suc last) text) failed (subst (λ n. IsUtf8 (take n text)) is utf8)
                  | inr less ↦ shorter.longest other above (omega (arith, upto, less)) utf8
                ];
          }
    ]

-- a text is UTF-8 or ceases to be
utf8_or_not : (text : List ℕ) → IsUtf8 text ⊎ ((place : ℕ) × IsValidUpTo text place)
utf8_or_not text =
    elim (cases_Bool (is_utf8 text)) [
      | inl utf8 ↦ inl (IsUtf8-from_is_utf8 text utf8)
      | inr failed ↦
          let found = longest_up_to text (length text) in
          inr (found.place, record { short = short found failed; front = found.front; longest = longest found failed })
    ]
  where
    all : (n : ℕ) → length text ≤ n → IsUtf8 (take n text) → IsUtf8 text
    all n from is = subst IsUtf8 (take_all n text from) is

    short : (found : HasLongest text (length text)) → is_utf8 text ≡ false → found.place < length text
    short found failed = elim (cases_lt found.place (length text)) [
      | inl less ↦ less
      | inr from ↦ absurd (not_utf8 text failed (all found.place from found.front))
    ]

    longest : (found : HasLongest text (length text)) → is_utf8 text ≡ false → (other : ℕ) → found.place < other
        → IsUtf8 (take other text) → ⊥
    longest found failed other above is = elim (cases_lt (length text) other) [
      | inl past ↦ not_utf8 text failed (all other (omega (arith, past)) is)
      | inr upto ↦ found.longest other above (omega (arith, upto)) is
    ]

-- a text of these tokens
of_words : (text : List ℕ) (words : List Word) → IsUtf8 text → position is_control text ≡ None → AreWordsOf text words
    → IsJudgedText text
of_words text words utf8 no_control are = by_answer (judged (length text) AtDoctype words) refl where
  by_answer : (answer : Result Place ℕ) → judged (length text) AtDoctype words ≡ answer → IsJudgedText text
  by_answer (Err place) bad = inr (inr (place, has_no_page text words place utf8 no_control are bad))
  by_answer (Ok sheet) good =
      let elements = elements_of (length text) words in
      elim (cases_lt 65 (length elements)) [
        | inl many ↦ inr (inl (too_many text words sheet elements utf8 no_control are good refl many))
        | inr few ↦
            let page : PageText = record { elements = elements; sheet = sheet } in
            inl (page, is_few text words sheet elements utf8 no_control are good refl (omega (arith, few)))
      ]

-- a text without bad bytes
of_good_bytes : (text : List ℕ) → IsUtf8 text → position is_control text ≡ None → IsJudgedText text
of_good_bytes text utf8 no_control =
    elim (every_scanned text) [
      | inl found ↦ of_words text found.0 utf8 no_control found.1
      | inr bad ↦ inr (inr (bad.0, has_scan_fault text (BadToken bad.0) utf8 no_control bad.1))
    ]

of_utf8 : (text : List ℕ) → IsUtf8 text → IsJudgedText text
of_utf8 text utf8 = by_control (position is_control text) refl where
  by_control : (first : Option ℕ) → position is_control text ≡ first → IsJudgedText text
  by_control None none = of_good_bytes text utf8 none
  by_control (Some place) at = inr (inr (place, has_control text place utf8 at))

pub every_judged : (text : List ℕ) → IsJudgedText text
every_judged text = elim (utf8_or_not text) [ inl utf8 ↦ of_utf8 text utf8 | inr bad ↦ inr (inr (bad.0, is_not_utf8 text bad.0 bad.1)) ]
