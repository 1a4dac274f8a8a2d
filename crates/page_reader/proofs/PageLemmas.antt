-- Bytes spell one page or cease to at one place, and not both; and each way to read them says which.
use Rattle.std.proofs.Common.{◌≡◌, ℕ, ◌<◌, ◌≤◌, List, [], ◌∷◌, length, take, map, Some, None, Ok, Err, refl, sym, ap, ◌∙◌, subst, inl, inr}
use Rattle.std.specs.Prelude.{position, IsUtf8}
use Rattle.std.specs.Str.{IsValidUpTo}
use Rattle.std.proofs.lemmas.Bool.{cases_order}
use Rattle.page_model.specs.declared.element.Element.{Element}
use Rattle.page_model.specs.declared.element.PageText.{PageText}
use Rattle.page_model.specs.declared.place.Place.{Place}
use Rattle.page_tokens.specs.HtmlText.{Word, IsText, IsStuck, AreWordsOf, IsScanFault}
use Rattle.page_tokens.specs.HtmlText as scan
use Rattle.text_tokens.specs.declared.fault.ScanFault.{ScanFault}
use Rattle.text_tokens.specs.declared.fault.ScanFault.TheVariants.{BadToken, NoMemory as Unscanned}
use Rattle.page_tokens.proofs.HtmlTextLemmas.{one_text, one_stuck, stuck_is_no_text}
use Rattle.page_reader.specs.PageSymbols.{symbol_of}
use Rattle.page_reader.specs.PageGrammar.{SpellPage, StopAt, start_of}
use Rattle.page_reader.specs.PageReading.{judged, told}
use Rattle.page_reader.specs.PageElements.{elements_of}
use Rattle.page_reader.specs.PageText.{is_control, Spells, IsNoPageAt, IsBadAt, SpellsOnly, SpellsNone, SpellsMany, IsRead, IsPageFault}
use Rattle.page_reader.specs.declared.stage.Stage.TheVariants.{AtDoctype}
use Rattle.page_reader.proofs.GrammarLemmas.{judged_ok, judged_err, rest_spell, one_sheet, stops_stop, one_stop}

take_all : (xs : List ℕ) → take (length xs) xs ≡ xs
take_all [] = refl
take_all (x ∷ xs) = ap (λ r. x ∷ r) (take_all xs)

-- the longest front of UTF-8 is one, and there is none where all is
one_valid : (text : List ℕ) (p q : ℕ) → IsValidUpTo text p → IsValidUpTo text q → q ≡ p
one_valid text p q is also =
    elim (cases_order p q) [
      | inl same ↦ sym same
      | inr (inl below) ↦ absurd (is.longest q below also.front)
      | inr (inr above) ↦ absurd (also.longest p above is.front)
    ]

not_valid : (text : List ℕ) (p : ℕ) → IsUtf8 text → IsValidUpTo text p → ⊥
not_valid text p utf8 is = is.longest (length text) is.short (subst IsUtf8 (sym (take_all text)) utf8)

apart : (text : List ℕ) (p : ℕ) → position is_control text ≡ None → position is_control text ≡ Some p → ⊥
apart text p none some = let no : None ≡ Some p = sym none ∙ some in cc

-- two pages of equal parts are equal
same_page : (p q : PageText) → q.elements ≡ p.elements → q.sheet ≡ p.sheet → q ≡ p
same_page p q elements sheet = λ i. record { elements = elements i; sheet = sheet i }

-- bytes spell at most one page
pub one_page : (text : List ℕ) (page other : PageText) → Spells text page → Spells text other → other ≡ page
one_page text page other is also =
    let same = one_text text is.words also.words is.tokens also.tokens in
    let grammar = subst (λ w. SpellPage (map symbol_of w) other.sheet) same also.grammar in
    same_page page other (also.elements ∙ ap (elements_of (length text)) same ∙ sym is.elements) (one_sheet (map symbol_of is.words) page.sheet other.sheet is.grammar grammar)

-- and not both a page and none
pub page_is_not_bad : (text : List ℕ) (page : PageText) (place : ℕ) → Spells text page → IsBadAt text place → ⊥
page_is_not_bad text page place is (inl bad) = not_valid text place is.utf8 bad
page_is_not_bad text page place is (inr (inl bad)) = apart text place is.no_control bad.first
page_is_not_bad text page place is (inr (inr (inl bad))) = stuck_is_no_text text place is.words bad.stuck is.tokens
page_is_not_bad text page place is (inr (inr (inr bad))) =
    let same = one_text text bad.words is.words bad.tokens is.tokens in
    bad.stop.no_page page.sheet (subst (λ w. SpellPage (map symbol_of w) page.sheet) same is.grammar)

-- a place where they cease to is one
no_other_page : (text : List ℕ) (p q : ℕ) → IsNoPageAt text p → IsNoPageAt text q → q ≡ p
no_other_page text p q is also =
    let same = one_text text is.words also.words is.tokens also.tokens in
    let stop = subst (λ w. StopAt (map symbol_of w) also.count) same also.stop in
    let count = one_stop (map symbol_of is.words) is.count also.count is.stop stop in
    also.place_is ∙ ap (λ w. start_of (length text) w also.count) same ∙ ap (start_of (length text) is.words) count ∙ sym is.place_is

pub one_bad : (text : List ℕ) (p q : ℕ) → IsBadAt text p → IsBadAt text q → q ≡ p
one_bad text p q (inl is) (inl also) = one_valid text p q is also
one_bad text p q (inl is) (inr (inl also)) = absurd (not_valid text p also.utf8 is)
one_bad text p q (inl is) (inr (inr (inl also))) = absurd (not_valid text p also.utf8 is)
one_bad text p q (inl is) (inr (inr (inr also))) = absurd (not_valid text p also.utf8 is)
one_bad text p q (inr (inl is)) (inl also) = absurd (not_valid text q is.utf8 also)
one_bad text p q (inr (inl is)) (inr (inl also)) = let both : Some q ≡ Some p = sym also.first ∙ is.first in cc
one_bad text p q (inr (inl is)) (inr (inr (inl also))) = absurd (apart text p also.no_control is.first)
one_bad text p q (inr (inl is)) (inr (inr (inr also))) = absurd (apart text p also.no_control is.first)
one_bad text p q (inr (inr (inl is))) (inl also) = absurd (not_valid text q is.utf8 also)
one_bad text p q (inr (inr (inl is))) (inr (inl also)) = absurd (apart text q is.no_control also.first)
one_bad text p q (inr (inr (inl is))) (inr (inr (inl also))) = one_stuck text p q is.stuck also.stuck
one_bad text p q (inr (inr (inl is))) (inr (inr (inr also))) = absurd (stuck_is_no_text text p also.words is.stuck also.tokens)
one_bad text p q (inr (inr (inr is))) (inl also) = absurd (not_valid text q is.utf8 also)
one_bad text p q (inr (inr (inr is))) (inr (inl also)) = absurd (apart text q is.no_control also.first)
one_bad text p q (inr (inr (inr is))) (inr (inr (inl also))) = absurd (stuck_is_no_text text q is.words also.stuck is.tokens)
one_bad text p q (inr (inr (inr is))) (inr (inr (inr also))) = no_other_page text p q is also

spells_none : (text : List ℕ) (place : ℕ) → IsBadAt text place → SpellsNone text place
spells_none text place bad = record { bad = bad; none = λ page is. page_is_not_bad text page place is bad; only = λ other also. one_bad text place other bad also }

-- what each way to read says
pub is_not_utf8 : (text : List ℕ) (place : ℕ) → IsValidUpTo text place → SpellsNone text place
is_not_utf8 text place is = spells_none text place (inl is)

pub has_control : (text : List ℕ) (place : ℕ) → IsUtf8 text → position is_control text ≡ Some place → SpellsNone text place
has_control text place utf8 first = spells_none text place (inr (inl (record { utf8 = utf8; first = first })))

has_no_token : (text : List ℕ) (place : ℕ) → IsUtf8 text → position is_control text ≡ None → scan.IsBadAt text place → SpellsNone text place
has_no_token text place utf8 no_control bad = spells_none text place (inr (inr (inl (record { utf8 = utf8; no_control = no_control; stuck = bad.stuck }))))

pub has_no_page : (text : List ℕ) (words : List Word) (place : ℕ) → IsUtf8 text → position is_control text ≡ None → AreWordsOf text words → judged (length text) AtDoctype words ≡ Err place → SpellsNone text place
has_no_page text words place utf8 no_control are bad =
    let found = judged_err (length text) words AtDoctype place bad in
    spells_none text place (inr (inr (inr (record {
      utf8 = utf8;
      no_control = no_control;
      words = words;
      tokens = are.spelled;
      count = found.0;
      stop = stops_stop (map symbol_of words) found.0 found.1;
      place_is = found.2;
    }))))

pub has_page : (text : List ℕ) (words : List Word) (sheet : Place) (elements : List Element) → IsUtf8 text → position is_control text ≡ None → AreWordsOf text words → judged (length text) AtDoctype words ≡ Ok sheet
    → elements ≡ elements_of (length text) words → SpellsOnly text (record { elements = elements; sheet = sheet })
has_page text words sheet elements utf8 no_control are good elements_are =
    let page : PageText = record { elements = elements; sheet = sheet } in
    let is : Spells text page = record {
      utf8 = utf8;
      no_control = no_control;
      words = words;
      tokens = are.spelled;
      grammar = rest_spell (map symbol_of words) sheet (judged_ok (length text) words AtDoctype sheet good);
      elements = elements_are;
    } in
    record { spelled = is; only = λ other also. one_page text page other is also }

-- the same, of too many elements and of few
pub too_many : (text : List ℕ) (words : List Word) (sheet : Place) (elements : List Element) → IsUtf8 text → position is_control text ≡ None → AreWordsOf text words → judged (length text) AtDoctype words ≡ Ok sheet
    → elements ≡ elements_of (length text) words → 65 < length elements → SpellsMany text
too_many text words sheet elements utf8 no_control are good elements_are many =
    record { page = record { elements = elements; sheet = sheet }; spelled = has_page text words sheet elements utf8 no_control are good elements_are; many = many }

pub is_few : (text : List ℕ) (words : List Word) (sheet : Place) (elements : List Element) → IsUtf8 text → position is_control text ≡ None → AreWordsOf text words → judged (length text) AtDoctype words ≡ Ok sheet
    → elements ≡ elements_of (length text) words → length elements ≤ 65 → IsRead text (record { elements = elements; sheet = sheet })
is_few text words sheet elements utf8 no_control are good elements_are few =
    record { spelled = has_page text words sheet elements utf8 no_control are good elements_are; few = few }

-- a fault of the tokens
pub has_scan_fault : (text : List ℕ) (fault : ScanFault) → IsUtf8 text → position is_control text ≡ None → IsScanFault text fault → IsPageFault text (told fault)
has_scan_fault text (BadToken place) utf8 no_control bad = has_no_token text place utf8 no_control bad
has_scan_fault text Unscanned utf8 no_control bad = tt
