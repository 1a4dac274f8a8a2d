-- The pieces of a page: what is read is spelled so, and what is spelled so is read.
use Rattle.std.proofs.Common.{◌≡◌, ℕ, zero, suc, ◌+◌, ◌<◌, ◌≤◌, ◌⊎◌, Bool, true, false, cond, List, [], ◌∷◌, ◌++◌, length, map, Option, Some, None, refl, sym, ap, ◌∙◌, subst, inl, inr, arith, length-append, append_assoc, eq-eqb, codes}
use Rattle.std.specs.Prelude.{IsTrue, option_and_then, ◌&&◌, ◌||◌, not, ◌==◌, ◌↔◌}
use Rattle.std.specs.Char.{to_ascii_lowercase}
use Rattle.std.specs.Option.{option_map}
use Rattle.std.specs.Str.{str_eq_ignore_ascii_case}
use Rattle.std.proofs.lemmas.Bool.{cases_Bool, and_parts, and_from, eqb-true}
use Rattle.std.proofs.lemmas.Bool.Decides.{nat_tests, same_from_decides}
use Rattle.std.proofs.lemmas.Slice.Eq.{bytes_eq-Decides}
use Rattle.text_tokens.specs.Classes.{is_white, is_letter}
use Rattle.page_tokens.specs.HtmlRuns.{IsRun, MaybeWhite, IsWhite, IsNamed, IsAnyCase, begins_with_letter, is_attribute_byte, is_tag_byte, is_raw_byte}
use Rattle.page_tokens.specs.HtmlTags.{Attribute, IsTail, IsOpening, IsClosing}
use Rattle.page_tokens.specs.HtmlPieces.{Content, doctype, opening, closing, raw, Piece, between, token, IsPiece, IsDoctype, IsComment, IsWhiteByte, IsRaw, IsTitleText, has_no_dashes, begins_as_end, has_no_ampersand}
use Rattle.page_tokens.specs.HtmlReading.{run_of, after_run, byte_at, white_at, name_at, any_case_at, spaced_byte_at, tail_at, opening_at, closing_at, doctype_at, after_dashes, comment_text_at, comment_at, as_token, as_between, declaration_at, markup_at, open_piece_at, raw_at, title_at, end_tag_at, piece_at}
use Rattle.page_tokens.specs.declared.html_stand.Stand.{Stand}
use Rattle.page_tokens.specs.declared.html_stand.Stand.TheVariants.{Anything, TitleText, StyleText, ItsEnd}
use Rattle.page_tokens.proofs.HtmlRunLemmas.{bound, tested, unsome, some_pair, Stops, run_is, run_again, byte_takes, byte_again, white_is, white_gone, white_takes, white_again, name_takes, name_again, name_stops_white, spaced_takes, spaced_again, any_case_takes, any_case_again, white_stops}
use Rattle.page_tokens.proofs.HtmlTagLemmas.{tail_is, tail_again}

-- a byte alone holds no `--`
pub after_dashes_of_one : (bytes : List ℕ) → length bytes ≤ 1 → after_dashes bytes ≡ None
after_dashes_of_one [] short = refl
after_dashes_of_one (a ∷ []) short = refl
after_dashes_of_one (a ∷ b ∷ bs) short = absurd (omega arith)

-- a test that gave nothing where it holds
untested : {A : Type 0} (b : Bool) (o : Option A) (y : A) → cond b None o ≡ Some y → (b ≡ false) × (o ≡ Some y)
untested true o y e = absurd (cc)
untested false o y e = (refl, e)

-- up to the first `--`
after_dashes_takes : (bytes rest : List ℕ) → after_dashes bytes ≡ Some rest → (text : List ℕ) × (bytes ≡ text ++ 45 ∷ 45 ∷ rest) × IsTrue (has_no_dashes text)
after_dashes_takes [] rest e = absurd (cc)
after_dashes_takes (a ∷ []) rest e = absurd (cc)
after_dashes_takes (a ∷ b ∷ bs) rest e =
    elim (cases_Bool (a == 45 && b == 45)) [
      | inl both ↦
          let parts = and_parts (a == 45) (b == 45) both in
          let first = eqb-true a 45 parts.0 in
          let second = eqb-true b 45 parts.1 in
          let ends : Some bs ≡ Some rest = rw both at e in
          ([], ap (λ x. x ∷ b ∷ bs) first ∙ ap (λ x. 45 ∷ x ∷ bs) second ∙ ap (λ r. 45 ∷ 45 ∷ r) (unsome bs rest ends), refl)
      | inr apart ↦
          let more = after_dashes_takes (b ∷ bs) rest (rw apart at e) in
          (a ∷ more.0, ap (λ r. a ∷ r) more.1, grown more.0 more.1 more.2 apart)
    ] where
      grown : (text : List ℕ) → b ∷ bs ≡ text ++ 45 ∷ 45 ∷ rest → IsTrue (has_no_dashes text) → (a == 45 && b == 45) ≡ false → IsTrue (has_no_dashes (a ∷ text))
      grown [] split good apart =
          let same : b ≡ 45 = cc in
          let one : (a == 45 && 45 == 45) ≡ false = ap (λ x. a == 45 && x == 45) (sym same) ∙ apart in
          alone (a == 45) one where
            alone : (t : Bool) → (t && true) ≡ false → not t ≡ true
            alone true h = absurd (cc)
            alone false h = refl
      grown (t ∷ ts) split good apart =
          let same : b ≡ t = cc in
          let two : (a == 45 && t == 45) ≡ false = ap (λ x. a == 45 && x == 45) (sym same) ∙ apart in
          rw two good

after_dashes_again : (text rest : List ℕ) → has_no_dashes text ≡ true → after_dashes (text ++ 45 ∷ 45 ∷ rest) ≡ Some rest
after_dashes_again [] rest good = refl
after_dashes_again (a ∷ []) rest good = let apart : (a == 45) ≡ false = no_dash (a == 45) good in rw apart refl where
  no_dash : (t : Bool) → not t ≡ true → t ≡ false
  no_dash true h = absurd (cc)
  no_dash false h = refl
after_dashes_again (a ∷ b ∷ more) rest good =
    let parts = and_parts (not (a == 45 && b == 45)) (has_no_dashes (b ∷ more)) good in
    let apart : (a == 45 && b == 45) ≡ false = no_dash (a == 45 && b == 45) parts.0 in
    rw apart (after_dashes_again (b ∷ more) rest parts.1) where
      no_dash : (t : Bool) → not t ≡ true → t ≡ false
      no_dash true h = absurd (cc)
      no_dash false h = refl

-- how a text begins is seen with its end as well
begins_same : (text rest : List ℕ) → has_no_dashes text ≡ true → begins_as_end (text ++ 45 ∷ 45 ∷ rest) ≡ begins_as_end text
begins_same [] rest good = refl
begins_same (a ∷ []) rest good = one (a == 62) (a == 45) where
  one : (s t : Bool) → (s || t && false) ≡ s
  one true t = refl
  one false true = refl
  one false false = refl
begins_same (a ∷ b ∷ more) rest good = refl

-- a comment
comment_takes : (bytes rest : List ℕ) → comment_at bytes ≡ Some rest → IsComment (60 ∷ 33 ∷ bytes) rest
unfolding comment_at comment_text_at
comment_takes bytes rest e =
    let one = bound _ (byte_at 45 bytes) rest e in
    let two = bound _ (byte_at 45 one.0) rest one.2 in
    let open_text = untested (begins_as_end two.0) (option_and_then (byte_at 62) (after_dashes two.0)) rest two.2 in
    let ends = bound (byte_at 62) (after_dashes two.0) rest open_text.1 in
    let split = after_dashes_takes two.0 ends.0 ends.1 in
    let sign = byte_takes 62 ends.0 rest ends.2 in
    let whole : two.0 ≡ split.0 ++ 45 ∷ 45 ∷ 62 ∷ rest = split.1 ∙ ap (λ r. split.0 ++ 45 ∷ 45 ∷ r) sign in
    record {
      text = split.0;
      spelled = ap (λ r. 60 ∷ 33 ∷ r) (byte_takes 45 bytes one.0 one.1) ∙ ap (λ r. 60 ∷ 33 ∷ 45 ∷ r) (byte_takes 45 one.0 two.0 two.1) ∙ ap (λ r. 60 ∷ 33 ∷ 45 ∷ 45 ∷ r) whole;
      no_dashes = split.2;
      begins_well = sym (begins_same split.0 ends.0 split.2) ∙ ap begins_as_end (sym split.1) ∙ open_text.0;
    }

comment_again : (bytes rest : List ℕ) → IsComment bytes rest → open_piece_at bytes ≡ Some (between, rest)
unfolding comment_at comment_text_at open_piece_at markup_at declaration_at
comment_again bytes rest is =
    let begins : begins_as_end (is.text ++ 45 ∷ 45 ∷ 62 ∷ rest) ≡ false = begins_same is.text (62 ∷ rest) is.no_dashes ∙ is.begins_well in
    let dashes = after_dashes_again is.text (62 ∷ rest) is.no_dashes in
    let one = byte_again 45 (45 ∷ (is.text ++ 45 ∷ 45 ∷ 62 ∷ rest)) in
    let two = byte_again 45 (is.text ++ 45 ∷ 45 ∷ 62 ∷ rest) in
    let sign = byte_again 62 rest in
    rw (is.spelled, one, two, begins, dashes, sign) refl

-- a doctype
doctype_takes : (bytes : List ℕ) (content : Content) (rest : List ℕ) → doctype_at bytes ≡ Some (content, rest) → IsPiece Anything (60 ∷ 33 ∷ bytes) (token content) rest
unfolding doctype_at
doctype_takes bytes content rest e =
    let word = bound _ (any_case_at (codes "doctype") bytes) (content, rest) e in
    let space = bound _ (white_at word.0) (content, rest) word.2 in
    let html = bound _ (any_case_at (codes "html") space.0) (content, rest) space.2 in
    let sign = bound _ (spaced_byte_at 62 html.0) (content, rest) html.2 in
    let P : Content × List ℕ → Type 0 = λ c. IsPiece Anything (60 ∷ 33 ∷ bytes) (token c.0) c.1 in
    subst P (unsome (doctype, sign.0) (content, rest) sign.2) (record {
      after = bytes;
      at_space = word.0;
      at_html = space.0;
      at_end = html.0;
      is_first = refl;
      doctype_word = any_case_takes (codes "doctype") bytes word.0 word.1;
      space = white_takes word.0 space.0 space.1;
      html_word = any_case_takes (codes "html") space.0 html.0 html.1;
      white = spaced_takes 62 html.0 sign.0 sign.1;
    })

-- the first letter of a word in any case
any_case_first : (w : ℕ) (ws bytes rest : List ℕ) → IsAnyCase (w ∷ ws) bytes rest → (b : ℕ) × (bs : List ℕ) × (bytes ≡ b ∷ bs) × (to_ascii_lowercase b ≡ w)
any_case_first w ws bytes rest is = first is.letters is.spelled is.is_word where
  first : (letters : List ℕ) → bytes ≡ letters ++ rest → map to_ascii_lowercase letters ≡ w ∷ ws → (b : ℕ) × (bs : List ℕ) × (bytes ≡ b ∷ bs) × (to_ascii_lowercase b ≡ w)
  first [] spelled word = absurd (cc)
  first (l ∷ ls) spelled word = (l, ls ++ rest, spelled, cc)

lower_h : (b : ℕ) → to_ascii_lowercase b ≡ 104 → is_white b ≡ false
lower_h b e = elim (cases_Bool (is_white b)) [ inl white ↦ absurd (grind (arith, nat_tests)) | inr black ↦ black ]

lower_d : (b : ℕ) → to_ascii_lowercase b ≡ 100 → (b == 45) ≡ false
lower_d b e = elim (cases_Bool (b == 45)) [ inl dash ↦ let same : b ≡ 45 = eqb-true b 45 dash in let no : ◌≡◌ {A = ℕ} 45 100 = ap to_ascii_lowercase (sym same) ∙ e in absurd (omega arith) | inr other ↦ other ]

doctype_read : (bytes rest : List ℕ) (is : IsDoctype bytes rest) → doctype_at is.after ≡ Some (doctype, rest)
unfolding doctype_at
doctype_read bytes rest is =
    let h = any_case_first 104 (codes "tml") is.at_html is.at_end is.html_word in
    let stops : Stops is_white is.at_html = subst (Stops is_white) (sym h.2) (lower_h h.0 h.3) in
    let word = any_case_again (codes "doctype") is.after is.at_space is.doctype_word in
    let space = white_again is.at_space is.at_html is.space stops in
    let html = any_case_again (codes "html") is.at_html is.at_end is.html_word in
    let sign = spaced_again 62 is.at_end rest refl is.white in
    rw (word, space, html, sign) refl

doctype_again : (bytes rest : List ℕ) → IsDoctype bytes rest → open_piece_at bytes ≡ Some (token doctype, rest)
unfolding open_piece_at markup_at declaration_at
doctype_again bytes rest is =
    let read = doctype_read bytes rest is in
    let d = any_case_first 100 (codes "octype") is.after is.at_space is.doctype_word in
    let no_dash : (d.0 == 45) ≡ false = lower_d d.0 d.3 in
    let at : doctype_at (d.0 ∷ d.1) ≡ Some (doctype, rest) = ap doctype_at (sym d.2) ∙ read in
    rw (is.is_first, d.2, no_dash, at) refl

-- the first letter of a name
named_letter : (class : ℕ → Bool) (b : ℕ) (bs name rest : List ℕ) → IsNamed class (b ∷ bs) name rest → is_letter b ≡ true
named_letter class b bs [] rest is = absurd (let no : false ≡ true = is.begins in cc)
named_letter class b bs (n ∷ ns) rest is = let same : b ≡ n = cc in ap is_letter same ∙ is.begins

letter_apart : (b : ℕ) → is_letter b ≡ true → ((b == 33) ≡ false) × ((b == 47) ≡ false)
letter_apart b letter = (grind (arith, nat_tests), grind (arith, nat_tests))

-- an opening tag
opening_takes : (bytes : List ℕ) (content : Content) (rest : List ℕ) → opening_at bytes ≡ Some (content, rest) → IsPiece Anything (60 ∷ bytes) (token content) rest
unfolding opening_at
opening_takes bytes content rest e =
    let name = bound _ (name_at is_tag_byte bytes) (content, rest) e in
    let tail = bound _ (tail_at name.0.1) (content, rest) name.2 in
    let P : Content × List ℕ → Type 0 = λ c. IsPiece Anything (60 ∷ bytes) (token c.0) c.1 in
    subst P (unsome (opening name.0.0 tail.0.0 tail.0.1, tail.0.2) (content, rest) tail.2) (record {
      after = bytes;
      at_tail = name.0.1;
      is_first = refl;
      named = name_takes is_tag_byte bytes name.0.0 name.0.1 name.1;
      tail = tail_is name.0.1 tail.0.0 tail.0.1 tail.0.2 tail.1;
    })

tail_stops : (class : ℕ → Bool) → ((b : ℕ) → is_white b ≡ true → class b ≡ false) → class 47 ≡ false → class 62 ≡ false → (attributes : List Attribute) (bytes : List ℕ) (slash : Bool) (rest : List ℕ) → IsTail bytes attributes slash rest → Stops class bytes
tail_stops class apart no_slash no_end [] bytes true rest is = white_stops class apart bytes (47 ∷ 62 ∷ rest) is no_slash
tail_stops class apart no_slash no_end [] bytes false rest is = white_stops class apart bytes (62 ∷ rest) is no_end
tail_stops class apart no_slash no_end (a ∷ others) bytes slash rest is = subst (Stops class) (sym is.1.space.is_first) (apart is.1.space.first is.1.space.first_white)

white_apart : (b : ℕ) → is_white b ≡ true → is_tag_byte b ≡ false
white_apart b white = grind (arith, nat_tests)

opening_read : (bytes name : List ℕ) (attributes : List Attribute) (slash : Bool) (rest : List ℕ) (is : IsOpening bytes name attributes slash rest) → opening_at is.after ≡ Some (opening name attributes slash, rest)
unfolding opening_at
opening_read bytes name attributes slash rest is =
    let named = name_again is_tag_byte is.after name is.at_tail is.named (tail_stops is_tag_byte white_apart refl refl attributes is.at_tail slash rest is.tail) in
    let tail = tail_again attributes is.at_tail slash rest is.tail in
    rw (named, tail) refl

markup_opening : (bytes name rest : List ℕ) → IsNamed is_tag_byte bytes name rest → markup_at bytes ≡ as_token (opening_at bytes)
unfolding markup_at
markup_opening [] [] rest is = absurd (let no : false ≡ true = is.begins in cc)
markup_opening [] (n ∷ ns) rest is = absurd (cc)
markup_opening (b ∷ bs) name rest is =
    let apart = letter_apart b (named_letter is_tag_byte b bs name rest is) in
    rw (apart.0, apart.1) refl

opening_again : (bytes name : List ℕ) (attributes : List Attribute) (slash : Bool) (rest : List ℕ) → IsOpening bytes name attributes slash rest → open_piece_at bytes ≡ Some (token (opening name attributes slash), rest)
unfolding open_piece_at
opening_again bytes name attributes slash rest is =
    let read = markup_opening is.after name is.at_tail is.named ∙ ap as_token (opening_read bytes name attributes slash rest is) in
    rw is.is_first read

-- a closing tag
closing_takes : (bytes : List ℕ) (content : Content) (rest : List ℕ) → closing_at bytes ≡ Some (content, rest) → IsPiece ItsEnd (60 ∷ 47 ∷ bytes) (token content) rest
unfolding closing_at
closing_takes bytes content rest e =
    let name = bound _ (name_at is_tag_byte bytes) (content, rest) e in
    let sign = bound _ (spaced_byte_at 62 name.0.1) (content, rest) name.2 in
    let P : Content × List ℕ → Type 0 = λ c. IsPiece ItsEnd (60 ∷ 47 ∷ bytes) (token c.0) c.1 in
    subst P (unsome (closing name.0.0, sign.0) (content, rest) sign.2) (record {
      after = bytes;
      at_end = name.0.1;
      is_first = refl;
      named = name_takes is_tag_byte bytes name.0.0 name.0.1 name.1;
      white = spaced_takes 62 name.0.1 sign.0 sign.1;
    })

closing_read : (bytes name rest : List ℕ) (is : IsClosing bytes name rest) → closing_at is.after ≡ Some (closing name, rest)
unfolding closing_at
closing_read bytes name rest is =
    let named = name_again is_tag_byte is.after name is.at_end is.named (white_stops is_tag_byte white_apart is.at_end (62 ∷ rest) is.white refl) in
    let sign = spaced_again 62 is.at_end rest refl is.white in
    rw (named, sign) refl

closing_again : (bytes name rest : List ℕ) → IsClosing bytes name rest → open_piece_at bytes ≡ Some (token (closing name), rest)
unfolding open_piece_at markup_at
closing_again bytes name rest is = let read = closing_read bytes name rest is in rw (is.is_first, read) refl

end_tag_again : (bytes name rest : List ℕ) → IsClosing bytes name rest → end_tag_at bytes ≡ Some (closing name, rest)
unfolding end_tag_at
end_tag_again bytes name rest is =
    let one = byte_again 60 (47 ∷ is.after) in
    let two = byte_again 47 is.after in
    rw (is.is_first, one, two) (closing_read bytes name rest is)

end_tag_takes : (bytes : List ℕ) (content : Content) (rest : List ℕ) → end_tag_at bytes ≡ Some (content, rest) → IsPiece ItsEnd bytes (token content) rest
unfolding end_tag_at
end_tag_takes bytes content rest e =
    let one = bound _ (byte_at 60 bytes) (content, rest) e in
    let two = bound _ (byte_at 47 one.0) (content, rest) one.2 in
    let whole : bytes ≡ 60 ∷ 47 ∷ two.0 = byte_takes 60 bytes one.0 one.1 ∙ ap (λ r. 60 ∷ r) (byte_takes 47 one.0 two.0 two.1) in
    subst (λ b. IsPiece ItsEnd b (token content) rest) (sym whole) (closing_takes two.0 content rest two.2)

-- raw text
raw_takes : (bytes : List ℕ) (content : Content) (rest : List ℕ) → raw_at bytes ≡ Some (content, rest) → IsPiece StyleText bytes (token content) rest
unfolding raw_at
raw_takes bytes content rest e =
    let sign = bound _ (byte_at 60 (after_run is_raw_byte bytes)) (content, rest) e in
    let P : Content × List ℕ → Type 0 = λ c. IsPiece StyleText bytes (token c.0) c.1 in
    subst P (unsome (raw (run_of is_raw_byte bytes), after_run is_raw_byte bytes) (content, rest) sign.2) (record {
      after = sign.0;
      run = run_is is_raw_byte bytes;
      ends = byte_takes 60 (after_run is_raw_byte bytes) sign.0 sign.1;
    })

raw_again : (bytes text rest : List ℕ) → IsRaw bytes text rest → raw_at bytes ≡ Some (raw text, rest)
unfolding raw_at
raw_again bytes text rest is =
    let stops : Stops is_raw_byte rest = subst (Stops is_raw_byte) (sym is.ends) refl in
    let read = run_again is_raw_byte bytes text rest is.run stops in
    let sign = byte_again 60 is.after in
    rw (read.1, read.0, is.ends, sign) refl

-- raw text of a title
title_text : (bytes : List ℕ) (content : Content) (rest : List ℕ) → IsPiece StyleText bytes (token content) rest → content ≡ raw (run_of is_raw_byte bytes) → has_no_ampersand (run_of is_raw_byte bytes) ≡ true → IsPiece TitleText bytes (token content) rest
title_text bytes doctype rest is same good = elim is [ ]
title_text bytes (opening name attributes slash) rest is same good = elim is [ ]
title_text bytes (closing name) rest is same good = elim is [ ]
title_text bytes (raw text) rest is same good = let run : text ≡ run_of is_raw_byte bytes = cc in record { raw = is; no_ampersand = ap has_no_ampersand run ∙ good }

raw_content : (bytes : List ℕ) (content : Content) (rest : List ℕ) → raw_at bytes ≡ Some (content, rest) → content ≡ raw (run_of is_raw_byte bytes)
unfolding raw_at
raw_content bytes content rest e =
    let sign = bound _ (byte_at 60 (after_run is_raw_byte bytes)) (content, rest) e in
    sym (some_pair (raw (run_of is_raw_byte bytes)) content (after_run is_raw_byte bytes) rest sign.2).0

title_takes : (bytes : List ℕ) (content : Content) (rest : List ℕ) → title_at bytes ≡ Some (content, rest) → IsPiece TitleText bytes (token content) rest
unfolding title_at
title_takes bytes content rest e =
    let parts = tested (has_no_ampersand (run_of is_raw_byte bytes)) (raw_at bytes) (content, rest) e in
    title_text bytes content rest (raw_takes bytes content rest parts.1) (raw_content bytes content rest parts.1) parts.0

title_again : (bytes text rest : List ℕ) → IsTitleText bytes text rest → title_at bytes ≡ Some (raw text, rest)
unfolding title_at
title_again bytes text rest is =
    let stops : Stops is_raw_byte rest = subst (Stops is_raw_byte) (sym is.raw.ends) refl in
    let read = run_again is_raw_byte bytes text rest is.raw.run stops in
    let good : has_no_ampersand (run_of is_raw_byte bytes) ≡ true = ap has_no_ampersand read.0 ∙ is.no_ampersand in
    rw good (raw_again bytes text rest is.raw)

-- a token that was read
as_token_some : (P : Piece → List ℕ → Type 0) (o : Option (Content × List ℕ)) (piece : Piece) (rest : List ℕ) → ◌≡◌ {A = Option (Piece × List ℕ)} (as_token o) (Some (piece, rest)) → ((c : Content) (r : List ℕ) → ◌≡◌ {A = Option (Content × List ℕ)} o (Some (c, r)) → P (token c) r) → P piece rest
as_token_some P None piece rest e each = absurd (cc)
as_token_some P (Some read) piece rest e each =
    let Q : Piece × List ℕ → Type 0 = λ p. P p.0 p.1 in
    subst Q (unsome (token read.0, read.1) (piece, rest) e) (each read.0 read.1 refl)

as_between_some : (P : Piece → List ℕ → Type 0) (o : Option (List ℕ)) (piece : Piece) (rest : List ℕ) → ◌≡◌ {A = Option (Piece × List ℕ)} (as_between o) (Some (piece, rest)) → ((r : List ℕ) → o ≡ Some r → P between r) → P piece rest
as_between_some P None piece rest e each = absurd (cc)
as_between_some P (Some r) piece rest e each =
    let Q : Piece × List ℕ → Type 0 = λ p. P p.0 p.1 in
    subst Q (unsome (between, r) (piece, rest) e) (each r refl)

-- where anything may stand, a closing tag is as the end of raw text
closing_anywhere : (bytes : List ℕ) (content : Content) (rest : List ℕ) → IsPiece ItsEnd bytes (token content) rest → IsPiece Anything bytes (token content) rest
closing_anywhere bytes doctype rest is = elim is [ ]
closing_anywhere bytes (opening name attributes slash) rest is = elim is [ ]
closing_anywhere bytes (closing name) rest is = is
closing_anywhere bytes (raw text) rest is = elim is [ ]

declaration_takes : (bytes : List ℕ) (piece : Piece) (rest : List ℕ) → declaration_at bytes ≡ Some (piece, rest) → IsPiece Anything (60 ∷ 33 ∷ bytes) piece rest
unfolding declaration_at
declaration_takes [] piece rest e = absurd (cc)
declaration_takes (b ∷ bs) piece rest e =
    elim (cases_Bool (b == 45)) [
      | inl dash ↦ as_between_some (λ p r. IsPiece Anything (60 ∷ 33 ∷ b ∷ bs) p r) (comment_at (b ∷ bs)) piece rest (rw dash at e) (λ r at. inr (comment_takes (b ∷ bs) r at))
      | inr other ↦ as_token_some (λ p r. IsPiece Anything (60 ∷ 33 ∷ b ∷ bs) p r) (doctype_at (b ∷ bs)) piece rest (rw other at e) (λ c r at. doctype_takes (b ∷ bs) c r at)
    ]

markup_takes : (bytes : List ℕ) (piece : Piece) (rest : List ℕ) → markup_at bytes ≡ Some (piece, rest) → IsPiece Anything (60 ∷ bytes) piece rest
unfolding markup_at
markup_takes [] piece rest e = absurd (cc)
markup_takes (b ∷ bs) piece rest e =
    elim (cases_Bool (b == 33)) [
      | inl bang ↦ subst (λ x. IsPiece Anything (60 ∷ x ∷ bs) piece rest) (sym (eqb-true b 33 bang)) (declaration_takes bs piece rest (rw bang at e))
      | inr no_bang ↦ elim (cases_Bool (b == 47)) [
        | inl slash ↦ subst (λ x. IsPiece Anything (60 ∷ x ∷ bs) piece rest) (sym (eqb-true b 47 slash))
            (as_token_some (λ p r. IsPiece Anything (60 ∷ 47 ∷ bs) p r) (closing_at bs) piece rest (rw (no_bang, slash) at e) (λ c r at. closing_anywhere (60 ∷ 47 ∷ bs) c r (closing_takes bs c r at)))
        | inr no_slash ↦ as_token_some (λ p r. IsPiece Anything (60 ∷ b ∷ bs) p r) (opening_at (b ∷ bs)) piece rest (rw (no_bang, no_slash) at e) (λ c r at. opening_takes (b ∷ bs) c r at)
      ]
    ]

open_piece_takes : (bytes : List ℕ) (piece : Piece) (rest : List ℕ) → open_piece_at bytes ≡ Some (piece, rest) → IsPiece Anything bytes piece rest
unfolding open_piece_at
open_piece_takes [] piece rest e = absurd (cc)
open_piece_takes (b ∷ bs) piece rest e =
    elim (cases_Bool (is_white b)) [
      | inl white ↦ as_between_some (λ p r. IsPiece Anything (b ∷ bs) p r) (Some bs) piece rest (rw white at e) (λ r at. inl (record { byte = b; spelled = ap (λ x. b ∷ x) (unsome bs r at); white = white }))
      | inr black ↦
          let parts = tested (b == 60) (markup_at bs) (piece, rest) (rw black at e) in
          subst (λ x. IsPiece Anything (x ∷ bs) piece rest) (sym (eqb-true b 60 parts.0)) (markup_takes bs piece rest parts.1)
    ]

white_again_piece : (bytes rest : List ℕ) → IsWhiteByte bytes rest → open_piece_at bytes ≡ Some (between, rest)
unfolding open_piece_at
white_again_piece bytes rest is = let white : is_white is.byte ≡ true = is.white in rw (is.spelled, white) refl

-- a piece that is read stands there
pub piece_takes : (stand : Stand) (bytes : List ℕ) (piece : Piece) (rest : List ℕ) → piece_at stand bytes ≡ Some (piece, rest) → IsPiece stand bytes piece rest
piece_takes Anything bytes piece rest e = open_piece_takes bytes piece rest e
piece_takes TitleText bytes piece rest e = as_token_some (λ p r. IsPiece TitleText bytes p r) (title_at bytes) piece rest e (λ c r at. title_takes bytes c r at)
piece_takes StyleText bytes piece rest e = as_token_some (λ p r. IsPiece StyleText bytes p r) (raw_at bytes) piece rest e (λ c r at. raw_takes bytes c r at)
piece_takes ItsEnd bytes piece rest e = as_token_some (λ p r. IsPiece ItsEnd bytes p r) (end_tag_at bytes) piece rest e (λ c r at. end_tag_takes bytes c r at)

-- a piece that stands there is read
pub piece_again : (stand : Stand) (bytes : List ℕ) (piece : Piece) (rest : List ℕ) → IsPiece stand bytes piece rest → piece_at stand bytes ≡ Some (piece, rest)
piece_again Anything bytes between rest (inl is) = white_again_piece bytes rest is
piece_again Anything bytes between rest (inr is) = comment_again bytes rest is
piece_again Anything bytes (token doctype) rest is = doctype_again bytes rest is
piece_again Anything bytes (token (opening name attributes slash)) rest is = opening_again bytes name attributes slash rest is
piece_again Anything bytes (token (closing name)) rest is = closing_again bytes name rest is
piece_again Anything bytes (token (raw text)) rest is = elim is [ ]
piece_again TitleText bytes between rest is = elim is [ ]
piece_again TitleText bytes (token doctype) rest is = elim is [ ]
piece_again TitleText bytes (token (opening name attributes slash)) rest is = elim is [ ]
piece_again TitleText bytes (token (closing name)) rest is = elim is [ ]
piece_again TitleText bytes (token (raw text)) rest is = ap as_token (title_again bytes text rest is)
piece_again StyleText bytes between rest is = elim is [ ]
piece_again StyleText bytes (token doctype) rest is = elim is [ ]
piece_again StyleText bytes (token (opening name attributes slash)) rest is = elim is [ ]
piece_again StyleText bytes (token (closing name)) rest is = elim is [ ]
piece_again StyleText bytes (token (raw text)) rest is = ap as_token (raw_again bytes text rest is)
piece_again ItsEnd bytes between rest is = elim is [ ]
piece_again ItsEnd bytes (token doctype) rest is = elim is [ ]
piece_again ItsEnd bytes (token (opening name attributes slash)) rest is = elim is [ ]
piece_again ItsEnd bytes (token (closing name)) rest is = ap as_token (end_tag_again bytes name rest is)
piece_again ItsEnd bytes (token (raw text)) rest is = elim is [ ]

-- a comparison without regard to case
pub same_without_case : (r : Bool) (a b : List ℕ) → IsTrue r ↔ (map to_ascii_lowercase a ≡ map to_ascii_lowercase b) → r ≡ str_eq_ignore_ascii_case a b
same_without_case r a b both = same_from_decides r (str_eq_ignore_ascii_case a b) (both.0, both.1) (bytes_eq-Decides (map to_ascii_lowercase a) (map to_ascii_lowercase b))
