-- Texts: what was read so far, and that a text is read in one way.
use Rattle.std.proofs.Common.{◌≡◌, ℕ, zero, suc, ◌+◌, ◌-◌, ◌*◌, ◌<◌, ◌≤◌, Bool, true, false, cond, List, [], ◌∷◌, ◌++◌, length, map, Option, Some, None, refl, sym, ap, ◌∙◌, subst, inl, inr, arith, length-append, append_assoc, append-nil}
use Rattle.std.specs.Bool.{MatchBool}
use Rattle.std.specs.Prelude.{◌==◌}
use Rattle.std.proofs.lemmas.Bool.Decides.{nat_tests}
use Rattle.page_model.specs.declared.place.Place.{Place}
use Rattle.page_tokens.specs.HtmlTags.{Attribute, IsTail, IsOpening, IsClosing}
use Rattle.page_tokens.specs.HtmlRuns.{MaybeWhite, is_tag_byte, is_raw_byte}
use Rattle.page_tokens.specs.HtmlPieces.{Content, doctype, opening, closing, raw, Piece, between, token, IsPiece, IsDoctype, IsComment, IsWhiteByte, IsRaw, after_piece, after_token}
use Rattle.page_tokens.specs.HtmlReading.{open_piece_at, piece_at}
use Rattle.page_tokens.specs.HtmlText.{Step, IsPath, rest_after, stand_after, Word, place_between, with_token, words_of, IsText, IsStuck, AreWordsOf, IsBadAt}
use Rattle.page_tokens.specs.declared.html_stand.Stand.{Stand}
use Rattle.page_tokens.specs.declared.html_stand.Stand.TheVariants.{Anything, TitleText, StyleText, ItsEnd}
use Rattle.page_tokens.proofs.HtmlRunLemmas.{unsome, run_shorter, maybe_white_shorter, white_shorter}
use Rattle.page_tokens.proofs.HtmlTagLemmas.{attribute_shorter}
use Rattle.page_tokens.proofs.HtmlPieceLemmas.{piece_takes, piece_again}

-- one piece at most stands at a place
one_piece : (stand : Stand) (bytes : List ℕ) (s t : Step) → IsPiece stand bytes s.piece s.rest → IsPiece stand bytes t.piece t.rest → s ≡ t
one_piece stand bytes s t first second =
    let p : Piece × List ℕ = (s.piece, s.rest) in
    let q : Piece × List ℕ = (t.piece, t.rest) in
    let same : p ≡ q = unsome p q (sym (piece_again stand bytes s.piece s.rest first) ∙ piece_again stand bytes t.piece t.rest second) in
    ap (λ (x : Piece × List ℕ). let step : Step = record { piece = x.0; rest = x.1 } in step) same

-- two paths from one place, behind which nothing begins, are one
one_path : (stand : Stand) (bytes : List ℕ) (steps others : List Step) → IsPath stand bytes steps → IsPath stand bytes others
    → ((piece : Piece) (rest : List ℕ) → IsPiece (stand_after stand steps) (rest_after bytes steps) piece rest → ⊥)
    → ((piece : Piece) (rest : List ℕ) → IsPiece (stand_after stand others) (rest_after bytes others) piece rest → ⊥) → steps ≡ others
one_path stand bytes [] [] path also ends ends_also = refl
one_path stand bytes [] (t ∷ ts) path also ends ends_also = absurd (ends t.piece t.rest also.0)
one_path stand bytes (s ∷ ss) [] path also ends ends_also = absurd (ends_also s.piece s.rest path.0)
one_path stand bytes (s ∷ ss) (t ∷ ts) path also ends ends_also =
    let same = one_piece stand bytes s t path.0 also.0 in
    let From : Step → Type 0 = λ x. IsPath (after_piece stand x.piece) x.rest ts in
    let Ends : Step → Type 0 = λ x. (piece : Piece) (rest : List ℕ) → IsPiece (stand_after (after_piece stand x.piece) ts) (rest_after x.rest ts) piece rest → ⊥ in
    let rests = one_path (after_piece stand s.piece) s.rest ss ts path.1 (subst From (sym same) also.1) ends (subst Ends (sym same) ends_also) in
    ap (λ x. x ∷ ss) same ∙ ap (λ xs. t ∷ xs) rests

-- nothing begins at the end of a text
none : None ≡ piece_at Anything []
unfolding open_piece_at
none = refl

nothing_at_end : (stand : Stand) (bytes : List ℕ) → bytes ≡ [] → stand ≡ Anything → (piece : Piece) (rest : List ℕ) → IsPiece stand bytes piece rest → ⊥
nothing_at_end stand bytes empty anything piece rest is =
    let there = subst (λ s. IsPiece s [] piece rest) anything (subst (λ b. IsPiece stand b piece rest) empty is) in
    let read : ◌≡◌ {A = Option (Piece × List ℕ)} None (Some (piece, rest)) = none ∙ piece_again Anything [] piece rest there in
    absurd (cc)

-- a text has one list of tokens
pub one_text : (text : List ℕ) (words others : List Word) → IsText text words → IsText text others → others ≡ words
one_text text words others is also =
    let same = one_path Anything text is.steps also.steps is.path also.path
    (nothing_at_end (stand_after Anything is.steps) (rest_after text is.steps) is.whole is.complete)
    (nothing_at_end (stand_after Anything also.steps) (rest_after text also.steps) also.whole also.complete) in
    also.words_are ∙ ap (words_of (length text) text) (sym same) ∙ sym is.words_are

-- it is stuck at one place
pub one_stuck : (text : List ℕ) (place other : ℕ) → IsStuck text place → IsStuck text other → other ≡ place
one_stuck text place other is also =
    let same = one_path Anything text is.steps also.steps is.path also.path is.nothing also.nothing in
    also.place_is ∙ ap (λ s. length text - length (rest_after text s)) (sym same) ∙ sym is.place_is

-- and not both
pub stuck_is_no_text : (text : List ℕ) (place : ℕ) (words : List Word) → IsStuck text place → IsText text words → ⊥
stuck_is_no_text text place words is also =
    let same = one_path Anything text is.steps also.steps is.path also.path is.nothing
    (nothing_at_end (stand_after Anything also.steps) (rest_after text also.steps) also.whole also.complete) in
    is.unfinished (ap (rest_after text) same ∙ also.whole) (ap (stand_after Anything) same ∙ also.complete)

-- one piece more
path_more : (stand : Stand) (bytes : List ℕ) (steps : List Step) (step : Step) → IsPath stand bytes steps → IsPiece (stand_after stand steps) (rest_after bytes steps) step.piece step.rest → IsPath stand bytes (steps ++ step ∷ [])
path_more stand bytes [] step path is = (is, tt)
path_more stand bytes (s ∷ ss) step path is = (path.0, path_more (after_piece stand s.piece) s.rest ss step path.1 is)

rest_more : (bytes : List ℕ) (steps : List Step) (step : Step) → rest_after bytes (steps ++ step ∷ []) ≡ step.rest
rest_more bytes [] step = refl
rest_more bytes (s ∷ ss) step = rest_more s.rest ss step

stand_more : (stand : Stand) (steps : List Step) (step : Step) → stand_after stand (steps ++ step ∷ []) ≡ after_piece (stand_after stand steps) step.piece
stand_more stand [] step = refl
stand_more stand (s ∷ ss) step = stand_more (after_piece stand s.piece) ss step

with_token_more : (place : Place) (piece : Piece) (words more : List Word) → with_token place piece (words ++ more) ≡ with_token place piece words ++ more
with_token_more place between words more = refl
with_token_more place (token content) words more = refl

words_more : (total : ℕ) (bytes : List ℕ) (steps : List Step) (step : Step) → words_of total bytes (steps ++ step ∷ []) ≡ words_of total bytes steps ++ with_token (place_between total (rest_after bytes steps) step.rest) step.piece []
words_more total bytes [] step = refl
words_more total bytes (s ∷ ss) step =
    ap (with_token (place_between total bytes s.rest) s.piece) (words_more total s.rest ss step) ∙ with_token_more (place_between total bytes s.rest) s.piece (words_of total s.rest ss) (with_token (place_between total (rest_after s.rest ss) step.rest) step.piece [])

-- the pieces of the front of a text were read: its tokens, what may stand behind it, and what is left
pub record IsReadSo (text : List ℕ) (words : List Word) (stand : Stand) (bytes : List ℕ) : Type 0 where
  pub steps : List Step
  pub path : IsPath Anything text steps
  pub rest_is : rest_after text steps ≡ bytes
  pub stand_is : stand_after Anything steps ≡ stand
  pub words_are : words ≡ words_of (length text) text steps

pub read_none : (text : List ℕ) → IsReadSo text [] Anything text
read_none text = record { steps = []; path = tt; rest_is = refl; stand_is = refl; words_are = refl }

pub read_more : (text : List ℕ) (words more : List Word) (stand next : Stand) (bytes rest : List ℕ) (piece : Piece) → IsReadSo text words stand bytes → piece_at stand bytes ≡ Some (piece, rest)
    → more ≡ words ++ with_token (place_between (length text) bytes rest) piece [] → next ≡ after_piece stand piece → IsReadSo text more next rest
read_more text words more stand next bytes rest piece so at added after =
    let step : Step = record { piece = piece; rest = rest } in
    let there = subst (λ s. IsPiece s (rest_after text so.steps) piece rest) (sym so.stand_is) (subst (λ b. IsPiece stand b piece rest) (sym so.rest_is) (piece_takes stand bytes piece rest at)) in
    record {
      steps = so.steps ++ step ∷ [];
      path = path_more Anything text so.steps step so.path there;
      rest_is = rest_more text so.steps step;
      stand_is = stand_more Anything so.steps step ∙ ap (λ s. after_piece s piece) so.stand_is ∙ sym after;
      words_are = added ∙ ap (λ w. w ++ with_token (place_between (length text) bytes rest) piece []) so.words_are
          ∙ ap (λ b. words_of (length text) text so.steps ++ with_token (place_between (length text) b rest) piece []) (sym so.rest_is) ∙ sym (words_more (length text) text so.steps step);
    }

-- nothing is left
pub read_all : (text : List ℕ) (words : List Word) → IsReadSo text words Anything [] → AreWordsOf text words
read_all text words so =
    let is : IsText text words = record { steps = so.steps; path = so.path; whole = so.rest_is; complete = so.stand_is; words_are = so.words_are } in
    record { spelled = is; only = λ others also. one_text text words others is also }

-- nothing begins at what is left
pub read_stuck : (text : List ℕ) (words : List Word) (stand : Stand) (bytes : List ℕ) (place : ℕ) → IsReadSo text words stand bytes → piece_at stand bytes ≡ None → (bytes ≡ [] → stand ≡ Anything → ⊥)
    → place ≡ length text - length bytes → IsBadAt text place
read_stuck text words stand bytes place so none unfinished place_is =
    let is : IsStuck text place = record {
      steps = so.steps;
      path = so.path;
      nothing = λ piece rest there. nothing piece rest (subst (λ s. IsPiece s bytes piece rest) so.stand_is (subst (λ b. IsPiece (stand_after Anything so.steps) b piece rest) so.rest_is there));
      unfinished = λ empty anything. unfinished (sym so.rest_is ∙ empty) (sym so.stand_is ∙ anything);
      place_is = place_is ∙ ap (λ b. length text - length b) (sym so.rest_is);
    } in
    record { stuck = is; no_words = λ others also. stuck_is_no_text text place others is also; only = λ other also. one_stuck text place other is also } where
      nothing : (piece : Piece) (rest : List ℕ) → IsPiece stand bytes piece rest → ⊥
      nothing piece rest is = let read : ◌≡◌ {A = Option (Piece × List ℕ)} None (Some (piece, rest)) = sym none ∙ piece_again stand bytes piece rest is in absurd (cc)

-- the work that is left: twice the bytes, and raw text may be empty
abbrev pub work : Stand → List ℕ → ℕ
work Anything bytes = 2 * length bytes
work TitleText bytes = suc (2 * length bytes)
work StyleText bytes = suc (2 * length bytes)
work ItsEnd bytes = 2 * length bytes

work_below : (stand : Stand) (bytes : List ℕ) → work stand bytes ≤ suc (2 * length bytes)
work_below Anything bytes = omega arith
work_below TitleText bytes = omega arith
work_below StyleText bytes = omega arith
work_below ItsEnd bytes = omega arith

tail_shorter : (attributes : List Attribute) (bytes : List ℕ) (slash : Bool) (rest : List ℕ) → IsTail bytes attributes slash rest → length rest < length bytes
tail_shorter [] bytes true rest is = omega (arith, maybe_white_shorter bytes (47 ∷ 62 ∷ rest) is)
tail_shorter [] bytes false rest is = omega (arith, maybe_white_shorter bytes (62 ∷ rest) is)
tail_shorter (a ∷ others) bytes slash rest is = omega (arith, attribute_shorter bytes a is.0 is.1, tail_shorter others is.0 slash rest is.2)

closing_shorter : (bytes name rest : List ℕ) → IsClosing bytes name rest → length rest < length bytes
closing_shorter bytes name rest is = omega (arith, ap length is.is_first, run_shorter is_tag_byte is.after name is.at_end is.named.run, maybe_white_shorter is.at_end (62 ∷ rest) is.white)

-- where anything may stand, each piece takes a byte
piece_shorter : (bytes : List ℕ) (piece : Piece) (rest : List ℕ) → IsPiece Anything bytes piece rest → length rest < length bytes
piece_shorter bytes between rest (inl is) = omega (arith, ap length is.spelled)
piece_shorter bytes between rest (inr is) = omega (arith, ap length is.spelled, length-append is.text (45 ∷ 45 ∷ 62 ∷ rest))
piece_shorter bytes (token doctype) rest is =
    omega (
      arith,
      ap length is.is_first,
      ap length is.doctype_word.spelled,
      length-append is.doctype_word.letters is.at_space,
      white_shorter is.at_space is.at_html is.space,
      ap length is.html_word.spelled,
      length-append is.html_word.letters is.at_end,
      maybe_white_shorter is.at_end (62 ∷ rest) is.white,
    )
piece_shorter bytes (token (opening name attributes slash)) rest is = omega (arith, ap length is.is_first, run_shorter is_tag_byte is.after name is.at_tail is.named.run, tail_shorter attributes is.at_tail slash rest is.tail)
piece_shorter bytes (token (closing name)) rest is = closing_shorter bytes name rest is
piece_shorter bytes (token (raw text)) rest is = elim is [ ]

-- each piece leaves less work
pub work_less : (stand : Stand) (bytes : List ℕ) (piece : Piece) (rest : List ℕ) → piece_at stand bytes ≡ Some (piece, rest) → work (after_piece stand piece) rest < work stand bytes
work_less stand bytes piece rest at = less stand piece (piece_takes stand bytes piece rest at) where
  less : (s : Stand) (p : Piece) → IsPiece s bytes p rest → work (after_piece s p) rest < work s bytes
  less Anything p is = omega (arith, work_below (after_piece Anything p) rest, piece_shorter bytes p rest is)
  less TitleText between is = elim is [ ]
  less TitleText (token doctype) is = elim is [ ]
  less TitleText (token (opening name attributes slash)) is = elim is [ ]
  less TitleText (token (closing name)) is = elim is [ ]
  less TitleText (token (raw text)) is = omega (arith, run_shorter is_raw_byte bytes text rest is.raw.run)
  less StyleText between is = elim is [ ]
  less StyleText (token doctype) is = elim is [ ]
  less StyleText (token (opening name attributes slash)) is = elim is [ ]
  less StyleText (token (closing name)) is = elim is [ ]
  less StyleText (token (raw text)) is = omega (arith, run_shorter is_raw_byte bytes text rest is.run)
  less ItsEnd between is = elim is [ ]
  less ItsEnd (token doctype) is = elim is [ ]
  less ItsEnd (token (opening name attributes slash)) is = elim is [ ]
  less ItsEnd (token (closing name)) is = omega (arith, closing_shorter bytes name rest is)
  less ItsEnd (token (raw text)) is = elim is [ ]

-- a text is empty where its length is 0, and not both
pub empty_text : (bytes : List ℕ) (b : Bool) → b ≡ (length bytes == 0) → MatchBool b ((bytes ≡ []) × (◌≡◌ {A = Stand} Anything Anything)) (bytes ≡ [] → ◌≡◌ {A = Stand} Anything Anything → ⊥)
empty_text [] b e = rw e (refl, refl)
empty_text (x ∷ xs) b e =
    let some : (length (x ∷ xs) == 0) ≡ false = grind (arith, nat_tests) in
    rw (e, some) (λ no _. absurd (cc))
