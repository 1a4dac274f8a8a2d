use Rattle.std.proofs.Common.{◌≡◌, List, [], ℕ, map, Option, Some, None, sym, ap, ◌∙◌, subst, refl}
use Rattle.std.specs.Option.{option_map}
use Rattle.page_tokens.specs.HtmlPieces.{Piece}
use Rattle.page_tokens.specs.HtmlReading.{piece_at}
use Rattle.page_tokens.specs.HtmlShown.{shown_word, shown_piece, piece_now}
use Rattle.page_tokens.specs.HtmlText.{AreWordsOf}
use Rattle.page_tokens.specs.declared.html_stand.Stand.TheVariants.{Anything}
use Rattle.page_tokens.proofs.HtmlTextLemmas.{IsReadSo, read_more, read_all, read_stuck, work_less}
use Rattle.page_tokens.proofs.html_scan.scan_words.Goals as goal

-- no piece begins, and the text isn't complete
pub returns-in_default-clause-err : goal.returns-in_default-clause-err
returns-in_default-clause-err c =
    read_stuck c.args.text.now (map shown_word c.reading.words.items) c.reading.stand c.reading.bytes.now c.place_before.result c.reading.invariant
    (sym c.in_ok-piece.ensures ∙ ap (option_map piece_now) c.in_default.is) c.reading-test.ensures c.place_before.ensures

-- a piece takes some of the text
pub reading-smaller : goal.reading-smaller
reading-smaller c =
    let at : piece_at c.reading.stand c.reading.bytes.now ≡ Some (shown_piece c.in-Some.piece, c.in-Some.rest.now) = sym c.in_ok-piece.ensures ∙ ap (option_map piece_now) c.in-Some.is in
    rw c.in_ok-stand.ensures.stand (work_less c.reading.stand c.reading.bytes.now (shown_piece c.in-Some.piece) c.in-Some.rest.now at)

-- it is read, and its token joins the others
pub reading-preserved : goal.reading-preserved
reading-preserved c =
    let at : piece_at c.reading.stand c.reading.bytes.now ≡ Some (shown_piece c.in-Some.piece, c.in-Some.rest.now) = sym c.in_ok-piece.ensures ∙ ap (option_map piece_now) c.in-Some.is in
    let added = rw (c.place_before-from.ensures, c.place_before-to.ensures) at c.in_ok-stand.ensures.words in
    read_more c.args.text.now (map shown_word c.reading.words.items) (map shown_word c.put_piece.new.words.items) c.reading.stand c.in_ok-stand.stand c.reading.bytes.now c.in-Some.rest.now (shown_piece c.in-Some.piece)
    c.reading.invariant at added c.in_ok-stand.ensures.stand

-- the text is complete
pub returns-clause-ok : goal.returns-clause-ok
returns-clause-ok c =
    let words = map shown_word c.reading.words.items in
    let ended = subst (λ b. IsReadSo c.args.text.now words c.reading.stand b) c.reading-test.ensures.0 c.reading.invariant in
    read_all c.args.text.now words (subst (λ s. IsReadSo c.args.text.now words s []) c.reading-test.ensures.1 ended)
