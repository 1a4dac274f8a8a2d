-- A page has some thousand bytes.
use Rattle.std.proofs.Common.{◌≡◌, ℕ, zero, suc, ◌+◌, ◌*◌, ◌/◌, ◌%◌, ◌^◌, ◌<◌, ◌≤◌, ◌++◌, List, codes, decimal, length, length-append, arith}
use Rattle.std.proofs.lemmas.Fmt.{length-decimal-le}
use Rattle.page_gen.specs.GeneratedPage.{animation_of, box_text, boxes_text, drawn_for, generated_page, head_text, height_of, left_of, tail_text, top_of, width_of}

joined : (a b : List ℕ) (m n : ℕ) → length a ≤ m → length b ≤ n → length (a ++ b) ≤ m + n
joined a b m n few also = omega (arith, length-append a b)

numeral : (n : ℕ) → n < 10000 → length (decimal n) ≤ 4
numeral n small = length-decimal-le 4 n (omega arith) small (omega arith)

box_short : (box drawn : ℕ) → box < 64 → length (box_text box drawn) ≤ 100
box_short box drawn small =
    joined (codes "<div class=\"b s") _ 15 85 (omega arith)
    (joined (decimal (animation_of drawn)) _ 4 81 (numeral (animation_of drawn) (omega arith))
    (joined (codes "\" style=\"left:") _ 14 67 (omega arith)
    (joined (decimal (left_of box)) _ 4 63 (numeral (left_of box) (omega arith))
    (joined (codes "px;top:") _ 7 56 (omega arith)
    (joined (decimal (top_of box)) _ 4 52 (numeral (top_of box) (omega arith))
    (joined (codes "px;width:") _ 9 43 (omega arith)
    (joined (decimal (width_of drawn)) _ 4 39 (numeral (width_of drawn) (omega arith))
    (joined (codes "px;height:") _ 10 29 (omega arith)
    (joined (decimal (height_of drawn)) (codes "px\"></div>") 4 25 (numeral (height_of drawn) (omega arith)) (omega arith))))))))))

boxes_short : (first count : ℕ) → count ≤ 64 → length (boxes_text first count) ≤ 100 * count
unfolding boxes_text
boxes_short first zero few = omega arith
boxes_short first (suc count) few =
    let before = boxes_short first count (omega arith) in
    let one = box_short count (drawn_for first count) (omega arith) in
    omega (arith, before, one, length-append (boxes_text first count) (box_text count (drawn_for first count)))

pub page_short : (first : ℕ) (text : List ℕ) → text ≡ generated_page first → length text ≤ 1048576
page_short first text is =
    let whole : length (generated_page first) ≤ 600 + (6400 + 100) =
    joined head_text (boxes_text first 64 ++ tail_text) 600 (6400 + 100) (omega arith)
    (joined (boxes_text first 64) tail_text 6400 100 (boxes_short first 64 (omega arith)) (omega arith)) in
    rw is (omega (arith, whole))
