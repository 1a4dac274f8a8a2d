-- The row with the words of the next frame, and its flag.
use Rattle.std.proofs.Common.{ℕ, ◌≡◌, ◌∙◌, ◌+◌, ◌*◌, ◌%◌, ◌<◌, ◌≤◌, ◌⊎◌, List, [], ◌∷◌, ◌++◌, ap, get_or, length, length-append, subst, sym}
use Rattle.page_model.specs.declared.colour.Tint.{Tint}
use Rattle.std.proofs.Math.Nat.{mod-lt}
use Rattle.std.proofs.Common.{arith}
use Rattle.flash_rows.proofs.RowLemmas.{row-pushed}
use Rattle.flash_rows.specs.Rows.{byte}
use Rattle.flash_count.proofs.FlagLemmas.{flag-possible, flag-sure}
use Rattle.flash_count.proofs.rows.row_push.Goals as goal

pub returns-clause-stands : goal.returns-clause-stands
returns-clause-stands c tints count stands =
    let rate : ℕ = c.args.rate in
    let turn : ℕ = c.args.turn in
    let words : List ℕ = c.next_words-next.result.words in
    let slot : turn % rate < rate = mod-lt turn (omega (arith, c.requires.some)) in
    let there : (i : ℕ) → i < 9 → get_or c.put.new.row (9 * (turn % rate) + i) 0 ≡ get_or words i 0 =
    subst (λ w. (i : ℕ) → i < 9 → get_or c.put.new.row (9 * (turn % w) + i) 0 ≡ get_or words i 0) c.from.ensures c.put.ensures.there in
    let others : (i : ℕ) → (i < 9 * (turn % rate)) ⊎ (9 * (turn % rate) + 9 ≤ i) → get_or c.put.new.row i 0 ≡ get_or c.args.row.now i 0 =
    subst (λ w. (i : ℕ) → (i < 9 * (turn % w)) ⊎ (9 * (turn % w) + 9 ≤ i) → get_or c.put.new.row i 0 ≡ get_or c.args.row.now i 0)
    c.from.ensures c.put.ensures.others in
    row-pushed rate turn tints c.args.tint c.args.row.now c.put_last.new.row words c.next_words-next.result.bounds c.next_words-next.result.ended c.requires.some
    (sym count) stands (c.next_words-next.ensures.words tints count stands) (c.next_words-next.ensures.bounds tints count stands)
    (c.put_last.ensures.long ∙ c.put.ensures.long)
    (λ i few. c.put_last.ensures.others (9 * (turn % rate) + i) (omega arith) ∙ there i few)
    (λ i inside apart. c.put_last.ensures.others i inside ∙ others i apart) c.put_last.ensures.bounds
    (c.next_words-next.ensures.ended tints count stands)
    (ap (λ w. byte w 0) c.put_last.ensures.ended ∙ c.ended_word.ensures.possible)
    (ap (λ w. byte w 1) c.put_last.ensures.ended ∙ c.ended_word.ensures.sure)

pub returns-clause-flag : goal.returns-clause-flag
returns-clause-flag c tints count stands =
    let all : List Tint = tints ++ c.args.tint ∷ [] in
    let tells = c.next_words-next.ensures.ended tints count stands in
    let long : length all ≡ c.args.turn + 1 = length-append tints (c.args.tint ∷ []) ∙ ap (λ n. n + 1) count in
    let possible = flag-possible all c.args.rate c.args.turn _ long tells.possible in
    let sure = flag-sure all c.args.rate c.args.turn _ long tells.sure in record {
      possible = (λ yes. possible.0 (c.flag_by.ensures.possible.0 yes), λ has. c.flag_by.ensures.possible.1 (possible.1 has));
      sure = (λ yes. sure.0 (c.flag_by.ensures.sure.0 yes), λ has. c.flag_by.ensures.sure.1 (sure.1 has));
    }
