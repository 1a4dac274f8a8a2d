-- Where the tint stays, the row has the bounds and the starts of chains that ended.
use Rattle.std.proofs.Common.{ℕ, ◌∙◌, ◌+◌, ◌-◌, ap, arith, false, true, subst, sym, Some, [], ◌∷◌, ◌++◌}
use Rattle.page_model.specs.declared.colour.Tint.{Tint}
use Rattle.flash_rows.specs.declared.bounds.Bounds.{Bounds}
use Rattle.flash_rows.specs.Bounds.{AreWithin}
use Rattle.flash_rows.specs.Pushing.{BoundsAfter}
use Rattle.flash_rows.proofs.BoundLemmas.{within-kept}
use Rattle.flash_rows.proofs.RowLemmas.{ended-known}
use Rattle.std.proofs.Common.{get_or, ◌*◌}
use Rattle.flash_rows.proofs.StillLemmas.{StaysAt, ended-kept}
use Rattle.flash_rows.proofs.next.next_words.Goals as goal

pub returns-then-is_still-clause-bounds : goal.returns-then-is_still-clause-bounds
returns-then-is_still-clause-bounds c tints count stands =
    let still = c.is_still.ensures.0 c.if-is_still.true in
    let last = (stands.tells (c.args.turn - 1) (omega (arith, still.some)) (omega (arith, still.some, c.requires.some))).tint in
    subst (λ (b : Bounds). AreWithin c.args.rate (tints ++ c.args.tint ∷ []) b) (sym c.bounds_in.ensures)
    (within-kept c.args.rate c.args.turn tints c.args.tint _ c.requires.some still.some count (last ∙ ap Some still.before) stands.within)

pub returns-then-is_still-clause-ended : goal.returns-then-is_still-clause-ended
returns-then-is_still-clause-ended c tints count stands =
    let rate : ℕ = c.args.rate in
    let turn : ℕ = c.args.turn in
    let still = c.is_still.ensures.0 c.if-is_still.true in
    let last = (stands.tells (turn - 1) (omega (arith, still.some)) (omega (arith, still.some, c.requires.some))).tint in
    let stays : StaysAt tints c.args.tint (turn - 1) turn = record {
      next = omega (arith, still.some);
      count = count;
      before = last ∙ ap Some still.before;
      never = still.never;
    } in
    let ended = ended-known rate turn tints (get_or c.args.row.now (9 * rate + 3) 0) c.ended_before.result count c.ended_before.ensures
    stands.ended in record {
      possible = ended-kept rate (turn - 1) turn false tints c.args.tint _ stays ended.possible;
      sure = ended-kept rate (turn - 1) turn true tints c.args.tint _ stays ended.sure;
    }

pub returns-clause-bounds : goal.returns-clause-bounds
returns-clause-bounds c =
    subst (λ (t : Tint). BoundsAfter c.args.rate c.args.row.now c.args.turn t c.looked_up.result.bounds) c.next_tint.ensures.tint
    c.looked_up.ensures.bounds
