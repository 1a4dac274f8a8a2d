-- The next frame, by the latest starts.
use Rattle.std.proofs.Common.{ℕ, ◌+◌, ◌*◌, [], ◌∷◌, ◌++◌, get_or, false, true, arith, ap, refl, subst, sym}
use Rattle.tint_changes.specs.declared.changes.Change.{Change}
use Rattle.tint_changes.specs.declared.changes.Change.TheVariants.{PossibleRise, PossibleFall, SureRise, SureFall, PossiblyIntoRed, PossiblyOutOfRed, SurelyIntoRed, SurelyOutOfRed}
use Rattle.flash_rows.specs.declared.bounds.Bounds.{Bounds}
use Rattle.flash_rows.specs.declared.ended.Ended.{Ended}
use Rattle.flash_rows.specs.Bounds.{AreWithin}
use Rattle.flash_rows.specs.Pushing.{latest_of}
use Rattle.flash_rows.proofs.BoundLemmas.{within-before, within-more}
use Rattle.flash_rows.proofs.RowLemmas.{ended-known, ended-more, last-is, possible-sort, starts-tell, sure-sort}
use Rattle.flash_rows.proofs.next.looked_up.Goals as goal

pub returns-clause-words : goal.returns-clause-words
returns-clause-words c tints count stands =
    starts-tell c.args.rate c.args.turn (tints ++ c.args.next.now.tint ∷ []) c.args.next.now.tint c.args.run c.latest_starts-latest.result
    c.words_of.result (last-is tints c.args.next.now.tint c.args.turn count) (c.requires.run tints count stands) c.words_of.ensures
    (λ change. c.latest_starts-latest.ensures.starts change tints count stands)

pub returns-clause-bounds : goal.returns-clause-bounds
returns-clause-bounds c tints count stands =
    subst (λ (b : Bounds). AreWithin c.args.rate (tints ++ c.args.next.now.tint ∷ []) b) (sym c.bounds_with.ensures)
    (within-more c.args.rate tints c.args.next.now.tint c.bounds_of.result c.args.next.now refl c.requires.known
    (subst (λ (b : Bounds). AreWithin c.args.rate tints b) (sym c.bounds_of.ensures)
    (within-before c.args.rate c.args.turn tints c.args.row.now count stands)))

pub returns-clause-ended : goal.returns-clause-ended
returns-clause-ended c tints count stands =
    let rate : ℕ = c.args.rate in
    let turn : ℕ = c.args.turn in
    let before : Ended = c.ended_before.result in
    let are = λ (change : Change). c.latest_starts-latest.ensures.starts change tints count stands 7 (omega arith) in
    let ended = ended-known rate turn tints (get_or c.args.row.now (9 * rate + 3) 0) before count c.ended_before.ensures stands.ended in
    let last = λ (change : Change). get_or (latest_of change c.latest_starts-latest.result) 7 0 in record {
      possible = ended-more rate turn false tints c.args.next.now.tint before.possible (last PossibleRise) (last PossibleFall)
          (last PossiblyIntoRed) (last PossiblyOutOfRed) _ PossibleRise PossiblyIntoRed possible-sort (sym count)
          (ap (λ (e : Ended). e.possible) c.ended_at.ensures) ended.possible (are PossibleRise) (are PossibleFall) (are PossiblyIntoRed)
          (are PossiblyOutOfRed);
      sure = ended-more rate turn true tints c.args.next.now.tint before.sure (last SureRise) (last SureFall) (last SurelyIntoRed)
          (last SurelyOutOfRed) _ SureRise SurelyIntoRed sure-sort (sym count) (ap (λ (e : Ended). e.sure) c.ended_at.ensures) ended.sure
          (are SureRise) (are SureFall) (are SurelyIntoRed) (are SurelyOutOfRed);
    }
