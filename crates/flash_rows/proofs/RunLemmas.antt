-- Of how many frames up to one, which follow one another, its tint is the tint.
use Rattle.std.proofs.Common.{ℕ, zero, suc, ◌≡◌, ◌∙◌, ◌+◌, ◌-◌, ◌<◌, List, [], ◌∷◌, ◌++◌, length, slice_get, Some, arith, sym, ap}
use Rattle.std.specs.Prelude.{min}
use Rattle.page_model.specs.declared.colour.Tint.{Tint}
use Rattle.flash_rows.specs.Rows.{HasRun}
use Rattle.flash_rows.proofs.ListLemmas.{slice_get-front}
use Rattle.flash_rows.proofs.RowLemmas.{last-is}

-- it is that of the frame alone
pub run-alone : (tints : List Tint) (frame : ℕ) → HasRun tints frame 1
run-alone tints frame = record {
  some = omega arith;
  inside = omega arith;
  alike = λ back few. let same : frame - back ≡ frame = omega arith in ap (slice_get tints) same;
}

-- and of one more where the frame before has it, up to a limit
pub run-more : (rate turn : ℕ) (tints : List Tint) (tint : Tint) (before run : ℕ) → length tints ≡ turn → 0 < turn
    → slice_get tints (turn - 1) ≡ Some tint → HasRun tints (turn - 1) before → run ≡ min (before + 1) (rate + 1)
    → HasRun (tints ++ tint ∷ []) turn run
run-more rate turn tints tint before run count later last has is = record {
  some = omega (arith, is);
  inside = omega (arith, is, has.inside);
  alike = alike;
} where
  alike : (back : ℕ) → back < run → slice_get (tints ++ tint ∷ []) (turn - back) ≡ slice_get (tints ++ tint ∷ []) turn
  alike zero few = let same : turn - 0 ≡ turn = omega arith in ap (slice_get (tints ++ tint ∷ [])) same
  alike (suc back) few =
      let at : turn - suc back ≡ turn - 1 - back = omega arith in
      slice_get-front tints (tint ∷ []) (turn - suc back) (omega (arith, count)) ∙ ap (slice_get tints) at
      ∙ has.alike back (omega (arith, is)) ∙ last ∙ sym (last-is tints tint turn count)
