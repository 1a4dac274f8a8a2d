-- It can't be that there are no states in the frames below a number.
use Rattle.std.proofs.Common.{◌≡◌, zero, suc, ℕ, true, false, if◌then◌else◌, arith, inl, inr}
use Rattle.std.specs.Prelude.{nat_lt}
use Rattle.std.proofs.lemmas.Bool.{cases_lt, lt-ltb, le-ltb}
use Rattle.page_model.specs.Enclosure.{LooseRun}
use Rattle.wide_laws.proofs.LooseLemmas.{loose_run-met}
use Rattle.cell_laws.specs.CellLaws.{RunsExistBelow}

-- one run before a frame, and another from it on
abbrev joined : ℕ → LooseRun → LooseRun → LooseRun
joined frames run next frame number = if nat_lt frame frames then run frame number else next frame number

pub runs-met : RunsExistBelow
runs-met kind scene setup zero none =
    loose_run-met kind scene setup 0 (λ run is. none run (λ frame number layer less there. absurd (omega arith)))
runs-met kind scene setup (suc frames) none =
    runs-met kind scene setup frames (λ run is.
    loose_run-met kind scene setup frames (λ next next_is.
    none (joined frames run next) (λ frame number layer less there.
    elim (cases_lt frame frames) [
      | inl before ↦ let t : nat_lt frame frames ≡ true = lt-ltb frame frames before in rw t (is frame number layer before there)
      | inr after ↦
          let f : nat_lt frame frames ≡ false = le-ltb frame frames after in
          rw f (next_is frame number layer after (omega arith) there)
    ])))
