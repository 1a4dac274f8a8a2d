-- The row stands for one tint more, and is the only one that is another.
use Rattle.std.proofs.Common.{rules, ℕ, ◌≡◌, ◌+◌, [], ◌∷◌, ◌++◌, List, length, subst}
use Rattle.page_model.specs.declared.colour.Tint.{Tint}
use Rattle.flash_count.specs.Rows.{StandsFor}
use Rattle.flash_count.specs.Tracked.{Tells, last_of}
use Rattle.cell_rows.proofs.pushing.push.Goals as goal

pub returns : goal.returns
returns c =
    let rate : ℕ = c.args.rate in
    let turn : ℕ = c.args.turn in
    let new : List ℕ = c.row_push.new.row in (
      new,
      record {
        long = search rules;
        stands = subst
            (λ (row : List ℕ). (tints : List Tint) → length tints ≡ turn → StandsFor rate tints row
            → StandsFor rate (tints ++ c.args.tint ∷ []) new)
            c.row_mut.ensures.value c.row_push.ensures.stands;
        flag_is = subst
            (λ (row : List ℕ). (tints : List Tint) → length tints ≡ turn → StandsFor rate tints row
            → Tells (last_of (rate + 1) (tints ++ c.args.tint ∷ [])) c.row_push.result)
            c.row_mut.ensures.value c.row_push.ensures.flag;
      },
      search rules,
    )
