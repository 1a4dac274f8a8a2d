-- Where the next tint is that of the frame before, and no change lies between the two, the same starts lead to both frames.
use Rattle.std.proofs.Common.{ℕ, zero, suc, ◌≡◌, ◌∙◌, ◌+◌, ◌*◌, ◌%◌, get_or, ◌<◌, ◌≤◌, Bool, List, [], ◌∷◌, ◌++◌, length, slice_get, Some, arith, inl, inr, subst, sym, ap}
use Rattle.std.specs.Prelude.{min}
use Rattle.std.proofs.lemmas.Bool.{cases_lt}
use Rattle.std.proofs.lemmas.Option.{slice_get_within}
use Rattle.page_model.specs.declared.colour.Tint.{Tint}
use Rattle.tint_changes.specs.declared.changes.Change.{Change}
use Rattle.tint_changes.specs.Counting.{Makes, MakesAt}
use Rattle.flash_rows.specs.Rows.{EndsBefore, EndsWith, TellsOf, byte, column_of, number_of, opposite_of, words_at}
use Rattle.flash_rows.specs.Starts.{IsLatest}
use Rattle.flash_rows.proofs.ListLemmas.{slice_get-end, slice_get-front}
use Rattle.flash_rows.proofs.RowLemmas.{before-grown, before-shrunk, change-grown, change-shrunk}
use Rattle.flash_rows.proofs.StartLemmas.{latest-later, latest-same, latest-self, leads-moved}

-- the next tint, the frame before and the frame
pub record StaysAt (tints : List Tint) (tint : Tint) (last turn : ℕ) : Type 0 where
  pub next : last + 1 ≡ turn
  pub count : length tints ≡ turn
  pub before : slice_get tints last ≡ Some tint
  pub never : (change : Change) → Makes change tint tint → ⊥

-- a change to the frame before is one to the frame
change-next : (change : Change) (tints : List Tint) (tint : Tint) (last turn middle : ℕ) → StaysAt tints tint last turn
    → MakesAt change tints middle last → MakesAt change (tints ++ tint ∷ []) middle turn
change-next change tints tint last turn middle stays made =
    let same : made.later ≡ tint = cc (stays.before, made.is_later) in
    record {
      earlier = made.earlier;
      later = tint;
      is_earlier = slice_get-front tints (tint ∷ []) middle (slice_get_within tints middle made.earlier made.is_earlier) ∙ made.is_earlier;
      is_later = ap (λ k. slice_get (tints ++ tint ∷ []) k) (sym stays.count) ∙ slice_get-end tints tint;
      changes = subst (λ (t : Tint). Makes change made.earlier t) same made.changes;
    }

-- and the other way round: it isn't from the frame before
change-last : (change : Change) (tints : List Tint) (tint : Tint) (last turn middle : ℕ) → StaysAt tints tint last turn → middle < turn
    → MakesAt change (tints ++ tint ∷ []) middle turn → (middle < last) × MakesAt change tints middle last
change-last change tints tint last turn middle stays before made =
    let end : slice_get (tints ++ tint ∷ []) turn ≡ Some tint =
    ap (λ k. slice_get (tints ++ tint ∷ []) k) (sym stays.count) ∙ slice_get-end tints tint in
    let same : made.later ≡ tint = cc (end, made.is_later) in
    let there : slice_get tints middle ≡ Some made.earlier =
    sym (slice_get-front tints (tint ∷ []) middle (omega (arith, stays.count))) ∙ made.is_earlier in
    let changes = subst (λ (t : Tint). Makes change made.earlier t) same made.changes in
    elim (cases_lt middle last) [
      | inl less ↦ (
        less,
        record { earlier = made.earlier; later = tint; is_earlier = there; is_later = stays.before; changes = changes },
      )
      | inr past ↦
          let at : middle ≡ last = omega (arith, stays.next) in
          let first : made.earlier ≡ tint = cc (stays.before, sym (ap (slice_get tints) at) ∙ there) in
          absurd (stays.never change (subst (λ (t : Tint). Makes change t tint) first changes))
    ]

ends-next : (change : Change) (tints : List Tint) (tint : Tint) (last turn n start : ℕ) → StaysAt tints tint last turn
    → EndsWith change tints (suc n) last start → EndsWith change (tints ++ tint ∷ []) (suc n) turn start
ends-next change tints tint last turn n start stays (middle, before, made, leads) = (
  middle,
  omega (arith, stays.next),
  change-next change tints tint last turn middle stays made,
  leads-moved (MakesAt (opposite_of change) tints) (MakesAt change tints) (MakesAt (opposite_of change) (tints ++ tint ∷ []))
      (MakesAt change (tints ++ tint ∷ [])) (λ k. k) n start middle 0 middle
      (λ j k low less within is. (less, change-grown (opposite_of change) tints tint j k is))
      (λ j k low less within is. (less, change-grown change tints tint j k is)) (omega arith) (omega arith) leads,
)

ends-last : (change : Change) (tints : List Tint) (tint : Tint) (last turn n start : ℕ) → StaysAt tints tint last turn
    → EndsWith change (tints ++ tint ∷ []) (suc n) turn start → EndsWith change tints (suc n) last start
ends-last change tints tint last turn n start stays (middle, before, made, leads) =
    let found = change-last change tints tint last turn middle stays before made in (
      middle,
      found.0,
      found.1,
      leads-moved (MakesAt (opposite_of change) (tints ++ tint ∷ [])) (MakesAt change (tints ++ tint ∷ [])) (MakesAt (opposite_of change) tints)
          (MakesAt change tints) (λ k. k) n start middle 0 middle
          (λ j k low less within is. (less, change-shrunk (opposite_of change) tints tint j k less (omega (arith, stays.count)) is))
          (λ j k low less within is. (less, change-shrunk change tints tint j k less (omega (arith, stays.count)) is)) (omega arith)
          (omega arith) leads,
    )

-- so each number is one more, up to its greatest
pub starts-kept : (rate last turn : ℕ) (tints : List Tint) (tint : Tint) (change : Change) (n before number : ℕ) → StaysAt tints tint last turn
    → number ≡ min (before + 1) (rate + 1) → IsLatest (EndsWith change tints (suc n) last) rate last before
    → IsLatest (EndsWith change (tints ++ tint ∷ []) (suc n) turn) rate turn number
starts-kept rate last turn tints tint change n before number stays is latest =
    latest-same (EndsWith change tints (suc n) last) (EndsWith change (tints ++ tint ∷ []) (suc n) turn) rate turn number
    (λ s ends. ends-next change tints tint last turn n s stays ends)
    (λ s ends near. (s, omega arith, ends-last change tints tint last turn n s stays ends))
    (subst (IsLatest (EndsWith change tints (suc n) last) rate turn) (sym is)
    (latest-later (EndsWith change tints (suc n) last) rate last turn 1 before latest stays.next))

pub ended-kept : (rate last turn : ℕ) (sure : Bool) (tints : List Tint) (tint : Tint) (number : ℕ) → StaysAt tints tint last turn
    → IsLatest (EndsBefore sure tints turn) rate turn number → IsLatest (EndsBefore sure (tints ++ tint ∷ []) (turn + 1)) rate turn number
ended-kept rate last turn sure tints tint number stays latest =
    latest-same (EndsBefore sure tints turn) (EndsBefore sure (tints ++ tint ∷ []) (turn + 1)) rate turn number
    (λ s ends.
    let grown = before-grown sure tints tint turn s ends in
    record { end = grown.end; change = grown.change; sort = grown.sort; before = omega (arith, grown.before); ends = grown.ends })
    (λ s ends near. (
      s,
      omega arith,
      elim (cases_lt ends.end turn) [
        | inl early ↦
            before-shrunk sure tints tint turn s (omega (arith, stays.count))
            (record { end = ends.end; change = ends.change; sort = ends.sort; before = early; ends = ends.ends })
        | inr late ↦
            let at : ends.end ≡ turn = omega (arith, ends.before) in
            let here = subst (λ e. EndsWith ends.change (tints ++ tint ∷ []) 8 e s) at ends.ends in
            record {
              end = last;
              change = ends.change;
              sort = ends.sort;
              before = omega (arith, stays.next);
              ends = ends-last ends.change tints tint last turn 7 s stays here;
            }
      ],
    )) latest

-- a word of the frame before, with each number one more, has the numbers of the next frame
pub word-kept : (rate last turn place : ℕ) (row : List ℕ) (tints : List Tint) (tint : Tint) (change : Change) (word : ℕ) → place ≡ last % rate
    → TellsOf rate tints last (words_at rate row last) → StaysAt tints tint last turn
    → ((i : ℕ) → i < 8 → byte word i ≡ min (byte (get_or row (9 * place + column_of change) 0) i + 1) (rate + 1)) → (n : ℕ) → n ≤ 8
    → IsLatest (EndsWith change (tints ++ tint ∷ []) n turn) rate turn (number_of word n)
word-kept rate last turn place row tints tint change word at tells stays is zero few = latest-self rate turn
word-kept rate last turn place row tints tint change word at tells stays is (suc n) few =
    starts-kept rate last turn tints tint change n (byte (words_at rate row last (column_of change)) n) (byte word n) stays
    (subst (λ p. byte word n ≡ min (byte (get_or row (9 * p + column_of change) 0) n + 1) (rate + 1)) at (is n (omega arith)))
    (tells.starts change (suc n) few)
