-- A tracker sees a cell's tints frame by frame, and tells its flags window by window.
use Rattle.std.proofs.Common.{◌≡◌, ◌∙◌, ℕ, ◌+◌, ◌-◌, ◌*◌, ◌<◌, ◌≤◌, List, [], ◌∷◌, ◌++◌, length, drop, slice_get, Some, ap, arith, inl, inr, refl, subst, sym, length-append, length-drop}
use Rattle.std.proofs.lemmas.Bool.{cases_lt}
use Rattle.std.proofs.lemmas.Nat.{mul-add-lt}
use Rattle.std.proofs.lemmas.Option.{slice_get_within}
use Rattle.page_model.specs.declared.colour.Tint.{Tint}
use Rattle.flash_count.specs.declared.tracking.Flag.{Flag}
use Rattle.flash_count.specs.Tracked.{Tells, Tracked, pushed, untracked}
use Rattle.flash_count.proofs.TrackedLemmas.{tracked_after-none, tracked_after-push}
use Rattle.cell_tints.proofs.ListLemmas.{slice_get-back, slice_get-drop, slice_get-front}
use Rattle.cell_flags.specs.Flags.{AddsFlags, AreFlagsBefore, IsFlagAt, IsTracking}

-- a cell's tint in a frame is one of those that stand in the list
pub tint-inside : (frame frames cells cell count : ℕ) → frame < frames → cell < cells → cells * frames ≤ count → frame * cells + cell < count
tint-inside frame frames cells cell count before known all = omega (arith, mul-add-lt frame cells cell frames before known)

pub tracking-none : (tints : List Tint) (cells cell rate : ℕ) (tracker : Tracked) → tracker ≡ untracked rate → IsTracking tints cells cell rate 0 tracker
tracking-none tints cells cell rate tracker is = record {
  seen = [];
  count = refl;
  is = is ∙ tracked_after-none rate;
  each = λ frame tint e. absurd (cc);
}

pub tracking-more : (tints : List Tint) (cells cell rate frames : ℕ) (old new : Tracked) (tint : Tint) → IsTracking tints cells cell rate frames old
    → new ≡ pushed tint old → slice_get tints (frames * cells + cell) ≡ Some tint → IsTracking tints cells cell rate (frames + 1) new
tracking-more tints cells cell rate frames old new tint tracking is next = record {
  seen = tracking.seen ++ tint ∷ [];
  count = omega (arith, length-append tracking.seen (tint ∷ []), tracking.count);
  is = is ∙ ap (pushed tint) tracking.is ∙ tracked_after-push rate tracking.seen tint;
  each = λ frame other e.
      elim (cases_lt frame (length tracking.seen)) [
        | inl before ↦ tracking.each frame other (sym (slice_get-front tracking.seen (tint ∷ []) frame before) ∙ e)
        | inr after ↦
            let inside : frame < length (tracking.seen ++ tint ∷ []) = slice_get_within (tracking.seen ++ tint ∷ []) frame other e in
            let last : frame ≡ length tracking.seen + 0 = omega (arith, length-append tracking.seen (tint ∷ []), inside) in
            let here : slice_get (tint ∷ []) 0 ≡ Some other =
            sym (slice_get-back tracking.seen (tint ∷ []) 0) ∙ ap (λ k. slice_get (tracking.seen ++ tint ∷ []) k) (sym last) ∙ e in
            let at : 0 + frame ≡ frames = omega (arith, tracking.count, last) in
            ap (λ k. slice_get tints (k * cells + cell)) at ∙ next ∙ here
      ];
}

pub flag-at : (tints : List Tint) (cells cell rate start : ℕ) (tracker : Tracked) (flag : Flag)
    → IsTracking tints cells cell rate (start + rate + 1) tracker → Tells tracker.recent flag → IsFlagAt tints cells cell rate start flag
flag-at tints cells cell rate start tracker flag tracking tells =
    let first : length tracking.seen - (rate + 1) ≡ start = omega (arith, tracking.count) in
    let recent : tracker.recent ≡ drop start tracking.seen =
    ap (λ (t : Tracked). t.recent) tracking.is ∙ ap (λ n. drop n tracking.seen) first in record {
      seen = drop start tracking.seen;
      whole = length-drop start tracking.seen ∙ omega (arith, tracking.count);
      each = λ k tint e.
          let place : start + k ≡ 0 + (start + k) = omega arith in
          ap (λ n. slice_get tints (n * cells + cell)) place
          ∙ tracking.each (start + k) tint (sym (slice_get-drop start tracking.seen k) ∙ e);
      tells = subst (λ (ts : List Tint). Tells ts flag) recent tells;
    }

-- flags of one cell, one by one
pub adds-none : (tints : List Tint) (cells cell rate : ℕ) (flags : List Flag) → AddsFlags tints cells cell rate 0 flags flags
adds-none tints cells cell rate flags = record {
  more = omega arith;
  kept = λ k within. refl;
  each = λ start flag before e. absurd (omega arith);
}

pub adds-more : (tints : List Tint) (cells cell rate windows : ℕ) (old middle new : List Flag) (flag : Flag)
    → AddsFlags tints cells cell rate windows old middle → new ≡ middle ++ flag ∷ [] → IsFlagAt tints cells cell rate windows flag
    → AddsFlags tints cells cell rate (windows + 1) old new
adds-more tints cells cell rate windows old middle new flag adds is at =
    let long : length new ≡ length old + (windows + 1) =
    ap length is ∙ omega (arith, length-append middle (flag ∷ []), adds.more) in record {
      more = long;
      kept = λ k within. ap (λ (fs : List Flag). slice_get fs k) is
          ∙ slice_get-front middle (flag ∷ []) k (omega (arith, adds.more)) ∙ adds.kept k within;
      each = λ start other before e.
          let e' : slice_get (middle ++ flag ∷ []) (length old + start) ≡ Some other =
          sym (ap (λ (fs : List Flag). slice_get fs (length old + start)) is) ∙ e in
          elim (cases_lt start windows) [
            | inl earlier ↦ adds.each start other earlier
                (sym (slice_get-front middle (flag ∷ []) (length old + start) (omega (arith, adds.more))) ∙ e')
            | inr later ↦
                let last : windows ≡ start = omega arith in
                let place : length middle + 0 ≡ length old + start = omega (arith, adds.more) in
                let here : slice_get (flag ∷ []) 0 ≡ Some other =
                sym (slice_get-back middle (flag ∷ []) 0) ∙ ap (λ k. slice_get (middle ++ flag ∷ []) k) place ∙ e' in
                let same : flag ≡ other = cc in
                subst (λ (f : Flag). IsFlagAt tints cells cell rate start f) same
                (subst (λ k. IsFlagAt tints cells cell rate k flag) last at)
          ];
    }

-- flags of cells, cell by cell
pub flags-none : (tints : List Tint) (cells rate windows : ℕ) → AreFlagsBefore tints cells rate windows 0 []
flags-none tints cells rate windows = record {
  all = omega arith;
  each = λ cell start flag before inside e. absurd (omega arith);
}

earlier-below : (cell cells windows start : ℕ) → cell < cells → start < windows → cell * windows + start < cells * windows
earlier-below cell cells windows start before inside = omega (arith, mul-add-lt cell windows start cells before inside)

pub flags-more : (tints : List Tint) (cells rate windows cell : ℕ) (old new : List Flag) → AreFlagsBefore tints cells rate windows cell old
    → AddsFlags tints cells cell rate windows old new → AreFlagsBefore tints cells rate windows (cell + 1) new
flags-more tints cells rate windows cell old new are adds = record {
  all = omega (arith, adds.more, are.all);
  each = λ other start flag before inside e.
      elim (cases_lt other cell) [
        | inl earlier ↦ are.each other start flag earlier inside
            (sym (adds.kept (other * windows + start) (omega (arith, are.all, earlier-below other cell windows start earlier inside))) ∙ e)
        | inr later ↦
            let last : cell ≡ other = omega arith in
            let place : length old + start ≡ other * windows + start = ap (λ n. n + start) (are.all ∙ ap (λ n. n * windows) last) in
            subst (λ n. IsFlagAt tints cells n rate start flag) last (adds.each start flag inside (ap (λ k. slice_get new k) place ∙ e))
      ];
}
