-- Some of some animations need no more frames than all of them.
use Rattle.std.proofs.Common.{ℕ, suc, ◌≡◌, ◌≤◌, Bool, true, false, List, [], ◌∷◌, arith, inl, inr, refl}
use Rattle.std.specs.Prelude.{All, Some, filter, slice_get}
use Rattle.std.specs.List.{items_where_true}
use Rattle.std.proofs.lemmas.Bool.{cases_Bool}
use Rattle.std.proofs.lemmas.List.Elements.{All-append, All-cons, All-head, All-nil, All-tail}
use Rattle.page_model.specs.declared.animation.Anim.{Anim}
use Rattle.page_model.specs.declared.scene.Layer.{Layer}
use Rattle.page_model.specs.declared.setup.Setup.{Setup}
use Rattle.page_model.specs.Horizon.{IsNeeded, animations_of, is_endless}
use Rattle.horizon_laws.proofs.PeriodLemmas.{Whole}
use Rattle.period_frames.proofs.SingleLemmas.{Settled}

-- what holds of the items that pass a test, holds of each if it passes
of_kept : {X : Type 0} (P : X → Type 0) (test : X → Bool) (xs : List X) → All P (filter test xs)
    → All (λ (x : X). test x ≡ true → P x) xs
of_kept P test [] all = All-nil (λ x. test x ≡ true → P x)
of_kept P test (x ∷ xs) all =
    elim (cases_Bool (test x)) [
      | inl passes ↦
          let here : All P (x ∷ filter test xs) = rw passes at all in
          All-cons (λ y. test y ≡ true → P y) x xs (λ e. All-head P x (filter test xs) here)
          (of_kept P test xs (All-tail P x (filter test xs) here))
      | inr fails ↦
          let rest : All P (filter test xs) = rw fails at all in
          All-cons (λ y. test y ≡ true → P y) x xs (λ e. absurd (cc)) (of_kept P test xs rest)
    ]

to_kept : {X : Type 0} (P : X → Type 0) (test : X → Bool) (xs : List X) → All (λ (x : X). test x ≡ true → P x) xs
    → All P (filter test xs)
to_kept P test [] all = All-nil P
to_kept P test (x ∷ xs) all =
    let rest = to_kept P test xs (All-tail (λ y. test y ≡ true → P y) x xs all) in
    elim (cases_Bool (test x)) [
      | inl passes ↦ rw passes (All-cons P x (filter test xs) (All-head (λ y. test y ≡ true → P y) x xs all passes) rest)
      | inr fails ↦ rw fails rest
    ]

-- what holds of all of more animations holds of all of these, whatever it is
pub needed-fewer : (setup : Setup) (some more : List Anim) (one other : ℕ) → ((P : Anim → Type 0) → All P more → All P some)
    → IsNeeded setup some one → IsNeeded setup more other → one ≤ other
needed-fewer setup some more one other are first second =
    let settled = first.horizon.settled_is.least second.settled
    (are (Settled setup second.settled) second.horizon.settled_is.holds) in
    let period = first.horizon.period_is.least second.period (record {
      some = second.horizon.period_is.holds.some;
      whole = to_kept (Whole setup second.period) is_endless some
          (are (λ anim. is_endless anim ≡ true → Whole setup second.period anim)
          (of_kept (Whole setup second.period) is_endless more second.horizon.period_is.holds.whole));
    }) in
    let sum = first.needed_is in
    let sums = second.needed_is in
    omega arith

-- what holds of the animations of each marked layer holds of all of them
pub to_marked : (P : Anim → Type 0) (marks : List Bool) (layers : List Layer)
    → ((number : ℕ) (layer : Layer) → slice_get marks number ≡ Some true → slice_get layers number ≡ Some layer → All P layer.anims)
    → All P (animations_of (items_where_true marks layers))
to_marked P [] layers each = All-nil P
to_marked P (mark ∷ marks) [] each = All-nil P
to_marked P (true ∷ marks) (first ∷ rest) each =
    All-append P first.anims (animations_of (items_where_true marks rest)) (each 0 first refl refl)
    (to_marked P marks rest (λ number layer marked there. each (suc number) layer marked there))
to_marked P (false ∷ marks) (first ∷ rest) each = to_marked P marks rest (λ number layer marked there. each (suc number) layer marked there)
