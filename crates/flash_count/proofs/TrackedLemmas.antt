-- A tracker looks back on the last of all pushed tints, however many were pushed.
use Rattle.std.proofs.Common.{ℕ, ◌≡◌, ◌+◌, ◌-◌, ◌%◌, ◌∙◌, List, [], ◌∷◌, ◌++◌, length, drop, get_or, ◌<◌, ap, arith, inl, inr, refl, sym, length-append, length-drop}
use Rattle.std.proofs.lemmas.Bool.{cases_lt}
use Rattle.std.proofs.lemmas.List.{drop-append-le, drop-drop, ext_get_or, get_or-set_other, length-set}
use Rattle.std.proofs.lemmas.Grind.{get_or-set_at}
use Rattle.std.proofs.Math.ListN.{set}
use Rattle.std.proofs.Math.Nat.{mod-lt}
use Rattle.std.proofs.lemmas.List.FromFn.{get_or-map-range_with_len, length-map-range_with_len}
use Rattle.std.proofs.lemmas.Option.{get_or_from_slice_get}
use Rattle.page_model.specs.declared.colour.Tint.{Tint}
use Rattle.std.specs.Prelude.{min, Some, slice_get}
use Rattle.flash_count.specs.Tracked.{HoldsLast, black, last_of, pushed, tint_at, tints_in, tracked_after, untracked}
use Rattle.flash_rows.proofs.ListLemmas.{slice_get-drop, slice_get-end, slice_get-front}
use Rattle.flash_rows.proofs.RowLemmas.{mod-apart}

-- the last of the last, with one item more, are the last of all with it
pub last_of-push : {C : Type 0} (most : ℕ) (items : List C) (item : C)
    → last_of most (last_of most items ++ item ∷ []) ≡ last_of most (items ++ item ∷ [])
last_of-push most items item =
    elim (cases_lt most (length items)) [
      | inl more ↦
          let over = length items - most in
          let held : length (drop over items) ≡ most = length-drop over items ∙ omega arith in
          let all : length (items ++ item ∷ []) - most ≡ over + 1 = omega (arith, length-append items (item ∷ [])) in
          let one : length (drop over items ++ item ∷ []) - most ≡ 1 = omega (arith, length-append (drop over items) (item ∷ []), held) in
          let split : drop over (items ++ item ∷ []) ≡ drop over items ++ item ∷ [] = drop-append-le over items (item ∷ []) (omega arith) in
          ap (λ n. drop n (drop over items ++ item ∷ [])) one ∙ ap (drop 1) (sym split)
          ∙ drop-drop 1 over (items ++ item ∷ []) ∙ ap (λ n. drop n (items ++ item ∷ [])) (sym all)
      | inr few ↦
          let none : length items - most ≡ 0 = omega arith in
          ap (λ n. last_of most (drop n items ++ item ∷ [])) none
    ]

-- a tracker before any push
pub tracked_after-none : (rate : ℕ) → untracked rate ≡ tracked_after rate []
tracked_after-none rate = let none : 0 - (rate + 1) ≡ 0 = omega arith in rw none refl

-- one push more
pub tracked_after-push : (rate : ℕ) (tints : List Tint) (tint : Tint)
    → pushed tint (tracked_after rate tints) ≡ tracked_after rate (tints ++ tint ∷ [])
tracked_after-push rate tints tint =
    rw (last_of-push (rate + 1) tints tint, length-append tints (tint ∷ [])) refl

-- a ring has the last tints of those that it holds
ring-at : (rate : ℕ) (tints ring : List Tint) (i : ℕ) (blank : Tint) → HoldsLast rate tints ring → i < min (length tints) (rate + 1)
    → get_or (tints_in rate (length tints) ring) i blank ≡ get_or (last_of (rate + 1) tints) i blank
ring-at rate tints ring i blank holds few =
    let held : ℕ = min (length tints) (rate + 1) in
    let gone : ℕ = length tints - (rate + 1) in
    let frame : ℕ = gone + i in
    let there : slice_get (last_of (rate + 1) tints) i ≡ Some (tint_at rate ring frame) =
    slice_get-drop gone tints i ∙ holds.each frame (omega arith) (omega arith) in
    get_or-map-range_with_len (tint_at rate ring) (length tints - held) held i frame blank few (omega arith)
    ∙ sym (get_or_from_slice_get (last_of (rate + 1) tints) i (tint_at rate ring frame) blank there)

pub tints_in-last : (rate count : ℕ) (tints ring : List Tint) (blank : Tint) → length tints ≡ count → HoldsLast rate tints ring
    → tints_in rate count ring ≡ last_of (rate + 1) tints
tints_in-last rate count tints ring blank are holds =
    let long : length (tints_in rate (length tints) ring) ≡ min (length tints) (rate + 1) =
    length-map-range_with_len (tint_at rate ring) (length tints - min (length tints) (rate + 1)) (min (length tints) (rate + 1)) in
    ap (λ n. tints_in rate n ring) (sym are)
    ∙ ext_get_or blank (tints_in rate (length tints) ring) (last_of (rate + 1) tints)
    (long ∙ omega (arith, length-drop (length tints - (rate + 1)) tints))
    (λ i within. ring-at rate tints ring i blank holds (omega (arith, long)))

-- the tint of the next frame takes the place of one that isn't held any more
pub ring-pushed : (rate turn place : ℕ) (tints ring : List Tint) (tint : Tint) → length tints ≡ turn → place ≡ turn % (rate + 1)
    → HoldsLast rate tints ring → HoldsLast rate (tints ++ tint ∷ []) (set ring place tint)
ring-pushed rate turn place tints ring tint count at_place holds = record {
  room = let same = length-set ring place tint in omega (arith, holds.room);
  each = λ frame inside near.
      let long : length (tints ++ tint ∷ []) ≡ length tints + 1 = length-append tints (tint ∷ []) in
      let slot : turn % (rate + 1) < rate + 1 = mod-lt turn (omega arith) in
      elim (cases_lt frame turn) [
        | inl early ↦
            let apart = mod-apart frame turn (rate + 1) early (omega (arith, count, long)) in
            slice_get-front tints (tint ∷ []) frame (omega (arith, count)) ∙ holds.each frame (omega (arith, count)) (omega (arith, count, long))
            ∙ ap Some (sym (get_or-set_other ring place (frame % (rate + 1)) tint black (λ same. apart (same ∙ at_place))))
        | inr late ↦
            let at : turn ≡ frame = omega (arith, count, long) in
            let slot_is : frame % (rate + 1) ≡ place = ap (λ n. n % (rate + 1)) (sym at) ∙ sym at_place in
            ap (λ k. slice_get (tints ++ tint ∷ []) k) (sym at ∙ sym count) ∙ slice_get-end tints tint
            ∙ ap Some (sym (get_or-set_at ring place (frame % (rate + 1)) tint black slot_is (omega (arith, at_place, holds.room))))
      ];
}

-- so a push adds a tint to the last ones
pub tints_in-pushed : (rate count : ℕ) (tints : List Tint) (tint : Tint) (old new : List Tint) → length tints ≡ count → HoldsLast rate tints old
    → HoldsLast rate (tints ++ tint ∷ []) new
    → tints_in rate (count + 1) new ≡ last_of (rate + 1) (tints_in rate count old ++ tint ∷ [])
tints_in-pushed rate count tints tint old new are before after =
    tints_in-last rate (count + 1) (tints ++ tint ∷ []) new tint (length-append tints (tint ∷ []) ∙ ap (λ n. n + 1) are) after
    ∙ sym (last_of-push (rate + 1) tints tint)
    ∙ ap (λ (ts : List Tint). last_of (rate + 1) (ts ++ tint ∷ [])) (sym (tints_in-last rate count tints old tint are before))
