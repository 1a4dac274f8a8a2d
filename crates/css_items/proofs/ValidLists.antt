-- A list that is given has an item, and each of its items is good.
use Rattle.std.proofs.Common.{ℕ, zero, suc, Bool, false, not, ◌&&◌, ◌≡◌, ◌<◌, List, [], ◌∷◌, Result, Ok, Err, length, map, refl, ap, sym, subst, inl, inr, arith, All, get_or}
use Rattle.std.specs.List.{AllByRecursion}
use Rattle.std.proofs.lemmas.Bool.{cases_Bool}
use Rattle.css_words.specs.declared.fault.ValueFault.{ValueFault}
use Rattle.css_words.specs.declared.fault.ValueFault.TheVariants.{BadValue, OverLimit, NoMemory}
use Rattle.css_items.specs.Lists.{pieces, goes_in, before_first, with_item, gather, list_of}
use Rattle.css_items.specs.ValidItems.{AreItems}
use Rattle.css_words.specs.Words.{Word, is_comma}

all_cons : {A : Type 0} (P : A → Type 0) (x : A) (xs : List A) → P x → All P xs → (k : ℕ) (d : A) → k < suc (length xs) → P (get_or (x ∷ xs) k d)
all_cons P x xs first others zero d less = first
all_cons P x xs first others (suc k) d less = others k d (omega arith)

pub all_from : {A : Type 0} (P : A → Type 0) (xs : List A) → AllByRecursion P xs → All P xs
all_from P [] all = λ k d less. absurd (omega arith)
all_from P (x ∷ xs) all = all_cons P x xs all.0 (all_from P xs all.1)

-- a list with an item in front that was gathered
record Parts {A : Type 0} (item : Result A ValueFault) (others : Result (List A) ValueFault) (all : List A) : Type 0 where
  pub first : A
  pub rest : List A
  pub is_first : item ≡ Ok first
  pub is_rest : others ≡ Ok rest
  pub split : all ≡ first ∷ rest

parts_of : {A : Type 0} (item : Result A ValueFault) (others : Result (List A) ValueFault) (all : List A) → with_item item others ≡ Ok all → Parts item others all
parts_of (Ok x) (Ok xs) all e = record { first = x; rest = xs; is_first = refl; is_rest = refl; split = cc }
parts_of (Ok x) (Err f) all e = absurd (cc)
parts_of (Err OverLimit) (Ok xs) all e = absurd (cc)
parts_of (Err OverLimit) (Err f) all e = absurd (cc)
parts_of (Err BadValue) others all e = absurd (cc)
parts_of (Err NoMemory) others all e = absurd (cc)

items_are : {A : Type 0} (P : A → Type 0) (item : List Word → Result A ValueFault) → ((words : List Word) (x : A) → item words ≡ Ok x → P x)
    → (pieces : List (List Word)) (all : List A) → gather (map item pieces) ≡ Ok all → AllByRecursion P all × (length all ≡ length pieces)
items_are {A} P item holds [] all e =
    let none : [] ≡ all = cc in
    let Q : List A → Type 0 = λ xs. AllByRecursion P xs × (length xs ≡ 0) in
    subst Q none (tt, refl)
items_are {A} P item holds (piece ∷ pieces) all e =
    let parts = parts_of (item piece) (gather (map item pieces)) all e in
    let others = items_are P item holds pieces parts.rest parts.is_rest in
    let Q : List A → Type 0 = λ xs. AllByRecursion P xs × (length xs ≡ suc (length pieces)) in
    subst Q (sym parts.split) ((holds piece parts.first parts.is_first, others.0), ap suc others.1)

before_some : (word : Word) (pieces : List (List Word)) → 0 < length (before_first word pieces)
before_some word [] = omega arith
before_some word (p ∷ ps) = omega arith

pieces_some : (inside : Bool) (words : List Word) → 0 < length (pieces inside words)
pieces_some inside [] = omega arith
pieces_some inside (word ∷ rest) =
    elim (cases_Bool (not inside && is_comma word.kind)) [
      | inl comma ↦ rw comma (omega arith)
      | inr other ↦ rw other (before_some word (pieces (goes_in inside word.kind) rest))
    ]

pub list_is : {A : Type 0} (P : A → Type 0) (item : List Word → Result A ValueFault) → ((words : List Word) (x : A) → item words ≡ Ok x → P x)
    → (words : List Word) (all : List A) → list_of item words ≡ Ok all → AreItems P all
list_is P item holds words all e =
    let are = items_are P item holds (pieces false words) all e in
    let some = pieces_some false words in
    record { some = omega (arith, are.1); each = all_from P all are.0 }
