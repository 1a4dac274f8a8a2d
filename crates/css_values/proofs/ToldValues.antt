-- What is put together of results that are no want of memory is none.
use Rattle.std.proofs.Common.{Bool, true, false, ◌≡◌, List, [], ◌∷◌, map, Option, Some, None, Result, Ok, Err, cond, refl, inl, inr}
use Rattle.css_words.specs.declared.fault.ValueFault.{ValueFault}
use Rattle.css_words.specs.declared.fault.ValueFault.TheVariants.{BadValue, OverLimit, NoMemory}
use Rattle.css_items.specs.Lists.{gather, list_of, pieces, with_item}
use Rattle.css_values.specs.JudgedValues.{IsJudged}
use Rattle.css_words.specs.Words.{Word, or_bad, mapped}

-- a result is no want of memory
abbrev pub IsTold : {A : Type 0} → Result A ValueFault → Type 0
IsTold (Ok value) = Unit {0}
IsTold (Err BadValue) = Unit {0}
IsTold (Err OverLimit) = Unit {0}
IsTold (Err NoMemory) = ⊥

pub judged : {A : Type 0} (spelled : Result A ValueFault) → IsTold spelled → IsJudged spelled
judged (Ok value) told = inl (value, refl)
judged (Err OverLimit) told = inr (inl refl)
judged (Err BadValue) told = inr (inr refl)
judged (Err NoMemory) told = absurd told

pub told_if : {A : Type 0} (b : Bool) (p q : Result A ValueFault) → IsTold p → IsTold q → IsTold (cond b p q)
told_if true p q first second = first
told_if false p q first second = second

pub told_or_bad : {A B : Type 0} (o : Option A) (value : A → Result B ValueFault) → ((x : A) → IsTold (value x)) → IsTold (or_bad o value)
told_or_bad None value told = tt
told_or_bad (Some x) value told = told x

pub told_mapped : {A B : Type 0} (f : A → B) (spelled : Result A ValueFault) → IsTold spelled → IsTold (mapped f spelled)
told_mapped f (Ok value) told = tt
told_mapped f (Err BadValue) told = tt
told_mapped f (Err OverLimit) told = tt
told_mapped f (Err NoMemory) told = told

-- lists
told_with_item : {A : Type 0} (item : Result A ValueFault) (items : Result (List A) ValueFault) → IsTold item → IsTold items → IsTold (with_item item items)
told_with_item (Ok item) (Ok items) first second = tt
told_with_item (Ok item) (Err BadValue) first second = tt
told_with_item (Ok item) (Err OverLimit) first second = tt
told_with_item (Ok item) (Err NoMemory) first second = second
told_with_item (Err OverLimit) (Ok items) first second = tt
told_with_item (Err OverLimit) (Err BadValue) first second = tt
told_with_item (Err OverLimit) (Err OverLimit) first second = tt
told_with_item (Err OverLimit) (Err NoMemory) first second = second
told_with_item (Err BadValue) items first second = tt
told_with_item (Err NoMemory) items first second = first

told_all : {A : Type 0} (item : List Word → Result A ValueFault) → ((words : List Word) → IsTold (item words)) → (parts : List (List Word)) → IsTold (gather (map item parts))
told_all item told [] = tt
told_all item told (part ∷ parts) = told_with_item (item part) (gather (map item parts)) (told part) (told_all item told parts)

pub told_list : {A : Type 0} (item : List Word → Result A ValueFault) → ((words : List Word) → IsTold (item words)) → (words : List Word) → IsTold (list_of item words)
told_list item told words = told_all item told (pieces false words)
