-- The slots of the winners.
use Rattle.std.proofs.Common.{◌≡◌, ℕ, List, [], ◌∷◌, Option, Some, None, refl, ap, suc, zero, slice_get, slice_set, option_map, replicate, ◌<◌, length, get_or, arith, if◌then◌else◌, ◌==◌}
use Prim.Native.Nat.compare
use Rattle.std.specs.Prelude.{option_and_then}

-- empty slots hold nothing
pub none_at : {A B : Type 0} (f : A → B) (n property : ℕ) → option_and_then (λ (slot : Option A). option_map f slot) (slice_get (replicate n None) property) ≡ None
none_at f zero property = refl
none_at f (suc n) zero = refl
none_at f (suc n) (suc property) = none_at f n property

-- what a slot holds
abbrev pub held : {A B : Type 0} (f : A → B) → List (Option A) → ℕ → Option B
held {A} f slots property = option_and_then (λ (slot : Option A). option_map f slot) (slice_get slots property)

pub held_read : {A B : Type 0} (f : A → B) (slots : List (Option A)) (property : ℕ) (d : Option A) → property < length slots → option_map f (get_or slots property d) ≡ held f slots property
held_read f [] property d within = absurd (omega arith)
held_read f (slot ∷ slots) zero d within = refl
held_read f (slot ∷ slots) (suc property) d within = held_read f slots property d (omega arith)

-- one slot that is filled anew, from what it held
pub held_set : {A B : Type 0} (f : A → B) (made : Option B → B) (slots : List (Option A)) (filled : ℕ) (item : A) (property : ℕ) → filled < length slots → f item ≡ made (held f slots filled) → held f (slice_set slots filled (Some item)) property ≡ (if property == filled then Some (made (held f slots property)) else held f slots property)
held_set f made [] filled item property within is = absurd (omega arith)
held_set f made (slot ∷ slots) zero item zero within is = ap Some is
held_set f made (slot ∷ slots) zero item (suc property) within is = grind arith
held_set f made (slot ∷ slots) (suc filled) item zero within is = grind arith
held_set f made (slot ∷ slots) (suc filled) item (suc property) within is = rw compare.suc-suc (held_set f made slots filled item property (omega arith) is)
