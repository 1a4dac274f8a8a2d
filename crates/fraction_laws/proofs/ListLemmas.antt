-- Lemmas on optional values and on what holds of each element of a list.
use Rattle.std.proofs.Common.{◌≡◌, ℕ, suc, Bool, true, false, List, [], ◌∷◌, All, Option, Some, None, filter_map, slice_get, if◌then◌else◌, option_map, arith, refl, subst}
use Rattle.std.specs.List.{cons_option}
use Rattle.std.proofs.lemmas.List.Elements.{All-cons}
use Rattle.std.proofs.lemmas.Option.{get_or_from_slice_get, slice_get_within}

-- what is mapped, and what stands under a test
pub mapped_some : {X Y : Type 0} (f : X → Y) (o : Option X) (y : Y) → option_map f o ≡ Some y → (x : X) × (o ≡ Some x) × (f x ≡ y)
mapped_some f None y e = absurd (cc)
mapped_some f (Some x) y e = (x, refl, cc)

pub tested_some : {X : Type 0} (test : Bool) (o : Option X) (y : X) → (if test then o else None) ≡ Some y → o ≡ Some y
tested_some true o y e = e
tested_some false o y e = absurd (cc)

-- what holds of each element holds of the one at a place
pub All-slice_get : {X : Type 0} (P : X → Type 0) (xs : List X) (k : ℕ) (x : X) → All P xs → slice_get xs k ≡ Some x → P x
All-slice_get P xs k x all e = subst P (get_or_from_slice_get xs k x x e) (all k x (slice_get_within xs k x e))

All-cons_option : {X : Type 0} (P : X → Type 0) (o : Option X) (xs : List X) → ((x : X) → o ≡ Some x → P x) → All P xs → All P (cons_option o xs)
All-cons_option P None xs here rest = rest
All-cons_option P (Some x) xs here rest = All-cons P x xs (here x refl) rest

-- what holds of all that elements are mapped to holds of what is left
pub All-filter_map :
    {X Y : Type 0} (f : X → Option Y) (P : Y → Type 0) (xs : List X) → All (λ x. (y : Y) → f x ≡ Some y → P y) xs
    → All P (filter_map f xs)
All-filter_map f P [] each = λ k d within. absurd (omega arith)
All-filter_map f P (x ∷ xs) each =
    All-cons_option P (f x) (filter_map f xs) (each 0 x (omega arith))
    (All-filter_map f P xs (λ k d within. each (suc k) d (omega arith)))
