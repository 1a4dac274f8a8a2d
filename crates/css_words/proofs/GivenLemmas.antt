-- What holds of each value that words may spell holds of the one that is given.
use Rattle.std.proofs.Common.{Bool, true, false, ◌≡◌, Option, Some, None, Result, Ok, Err, cond, refl, sym, subst, IfOk}
use Rattle.css_words.specs.declared.fault.ValueFault.{ValueFault}
use Rattle.css_words.specs.Words.{or_bad, mapped}

pub if_ok : {A F : Type 0} (P : A → Type 0) (b : Bool) (p q : Result A F) → ((x : A) → b ≡ true → p ≡ Ok x → P x) → ((x : A) → b ≡ false → q ≡ Ok x → P x)
    → (x : A) → cond b p q ≡ Ok x → P x
if_ok P true p q first second x e = first x refl e
if_ok P false p q first second x e = second x refl e

pub bad_ok : {A B : Type 0} (P : B → Type 0) (o : Option A) (f : A → Result B ValueFault) → ((a : A) → o ≡ Some a → (x : B) → f a ≡ Ok x → P x)
    → (x : B) → or_bad o f ≡ Ok x → P x
bad_ok P None f holds x e = absurd (cc)
bad_ok P (Some a) f holds x e = holds a refl x e

pub mapped_ok : {A B : Type 0} (P : B → Type 0) (f : A → B) (r : Result A ValueFault) → ((a : A) → r ≡ Ok a → P (f a)) → (x : B) → mapped f r ≡ Ok x → P x
mapped_ok P f (Ok a) holds x e = let same : f a ≡ x = cc in subst P same (holds a refl)
mapped_ok P f (Err fault) holds x e = absurd (cc)

-- what holds of each value that may be given holds of the one that is
pub on_ok : {A : Type 0} (P : A → Type 0) (found spelled : Result A ValueFault) → found ≡ spelled → ((x : A) → spelled ≡ Ok x → P x) → IfOk found P
on_ok P (Ok x) spelled e holds = holds x (sym e)
on_ok P (Err fault) spelled e holds = tt
