-- What holds of each entry of a table holds of what is found there.
use Rattle.std.proofs.Common.{ℕ, Bool, true, false, ◌≡◌, List, [], ◌∷◌, Some, cond, subst}
use Rattle.css_words.specs.Keywords.{is_keyword, lookup}

-- what holds of each entry of a table holds of what is found there
abbrev pub Entries : {A : Type 0} → (A → Type 0) → List (List ℕ × A) → Type 0
Entries P [] = Unit {0}
Entries P (entry ∷ table) = P entry.1 × Entries P table

pub lookup_is : {A : Type 0} (P : A → Type 0) (table : List (List ℕ × A)) (bytes : List ℕ) → Entries P table → (x : A) → lookup table bytes ≡ Some x → P x
lookup_is P [] bytes all x e = absurd (cc)
lookup_is P (entry ∷ table) bytes all x e = found (is_keyword entry.0 bytes) e (lookup_is P table bytes all.1 x) where
  found : (b : Bool) → cond b (Some entry.1) (lookup table bytes) ≡ Some x → (lookup table bytes ≡ Some x → P x) → P x
  found true e later = let same : entry.1 ≡ x = cc in subst P same all.0
  found false e later = later e
