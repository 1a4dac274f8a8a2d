-- The order of weights.
use Rattle.std.proofs.Common.{◌≡◌, ℕ, true, false, List, [], ◌∷◌, refl, ap, arith, inl, inr, get_or}
use Rattle.std.proofs.lemmas.Bool.{cases_Bool, eq-eqb}
use Rattle.page_model.specs.Cascade.{Weight, is_beaten_by, is_below_by, ranks}

below_itself : (a : List ℕ) → is_below_by a a ≡ false
below_itself [] = refl
below_itself (x ∷ a) = rw (eq-eqb x x refl) (below_itself a)

below_through : (a b c : List ℕ) → is_below_by a b ≡ true → is_below_by b c ≡ true → is_below_by a c ≡ true
below_through [] [] c first second = second
below_through [] (y ∷ b) [] first second = absurd (cc)
below_through [] (y ∷ b) (z ∷ c) first second = refl
below_through (x ∷ a) [] c first second = absurd (cc)
below_through (x ∷ a) (y ∷ b) [] first second = absurd (cc)
below_through (x ∷ a) (y ∷ b) (z ∷ c) first second = grind (arith, below_through a b c)

same_unless_below : (a b : List ℕ) → is_below_by a b ≡ false → is_below_by b a ≡ false → a ≡ b
same_unless_below [] [] first second = refl
same_unless_below [] (y ∷ b) first second = absurd (cc)
same_unless_below (x ∷ a) [] first second = absurd (cc)
same_unless_below (x ∷ a) (y ∷ b) first second = grind (arith, same_unless_below a b)

-- no declaration beats itself
pub unbeaten_by_itself : (w : Weight) → is_beaten_by w w ≡ false
unbeaten_by_itself w = below_itself (ranks w)

-- what isn't beaten by a third beats what is
pub unbeaten_through : (one other third : Weight) → is_beaten_by one other ≡ true → is_beaten_by one third ≡ false → is_beaten_by other third ≡ false
unbeaten_through one other third beaten unbeaten =
    elim (cases_Bool (is_beaten_by other third)) [
      | inl is ↦ absurd (cc (below_through (ranks one) (ranks other) (ranks third) beaten is))
      | inr is ↦ is
    ]

-- of two weights that don't beat one another both are one
pub same_unless_beaten : (one other : Weight) → is_beaten_by one other ≡ false → is_beaten_by other one ≡ false → one ≡ other
same_unless_beaten one other first second =
    ap (λ (numbers : List ℕ). record { important = get_or numbers 0 0; inline = get_or numbers 1 0; ids = get_or numbers 2 0; classes = get_or numbers 3 0; types = get_or numbers 4 0; place = get_or numbers 5 0 }) (same_unless_below (ranks one) (ranks other) first second)
