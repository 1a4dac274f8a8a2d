-- Coordinates of a colour whose linear light is known, and how two such colours are shown to be far or near.
use Rattle.std.proofs.Common.{◌≡◌, ℕ, ◌+◌, ◌*◌, false, subst, sym}
use Rattle.page_model.specs.declared.colour.Rgb.{Rgb}
use Rattle.page_model.specs.Fraction.{Fraction, SameNumber}
use Rattle.page_model.specs.Light.{linear_of}
use Rattle.page_model.specs.Red.{Chromaticity, AreFar, chromaticity_of, coordinates_of, is_black}
use Rattle.time_values.specs.Examples.{fraction}

abbrev pub x_by : ℕ → ℕ → ℕ → ℕ
x_by r g b = 4124 * r + 3576 * g + 1805 * b

abbrev pub y_by : ℕ → ℕ → ℕ → ℕ
y_by r g b = 2126 * r + 7152 * g + 722 * b

abbrev pub z_by : ℕ → ℕ → ℕ → ℕ
z_by r g b = 193 * r + 1192 * g + 9505 * b

-- the coordinates, by the light of each channel
abbrev pub coordinates_by : ℕ → ℕ → ℕ → Chromaticity
coordinates_by r g b =
    record { u = 4 * x_by r g b; v = 9 * y_by r g b; over = x_by r g b + 15 * y_by r g b + 3 * z_by r g b }

pub coordinates-by :
    (c : Rgb) (r g b : ℕ) → linear_of c.r ≡ r → linear_of c.g ≡ g → linear_of c.b ≡ b
    → coordinates_of c ≡ coordinates_by r g b
coordinates-by c r g b red green blue = rw (red, green, blue)

pub chromaticity-by :
    (c : Rgb) (r g b : ℕ) → is_black c ≡ false → linear_of c.r ≡ r → linear_of c.g ≡ g → linear_of c.b ≡ b
    → chromaticity_of c ≡ coordinates_by r g b
chromaticity-by c r g b colour red green blue = rw (colour, red, green, blue)

-- what holds of the coordinates holds of the colours
pub far-by :
    (a b : Rgb) (p q : Chromaticity) → chromaticity_of a ≡ p → chromaticity_of b ≡ q → AreFar p q
    → AreFar (chromaticity_of a) (chromaticity_of b)
far-by a b p q one other far =
    subst (λ x. AreFar x (chromaticity_of b)) (sym one) (subst (λ y. AreFar p y) (sym other) far)

pub near-by :
    (a b : Rgb) (p q : Chromaticity) → chromaticity_of a ≡ p → chromaticity_of b ≡ q → (AreFar p q → ⊥)
    → AreFar (chromaticity_of a) (chromaticity_of b) → ⊥
near-by a b p q one other near far =
    near (subst (λ y. AreFar p y) other (subst (λ x. AreFar x (chromaticity_of b)) one far))

pub u-by :
    (a : Rgb) (p : Chromaticity) (told : Fraction) → chromaticity_of a ≡ p → SameNumber (fraction p.u p.over) told
    → SameNumber (fraction (chromaticity_of a).u (chromaticity_of a).over) told
u-by a p told e same = subst (λ x. SameNumber (fraction x.u x.over) told) (sym e) same

pub v-by :
    (a : Rgb) (p : Chromaticity) (told : Fraction) → chromaticity_of a ≡ p → SameNumber (fraction p.v p.over) told
    → SameNumber (fraction (chromaticity_of a).v (chromaticity_of a).over) told
v-by a p told e same = subst (λ x. SameNumber (fraction x.v x.over) told) (sym e) same
