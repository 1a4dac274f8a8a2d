-- The ends between which an eased value is known to lie, and which fractions the code takes for ends: so that what is computed of
-- them fits.
use Rattle.std.specs.Prelude.{ℕ, ℤ, pos, neg_ℤ, nat_abs, ◌↔◌, ◌⊎◌, ◌^◌, ◌*ℤ◌, ◌≤ℤ◌, ◌<ℤ◌, ◌<◌}
use Rattle.page_model.specs.declared.easing.Easing.{Easing}
use Rattle.page_model.specs.Enclosure.{AllReach, SomeReach, own}
use Rattle.page_model.specs.Fraction.{Fraction}
use Rattle.fix_span.specs.declared.frac.Frac.{Frac}

-- an end: a number over so many parts, also below 0 and above 1
pub record End : Type 0 where
  pub num : ℤ
  pub den : ℕ

abbrev pub end_of : Frac → End
end_of x = record { num = x.num; den = nat_abs x.den }

-- the end of what has not moved
abbrev pub nothing_made : End
nothing_made = record { num = pos 0; den = 1 }

-- a fraction of at most 2^48 parts, whose number is at most 2^60 either way
pub record IsEnd (x : Frac) : Type 0 where
  pub positive : pos 0 <ℤ x.den
  pub few : x.den ≤ℤ pos (2 ^ 48)
  pub least : neg_ℤ (pos (2 ^ 60)) ≤ℤ x.num
  pub greatest : x.num ≤ℤ pos (2 ^ 60)

-- a times an end is b or more
abbrev pub EndReaches : End → ℤ → ℤ → Type 0
EndReaches x a b = (b *ℤ pos x.den) ≤ℤ (a *ℤ x.num)

-- two ends are all that the own kind knows of an eased value: what all values reach both ends reach, and what some value reaches one
-- of them does
pub record AreEnds (easing : Easing) (at : Fraction) (least greatest : End) : Type 0 where
  pub some_least : 0 < least.den
  pub some_greatest : 0 < greatest.den
  pub all : (a b : ℤ) → AllReach own easing at a b ↔ (EndReaches least a b × EndReaches greatest a b)
  pub some : (a b : ℤ) → SomeReach own easing at a b ↔ (EndReaches least a b ⊎ EndReaches greatest a b)
