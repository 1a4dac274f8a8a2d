-- The bounds of the next tint, at the light of the earlier one.
use Rattle.std.proofs.Common.{ℕ, ◌≡◌, ◌<◌, ◌≤◌, rules, subst, sym}
use Rattle.std.specs.Prelude.{◌↔◌, IsTrue, nat_le, nat_lt}
use Rattle.page_model.specs.declared.colour.Rgb.{Rgb}
use Rattle.page_model.specs.Light.{IsRise, luma_of}
use Rattle.tint_changes.specs.Made.{IsLighter}
use Rattle.tint_changes.proofs.made.made_by_light.Goals as goal

rises : (a b : Rgb) → IsLighter (luma_of a) (luma_of b) → IsRise a b
rises a b lighter = record { by_a_tenth = lighter.1; from_below = lighter.0 }

lighter : (a b : Rgb) → IsRise a b → IsLighter (luma_of a) (luma_of b)
lighter a b rise = (rise.from_below, rise.by_a_tenth)

-- a bound that tells of one luminance tells of the colour that has it
below : (a b : Rgb) (light bound : ℕ) → light ≡ luma_of a → (light < bound) ↔ IsLighter light (luma_of b) → (light < bound) ↔ IsRise a b
below a b light bound is told = (
  λ less. rises a b (subst (λ l. IsLighter l (luma_of b)) is (told.0 less)),
  λ rise. told.1 (subst (λ l. IsLighter l (luma_of b)) (sym is) (lighter a b rise)),
)

above : (a b : Rgb) (light bound : ℕ) → light ≡ luma_of b → (bound ≤ light) ↔ IsLighter (luma_of a) light → (bound ≤ light) ↔ IsRise a b
above a b light bound is told = (
  λ less. rises a b (subst (λ l. IsLighter (luma_of a) l) is (told.0 less)),
  λ rise. told.1 (subst (λ l. IsLighter (luma_of a) l) (sym is) (lighter a b rise)),
)

less-told : (a b : ℕ) → IsTrue (nat_lt a b) ↔ (a < b)
less-told a b = search rules

most-told : (a b : ℕ) → IsTrue (nat_le a b) ↔ (a ≤ b)
most-told a b = search rules

both : (P Q R : Type 0) → P ↔ Q → Q ↔ R → P ↔ R
both P Q R first second = ((λ p. second.0 (first.0 p)), λ r. first.1 (second.1 r))

pub returns : goal.returns
returns c =
    let from = c.args.from in
    let to = c.args.to.now in
    let light = c.light_of-before.result in
    let is = c.light_of-before.ensures in
    let known = c.requires in record {
      up = both (IsTrue (nat_lt light.least to.rise_below)) (light.least < to.rise_below) (IsRise from.lo to.tint.hi)
          (less-told light.least to.rise_below) (below from.lo to.tint.hi light.least to.rise_below is.least (known.rise light.least));
      down = both (IsTrue (nat_le to.fall_from light.greatest)) (to.fall_from ≤ light.greatest) (IsRise to.tint.lo from.hi)
          (most-told to.fall_from light.greatest)
          (above to.tint.lo from.hi light.greatest to.fall_from is.greatest (known.fall light.greatest is.greatest_most));
      surely_up = both (IsTrue (nat_lt light.greatest to.sure_rise_below)) (light.greatest < to.sure_rise_below) (IsRise from.hi to.tint.lo)
          (less-told light.greatest to.sure_rise_below)
          (below from.hi to.tint.lo light.greatest to.sure_rise_below is.greatest (known.sure_rise light.greatest));
      surely_down = both (IsTrue (nat_le to.sure_fall_from light.least)) (to.sure_fall_from ≤ light.least) (IsRise to.tint.hi from.lo)
          (most-told to.sure_fall_from light.least)
          (above to.tint.hi from.lo light.least to.sure_fall_from is.least (known.sure_fall light.least is.least_most));
    }
