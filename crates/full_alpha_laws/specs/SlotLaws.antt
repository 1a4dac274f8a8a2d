-- Between opaque colours channels are those of the former text, and covers are full.
use Rattle.std.specs.Prelude.{ℕ, ℤ, pos, ◌≡◌, ◌↔◌, ◌<◌}
use Rattle.page_model.specs.declared.easing.Easing.{Easing}
use Rattle.page_model.specs.Enclosure.{Kind, Loose, IsLoose, IsLooseChannel, one_value}
use Rattle.page_model.specs.Fraction.{Fraction}
use Rattle.page_model.specs.Slot.{IsChannelValue, IsSlotValue, cover}
use Rattle.page_model.specs.ValidScene.{IsEasing}
use Rattle.full_alpha_laws.specs.FormerSlot.{IsFormerChannel, IsFormerLoose}
use Rattle.full_alpha_laws.specs.FullAlpha.{opaque}

abbrev pub ChannelsAreFormer : Type 0
ChannelsAreFormer =
    (easing : Easing) → IsEasing easing → (at : Fraction) → 0 < at.den → (from to : ℕ) (v : ℤ)
    → IsChannelValue easing at (opaque from) (opaque to) v ↔ IsFormerChannel easing at from to v

abbrev pub LooseChannelsAreFormer : Type 0
LooseChannelsAreFormer =
    (kind : Kind) (easing : Easing) → IsEasing easing → (at : Fraction) → 0 < at.den → (from to : ℕ) (loose : Loose)
    → IsLooseChannel kind easing at (opaque from) (opaque to) loose ↔ IsFormerLoose kind easing at from to loose

pub record CoversAreFull : Type 0 where
  pub exactly : (easing : Easing) (at : Fraction) (v : ℤ)
      → IsSlotValue cover easing at (pos 255000) (pos 255000) v ↔ (v ≡ pos 255)
  pub by_kind : (kind : Kind) (easing : Easing) (at : Fraction) (loose : Loose)
      → IsLoose kind cover easing at (pos 255000) (pos 255000) loose ↔ (loose ≡ one_value (pos 255))
