-- A channel has the value that is computed, where the easing is no curve.
use Rattle.std.proofs.Common.{◌≡◌, ℤ, subst}
use Rattle.page_model.specs.declared.easing.Easing.{Easing}
use Rattle.page_model.specs.Curve.{eased}
use Rattle.page_model.specs.Fraction.{Fraction}
use Rattle.page_model.specs.Slot.{Shade, IsChannelValue, channel_value}
use Rattle.safety_laws.specs.ComputedLaws.{IsNoCurve}
use Rattle.safety_laws.proofs.ChannelLemmas.{channel-is}

pub channel-at :
    (easing : Easing) (at : Fraction) (from to : Shade) (v : ℤ) → IsNoCurve easing → channel_value from to (eased easing at) ≡ v
    → IsChannelValue easing at from to v
channel-at easing at from to v straight same =
    subst (λ (w : ℤ). IsChannelValue easing at from to w) same (channel-is easing at from to straight)
