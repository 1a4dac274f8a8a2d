-- The example pages are valid scenes: so validity is no empty talk.
use Rattle.std.proofs.Common.{◌≡◌, ℕ, zero, suc, ◌<◌, ◌≤◌, ℤ, pos, neg_ℤ, ◌≤ℤ◌, [], ◌∷◌, All, Some, slice_get, arith, refl, subst}
use Rattle.std.proofs.lemmas.Int.{ints}
use Rattle.std.proofs.lemmas.List.Elements.{All-cons, All-nil}
use Rattle.page_model.specs.declared.animation.Anim.{Anim}
use Rattle.page_model.specs.declared.keyframe.Keyframe.{Keyframe}
use Rattle.page_model.specs.declared.keyframe.KeyframeSet.{KeyframeSet}
use Rattle.page_model.specs.declared.property.Prop.TheVariants.{Background}
use Rattle.page_model.specs.declared.property.Setting.{Setting}
use Rattle.page_model.specs.declared.property.Value.{Value}
use Rattle.page_model.specs.declared.property.Value.TheVariants as value
use Rattle.page_model.specs.declared.colour.Rgba.{Rgba}
use Rattle.page_model.specs.declared.scene.Layer.{Layer}
use Rattle.page_model.specs.LayerAt.{no_colour}
use Rattle.page_model.specs.ValidScene.{IsAnimation, IsBetween, IsBody, IsColour, IsKeyframe, IsLayer, IsSetInUse, IsValid, IsValueOf, NamesBackgroundAlone, OffsetsRise}
use Rattle.state_laws.specs.ExamplePage.{body_of, from_to_white, keyed, opaque_black, opaque_white, page_of, page_with}
use Rattle.state_laws.specs.WrongRun.{dives}

-- what holds of one thing holds of all of a list of it
pub only : {X : Type 0} (P : X → Type 0) (x : X) → P x → All P (x ∷ [])
only P x here = All-cons P x [] here (All-nil P)

pub between : (low high v : ℤ) → low ≤ℤ v → v ≤ℤ high → IsBetween low high v
between low high v h k = record { at_least = h; at_most = k }

pub dives-valid : IsAnimation 1 dives
dives-valid = record {
  set = omega arith;
  duration = omega arith;
  delay = between (neg_ℤ (pos 100000)) (pos 100000) (pos 0) (omega (arith, ints)) (omega (arith, ints));
  count = tt;
  easing = record {
    first_column = omega arith;
    first_height = between (neg_ℤ (pos 4000)) (pos 4000) (neg_ℤ (pos 4000)) (omega (arith, ints)) (omega (arith, ints));
    second_column = omega arith;
    second_height = between (neg_ℤ (pos 4000)) (pos 4000) (neg_ℤ (pos 4000)) (omega (arith, ints)) (omega (arith, ints));
  };
}

pub none-valid : IsColour no_colour
none-valid = record { red = omega arith; green = omega arith; blue = omega arith; alpha = omega arith }

black-valid : IsColour opaque_black
black-valid = record { red = omega arith; green = omega arith; blue = omega arith; alpha = omega arith }

white-valid : IsColour opaque_white
white-valid = record { red = omega arith; green = omega arith; blue = omega arith; alpha = omega arith }

body-layer : (first : Rgba) (anim : Anim) → IsColour first → IsAnimation 1 anim → IsLayer 1 (body_of first anim)
body-layer first anim colour valid = record {
  colour = colour;
  opacity = omega arith;
  left = between (neg_ℤ (pos 819200)) (pos 819200) (pos 0) (omega (arith, ints)) (omega (arith, ints));
  top = between (neg_ℤ (pos 819200)) (pos 819200) (pos 0) (omega (arith, ints)) (omega (arith, ints));
  width = between (pos 0) (pos 819200) (pos 0) (omega (arith, ints)) (omega (arith, ints));
  height = between (pos 0) (pos 819200) (pos 0) (omega (arith, ints)) (omega (arith, ints));
  z = between (neg_ℤ (pos 1000000)) (pos 1000000) (pos 0) (omega (arith, ints)) (omega (arith, ints));
  few_animations = omega arith;
  animations = only (IsAnimation 1) anim valid;
}

-- a keyframe with a colour
keyed-valid : (offset : ℕ) (colour : Rgba) → offset ≤ 10000 → IsColour colour → IsKeyframe (keyed offset colour)
keyed-valid offset colour within valid = record {
  offset = within;
  easing = tt;
  values = only (λ (setting : Setting). IsValueOf setting.prop setting.value) (record { prop = Background; value = value.Colour colour }) valid;
  distinct = λ i j first second above there other. absurd (past (value.Colour colour) i j second above other);
} where
  past : (v : Value) (i j : ℕ) (second : Setting) → i < j → slice_get (record { prop = Background; value = v } ∷ []) j ≡ Some second → ⊥
  past v i zero second above e = omega arith
  past v i (suc j) second above e = cc

two-rise : (a b : Keyframe) → a.offset < b.offset → OffsetsRise (a ∷ (b ∷ []))
two-rise a b less zero zero first second above e f = absurd (omega arith)
two-rise a b less zero (suc zero) first second above e f = let p : a ≡ first = cc in let q : b ≡ second = cc in rw (← p, ← q) less
two-rise a b less zero (suc (suc j)) first second above e f = absurd (cc)
two-rise a b less (suc zero) zero first second above e f = absurd (omega arith)
two-rise a b less (suc zero) (suc zero) first second above e f = absurd (omega arith)
two-rise a b less (suc zero) (suc (suc j)) first second above e f = absurd (cc)
two-rise a b less (suc (suc i)) j first second above e f = absurd (cc)

set-valid : (first : Rgba) (offset : ℕ) → IsColour first → 0 < offset → offset ≤ 10000 → IsSetInUse (from_to_white first offset)
set-valid first offset colour some within = record {
  is_set = record {
    frames = All-cons IsKeyframe (keyed 0 first) (keyed offset opaque_white ∷ []) (keyed-valid 0 first (omega arith) colour)
        (only IsKeyframe (keyed offset opaque_white) (keyed-valid offset opaque_white within white-valid));
    rising = two-rise (keyed 0 first) (keyed offset opaque_white) some;
  };
  names = record { place = 0; frame = keyed 0 first; is_there = refl; value = omega arith };
}

-- the set names the background alone
background-alone : (first : Rgba) (offset : ℕ) → NamesBackgroundAlone (from_to_white first offset)
background-alone first offset =
    All-cons (λ (frame : Keyframe). All (λ (setting : Setting). setting.prop ≡ Background) frame.values) (keyed 0 first) (keyed offset opaque_white ∷ [])
    (only (λ (setting : Setting). setting.prop ≡ Background) (record { prop = Background; value = value.Colour first }) refl)
    (only (λ (frame : Keyframe). All (λ (setting : Setting). setting.prop ≡ Background) frame.values) (keyed offset opaque_white)
    (only (λ (setting : Setting). setting.prop ≡ Background) (record { prop = Background; value = value.Colour opaque_white }) refl))

body-valid : (first : Rgba) (anim : Anim) (offset : ℕ) → IsAnimation 1 anim → IsBody (from_to_white first offset ∷ []) (body_of first anim)
body-valid first anim offset valid = record {
  left = refl;
  top = refl;
  width = refl;
  height = refl;
  z = refl;
  opaque = refl;
  visible = refl;
  animated = λ some. refl;
  background = only (λ (a : Anim). (set : KeyframeSet) → slice_get (from_to_white first offset ∷ []) a.set ≡ Some set → NamesBackgroundAlone set) anim
      (λ set e. there first offset anim.set set valid.set e);
} where
  there : (first : Rgba) (offset number : ℕ) (set : KeyframeSet) → number < 1 → slice_get (from_to_white first offset ∷ []) number ≡ Some set → NamesBackgroundAlone set
  there first offset zero set within e = let p : from_to_white first offset ≡ set = cc in subst NamesBackgroundAlone p (background-alone first offset)
  there first offset (suc n) set within e = absurd (omega arith)

no_box : (first : Rgba) (anim : Anim) (number : ℕ) (box : Layer) → 1 ≤ number → slice_get (body_of first anim ∷ []) number ≡ Some box → ⊥
no_box first anim zero box some e = omega arith
no_box first anim (suc n) box some e = cc

-- from any valid colour
pub any-valid :
    (first : Rgba) (anim : Anim) (offset : ℕ) → IsColour first → IsAnimation 1 anim → 0 < offset → offset ≤ 10000
    → IsValid (page_of first anim offset)
any-valid first anim offset colour valid some within = record {
  some_layer = omega arith;
  few_layers = omega arith;
  layers = only (IsLayer 1) (body_of first anim) (body-layer first anim colour valid);
  body = λ b e. let p : body_of first anim ≡ b = cc in subst (IsBody (from_to_white first offset ∷ [])) p (body-valid first anim offset valid);
  boxes = λ number box above e. absurd (no_box first anim number box above e);
  order = record {
    boxes = λ number. (λ has. absurd (let h = has.1 in omega arith), λ h. absurd (let low = h.0 in let high = h.1 in omega arith));
    sorted = λ i j below inside. absurd (omega arith);
  };
  sets = only IsSetInUse (from_to_white first offset) (set-valid first offset colour some within);
}

pub page-valid : (anim : Anim) (offset : ℕ) → IsAnimation 1 anim → 0 < offset → offset ≤ 10000 → IsValid (page_with anim offset)
page-valid anim offset valid some within = any-valid opaque_black anim offset black-valid valid some within
