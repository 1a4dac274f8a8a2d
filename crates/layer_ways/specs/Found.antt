-- What is made of the ways of a layer's properties, each of which is by the last of its animations that has an effect and names it.
use Rattle.std.specs.Prelude.{ℕ, Bool, Option, Some, None, ◌≡◌, ◌||◌, List, option_map, take}
use Rattle.page_model.specs.declared.animation.Anim.{Anim}
use Rattle.page_model.specs.declared.property.Prop.{Prop}
use Rattle.page_model.specs.declared.property.Prop.TheVariants.{Background, Opacity, Visibility, Left, Top, Width, Height}
use Rattle.page_model.specs.declared.scene.Layer.{Layer}
use Rattle.page_model.specs.declared.scene.Scene.{Scene}
use Rattle.page_model.specs.declared.setup.Setup.{Setup}
use Rattle.page_model.specs.Enclosure.{Loose, Sureness}
use Rattle.page_model.specs.Fraction.{Fraction}
use Rattle.page_model.specs.LayerAt.{alpha_of, blue_of, cover_of, declared, green_of, interval_at, length_of, red_of}
use Rattle.page_model.specs.Slot.{Slot, alpha, cover, extent, position}
use Rattle.fix_span.specs.declared.loose.Loose.{Loose as Ends}
use Rattle.keyframe_sets.specs.Here.{interval_here}
use Rattle.slot_values.specs.Slots.{loose_as}
use Rattle.layer_ways.specs.declared.found.Fill.{Fill as Painted}
use Rattle.layer_ways.specs.declared.search.Edges.{Edges}
use Rattle.layer_ways.specs.declared.search.Look.{Look}
use Rattle.layer_ways.specs.declared.named.Named.{Named}
use Rattle.layer_ways.specs.Named.{is_named, lacks}
use Rattle.layer_ways.specs.Ways.{Way, channel_by, eased_way, last_way, shown_by, sureness_of, value_by}

-- the channels and the cover of a colour
pub record Fill : Type 0 where
  pub red : Loose
  pub green : Loose
  pub blue : Loose
  pub cover : Loose

abbrev pub fill_as : Painted → Fill
fill_as fill = record { red = loose_as fill.r; green = loose_as fill.g; blue = loose_as fill.b; cover = loose_as fill.cover }

-- what is made of a way: a colour, an opacity, and a length in a slot
abbrev pub fill_by : Way → Fill
fill_by way = record {
  red = channel_by red_of way;
  green = channel_by green_of way;
  blue = channel_by blue_of way;
  cover = value_by cover cover_of way;
}

abbrev pub alpha_by : Way → Loose
alpha_by way = value_by alpha alpha_of way

abbrev pub pixels_by : Slot → Way → Loose
pixels_by slot way = value_by slot length_of way

-- the later of two things
abbrev pub later : {X : Type 0} → Option X → Option X → Option X
later before None = before
later before (Some x) = Some x

-- what is made of the way of a property by an animation at its progress, and in a frame
abbrev pub made_here : {X : Type 0} → (Way → X) → Scene → ℕ → ℕ → Fraction → Prop → Option X
made_here make scene number place at prop = option_map make (option_map eased_way (interval_here scene number place prop at))

abbrev pub made_at : {X : Type 0} → (Way → X) → Scene → Setup → ℕ → Layer → Anim → Prop → Option X
made_at make scene setup frame layer anim prop =
    option_map make (option_map eased_way (interval_at scene.sets setup frame prop (declared layer prop) anim))

-- and by the last of some animations that has an effect and names the property
abbrev pub last_made : {X : Type 0} → (Way → X) → Scene → Setup → ℕ → Layer → List Anim → Prop → Option X
last_made make scene setup frame layer anims prop = option_map make (last_way scene setup frame layer anims prop)

-- what may be said of each thing that is found: how it is made of a way, of which property, and what was found of it before and after
abbrev pub Rule : Type 1
Rule = (X : Type 0) → (Way → X) → Prop → Option X → Option X → Type 0

-- it is the old one, or else by one more animation: at its progress, and in a frame
abbrev pub is_more_here : Scene → ℕ → ℕ → Fraction → Rule
is_more_here scene number place at = λ X make prop old new. new ≡ later (made_here make scene number place at prop) old

abbrev pub is_more_at : Scene → Setup → ℕ → Layer → Anim → Rule
is_more_at scene setup frame layer anim = λ X make prop old new. new ≡ later (made_at make scene setup frame layer anim prop) old

-- it is by the animations from a place on, where those before that place have the rest, and by all of them
abbrev pub is_last : Scene → Setup → ℕ → Layer → List Anim → ℕ → Rule
is_last scene setup frame layer anims place =
    λ X make prop old new. later (last_made make scene setup frame layer (take place anims) prop) new ≡ last_made make scene setup frame layer anims prop

abbrev pub is_found : Scene → Setup → ℕ → Layer → List Anim → Rule
is_found scene setup frame layer anims = λ X make prop old new. new ≡ last_made make scene setup frame layer anims prop

-- a rule holds of each edge, and of each part of the look
abbrev pub edge_as : Option Ends → Option Loose
edge_as found = option_map loose_as found

pub record ForEdges (rule : Rule) (old new : Edges) : Type 0 where
  pub left : rule Loose (pixels_by position) Left (edge_as old.left) (edge_as new.left)
  pub top : rule Loose (pixels_by position) Top (edge_as old.top) (edge_as new.top)
  pub width : rule Loose (pixels_by extent) Width (edge_as old.width) (edge_as new.width)
  pub height : rule Loose (pixels_by extent) Height (edge_as old.height) (edge_as new.height)

pub record ForLook (rule : Rule) (old new : Look) : Type 0 where
  pub fill : rule Fill fill_by Background (option_map fill_as old.fill) (option_map fill_as new.fill)
  pub alpha : rule Loose alpha_by Opacity (edge_as old.alpha) (edge_as new.alpha)
  pub shown : rule Sureness shown_by Visibility (option_map sureness_of old.shown) (option_map sureness_of new.shown)

-- an edge is named and was not found, and so is a part of the look
abbrev pub lacks_edge : Named → Edges → Bool
lacks_edge named edges =
    lacks (is_named named Left) edges.left
    || (lacks (is_named named Top) edges.top || (lacks (is_named named Width) edges.width || lacks (is_named named Height) edges.height))

abbrev pub lacks_look : Named → Look → Bool
lacks_look named look =
    lacks (is_named named Background) look.fill || (lacks (is_named named Opacity) look.alpha || lacks (is_named named Visibility) look.shown)
