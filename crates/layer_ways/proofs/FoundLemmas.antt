-- A rule that holds of each thing that is found turned into another, and an animation for which nothing is lacking.
use Rattle.std.proofs.Common.{◌≡◌, ◌||◌, ℕ, Bool, false, Option, Some, option_map, slice_get}
use Rattle.std.proofs.lemmas.Bool.{or_parts}
use Rattle.page_model.specs.declared.animation.Anim.{Anim}
use Rattle.page_model.specs.declared.keyframe.KeyframeSet.{KeyframeSet}
use Rattle.page_model.specs.declared.property.Prop.{Prop}
use Rattle.page_model.specs.declared.property.Prop.TheVariants.{Background, Opacity, Visibility, Left, Top, Width, Height}
use Rattle.page_model.specs.declared.scene.Layer.{Layer}
use Rattle.page_model.specs.declared.scene.Scene.{Scene}
use Rattle.page_model.specs.declared.setup.Setup.{Setup}
use Rattle.page_model.specs.Enclosure.{Loose, Sureness}
use Rattle.page_model.specs.Keyframes.{names}
use Rattle.page_model.specs.Slot.{extent, position}
use Rattle.slot_values.specs.Slots.{loose_as}
use Rattle.layer_ways.specs.declared.named.Named.{Named}
use Rattle.layer_ways.specs.declared.search.Edges.{Edges}
use Rattle.layer_ways.specs.declared.search.Look.{Look}
use Rattle.layer_ways.specs.Found.{Fill, ForEdges, ForLook, Rule, alpha_by, edge_as, fill_as, fill_by, is_more_at, lacks_edge, lacks_look, pixels_by}
use Rattle.layer_ways.specs.Named.{is_named, lacks}
use Rattle.layer_ways.specs.Ways.{Way, shown_by, sureness_of}
use Rattle.layer_ways.proofs.CourseLemmas.{nothing-new}

-- one rule that follows from others
pub edges-by : (P Q : Rule) (old new : Edges)
    → ((X : Type 0) (make : Way → X) (prop : Prop) (a b : Option X) → P X make prop a b → Q X make prop a b)
    → ForEdges P old new → ForEdges Q old new
edges-by P Q old new turn so = record {
  left = turn Loose (pixels_by position) Left (edge_as old.left) (edge_as new.left) so.left;
  top = turn Loose (pixels_by position) Top (edge_as old.top) (edge_as new.top) so.top;
  width = turn Loose (pixels_by extent) Width (edge_as old.width) (edge_as new.width) so.width;
  height = turn Loose (pixels_by extent) Height (edge_as old.height) (edge_as new.height) so.height;
}

pub look-by : (P Q : Rule) (old new : Look)
    → ((X : Type 0) (make : Way → X) (prop : Prop) (a b : Option X) → P X make prop a b → Q X make prop a b)
    → ForLook P old new → ForLook Q old new
look-by P Q old new turn so = record {
  fill = turn Fill fill_by Background (option_map fill_as old.fill) (option_map fill_as new.fill) so.fill;
  alpha = turn Loose alpha_by Opacity (edge_as old.alpha) (edge_as new.alpha) so.alpha;
  shown = turn Sureness shown_by Visibility (option_map sureness_of old.shown) (option_map sureness_of new.shown) so.shown;
}

pub edges-both : (P Q R : Rule) (old new : Edges)
    → ((X : Type 0) (make : Way → X) (prop : Prop) (a b : Option X) → P X make prop a a → Q X make prop a b → R X make prop b b)
    → ForEdges P old old → ForEdges Q old new → ForEdges R new new
edges-both P Q R old new turn one other = record {
  left = turn Loose (pixels_by position) Left (edge_as old.left) (edge_as new.left) one.left other.left;
  top = turn Loose (pixels_by position) Top (edge_as old.top) (edge_as new.top) one.top other.top;
  width = turn Loose (pixels_by extent) Width (edge_as old.width) (edge_as new.width) one.width other.width;
  height = turn Loose (pixels_by extent) Height (edge_as old.height) (edge_as new.height) one.height other.height;
}

pub look-both : (P Q R : Rule) (old new : Look)
    → ((X : Type 0) (make : Way → X) (prop : Prop) (a b : Option X) → P X make prop a a → Q X make prop a b → R X make prop b b)
    → ForLook P old old → ForLook Q old new → ForLook R new new
look-both P Q R old new turn one other = record {
  fill = turn Fill fill_by Background (option_map fill_as old.fill) (option_map fill_as new.fill) one.fill other.fill;
  alpha = turn Loose alpha_by Opacity (edge_as old.alpha) (edge_as new.alpha) one.alpha other.alpha;
  shown = turn Sureness shown_by Visibility (option_map sureness_of old.shown) (option_map sureness_of new.shown) one.shown other.shown;
}

-- an animation for which nothing is lacking gives nothing new
abbrev AreNot : Scene → Anim → Named → Type 0
AreNot scene anim named =
    (prop : Prop) → is_named named prop ≡ false → (set : KeyframeSet) → slice_get scene.sets anim.set ≡ Some set → names prop set.frames ≡ false

pub edges-kept : (scene : Scene) (setup : Setup) (frame : ℕ) (layer : Layer) (anim : Anim) (named : Named) (edges : Edges)
    → lacks_edge named edges ≡ false → AreNot scene anim named → ForEdges (is_more_at scene setup frame layer anim) edges edges
edges-kept scene setup frame layer anim named edges none unnamed =
    let last : Bool = lacks (is_named named Width) edges.width || lacks (is_named named Height) edges.height in
    let a = or_parts (lacks (is_named named Left) edges.left) (lacks (is_named named Top) edges.top || last) none in
    let b = or_parts (lacks (is_named named Top) edges.top) last a.1 in
    let c = or_parts (lacks (is_named named Width) edges.width) (lacks (is_named named Height) edges.height) b.1 in
    record {
      left = nothing-new (pixels_by position) loose_as scene setup frame layer anim Left (is_named named Left) edges.left a.0 (unnamed Left);
      top = nothing-new (pixels_by position) loose_as scene setup frame layer anim Top (is_named named Top) edges.top b.0 (unnamed Top);
      width = nothing-new (pixels_by extent) loose_as scene setup frame layer anim Width (is_named named Width) edges.width c.0 (unnamed Width);
      height = nothing-new (pixels_by extent) loose_as scene setup frame layer anim Height (is_named named Height) edges.height c.1 (unnamed Height);
    }

pub look-kept : (scene : Scene) (setup : Setup) (frame : ℕ) (layer : Layer) (anim : Anim) (named : Named) (look : Look)
    → lacks_look named look ≡ false → AreNot scene anim named → ForLook (is_more_at scene setup frame layer anim) look look
look-kept scene setup frame layer anim named look none unnamed =
    let last : Bool = lacks (is_named named Opacity) look.alpha || lacks (is_named named Visibility) look.shown in
    let a = or_parts (lacks (is_named named Background) look.fill) last none in
    let b = or_parts (lacks (is_named named Opacity) look.alpha) (lacks (is_named named Visibility) look.shown) a.1 in
    record {
      fill = nothing-new fill_by fill_as scene setup frame layer anim Background (is_named named Background) look.fill a.0 (unnamed Background);
      alpha = nothing-new alpha_by loose_as scene setup frame layer anim Opacity (is_named named Opacity) look.alpha b.0 (unnamed Opacity);
      shown = nothing-new shown_by sureness_of scene setup frame layer anim Visibility (is_named named Visibility) look.shown b.1 (unnamed Visibility);
    }
