-- The former text of a layer's state, which had no cover: that part of a state is left free here.
use Rattle.std.specs.Prelude.{ℕ, pos}
use Rattle.page_model.specs.declared.property.Prop.TheVariants.{Background, Opacity, Visibility, Left, Top, Width, Height}
use Rattle.page_model.specs.declared.scene.Layer.{Layer}
use Rattle.page_model.specs.declared.scene.Scene.{Scene}
use Rattle.page_model.specs.declared.setup.Setup.{Setup}
use Rattle.page_model.specs.Enclosure.{Kind, LooseState, IsLooseOn, IsSurelyShownWith}
use Rattle.page_model.specs.LayerAt.{State, IsShownWith, IsValueOn, alpha_of, blue_of, course_of, green_of, length_of, red_of}
use Rattle.page_model.specs.Slot.{alpha, extent, position}
use Rattle.full_alpha_laws.specs.FormerSlot.{IsFormerChannelOn, IsFormerLooseOn}

pub record IsFormerStateAt (scene : Scene) (setup : Setup) (frame : ℕ) (layer : Layer) (state : State) : Type 0 where
  pub is_red : IsFormerChannelOn red_of (course_of scene setup frame layer Background) (pos state.red)
  pub is_green : IsFormerChannelOn green_of (course_of scene setup frame layer Background) (pos state.green)
  pub is_blue : IsFormerChannelOn blue_of (course_of scene setup frame layer Background) (pos state.blue)
  pub is_alpha : IsValueOn alpha alpha_of (course_of scene setup frame layer Opacity) (pos state.alpha)
  pub is_shown : IsShownWith layer.colour (course_of scene setup frame layer Visibility) state.shown
  pub is_left : IsValueOn position length_of (course_of scene setup frame layer Left) state.left
  pub is_top : IsValueOn position length_of (course_of scene setup frame layer Top) state.top
  pub is_width : IsValueOn extent length_of (course_of scene setup frame layer Width) state.width
  pub is_height : IsValueOn extent length_of (course_of scene setup frame layer Height) state.height

pub record IsFormerLooseAt (kind : Kind) (scene : Scene) (setup : Setup) (frame : ℕ) (layer : Layer) (state : LooseState) : Type 0 where
  pub is_red : IsFormerLooseOn kind red_of (course_of scene setup frame layer Background) state.red
  pub is_green : IsFormerLooseOn kind green_of (course_of scene setup frame layer Background) state.green
  pub is_blue : IsFormerLooseOn kind blue_of (course_of scene setup frame layer Background) state.blue
  pub is_alpha : IsLooseOn kind alpha alpha_of (course_of scene setup frame layer Opacity) state.alpha
  pub is_shown : IsSurelyShownWith kind layer.colour (course_of scene setup frame layer Visibility) state.shown
  pub is_left : IsLooseOn kind position length_of (course_of scene setup frame layer Left) state.left
  pub is_top : IsLooseOn kind position length_of (course_of scene setup frame layer Top) state.top
  pub is_width : IsLooseOn kind extent length_of (course_of scene setup frame layer Width) state.width
  pub is_height : IsLooseOn kind extent length_of (course_of scene setup frame layer Height) state.height
