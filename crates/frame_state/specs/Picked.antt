-- What a layer's properties are in the end, by what was found of them: the place and the look of the layer.
use Rattle.std.specs.Prelude.{Bool, true, false, Option, Some, None, option_map}
use Rattle.page_model.specs.declared.colour.Rgba.{Rgba}
use Rattle.page_model.specs.declared.property.Prop.TheVariants.{Background, Opacity, Visibility, Left, Top, Width, Height}
use Rattle.page_model.specs.declared.scene.Layer.{Layer}
use Rattle.page_model.specs.Enclosure.{Loose, LooseState, Sureness, surely_not}
use Rattle.page_model.specs.LayerAt.{declared}
use Rattle.page_model.specs.Slot.{extent, position}
use Rattle.layer_ways.specs.declared.search.Edges.{Edges}
use Rattle.layer_ways.specs.declared.search.Look.{Look}
use Rattle.layer_ways.specs.Found.{Fill, alpha_by, edge_as, fill_as, fill_by, pixels_by}
use Rattle.layer_ways.specs.Ways.{shown_by, stays, sureness_of}
use Rattle.frame_state.specs.Places.{LoosePlace}

-- what there is in the end: what was found, unless the winning declaration is important, and else what is made where the property stays
abbrev pub pick : {X : Type 0} → Bool → X → Option X → X
pick true own found = own
pick false own None = own
pick false own (Some x) = x

abbrev pub place_found : Layer → Edges → LoosePlace
place_found layer edges = record {
  left = pick layer.important.left (pixels_by position (stays (declared layer Left))) (edge_as edges.left);
  top = pick layer.important.top (pixels_by position (stays (declared layer Top))) (edge_as edges.top);
  width = pick layer.important.width (pixels_by extent (stays (declared layer Width))) (edge_as edges.width);
  height = pick layer.important.height (pixels_by extent (stays (declared layer Height))) (edge_as edges.height);
}

abbrev pub fill_found : Layer → Look → Fill
fill_found layer look =
    pick layer.important.background (fill_by (stays (declared layer Background))) (option_map fill_as look.fill)

abbrev pub alpha_found : Layer → Look → Loose
alpha_found layer look = pick layer.important.opacity (alpha_by (stays (declared layer Opacity))) (edge_as look.alpha)

abbrev pub visible_found : Layer → Look → Sureness
visible_found layer look =
    pick layer.important.visibility (shown_by (stays (declared layer Visibility))) (option_map sureness_of look.shown)

-- a layer without a colour is not shown
abbrev pub if_coloured : Option Rgba → Sureness → Sureness
if_coloured None shown = surely_not
if_coloured (Some colour) shown = shown

abbrev pub shown_found : Layer → Look → Sureness
shown_found layer look = if_coloured layer.colour (visible_found layer look)

abbrev pub state_found : Layer → Edges → Look → LooseState
state_found layer edges look = record {
  red = (fill_found layer look).red;
  green = (fill_found layer look).green;
  blue = (fill_found layer look).blue;
  cover = (fill_found layer look).cover;
  alpha = alpha_found layer look;
  shown = shown_found layer look;
  left = (place_found layer edges).left;
  top = (place_found layer edges).top;
  width = (place_found layer edges).width;
  height = (place_found layer edges).height;
}
