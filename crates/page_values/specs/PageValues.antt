-- The scene of a small page, from its rules to its layers: a body with a colour by a rule that comes twice, and one box, which a style
-- attribute places. The page passes where all numbers are in their limits, and is refused where the box lacks its height.
use Rattle.std.specs.Prelude.{ℕ, pos, neg_ℤ, false, true, Some, None, List, [], ◌∷◌, codes}
use Rattle.page_model.specs.declared.element.Tag.TheVariants.{Body, Div}
use Rattle.page_model.specs.declared.rule.Decl.{Decl}
use Rattle.page_model.specs.declared.rule.Longhand.{Longhand}
use Rattle.page_model.specs.declared.rule.Longhand.TheVariants.{Position, Left, Top, Width, Height, Colour, ZIndex}
use Rattle.page_model.specs.declared.rule.Rule.{Rule}
use Rattle.page_model.specs.declared.scene.Layer.{Layer}
use Rattle.page_model.specs.declared.scene.Scene.{Scene}
use Rattle.page_model.specs.Cascade.{Sources, IsScene, IsFirstFault, not_placed}
use Rattle.page_model.specs.ValidScene.{IsValid}
use Rattle.page_values.specs.CascadeValues.{compound, element}
use Rattle.page_values.specs.Colours.{opaque_grey}
use Rattle.page_values.specs.SceneValues.{body, held}

-- a declaration that isn't important
abbrev pub plainly : Longhand → ℕ → Decl
plainly longhand place = record { longhand = longhand; important = false; place = place }

-- body { background-color: 1 } body { background-color: 2 }
abbrev body_rule : ℕ → ℕ → Rule
body_rule level place = record {
  selectors = compound (Some (codes "body")) [] [] ∷ [];
  decls = plainly (Colour (opaque_grey level)) place ∷ [];
}

abbrev pub body_rules : List Rule
body_rules = body_rule 1 40 ∷ (body_rule 2 80 ∷ [])

-- position: absolute; left: 10px; top: -20px; width: 30px; background-color: 3; z-index: 5
abbrev pub without_height : List Decl
without_height =
    plainly Position 200
    ∷ (plainly (Left (pos 1000)) 210
    ∷ (plainly (Top (neg_ℤ (pos 2000))) 220
    ∷ (plainly (Width (pos 3000)) 230 ∷ (plainly (Colour (opaque_grey 3)) 240 ∷ (plainly (ZIndex (pos 5)) 250 ∷ [])))))

-- the same with height: 40px in front
abbrev pub whole_box : List Decl
whole_box = plainly (Height (pos 4000)) 190 ∷ without_height

-- a page of a body and a box with a style attribute
abbrev pub sources_with : List Decl → Sources
sources_with attribute = record {
  rules = body_rules;
  sets = [];
  set_named = λ name. None;
  elements = element Body None [] ∷ (element Div None [] ∷ []);
  inline = [] ∷ (attribute ∷ []);
}

abbrev pub the_box : Layer
the_box = record {
  colour = Some (opaque_grey 3);
  opacity = 1000;
  shown = true;
  left = pos 1000;
  top = neg_ℤ (pos 2000);
  width = pos 3000;
  height = pos 4000;
  z = pos 5;
  important = held false;
  anims = [];
}

abbrev pub the_scene : Scene
the_scene = record { layers = body (Some (opaque_grey 2)) false [] ∷ (the_box ∷ []); order = 1 ∷ []; sets = [] }

pub record PageValues : Type 0 where
  pub scene : IsScene (sources_with whole_box) the_scene
  pub valid : IsValid the_scene
  pub fault : IsFirstFault (sources_with without_height) 1 not_placed
  pub no_fault : IsFirstFault (sources_with whole_box) 1 not_placed → ⊥
