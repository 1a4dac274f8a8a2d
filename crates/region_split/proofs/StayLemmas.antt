-- A layer that may not move begins and ends alike in each frame.
use Rattle.std.proofs.Common.{false, ◌≡◌, ◌∙◌, refl, sym}
use Rattle.page_model.specs.declared.property.Prop.TheVariants.{Left, Top, Width, Height}
use Rattle.page_model.specs.declared.scene.Layer.{Layer}
use Rattle.page_model.specs.declared.scene.Scene.{Scene}
use Rattle.page_model.specs.declared.setup.Setup.{Setup}
use Rattle.page_model.specs.Cells.{height_of, left_of, top_of, width_of}
use Rattle.page_model.specs.Enclosure.{IsLooseOn, Loose, own}
use Rattle.page_model.specs.LayerAt.{Course, length_of}
use Rattle.page_model.specs.Slot.{Slot, extent, position}
use Rattle.wide_laws.proofs.LooseLemmas.{loose_on-unique}
use Rattle.region_split.specs.Moving.{may_move}
use Rattle.region_split.proofs.MarkLemmas.{IsStill}
use Rattle.region_split.proofs.StillLemmas.{course-still, is_height, is_left, is_top, is_width}

-- on one course there is one loose value
same-course : (slot : Slot) (one other : Course) (from again : Loose) → one ≡ other → IsLooseOn own slot length_of one from
    → IsLooseOn own slot length_of other again → from ≡ again
same-course slot one other from again same first second = loose_on-unique own slot length_of other from again (rw same at first) second

pub columns-still : (scene : Scene) (setup : Setup) (layer : Layer) → may_move scene.sets layer ≡ false
    → IsStill left_of width_of scene setup layer
columns-still scene setup layer quiet frame other state again is so = (
  same-course position _ _ state.left again.left
      (course-still scene setup frame layer Left quiet (is_left refl) ∙ sym (course-still scene setup other layer Left quiet (is_left refl)))
      is.is_left so.is_left,
  same-course extent _ _ state.width again.width
      (course-still scene setup frame layer Width quiet (is_width refl) ∙ sym (course-still scene setup other layer Width quiet (is_width refl)))
      is.is_width so.is_width,
)

pub rows-still : (scene : Scene) (setup : Setup) (layer : Layer) → may_move scene.sets layer ≡ false
    → IsStill top_of height_of scene setup layer
rows-still scene setup layer quiet frame other state again is so = (
  same-course position _ _ state.top again.top
      (course-still scene setup frame layer Top quiet (is_top refl) ∙ sym (course-still scene setup other layer Top quiet (is_top refl)))
      is.is_top so.is_top,
  same-course extent _ _ state.height again.height
      (course-still scene setup frame layer Height quiet (is_height refl) ∙ sym (course-still scene setup other layer Height quiet (is_height refl)))
      is.is_height so.is_height,
)
