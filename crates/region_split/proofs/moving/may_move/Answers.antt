use Rattle.std.proofs.Common.{◌≡◌, ◌∙◌, false, get_or, sym}
use Rattle.std.specs.Prelude.{Some, slice_get, slice_index_or}
use Rattle.std.proofs.lemmas.Option.{slice_get-get_or, slice_get_within}
use Rattle.page_model.specs.declared.scene.Layer.{Layer}
use Rattle.region_split.proofs.StayLemmas.{columns-still, rows-still}
use Rattle.region_split.specs.Moving.{may_move}
use Rattle.region_split.proofs.moving.may_move.Goals as goal

pub returns-clause-stays : goal.returns-clause-stays
returns-clause-stays c l there quiet setup frame other state again is so =
    let scene = c.args.scene.now in
    let read : Layer = c.index-as_slice-from.result in
    let one : slice_get scene.layers c.args.number ≡ Some (get_or scene.layers c.args.number read) =
    slice_get-get_or scene.layers c.args.number read c.requires in
    let at : read ≡ get_or scene.layers c.args.number read = rw (c.as_slice.ensures, c.from.ensures) at c.index-as_slice-from.is in
    let same : read ≡ l = cc in
    let none : may_move scene.sets l ≡ false =
    sym (rw (c.as_slice-2.ensures, c.as_slice-3.ensures, same) at c.some_moves.ensures) ∙ quiet in
    let across = columns-still scene setup l none frame other state again is so in
    let down = rows-still scene setup l none frame other state again is so in
    record { left = across.0; width = across.1; top = down.0; height = down.1 }
