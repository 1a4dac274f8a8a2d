use Rattle.std.proofs.Common.{All, length, subst, sym}
use Rattle.page_model.specs.declared.element.Element.{Element}
use Rattle.page_reader.specs.PageWhole.{IsWithin}
use Rattle.page_reader.proofs.PagePlaces.{page_whole}
use Rattle.page_loader.proofs.loading.load_styled.Goals as goal

pub read_styles-requires-clause-within : goal.read_styles-requires-clause-within
read_styles-requires-clause-within c =
    subst (All (λ (element : Element). IsWithin (length c.args.text.now) element.style)) (sym c.as_slice.ensures)
    (page_whole c.args.text.now c.args.page c.requires.style.is_page).styles
