-- What a page that is read promises to those who read on.
use Rattle.std.specs.Prelude.{ℕ, ◌≡◌, ◌≤◌, ◌↔◌, All, length, slice_get, Some}
use Rattle.page_model.specs.declared.element.Element.{Element}
use Rattle.page_model.specs.declared.element.PageText.{PageText}
use Rattle.page_model.specs.declared.element.Tag.TheVariants.{Body}
use Rattle.page_model.specs.declared.place.Place.{Place}

-- a place lies in a text of this length
pub record IsWithin (total : ℕ) (place : Place) : Type 0 where
  pub in_order : place.from ≤ place.to
  pub inside : place.to ≤ total

-- the first element and no other is the body, and the places of the style text and of the style attributes lie in the text
pub record IsWhole (total : ℕ) (page : PageText) : Type 0 where
  pub some : 1 ≤ length page.elements
  pub body : (number : ℕ) (element : Element) → slice_get page.elements number ≡ Some element → (element.tag ≡ Body ↔ number ≡ 0)
  pub sheet : IsWithin total page.sheet
  pub styles : All (λ (element : Element). IsWithin total element.style) page.elements
