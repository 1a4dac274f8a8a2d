-- What declarations promise to the cascade.
use Rattle.std.specs.Prelude.{ℕ, ◌≡◌, ◌<◌, List, slice_get, Some, All}
use Rattle.page_model.specs.declared.rule.Decl.{Decl}
use Rattle.page_model.specs.Cascade.{number_of}
use Rattle.css_values.specs.ValidValues.{IsLonghand}

-- the declared value is as a valid scene needs it: numbers and easings in their limits, and no list without an item
abbrev pub IsReadyDecl : Decl → Type 0
IsReadyDecl decl = IsLonghand decl.longhand

-- of two declarations of one longhand property each has a place of its own
abbrev pub AreApart : Decl → Decl → Type 0
AreApart first second = number_of first.longhand ≡ number_of second.longhand → first.place ≡ second.place → ⊥

-- the declarations of a style attribute, or of a rule by themselves
pub record AreReadyDecls (decls : List Decl) : Type 0 where
  pub values : All IsReadyDecl decls
  pub apart :
      (i j : ℕ) (first second : Decl) → i < j → slice_get decls i ≡ Some first → slice_get decls j ≡ Some second
      → AreApart first second
