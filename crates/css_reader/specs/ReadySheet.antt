-- What a style sheet and style attributes promise to the cascade.
use Rattle.std.specs.Prelude.{ℕ, ◌≡◌, ◌<◌, ◌^◌, false, IfSome, List, length, slice_get, Some, All, ◌⊎◌}
use Rattle.page_model.specs.declared.keyframe.KeyframeSet.{KeyframeSet}
use Rattle.page_model.specs.declared.rule.Decl.{Decl}
use Rattle.page_model.specs.declared.rule.Rule.{Rule}
use Rattle.page_model.specs.Cascade.{names_property}
use Rattle.page_model.specs.ValidScene.{IsSet}
pub use Rattle.css_declarations.specs.ReadyDecls.{IsReadyDecl, AreApart, AreReadyDecls}
use Rattle.css_reader.specs.SheetState.{SheetState, set_named}

-- the rules of a sheet
pub record AreReadyRules (rules : List Rule) : Type 0 where
  pub decls : All (λ (rule : Rule). AreReadyDecls rule.decls) rules
  pub apart :
      (i j : ℕ) (one other : Rule) (m n : ℕ) (first second : Decl)
      → i < j → slice_get rules i ≡ Some one → slice_get rules j ≡ Some other
      → slice_get one.decls m ≡ Some first → slice_get other.decls n ≡ Some second → AreApart first second

-- a set is as a valid scene needs it, or names no property
abbrev pub IsReadySet : KeyframeSet → Type 0
IsReadySet set = IsSet set ⊎ (names_property set ≡ false)

pub record IsReadySheet (sheet : SheetState) : Type 0 where
  pub rules : AreReadyRules sheet.rules
  pub sets : All IsReadySet sheet.sets
  pub few_sets : length sheet.sets < 2 ^ 32
  pub names : (name : List ℕ) → IfSome (set_named sheet name) (λ number. number < length sheet.sets)
