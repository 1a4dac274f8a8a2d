-- A box meets just the cells where it is seen.
use Rattle.std.proofs.Common.{ℕ, ◌≡◌, ◌≤◌, List, arith, inl, inr}
use Rattle.std.proofs.lemmas.Bool.{cases_lt}
use Rattle.std.proofs.lemmas.Result.{IfOk-weaker}
use Rattle.page_model.specs.declared.scene.Scene.{Scene}
use Rattle.page_model.specs.declared.setup.Setup.{Setup}
use Rattle.region_parts.specs.declared.areas.Area.{Area}
use Rattle.region_parts.specs.Meeting.{AreAreasOf, IsBoxAreasOf}
use Rattle.region_parts.proofs.areas.areas_of.Goals as goal

box-areas : (scene : Scene) (setup : Setup) (number frames : ℕ) (areas : List Area) → (number ≡ 0 → ⊥)
    → IsBoxAreasOf scene setup number frames areas → AreAreasOf scene setup number frames areas
box-areas scene setup number frames areas is_box are column row pixel = (
  λ has. inr (some-box, (are column row pixel).0 has),
  λ meets. elim meets [
    | inl body ↦ absurd (is_box body.0)
    | inr box ↦ (are column row pixel).1 box.1
  ],
) where
  some-box : 1 ≤ number
  some-box = elim (cases_lt 0 number) [
    | inl some ↦ some
    | inr none ↦ absurd (is_box (omega arith))
  ]

pub returns-then-number-ne0 : goal.returns-then-number-ne0
returns-then-number-ne0 c =
    let scene = c.args.scene.now in
    let setup = c.args.setup.now in
    IfOk-weaker c.areas_below.result (λ areas. IsBoxAreasOf scene setup c.args.number c.args.frames areas.items)
    (λ areas. AreAreasOf scene setup c.args.number c.args.frames areas.items)
    (λ areas are. box-areas scene setup c.args.number c.args.frames areas.items c.if-number-ne0.true are) c.areas_below.ensures
