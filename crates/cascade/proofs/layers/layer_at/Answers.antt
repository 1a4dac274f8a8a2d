use Rattle.std.proofs.Common.{◌≡◌, ◌∙◌, sym, ap, subst, inr, Some, None, length}
use Rattle.std.specs.Prelude.{option_map}
use Rattle.page_model.specs.Cascade.{AreWinners, Winners, animations_won, fault_of, layer_of}
use Rattle.page_model.specs.ValidScene.{IsLayer}
use Rattle.css_reader.specs.SheetState.{set_named}
use Rattle.cascade_winners.specs.Views.{winners_as}
use Rattle.cascade.specs.FaultViews.{fault_as}
use Rattle.cascade.specs.Sources.{FitsTag, kept_of}
use Rattle.cascade.proofs.SourceLemmas.{fault_for, layer_for}
use Rattle.cascade.proofs.ValidLemmas.{fits_tag, tests_failed, valid_layer}
use Rattle.cascade.proofs.layers.layer_at.Goals as goal

pub returns-in-Some-clause-refused : goal.returns-in-Some-clause-refused
returns-in-Some-clause-refused c =
    let sheet = c.args.sheet.now in
    let element = c.args.element.now in
    let inline = c.args.inline.now in
    let own = winners_as c.winners_of-winners.result in
    let fault : Some (fault_as c.in-Some.fault) ≡ fault_of element.tag (kept_of sheet) own c.in_ok-anims.anims
    = sym (ap (option_map fault_as) c.in-Some.is) ∙ c.fault_of.ensures (kept_of sheet) (c.as_slice.ensures.value ∙ c.requires.tables.more) ∙ ap (fault_of element.tag (kept_of sheet) own) c.as_slice-2.ensures in
    inr (record {
      kind = fault_as c.in-Some.fault;
      holds = fault_for sheet element inline own (λ other are. c.winners_of-winners.ensures.only other (subst (λ rules. AreWinners rules element inline other) (sym c.rules.ensures) are)) c.in_ok-anims.anims c.in_ok-anims.ensures (Some (fault_as c.in-Some.fault)) fault;
      is = c.told.ensures;
    })

pub returns-in-None-clause-layer : goal.returns-in-None-clause-layer
returns-in-None-clause-layer c =
    let sheet = c.args.sheet.now in
    let element = c.args.element.now in
    let inline = c.args.inline.now in
    let own = winners_as c.winners_of-winners.result in
    let anims = animations_won (set_named sheet) sheet.sets own in
    let only : (other : Winners) → AreWinners sheet.rules element inline other → other ≡ own
    = λ other are. c.winners_of-winners.ensures.only other (subst (λ rules. AreWinners rules element inline other) (sym c.rules.ensures) are) in
    let none : None ≡ fault_of element.tag (kept_of sheet) own c.in_ok-anims.anims
    = sym (ap (option_map fault_as) c.in-None.is) ∙ c.fault_of.ensures (kept_of sheet) (c.as_slice.ensures.value ∙ c.requires.tables.more) ∙ ap (fault_of element.tag (kept_of sheet) own) c.as_slice-2.ensures in
    let whole : c.layer_of.result ≡ layer_of own anims = c.layer_of.ensures ∙ ap (layer_of own) c.in_ok-anims.ensures in
    let clear = tests_failed element.tag (kept_of sheet) own anims (none ∙ ap (fault_of element.tag (kept_of sheet) own) c.in_ok-anims.ensures) in
    record {
      no_fault = fault_for sheet element inline own only c.in_ok-anims.anims c.in_ok-anims.ensures None none;
      is_layer = layer_for sheet element inline own only c.in_ok-anims.anims c.in_ok-anims.ensures c.layer_of.result c.layer_of.ensures;
      valid = subst (IsLayer (length (kept_of sheet))) (sym whole) (valid_layer sheet element.tag own c.winners_of-winners.ensures.values clear);
      fits = subst (FitsTag element.tag (kept_of sheet)) (sym whole) (fits_tag (kept_of sheet) element.tag own anims c.winners_of-winners.ensures.values clear);
    }
