-- One keyframe more.
use Rattle.std.proofs.Common.{◌∙◌, ◌||◌, ◌<◌, ap, arith, length, sym, take}
use Rattle.std.specs.List.{list_any}
use Rattle.std.proofs.lemmas.List.Folds.{list_any_more}
use Rattle.page_model.specs.declared.keyframe.Keyframe.{Keyframe}
use Rattle.page_model.specs.declared.property.Setting.{Setting}
use Rattle.page_model.specs.Keyframes.{is_same}
use Rattle.layer_ways.specs.Named.{is_set_by}
use Rattle.layer_ways.proofs.named.named_in.Goals as goal

pub loop-frame-preserved : goal.loop-frame-preserved
loop-frame-preserved c other =
    let inside : c.loop-frame.frame-index < length c.args.frames.now = omega (arith, c.loop-frame-test.true) in
    let seen = list_any (is_set_by other) (take c.loop-frame.frame-index c.args.frames.now) in
    c.add_settings.ensures other
    ∙ ap (λ before. before || list_any (λ (setting : Setting). is_same setting.prop other) c.as_slice.result.now) (c.loop-frame.invariant other)
    ∙ ap (λ values. seen || list_any (λ (setting : Setting). is_same setting.prop other) values) c.as_slice.ensures
    ∙ ap (λ (frame : Keyframe). seen || is_set_by other frame) c.frame-item.is
    ∙ sym (list_any_more (is_set_by other) c.args.frames.now c.loop-frame.frame-index c.frame-item.result inside)
