-- The keyframes are those of the set.
use Rattle.std.proofs.Common.{◌≡◌, ◌∙◌, ap, Some}
use Rattle.std.specs.List.{list_any}
use Rattle.page_model.specs.declared.keyframe.KeyframeSet.{KeyframeSet}
use Rattle.layer_ways.specs.Named.{is_set_by}
use Rattle.layer_ways.proofs.NamedLemmas.{named-is}
use Rattle.layer_ways.proofs.named.named_by.Goals as goal

one : {X : Type 0} (x y : X) → Some x ≡ Some y → x ≡ y
one x y e = cc

pub returns-in-Some-clause-there : goal.returns-in-Some-clause-there
returns-in-Some-clause-there c other set is =
    let same : c.in-Some.set.now ≡ set = one c.in-Some.set.now set (c.in-Some.ensures ∙ is) in
    c.named_in.ensures other ∙ ap (list_any (is_set_by other)) (c.as_slice.ensures ∙ ap (λ (s : KeyframeSet). s.frames) same)
    ∙ named-is other set.frames
