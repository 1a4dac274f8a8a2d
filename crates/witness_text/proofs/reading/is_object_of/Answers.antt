-- The value has one text with the witness whose object it is.
use Rattle.std.proofs.Common.{sym, ◌∙◌}
use Rattle.std.specs.Cmp.Lexicographic.{other_text}
use Rattle.serde_json.specs.View.{view}
use Rattle.witness_text.proofs.ReadLemmas.{one_text}
use Rattle.witness_text.proofs.reading.is_object_of.Goals as goal

pub returns-clause-other : goal.returns-clause-other
returns-clause-other c same =
    let e = one_text (view c.args.value.now) c.args.witness.now c.in_ok-wanted.wanted.items c.in_ok-text.text.items c.in_ok-wanted.ensures.text c.in_ok-text.ensures.text same in
    absurd (other_text c.as_slice.result.now c.as_slice-2.result.now c.if-eq.ensures (c.as_slice.ensures.value ∙ e ∙ sym c.as_slice-2.ensures.value))
