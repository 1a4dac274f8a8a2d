-- A text has enough bytes for the parts. Where the texts differ, the bytes are a text of no witness.
use Rattle.serde_json.specs.View.{view}
use Rattle.witness_text.proofs.CountLemmas.{parts_few}
use Rattle.witness_text.proofs.ReadLemmas.{reads_found, refuses_none}
use Rattle.witness_text.proofs.reading.from_text.Goals as goal

pub returns-clause-refused : goal.returns-clause-refused
returns-clause-refused c is w text =
    refuses_none c.args.bytes.now w c.in_ok-witness.witness (view c.in_ok-value.value) c.in_ok-value.ensures.ok.1 c.in_ok-witness.ensures.value
    (λ same. let yes = c.in_ok-is_object_of.ensures.other same in let no = c.if-branch.false in cc) text

pub returns-then-branch-clause-few : goal.returns-then-branch-clause-few
returns-then-branch-clause-few c =
    let ok = c.in_ok-value.ensures.ok in
    let same = c.in_ok-is_object_of.ensures.same c.if-branch.true in
    parts_few c.args.bytes.now c.in_ok-witness.witness
    (reads_found c.args.bytes.now c.in_ok-witness.witness (view c.in_ok-value.value) ok.0 ok.1 c.in_ok-witness.ensures.value same)
