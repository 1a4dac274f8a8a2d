-- The boxes so far are added, and the sequence has come as far.
use Rattle.std.proofs.Common.{◌≡◌, ◌++◌}
use Rattle.page_gen.specs.GeneratedPage as definition
use Rattle.page_gen.proofs.generated.add_boxes.Given as goal

abbrev pub invariant-loop-number : goal.invariant-loop-number
invariant-loop-number l =
    (l.text.items ≡ l.initial.text.items ++ definition.boxes_text l.first l.number) × (l.z ≡ definition.number_at l.first l.number)
