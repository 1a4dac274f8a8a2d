use Rattle.std.proofs.Common.{[], arith, refl, rules}
use Rattle.flash_count.proofs.tracking.Tracker.new.Goals as goal

pub invariant_of-result : goal.invariant_of-result
invariant_of-result c = record {
  some = c.requires.some;
  limit = c.requires.limit;
  tints = [];
  are = refl;
  stands = c.row_begin.ensures;
  holds = record { room = omega (arith, c.requires.limit); each = λ frame inside near. absurd (omega arith) };
  tells = search rules;
}
