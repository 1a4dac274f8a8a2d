use Rattle.std.proofs.Common.{length}
use Rattle.css_reader.proofs.SheetReading.{AreItems}
use Rattle.css_reader.proofs.reading.read_tokens.Given as goal

abbrev pub invariant-reading : goal.invariant-reading
invariant-reading l = AreItems l.text l.part.to l.tokens l.sheet l.rest

abbrev pub decreases-reading : goal.decreases-reading
decreases-reading l = length l.rest
