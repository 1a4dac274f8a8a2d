-- Each window of a pixel is one that was looked at.
use Rattle.apart_laws.proofs.SafeLemmas.{parted-safe}
use Rattle.apart_laws.proofs.parted.parted_pages_are_safe.Goals as goal

pub returns : goal.returns
returns c = parted-safe
