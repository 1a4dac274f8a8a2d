-- Each channel has the value that is computed; the rest is computing.
use Rattle.std.proofs.Common.{rules}
use Rattle.page_values.proofs.AlphaLemmas.{channel-at}
use Rattle.page_values.proofs.scene_values.alpha_values.Goals as goal

pub returns : goal.returns
returns c = search (rules, channel-at)
