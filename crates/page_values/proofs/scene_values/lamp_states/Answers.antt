-- Each channel of a grey has the value that is computed; the rest is computing.
use Rattle.std.proofs.Common.{rules}
use Rattle.page_values.proofs.AlphaLemmas.{channel-at}
use Rattle.page_values.proofs.scene_values.lamp_states.Goals as goal

pub returns : goal.returns
returns c = search (rules, channel-at)
