use Rattle.css_parts.proofs.FramesOfBlocks.{last_block, last_values}
use Rattle.css_parts.proofs.laws.keyframes_have_the_last_values.Goals as goal

pub returns-clause-block : goal.returns-clause-block
returns-clause-block c = last_block

pub returns-clause-values : goal.returns-clause-values
returns-clause-values c = last_values
