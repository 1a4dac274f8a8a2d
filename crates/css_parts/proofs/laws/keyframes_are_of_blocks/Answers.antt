use Rattle.css_parts.proofs.FramesOfBlocks.{frame_stands, frames_rise}
use Rattle.css_parts.proofs.OffsetsOnce.{listed_once}
use Rattle.css_parts.proofs.laws.keyframes_are_of_blocks.Goals as goal

pub returns-clause-rise : goal.returns-clause-rise
returns-clause-rise c = frames_rise

pub returns-clause-stand : goal.returns-clause-stand
returns-clause-stand c = frame_stands

pub returns-clause-once : goal.returns-clause-once
returns-clause-once c = listed_once
