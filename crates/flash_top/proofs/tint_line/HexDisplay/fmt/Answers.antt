-- What the three holes write are the channels' texts.
use Rattle.std.proofs.Common.{rules}
use Rattle.witness_text.proofs.Hex.{padded_channel}
use Rattle.flash_top.proofs.tint_line.HexDisplay.fmt.Goals as goal

pub returns-clause-writes : goal.returns-clause-writes
returns-clause-writes g c =
    let colour = c.args.self.now.0 in
    let red = padded_channel colour.r (search rules) in
    let green = padded_channel colour.g (search rules) in
    let blue = padded_channel colour.b (search rules) in
    rw (c.in_radix.ensures, c.laid_out.ensures, c.in_radix-2.ensures, c.laid_out-2.ensures, c.in_radix-3.ensures, c.laid_out-3.ensures, red, green, blue) at c.write.ensures.writes
