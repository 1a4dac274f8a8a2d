-- The shared columns and the shared rows.
use Rattle.std.proofs.Common.{rules}
use Rattle.witness_make.specs.Clip.{IsShared}
use Rattle.witness_make.proofs.ClipLemmas.{both-sides}
use Rattle.witness_make.proofs.clip.cut_to.Goals as goal

pub returns : goal.returns
returns c =
    let one : IsShared c.args.cell.x c.args.cell.width c.args.x 341 c.in-Some.columns = search rules in
    let other : IsShared c.args.cell.y c.args.cell.height c.args.y 256 c.in-Some-clip.rows = search rules in
    both-sides c.args.x c.args.y c.args.cell c.in-Some.columns c.in-Some-clip.rows one other
