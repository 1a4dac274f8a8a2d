-- What was taken is given back.
use Rattle.std.proofs.Common.{rules}
use Rattle.sweep.specs.Swept.{groups_in}
use Rattle.page_model.specs.Time.{window_of}
use Rattle.cell_tints.specs.Tints.{cells_of}
use Rattle.sweep.proofs.RoomLemmas.{free-back}
use Rattle.sweep.proofs.pass.find.Goals as goal

pub returns-clause-free : goal.returns-clause-free
returns-clause-free c =
    let old = c.args.room.now.pool in
    let taken = c.take_rows.new.pool in
    let begun = c.begin_rows.new.pool in
    let pushed = c.pass-found.new.room.pool in
    let new = c.give_rows.new.pool in
    free-back (window_of c.args.setup.now) (cells_of c.args.cuts.now) (groups_in c.args.groups.now) old taken begun pushed new record {
      few = c.requires.groups.few;
      has = c.requires.room.rows;
      is_taken = search rules;
      is_begun = search rules;
      is_pushed = c.pass-found.ensures.only;
      roomy = c.pass-found.ensures.roomy;
      is_given = search rules;
    }
