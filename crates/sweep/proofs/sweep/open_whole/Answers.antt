-- Rows have as many frames as a window, which are among those that are looked at.
use Rattle.std.proofs.Common.{◌≡◌, ◌*◌, ◌+◌, ◌≤◌, ℕ, length, subst, sym}
use Rattle.page_model.specs.Cells.{cells_between}
use Rattle.page_model.specs.Time.{window_of}
use Rattle.sweep.specs.Swept.{IsRoom, groups_in}
use Rattle.sweep.proofs.RoomLemmas.{words-few}
use Rattle.sweep.proofs.sweep.open_whole.Goals as goal

pub open-requires-clause-few : goal.open-requires-clause-few
open-requires-clause-few c =
    subst (λ (cells : ℕ). cells * (9 * (c.rate-2.result + 1)) ≤ 67108864) (sym c.cells.ensures)
    (subst (λ (rate : ℕ). cells_between c.args.cuts.xs c.args.cuts.ys * (9 * (rate + 1)) ≤ 67108864) (sym c.rate-2.ensures.value)
    (words-few (window_of c.args.setup) (cells_between c.args.cuts.xs c.args.cuts.ys) c.args.needed c.requires.cut.few_enough))

pub invariant_of-result : goal.invariant_of-result
invariant_of-result c =
    let room = c.in_ok-room.room in
    let setup = c.args.setup in
    let is = c.in_ok-room.ensures.room in
    let rows : c.cells.result ≡ length room.pool.rows = sym is.rows.all in
    record {
      room_is =
          subst (λ (rate : ℕ). IsRoom rate (length c.args.scene.layers) (length room.pool.rows) (groups_in c.in_ok-groups.groups) room) c.rate-2.ensures.value
          (subst (λ (layers : ℕ). IsRoom c.rate-2.result layers (length room.pool.rows) (groups_in c.in_ok-groups.groups) room) c.len.ensures
          (subst (λ (n : ℕ). IsRoom c.rate-2.result c.len.result n (groups_in c.in_ok-groups.groups) room) rows
          (rw c.firsts.ensures at is)));
      grouped = rw (c.from.ensures, c.rate.ensures.value) at c.in_ok-groups.ensures;
    }
