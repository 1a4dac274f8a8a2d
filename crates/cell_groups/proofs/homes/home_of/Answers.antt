-- A box that may not move is where it is in the first frame, and one that repeats does nothing new behind that.
use Rattle.std.proofs.Common.{◌≡◌, ◌∙◌, subst, sym}
use Rattle.frame_state.specs.Places.{LoosePlace, place_as, place_in}
use Rattle.cell_groups.specs.Homes.{IsAtHome}
use Rattle.cell_groups.proofs.HomeLemmas.{one-place}
use Rattle.cell_groups.proofs.homes.home_of.Goals as goal

pub returns-then-may_move : goal.returns-then-may_move
returns-then-may_move c l there frame state below is =
    let early = c.frames_of-enough.ensures.enough l there frame below in
    c.area_of.ensures l there early.0 state early.1 (early.2 state is)

pub returns : goal.returns
returns c l there frame state below is =
    let mine = c.place_at.ensures.own l there in
    let same : place_as c.place_at.result ≡ place_in state =
    mine.each mine.state mine.is_own
    ∙ sym (one-place state mine.state
    (c.may_move.ensures.stays l there c.if-may_move.false c.args.setup.now frame 0 state mine.state is mine.is_own)) in
    subst (λ (place : LoosePlace). IsAtHome place c.fixed_at.result) same c.fixed_at.ensures
