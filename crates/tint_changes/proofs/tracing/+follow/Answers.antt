use Rattle.std.proofs.Common.{◌≡◌, length, arith}
use Rattle.tint_changes.proofs.TraceLemmas.{follows_first-leads}
use Rattle.tint_changes.proofs.tracing.+follow.Goals as goal

pub returns-in-Some : goal.returns-in-Some
returns-in-Some t c =
    let same : length c.in-Some.rest.now ≡ length c.follow.new.places = omega arith in
    follows_first-leads c.args.opposing c.turned.result c.args.tints.now c.args.second.now c.args.place c.next_place-found.result
    c.follow.new.places c.turned.ensures.first c.turned.ensures.second c.requires.second (omega arith)
    (rw same at c.next_place-found.ensures) c.follow.ensures
