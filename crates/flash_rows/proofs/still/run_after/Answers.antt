-- One frame more, or a new tint.
use Rattle.std.proofs.Common.{ℕ, ◌≡◌, ◌∙◌, ◌+◌, ◌-◌, ◌*◌, ◌%◌, ◌<◌, Some, ap, arith, get_or, subst, sym}
use Rattle.flash_rows.specs.Rows.{HasRun, byte, tint_in}
use Rattle.flash_rows.proofs.RunLemmas.{run-alone, run-more}
use Rattle.flash_rows.proofs.still.run_after.Goals as goal

pub returns-then-not-are_same : goal.returns-then-not-are_same
returns-then-not-are_same c tints count stands = run-alone _ _

pub returns : goal.returns
returns c tints count stands =
    let rate : ℕ = c.args.rate in
    let turn : ℕ = c.args.turn in
    let some : 0 < turn = omega arith in
    let tells = stands.tells (turn - 1) (omega (arith, count)) (omega (arith, count, c.requires.some)) in
    let index : 9 * ((turn - 1) % rate) + 0 ≡ 9 * c.last_place-place.result = omega (arith, c.last_place-place.ensures.value) in
    let is : c.tint_of-before.result ≡ c.args.tint = c.are_same.ensures.0 (c.if-not-are_same.false) in
    run-more rate turn tints c.args.tint (get_or c.bytes_of-bytes.result 6 0) c.later.result count some
    (tells.tint ∙ ap (λ i. Some (tint_in (get_or c.args.row.now i 0))) index ∙ ap Some (sym c.tint_of-before.ensures ∙ is))
    (subst (HasRun tints (turn - 1)) (ap (λ i. byte (get_or c.args.row.now i 0) 6) index ∙ sym (c.bytes_of-bytes.ensures 6)) tells.run)
    c.later.ensures
