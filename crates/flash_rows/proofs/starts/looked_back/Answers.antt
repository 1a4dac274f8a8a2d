-- The look back, from the end of one run of frames with the same tint to that of the run before.
use Rattle.std.proofs.Common.{ℕ, ◌≡◌, ◌+◌, ◌-◌, ◌*◌, ◌%◌, List, [], ◌∷◌, ◌++◌, get_or, arith, sym, ap, subst}
use Rattle.page_model.specs.declared.colour.Tint.{Tint}
use Rattle.flash_rows.specs.Pushing.{latest_of}
use Rattle.flash_rows.specs.Rows.{HasRun, byte, words_at}
use Rattle.flash_rows.specs.Starts.{IsLatest}
use Rattle.flash_rows.proofs.PassLemmas.{starts-passed}
use Rattle.flash_rows.proofs.RowLemmas.{Back, run-grown, starts-all, starts-none, starts-step}
use Rattle.flash_rows.proofs.starts.looked_back.Goals as goal

pub back-init : goal.back-init
back-init c = (
  omega arith,
  c.no_starts-best.ensures.small,
  λ change tints count stands n few.
      starts-none c.args.rate c.args.turn tints c.args.next.now.tint change n (c.args.turn + 1 - 1)
      (get_or (latest_of change c.no_starts-best.result) n 0) (omega arith) (c.no_starts-best.ensures.none change n few),
)

pub overflow_add-age : goal.overflow_add-age
overflow_add-age c = omega (arith, c.run_at-age.ensures.small, c.back-test.true, c.frames_back-back.ensures, c.requires.limit)

pub back-smaller : goal.back-smaller
back-smaller c = omega (arith, c.run_at-age.ensures.value, c.back-test.true, c.frames_back-back.ensures)

pub back-preserved : goal.back-preserved
back-preserved c =
    let rate : ℕ = c.args.rate in
    let turn : ℕ = c.args.turn in
    let age : ℕ = c.back.age in
    let run : ℕ = c.run_at-age.result in
    let frame : ℕ = turn - age in
    let past : turn + 1 - (age + run) ≡ frame - (run - 1) = omega (arith, c.run_at-age.ensures.value) in (
      omega (arith, c.back.invariant.0),
      c.look_at.ensures.small,
      λ change tints count stands n few.
          let all : List Tint = tints ++ c.args.next.now.tint ∷ [] in
          let tells = stands.tells frame (omega (arith, count, c.back.invariant.0, c.back-test.true, c.frames_back-back.ensures))
          (omega (arith, count, c.back-test.true, c.frames_back-back.ensures)) in
          let index : 9 * (frame % rate) + 0 ≡ 9 * c.place_back-place.result = omega (arith, c.place_back-place.ensures.value) in
          let word : byte (words_at rate c.args.row.now frame 0) 6 ≡ byte (get_or c.args.row.now (9 * c.place_back-place.result) 0) 6 =
          ap (λ i. byte (get_or c.args.row.now i 0) 6) index in
          let is : byte (words_at rate c.args.row.now frame 0) 6 ≡ run = omega (arith, c.run_at-age.ensures.value, word, tells.run.some) in
          let has : HasRun all frame run =
          run-grown tints c.args.next.now.tint frame run (omega (arith, count, c.back.invariant.0, c.back-test.true, c.frames_back-back.ensures))
          (subst (HasRun tints frame) is tells.run) in
          subst (λ low. IsLatest (Back change all n low turn) rate turn (get_or (latest_of change c.look_at.new.best) n 0)) (sym past)
          (starts-passed all change n frame turn rate (get_or (latest_of change c.look_at.new.best) n 0) run (run - 1)
          (omega (arith, c.back.invariant.0, c.back-test.true, c.frames_back-back.ensures)) has (omega (arith, c.run_at-age.ensures.value))
          (starts-step rate age turn c.place_back-place.result tints c.args.next.now.tint c.args.row.now change (latest_of change c.back.best)
          (latest_of change c.look_at.new.best) n count stands (omega (arith, c.back.invariant.0))
          (omega (arith, c.back-test.true, c.frames_back-back.ensures)) (omega (arith, c.back-test.true, c.frames_back-back.ensures))
          c.requires.limit c.place_back-place.ensures.value few (c.look_at.ensures.lowered change)
          (c.back.invariant.2 change tints count stands n few))),
    )

pub returns-clause-starts : goal.returns-clause-starts
returns-clause-starts c change tints count stands n few =
    starts-all c.args.rate c.args.turn tints c.args.next.now.tint change n (c.args.turn + 1 - c.back.age)
    (get_or (latest_of change c.back.best) n 0) (omega (arith, c.back-test.false, c.frames_back-back.ensures))
    (c.back.invariant.2 change tints count stands n few)
