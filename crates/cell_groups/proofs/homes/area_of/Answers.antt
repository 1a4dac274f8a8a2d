-- One frame more.
use Rattle.std.proofs.Common.{◌≡◌, arith, inl, inr, subst}
use Rattle.std.proofs.lemmas.Bool.{cases_lt}
use Rattle.page_model.specs.Enclosure.{IsLooseStateAt, own}
use Rattle.frame_state.specs.Places.{IsOwnPlace, LoosePlace, place_as, place_in}
use Rattle.cell_groups.specs.declared.homes.Home.TheVariants.{Within}
use Rattle.cell_groups.specs.Homes.{IsAtHome}
use Rattle.cell_groups.proofs.homes.area_of.Goals as goal

pub loop-k-preserved : goal.loop-k-preserved
loop-k-preserved c layer there frame state below is column row outside =
    let scene = c.args.scene.now in
    let setup = c.args.setup.now in
    elim (cases_lt frame c.loop-k.k) [
      | inl early ↦ c.loop-k.invariant layer there frame state early is column row (c.grown-area.ensures.kept column row outside)
      | inr late ↦
          let last : frame ≡ c.loop-k.k = omega (arith, below, late) in
          let mine : IsOwnPlace scene setup c.loop-k.k layer (place_as c.place_at.result) = rw c.from.ensures at c.place_at.ensures.own layer there in
          let same : place_as c.place_at.result ≡ place_in state =
          mine.each state (subst (λ n. IsLooseStateAt own scene setup n layer state) last is) in
          subst (λ (place : LoosePlace). IsAtHome place (Within c.grown-area.result)) same c.grown-area.ensures.home column row outside
    ]

pub returns : goal.returns
returns c =
    let same : c.loop-k.k ≡ c.args.frames = omega (arith, c.loop-k.auto.k-end, c.loop-k-test.false) in
    rw same at c.loop-k.invariant
