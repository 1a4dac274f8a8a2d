-- The part of a cell, or why there is none.
use Rattle.std.proofs.Common.{◌≡◌, ◌+◌, ◌≤◌, arith, length, rules, subst, sym}
use Rattle.page_model.specs.Time.{window_of}
use Rattle.region_split.specs.declared.types.Rect.{Rect}
use Rattle.witness_make.specs.Clip.{IsCutTo, Misses}
use Rattle.witness_make.proofs.MadeLemmas.{cell-fits, sides-of}
use Rattle.witness_make.proofs.PartLemmas.{part-told}
use Rattle.witness_make.proofs.SameLemmas.{unflagged-seen}
use Rattle.witness_make.proofs.TurnLemmas.{picked-own, places-within}
use Rattle.witness_make.proofs.part.part_of.Goals as goal

pub cut_to-requires-clause-columns : goal.cut_to-requires-clause-columns
cut_to-requires-clause-columns c =
    let fits = cell-fits c.args.setup.now c.args.cuts.now c.args.number
    (sides-of c.args.scene.now c.args.setup.now c.args.cuts.now c.args.bad.start c.requires.cut) c.requires.known in
    subst (λ (r : Rect). r.x + r.width ≤ 4096) (sym c.cell.ensures) fits.0

pub cut_to-requires-clause-rows : goal.cut_to-requires-clause-rows
cut_to-requires-clause-rows c =
    let fits = cell-fits c.args.setup.now c.args.cuts.now c.args.number
    (sides-of c.args.scene.now c.args.setup.now c.args.cuts.now c.args.bad.start c.requires.cut) c.requires.known in
    subst (λ (r : Rect). r.y + r.height ≤ 4096) (sym c.cell.ensures) fits.1

pub returns-in_default : goal.returns-in_default
returns-in_default c =
    let misses : Misses c.args.bad.x c.args.bad.y c.cell.result = search rules in
    λ column row flagged inside is.
    (subst (λ (r : Rect). Misses c.args.bad.x c.args.bad.y r) c.cell.ensures misses) column row inside is

pub returns-in_default-chain : goal.returns-in_default-chain
returns-in_default-chain c =
    let whole : length c.see.new.tints ≡ window_of c.args.setup.now + 1 = search rules in
    let are = picked-own c.args.scene.now c.args.setup.now c.args.cuts.now c.args.bad.start (window_of c.args.setup.now + 1) c.cells.result c.args.number
    c.args.tints.now c.see.new.tints c.requires.seen c.cells.ensures c.requires.known whole c.see.ensures.picked in
    λ column row flagged inside is.
    unflagged-seen c.args.scene.now c.args.setup.now c.args.cuts.now c.args.bad.start c.args.number column row c.see.new.tints c.requires.valid
    c.requires.cut c.requires.known whole are c.in_default-chain.ensures flagged inside

pub told-requires-clause-places : goal.told-requires-clause-places
told-requires-clause-places c =
    let whole : length c.see.new.tints ≡ window_of c.args.setup.now + 1 = search rules in
    places-within c.see.new.tints c.in-Some-chain.trace (omega (arith, whole)) c.in-Some-chain.ensures

pub returns : goal.returns
returns c =
    let whole : length c.see.new.tints ≡ window_of c.args.setup.now + 1 = search rules in
    let are = picked-own c.args.scene.now c.args.setup.now c.args.cuts.now c.args.bad.start (window_of c.args.setup.now + 1) c.cells.result c.args.number
    c.args.tints.now c.see.new.tints c.requires.seen c.cells.ensures c.requires.known whole c.see.ensures.picked in
    let cut : IsCutTo c.args.bad.x c.args.bad.y c.cell.result c.in-Some.rect = search rules in
    part-told c.args.scene.now c.args.setup.now c.args.cuts.now c.args.bad.start c.args.number c.args.bad.x c.args.bad.y c.in-Some.rect c.see.new.tints
    c.in-Some-chain.trace c.told.result c.requires.valid c.requires.cut c.requires.known
    (subst (λ (r : Rect). IsCutTo c.args.bad.x c.args.bad.y r c.in-Some.rect) c.cell.ensures cut) whole are c.in-Some-chain.ensures
    c.told.ensures.x c.told.ensures.y c.told.ensures.width c.told.ensures.height c.told.ensures.tells c.told.ensures.bytes
