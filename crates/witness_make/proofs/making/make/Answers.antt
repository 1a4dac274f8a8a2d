-- The parts make a witness, and their pixels can be counted.
use Rattle.std.proofs.Common.{◌≡◌, ◌∙◌, ◌^◌, ◌<◌, FitsSigned, List, ap, rules, subst, sym}
use Rattle.std.specs.Prelude.{sum_by}
use Rattle.std.specs.Int.{w32}
use Rattle.page_model.specs.declared.witness.Part.{Part}
use Rattle.page_model.specs.declared.witness.Witness.{Witness}
use Rattle.witness_laws.proofs.AreaLemmas.{size_of}
use Rattle.witness_make.proofs.FormLemmas.{form-is}
use Rattle.witness_make.proofs.MadeLemmas.{area-fits, made-as}
use Rattle.witness_make.proofs.making.make.Goals as goal

pub area_of-area-requires : goal.area_of-area-requires
area_of-area-requires c =
    subst (λ (ps : List Part). sum_by size_of ps < 2 ^ 32) (sym c.as_slice.ensures.value)
    (area-fits c.args.scene.now c.args.setup.now c.args.cuts.now c.args.bad.start c.args.bad.x c.args.bad.y c.in_ok-parts.parts.items
    c.requires.valid c.requires.cut c.in_ok-parts.ensures)

pub returns : goal.returns
returns c =
    let count : c.area_of-area.result ≡ sum_by size_of c.in_ok-parts.parts.items =
    c.area_of-area.ensures ∙ ap (λ (ps : List Part). sum_by size_of ps) c.as_slice.ensures.value in
    let x_fits : FitsSigned w32 c.args.bad.x = search rules in
    let y_fits : FitsSigned w32 c.args.bad.y = search rules in
    let w : Witness = record {
      width = c.width.result;
      height = c.height.result;
      rate = c.num.result;
      per = c.den.result;
      start = c.args.bad.start;
      x = c.args.bad.x;
      y = c.args.bad.y;
      area = c.area_of-area.result;
      parts = c.in_ok-parts.parts.items;
    } in
    let form = form-is c.args.scene.now c.args.setup.now c.args.cuts.now w
    (record { valid = c.requires.valid; cuts = c.requires.cut; parts_are = c.in_ok-parts.ensures })
    (record { width = c.width.ensures.value; height = c.height.ensures.value; rate = c.num.ensures.value; per = c.den.ensures.value }) count c.num.ensures.is_rate x_fits y_fits in
    made-as c.args.scene.now c.args.setup.now c.args.cuts.now c.args.bad.start c.args.bad.x c.args.bad.y _ _ c.width.result c.height.result c.num.result
    c.den.result c.area_of-area.result c.in_ok-parts.parts.items c.from_vec.result c.requires.valid c.requires.cut c.in_ok-parts.ensures c.from_vec.ensures
    c.width.ensures.value c.height.ensures.value c.num.ensures.value c.den.ensures.value count c.requires.bad form (search rules) (search rules)
