-- Nothing new, or what the animation makes.
use Rattle.std.proofs.Common.{◌≡◌, ◌∙◌, ◌&&◌, Bool, false, subst, sym}
use Rattle.std.proofs.lemmas.Bool.{or_parts}
use Rattle.fix_span.specs.Frac.{fraction_of}
use Rattle.layer_ways.specs.Found.{is_more_at, is_more_here, lacks_edge, lacks_look}
use Rattle.layer_ways.proofs.CourseLemmas.{unnamed-here, way-made}
use Rattle.layer_ways.proofs.FoundLemmas.{edges-by, edges-kept, look-by, look-kept}
use Rattle.layer_ways.proofs.search.add_at.Goals as goal

pub returns-then-not-is_asked-clause-edges : goal.returns-then-not-is_asked-clause-edges
returns-then-not-is_asked-clause-edges c l layer_is =
    let none = or_parts (lacks_edge c.named_by-named.result c.args.found.now.edges)
    (c.args.whole && lacks_look c.named_by-named.result c.args.found.now.look) (sym c.is_asked.ensures ∙ c.if-not-is_asked.true) in
    edges-kept c.args.scene.now c.args.setup.now c.args.k l c.args.anim.now c.named_by-named.result c.args.found.now.edges none.0
    (λ prop unnamed set there. sym (c.named_by-named.ensures.there prop set there) ∙ unnamed)

pub returns-then-not-is_asked-clause-look : goal.returns-then-not-is_asked-clause-look
returns-then-not-is_asked-clause-look c l layer_is whole =
    let none = or_parts (lacks_edge c.named_by-named.result c.args.found.now.edges)
    (c.args.whole && lacks_look c.named_by-named.result c.args.found.now.look) (sym c.is_asked.ensures ∙ c.if-not-is_asked.true) in
    look-kept c.args.scene.now c.args.setup.now c.args.k l c.args.anim.now c.named_by-named.result c.args.found.now.look
    (subst (λ (w : Bool). (w && lacks_look c.named_by-named.result c.args.found.now.look) ≡ false) whole none.1)
    (λ prop unnamed set there. sym (c.named_by-named.ensures.there prop set there) ∙ unnamed)

pub add_found-requires-clause-unnamed : goal.add_found-requires-clause-unnamed
add_found-requires-clause-unnamed c prop unnamed =
    unnamed-here c.args.scene.now c.args.layer c.args.place prop (fraction_of c.in-Some.at) c.args.anim.now c.requires.own
    (λ set there. sym (c.named_by-named.ensures.there prop set there) ∙ unnamed)

pub returns-in-Some-clause-edges : goal.returns-in-Some-clause-edges
returns-in-Some-clause-edges c l layer_is =
    edges-by (is_more_here c.args.scene.now c.args.layer c.args.place (fraction_of c.in-Some.at))
    (is_more_at c.args.scene.now c.args.setup.now c.args.k l c.args.anim.now) c.args.found.now.edges c.add_found.new.found.edges
    (λ X make prop a b. way-made X make c.args.scene.now c.args.setup.now c.args.k c.args.layer c.args.place l c.args.anim.now prop c.in-Some.at a b
    layer_is (c.requires.own l layer_is) c.in-Some.ensures.value) c.add_found.ensures.edges

pub returns-in-Some-clause-look : goal.returns-in-Some-clause-look
returns-in-Some-clause-look c l layer_is whole =
    look-by (is_more_here c.args.scene.now c.args.layer c.args.place (fraction_of c.in-Some.at))
    (is_more_at c.args.scene.now c.args.setup.now c.args.k l c.args.anim.now) c.args.found.now.look c.add_found.new.found.look
    (λ X make prop a b. way-made X make c.args.scene.now c.args.setup.now c.args.k c.args.layer c.args.place l c.args.anim.now prop c.in-Some.at a b
    layer_is (c.requires.own l layer_is) c.in-Some.ensures.value) (c.add_found.ensures.look whole)
