-- The corner that is tested is the one of most red and least of the rest.
use Rattle.red_chroma.proofs.SaturationLemmas.{saturated-reddest}
use Rattle.red_chroma.proofs.saturation.has_saturated.Goals as goal

pub returns : goal.returns
returns c =
    let tested = rw (c.max.ensures, c.min.ensures, c.min-2.ensures) at c.saturated.ensures in
    let corner = saturated-reddest c.args.tint in
    (λ told. corner.0 (tested.0 told), λ has. tested.1 (corner.1 has))
