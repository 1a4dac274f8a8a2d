-- Each lane has the number.
use Rattle.std.proofs.Common.{ℕ, zero, suc, ◌≡◌, ◌∙◌, ◌*◌, ◌^◌, ◌<◌, ◌∷◌, [], List, get_or, arith, ap, refl}
use Rattle.byte_lanes.specs.Lanes.{in_turn, lanes_of}
use Rattle.byte_lanes.proofs.LaneLemmas.{IsFour, in_turn-are}
use Rattle.byte_lanes.proofs.lanes.Numbers.all.Goals as goal

same : (number n : ℕ) → n < 8
    → get_or (number ∷ number ∷ number ∷ number ∷ number ∷ number ∷ number ∷ number ∷ []) n 0 ≡ number
same number zero few = refl
same number (suc zero) few = refl
same number (suc (suc zero)) few = refl
same number (suc (suc (suc zero))) few = refl
same number (suc (suc (suc (suc zero)))) few = refl
same number (suc (suc (suc (suc (suc zero))))) few = refl
same number (suc (suc (suc (suc (suc (suc zero)))))) few = refl
same number (suc (suc (suc (suc (suc (suc (suc zero))))))) few = refl
same number (suc (suc (suc (suc (suc (suc (suc (suc n)))))))) few = absurd (omega arith)

pub returns : goal.returns
returns c n few =
    let lanes : ℕ = c.args.number * 281479271743489 in
    let is : IsFour lanes c.args.number c.args.number c.args.number c.args.number = record {
      first = omega (arith, c.ranges.number.fits);
      second = omega (arith, c.ranges.number.fits);
      third = omega (arith, c.ranges.number.fits);
      fourth = omega (arith, c.ranges.number.fits);
      is = omega arith;
    } in
    ap (λ (ns : List ℕ). get_or ns n 0)
    (in_turn-are lanes lanes c.args.number c.args.number c.args.number c.args.number c.args.number c.args.number c.args.number c.args.number is is)
    ∙ same c.args.number n few
