-- What a window at place 0 holds of the first bands.
use Rattle.std.proofs.Common.{ℕ, ◌≡◌, ◌+◌, ◌-◌, ◌*◌, ◌<◌, ◌≤◌, ◌∙◌, get_or, length, List, ap, arith, refl}
use Rattle.std.specs.Prelude.{pos, min}
use Rattle.std.proofs.Math.Nat.{mul-le-mul_left}
use Rattle.window_area.specs.Edges.{AreEdges, end_of}
use Rattle.window_area.specs.Sliding.{AreWeights, band_weight, held}
use Rattle.window_area.proofs.BandLemmas.{band_of-between, edge-le, edge-le-end}
use Rattle.window_area.proofs.HeldLemmas.{held-more}

-- the bands so far are counted, each with a weight of at most 4,096
pub record IsHeldSoFar (edges weights : List ℕ) (size band so_far : ℕ) : Type 0 where
  pub value : so_far ≡ held size (get_or edges band 0) (band_weight edges weights) (pos 0)
  pub small : so_far ≤ get_or edges band 0 * 4096

pub held_so_far-none : (edges weights : List ℕ) (size : ℕ) → AreEdges edges → IsHeldSoFar edges weights size 0 0
unfolding held
held_so_far-none edges weights size are =
    let begin : get_or edges 0 0 ≡ 0 = are.begin in
    record { value = rw begin refl; small = omega arith }

pub held_so_far-more : (edges weights : List ℕ) (size band so_far amount : ℕ) → AreEdges edges → AreWeights edges weights
    → band + 1 < length edges → amount + min (get_or edges band 0) size ≡ min (get_or edges (band + 1) 0) size
    → IsHeldSoFar edges weights size band so_far
    → IsHeldSoFar edges weights size (band + 1) (so_far + amount * get_or weights band 0)
held_so_far-more edges weights size band so_far amount are weighted within reached before =
    let order = edge-le edges band (band + 1) are (omega arith) within in
    let product = mul-le-mul_left amount (weighted.small band (omega arith)) in
    record {
      value = omega (
        arith,
        before.value,
        held-more size (get_or edges band 0) (get_or edges (band + 1) 0) amount (get_or weights band 0)
            (band_weight edges weights) order reached
            (λ p low high. ap (λ k. get_or weights k 0) (band_of-between edges p band are within low high)),
      );
      small = omega (arith, before.small, product, order);
    }

pub held_so_far-fits : (edges weights : List ℕ) (size band so_far : ℕ) → AreEdges edges → band < length edges
    → IsHeldSoFar edges weights size band so_far → so_far ≤ 4096 * 4096
held_so_far-fits edges weights size band so_far are within so =
    let at_end = edge-le-end edges band are within in omega (arith, so.small, at_end, are.limit)

pub held_so_far-all : (edges weights : List ℕ) (size band so_far : ℕ) → band ≡ length edges - 1
    → IsHeldSoFar edges weights size band so_far → so_far ≡ held size (end_of edges) (band_weight edges weights) (pos 0)
held_so_far-all edges weights size band so_far last so =
    let end : get_or edges band 0 ≡ end_of edges = ap (λ k. get_or edges k 0) last in
    so.value ∙ ap (λ limit. held size limit (band_weight edges weights) (pos 0)) end
