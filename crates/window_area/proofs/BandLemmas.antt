-- Edges that rise, and the band in which a place lies.
use Rattle.std.proofs.Common.{ℕ, zero, suc, ◌≡◌, ◌+◌, ◌-◌, ◌<◌, ◌≤◌, ◌∙◌, Bool, cond, ap, refl, inl, inr, arith, List, [], ◌∷◌, length, get_or}
use Rattle.std.specs.Prelude.{count_by, nat_le}
use Rattle.std.specs.List.{AllPairs}
use Rattle.std.proofs.lemmas.Bool.{cases_lt, le-leb, lt-leb}
use Rattle.std.proofs.lemmas.List.Sums.{sum_by-cons}
use Rattle.std.proofs.lemmas.List.Kept.{AllPairs-from_increasing}
use Rattle.window_area.specs.Edges.{AreEdges, band_of, bands, end_of}
use Rattle.window_area.specs.Sliding.{IsInBand}

-- an edge is at most a later one
pub edge-le : (edges : List ℕ) (i j : ℕ) → AreEdges edges → i ≤ j → j < length edges
    → get_or edges i 0 ≤ get_or edges j 0
edge-le edges i j are order within =
    elim (cases_lt i j) [
      | inl less ↦ omega (arith, AllPairs-from_increasing edges are.rise i j 0 less within)
      | inr more ↦ let same : i ≡ j = omega arith in rw same (omega arith)
    ]

-- an edge is at most the end
pub edge-le-end : (edges : List ℕ) (i : ℕ) → AreEdges edges → i < length edges → get_or edges i 0 ≤ end_of edges
edge-le-end edges i are within = edge-le edges i (length edges - 1) are (omega arith) (omega arith)

abbrev one_if : Bool → ℕ
one_if b = cond b 1 0

-- how many edges are at most a place
abbrev count : List ℕ → ℕ → ℕ
count edges place = count_by (λ edge. nat_le edge place) edges

count-at_most : (e : ℕ) (edges : List ℕ) (place : ℕ) → e ≤ place → count (e ∷ edges) place ≡ suc (count edges place)
count-at_most e edges place below =
    let one : one_if (nat_le e place) ≡ 1 = rw (le-leb e place below) refl in
    omega (arith, sum_by-cons (λ edge. cond (nat_le edge place) 1 0) e edges, one)

count-above : (e : ℕ) (edges : List ℕ) (place : ℕ) → place < e → count (e ∷ edges) place ≡ count edges place
count-above e edges place above =
    let none : one_if (nat_le e place) ≡ 0 = rw (lt-leb e place above) refl in
    omega (arith, sum_by-cons (λ edge. cond (nat_le edge place) 1 0) e edges, none)

none-counted : (edges : List ℕ) (place : ℕ) → ((k : ℕ) → k < length edges → place < get_or edges k 0)
    → count edges place ≡ 0
none-counted [] place above = refl
none-counted (e ∷ edges) place above =
    count-above e edges place (above 0 (omega arith))
    ∙ none-counted edges place (λ k within. above (suc k) (omega arith))

counted : (edges : List ℕ) (place i : ℕ) → AllPairs (λ a b. a < b) edges → i < length edges → get_or edges i 0 ≤ place
    → ((k : ℕ) → i < k → k < length edges → place < get_or edges k 0) → count edges place ≡ suc i
counted [] place i rise within from before = absurd (omega arith)
counted (e ∷ edges) place zero rise within from before =
    count-at_most e edges place from
    ∙ ap suc (none-counted edges place (λ k inside. before (suc k) (omega arith) (omega arith)))
counted (e ∷ edges) place (suc i) rise within from before =
    let less : e < get_or edges i 0 = rise 0 (suc i) 0 (omega arith) within in
    let rest : count edges place ≡ suc i =
    counted edges place i (λ j k d less within. rise (suc j) (suc k) d (omega arith) (omega arith)) (omega arith) from
    (λ k later inside. before (suc k) (omega arith) (omega arith)) in
    count-at_most e edges place (omega arith) ∙ ap suc rest

-- a place of a band lies there
pub band_of-in_band : (edges : List ℕ) (place band : ℕ) → AreEdges edges → IsInBand edges place band → band_of edges place ≡ band
unfolding band_of
band_of-in_band edges place band are inside =
    let found : count edges place ≡ suc band =
    counted edges place band (AllPairs-from_increasing edges are.rise) inside.known inside.from
    (λ k later within.
    let next : place < get_or edges (band + 1) 0 = inside.before (omega arith) in
    let so : get_or edges (band + 1) 0 ≤ get_or edges k 0 = edge-le edges (band + 1) k are (omega arith) within in
    omega arith) in
    omega (arith, found)

-- the same, by its two edges
pub band_of-between : (edges : List ℕ) (place band : ℕ) → AreEdges edges → band + 1 < length edges
    → get_or edges band 0 ≤ place → place < get_or edges (band + 1) 0 → band_of edges place ≡ band
band_of-between edges place band are within from before =
    band_of-in_band edges place band are record { known = omega arith; from = from; before = λ more. before }

-- a place before the end lies in a band
pub in_band-inside : (edges : List ℕ) (place band : ℕ) → IsInBand edges place band → place < end_of edges
    → band + 1 < length edges
in_band-inside edges place band inside before =
    elim (cases_lt (band + 1) (length edges)) [
      | inl less ↦ less
      | inr last ↦
          let known : band < length edges = inside.known in
          let same : length edges - 1 ≡ band = omega arith in
          let end : end_of edges ≡ get_or edges band 0 = ap (λ k. get_or edges k 0) same in
          absurd (omega (arith, end, before, inside.from))
    ]

-- a place before an edge lies in a band
band-found : (edges : List ℕ) (place k : ℕ) → get_or edges 0 0 ≡ 0 → k < length edges → place < get_or edges k 0
    → (band : ℕ) × (band < k) × (get_or edges band 0 ≤ place) × (place < get_or edges (band + 1) 0)
band-found edges place zero begin within before = absurd (omega (arith, begin))
band-found edges place (suc k) begin within before =
    elim (cases_lt place (get_or edges k 0)) [
      | inl earlier ↦
          let found = band-found edges place k begin (omega arith) earlier in
          (found.0, omega (arith, found.1), found.2, found.3)
      | inr here ↦
          let next : k + 1 ≡ suc k = omega arith in
          (k, omega arith, here, rw next before)
    ]

-- the band of a place before the end is one
pub band_of-below : (edges : List ℕ) (place : ℕ) → AreEdges edges → place < end_of edges → band_of edges place < bands edges
band_of-below edges place are before =
    let two = are.two in
    let found = band-found edges place (length edges - 1) are.begin (omega arith) before in
    let same = band_of-between edges place found.0 are (omega (arith, found.1)) found.2 found.3 in
    omega (arith, same, found.1)
