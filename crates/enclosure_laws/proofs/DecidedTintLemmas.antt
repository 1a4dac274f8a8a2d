-- Each possible and each sure change of two tints is decided, so all frames and pixels of a window can be tried.
use Rattle.std.proofs.Common.{◌≡◌, ◌⊎◌, ℕ, ◌+◌, ◌-◌, ◌*◌, ◌^◌, inl, inr, refl, subst}
use Rattle.page_model.specs.declared.colour.Tint.{Tint}
use Rattle.page_model.specs.Change.{AreFarAndMore, AreFarBy, AreFarOrNearly, AreSingleAndFar, Enclosed, HasSaturated, IsPossibleFall, IsPossibleRise, IsPossiblyRed, IsSingle, IsSureFall, IsSureRise, IsSurelyRed, enclosed, greatest_gap, least_gap, squared_distance}
use Rattle.page_model.specs.Enclosure.{Kind, exact, own, wide}
use Rattle.page_model.specs.Red.{Chromaticity, IsSaturated, chromaticity_of, squared}
use Rattle.page_model.specs.Time.{window_of}
use Rattle.page_model.specs.Window.{IsPossiblyFlagged, IsSurelyFlagged, PossiblyFlashes, PossiblyInto, PossiblyOut, SurelyFlashes, SurelyInto, SurelyOut}
use Rattle.flash_laws.proofs.SureLemmas.{single-or_not}
use Rattle.tint_laws.specs.NestLaws.{tints_at}
use Rattle.wide_laws.specs.DecidedLaws.{IsDecided}
use Rattle.wide_laws.proofs.DecidedLemmas.{decided-both, decided-chain, decided-either, decided-from, decided-inside, decided-lt, decided-rise, decided-saturated, many-decided}
use Rattle.enclosure_laws.specs.DecidedTintLaws.{BadByTintsIsDecided}

-- one of two numbers
decided-two : (P : ℕ → Type 0) (m n : ℕ) → ((k : ℕ) → IsDecided (P k)) → IsDecided ((k : ℕ) × ((k ≡ m) ⊎ (k ≡ n)) × P k)
decided-two P m n each =
    elim (each m) [
      | inl first ↦ inl (m, inl refl, first)
      | inr not_first ↦ elim (each n) [
        | inl second ↦ inl (n, inr refl, second)
        | inr not_second ↦ inr (λ found. elim found.1 [
          | inl e ↦ not_first (subst P e found.2)
          | inr e ↦ not_second (subst P e found.2)
        ])
      ]
    ]

-- some corner of a tint is saturated
abbrev SomeBlue : Tint → ℕ → ℕ → Type 0
SomeBlue tint r g = (b : ℕ) × ((b ≡ tint.lo.b) ⊎ (b ≡ tint.hi.b)) × IsSaturated (record { r = r; g = g; b = b })

abbrev SomeGreen : Tint → ℕ → Type 0
SomeGreen tint r = (g : ℕ) × ((g ≡ tint.lo.g) ⊎ (g ≡ tint.hi.g)) × SomeBlue tint r g

abbrev SomeRed : Tint → Type 0
SomeRed tint = (r : ℕ) × ((r ≡ tint.lo.r) ⊎ (r ≡ tint.hi.r)) × SomeGreen tint r

decided-corner : (tint : Tint) → IsDecided (HasSaturated tint)
decided-corner tint =
    decided-from
    (λ (h : SomeRed tint). (
      record { r = h.0; g = h.2.0; b = h.2.2.0 },
      record { red = h.1; green = h.2.1; blue = h.2.2.1 },
      h.2.2.2,
    ))
    (λ (found : HasSaturated tint). (found.0.r, found.1.red, (found.0.g, found.1.green, (found.0.b, found.1.blue, found.2))))
    (decided-two (SomeGreen tint) tint.lo.r tint.hi.r (λ r.
    decided-two (SomeBlue tint r) tint.lo.g tint.hi.g (λ g.
    decided-two (λ b. IsSaturated (record { r = r; g = g; b = b })) tint.lo.b tint.hi.b (λ b. decided-saturated (record { r = r; g = g; b = b })))))

-- red changes, by a test of how far that is decided
abbrev IsDecidedFar : (Chromaticity → Chromaticity → Type 0) → Type 0
IsDecidedFar Far = (p q : Chromaticity) → IsDecided (Far p q)

decided-single_far : (Far : Chromaticity → Chromaticity → Type 0) → IsDecidedFar Far → (a b : Tint) → IsDecided (AreSingleAndFar Far a b)
decided-single_far Far far a b =
    decided-from
    (λ (h : IsSingle a × (IsSingle b × Far (chromaticity_of a.lo) (chromaticity_of b.lo))).
    record { first_single = h.0; second_single = h.1.0; far = h.1.1 })
    (λ (h : AreSingleAndFar Far a b). (h.first_single, (h.second_single, h.far)))
    (decided-both (single-or_not a) (decided-both (single-or_not b) (far (chromaticity_of a.lo) (chromaticity_of b.lo))))

decided-loose : (a b : Tint) → IsDecided (IsSingle a → IsSingle b → ⊥)
decided-loose a b =
    elim (single-or_not a) [
      | inr loose ↦ inl (λ one other. loose one)
      | inl one ↦ elim (single-or_not b) [
        | inr loose ↦ inl (λ first other. loose other)
        | inl other ↦ inr (λ none. none one other)
      ]
    ]

decided-possibly_red : (Far : Chromaticity → Chromaticity → Type 0) → IsDecidedFar Far → (a b saturated : Tint) → IsDecided (IsPossiblyRed Far a b saturated)
decided-possibly_red Far far a b saturated =
    decided-either (decided-both (decided-single_far Far far a b) (decided-saturated saturated.lo))
    (decided-both (decided-loose a b) (decided-corner saturated))

decided-surely_red : (Far : Chromaticity → Chromaticity → Type 0) → IsDecidedFar Far → (a b saturated : Tint) → IsDecided (IsSurelyRed Far a b saturated)
decided-surely_red Far far a b saturated = decided-both (decided-single_far Far far a b) (decided-saturated saturated.lo)

decided-far_by : (distance : Enclosed → Enclosed → ℕ) → IsDecidedFar (AreFarBy distance)
decided-far_by distance p q =
    decided-lt (2 ^ 80)
    (25 * (squared (distance (enclosed p.u p.over) (enclosed q.u q.over)) + squared (distance (enclosed p.v p.over) (enclosed q.v q.over))))

decided-nearly : IsDecidedFar AreFarOrNearly
decided-nearly p q = decided-lt ((2 ^ 24 - 25) * squared (p.over * q.over)) (25 * 2 ^ 24 * squared_distance p q)

decided-more : IsDecidedFar AreFarAndMore
decided-more p q = decided-lt ((2 ^ 24 + 25) * squared (p.over * q.over)) (25 * 2 ^ 24 * squared_distance p q)

possibly_into : (kind : Kind) (a b : Tint) → IsDecided (PossiblyInto kind a b)
possibly_into exact a b = decided-possibly_red (AreFarBy greatest_gap) (decided-far_by greatest_gap) a b b
possibly_into own a b = decided-possibly_red (AreFarBy greatest_gap) (decided-far_by greatest_gap) a b b
possibly_into wide a b = decided-possibly_red AreFarOrNearly decided-nearly a b b

possibly_out : (kind : Kind) (a b : Tint) → IsDecided (PossiblyOut kind a b)
possibly_out exact a b = decided-possibly_red (AreFarBy greatest_gap) (decided-far_by greatest_gap) a b a
possibly_out own a b = decided-possibly_red (AreFarBy greatest_gap) (decided-far_by greatest_gap) a b a
possibly_out wide a b = decided-possibly_red AreFarOrNearly decided-nearly a b a

surely_into : (kind : Kind) (a b : Tint) → IsDecided (SurelyInto kind a b)
surely_into exact a b = decided-surely_red (AreFarBy least_gap) (decided-far_by least_gap) a b b
surely_into own a b = decided-surely_red (AreFarBy least_gap) (decided-far_by least_gap) a b b
surely_into wide a b = decided-surely_red AreFarAndMore decided-more a b b

surely_out : (kind : Kind) (a b : Tint) → IsDecided (SurelyOut kind a b)
surely_out exact a b = decided-surely_red (AreFarBy least_gap) (decided-far_by least_gap) a b a
surely_out own a b = decided-surely_red (AreFarBy least_gap) (decided-far_by least_gap) a b a
surely_out wide a b = decided-surely_red AreFarAndMore decided-more a b a

-- flashes
decided-possibly : (kind : Kind) (tints : ℕ → Tint) (start window : ℕ) → IsDecided (PossiblyFlashes kind tints start window)
decided-possibly kind tints start window =
    decided-either (decided-chain IsPossibleRise IsPossibleFall tints start window (λ a b. decided-rise a.lo b.hi) (λ a b. decided-rise b.lo a.hi))
    (decided-chain (PossiblyInto kind) (PossiblyOut kind) tints start window (possibly_into kind) (possibly_out kind))

decided-surely : (kind : Kind) (tints : ℕ → Tint) (start window : ℕ) → IsDecided (SurelyFlashes kind tints start window)
decided-surely kind tints start window =
    decided-either (decided-chain IsSureRise IsSureFall tints start window (λ a b. decided-rise a.hi b.lo) (λ a b. decided-rise b.hi a.lo))
    (decided-chain (SurelyInto kind) (SurelyOut kind) tints start window (surely_into kind) (surely_out kind))

pub bad_by_tints-decided : BadByTintsIsDecided
bad_by_tints-decided = record {
  possibly = λ kind tinting setup start x y.
      many-decided (IsPossiblyFlagged kind tinting setup start) setup x y
      (λ column row. decided-both (decided-possibly kind (tints_at tinting column row) start (window_of setup)) (decided-inside x y column row));
  surely = λ kind tinting setup start x y.
      many-decided (IsSurelyFlagged kind tinting setup start) setup x y
      (λ column row. decided-both (decided-surely kind (tints_at tinting column row) start (window_of setup)) (decided-inside x y column row));
}
