-- On single colours possible and sure rises are one, and a possible red change needs a saturated colour.
use Rattle.std.proofs.Common.{ℕ, ◌+◌, ◌<◌, ◌≤◌, arith, inl, inr, subst, subst₂, sym}
use Rattle.page_model.specs.declared.colour.Tint.{Tint}
use Rattle.page_model.specs.declared.scene.Scene.{Scene}
use Rattle.page_model.specs.declared.setup.Setup.{Setup}
use Rattle.page_model.specs.Change.{AreFarBy, AreFarOrNearly, IsPossibleFall, IsPossibleRise, IsPossiblyRed, IsSingle, IsSureFall, IsSureRise, greatest_gap}
use Rattle.page_model.specs.Colour.{painting_of}
use Rattle.page_model.specs.Enclosure.{Kind, LooseRun, exact, own, wide}
use Rattle.page_model.specs.Light.{IsRise}
use Rattle.page_model.specs.Red.{Chromaticity, IsSaturated}
use Rattle.page_model.specs.Time.{window_of}
use Rattle.page_model.specs.TintOf.{IsLooseRunIn, tints_of}
use Rattle.page_model.specs.ValidScene.{IsValid}
use Rattle.page_model.specs.Window.{IsPossiblyFlagged, IsSurelyFlagged, PossiblyFlashes, PossiblyInto, PossiblyOut, SurelyFlashes, SurelyInto, SurelyOut}
use Rattle.flash_laws.proofs.ChainLemmas.{has_chain-carried}
use Rattle.flash_laws.proofs.FlagLemmas.{many-carried}
use Rattle.flash_laws.proofs.SureLemmas.{single-is}
use Rattle.safety_laws.specs.ComputedLaws.{computed_run}
use Rattle.safety_laws.proofs.ComputedLemmas.{run-computed}
use Rattle.tint_laws.specs.NestLaws.{tints_at}
use Rattle.tint_laws.proofs.WindowLemmas.{bad_windows_lie_between}
use Rattle.enclosure_laws.specs.ExactPageLaws.{ExactPagesAreDecided, IsExactPage, TintsAreSingle}
use Rattle.enclosure_laws.proofs.SingleLemmas.{states-single}

pub tints-single : TintsAreSingle
tints-single kind scene setup start run frame column row valid straight is low high =
    states-single kind scene setup frame (run frame) column row valid straight (λ number layer there. is frame number layer low high there)

-- the one colour of a pixel is the exact one, so it isn't saturated
never-saturated : (kind : Kind) (scene : Scene) (setup : Setup) (start : ℕ) (run : LooseRun) (frame column row : ℕ) → IsValid scene
    → IsExactPage scene setup → IsLooseRunIn kind scene setup start run → start ≤ frame → frame ≤ start + window_of setup
    → column < setup.width → row < setup.height → IsSaturated (tints_of scene run frame column row).lo → ⊥
never-saturated kind scene setup start run frame column row valid page is low high within below red =
    let colours = bad_windows_lie_between.colours scene setup start valid kind run (computed_run scene setup) is (run-computed scene setup start valid page.straight) in
    let same = single-is (tints_of scene run frame column row) (painting_of scene (computed_run scene setup) frame column row)
    (tints-single kind scene setup start run frame column row valid page.straight is low high) (colours column row within below frame low high) in
    page.unsaturated frame column row (computed_run scene setup) (run-computed scene setup frame valid page.straight) within below (subst IsSaturated same red)

-- changes between single colours
rise-sure : (a b : Tint) → IsSingle a → IsSingle b → IsPossibleRise a b → IsSureRise a b
rise-sure a b one other rise = subst₂ IsRise one (sym other) rise

never-red : (Far : Chromaticity → Chromaticity → Type 0) (a b saturated : Tint) → IsSingle a → IsSingle b → (IsSaturated saturated.lo → ⊥)
    → IsPossiblyRed Far a b saturated → ⊥
never-red Far a b saturated one other pale (inl far) = pale far.1
never-red Far a b saturated one other pale (inr loose) = loose.0 one other

never-into : (kind : Kind) (a b : Tint) → IsSingle a → IsSingle b → (IsSaturated b.lo → ⊥) → PossiblyInto kind a b → ⊥
never-into exact a b one other pale into = never-red (AreFarBy greatest_gap) a b b one other pale into
never-into own a b one other pale into = never-red (AreFarBy greatest_gap) a b b one other pale into
never-into wide a b one other pale into = never-red AreFarOrNearly a b b one other pale into

never-out : (kind : Kind) (a b : Tint) → IsSingle a → IsSingle b → (IsSaturated a.lo → ⊥) → PossiblyOut kind a b → ⊥
never-out exact a b one other pale out = never-red (AreFarBy greatest_gap) a b a one other pale out
never-out own a b one other pale out = never-red (AreFarBy greatest_gap) a b a one other pale out
never-out wide a b one other pale out = never-red AreFarOrNearly a b a one other pale out

-- in each frame of a window, one colour that isn't saturated
record ArePale (tints : ℕ → Tint) (start window : ℕ) : Type 0 where
  single : (k : ℕ) → start ≤ k → k ≤ start + window → IsSingle (tints k)
  pale : (k : ℕ) → start ≤ k → k ≤ start + window → IsSaturated (tints k).lo → ⊥

flashes-sure : (kind : Kind) (tints : ℕ → Tint) (start window : ℕ) → ArePale tints start window → PossiblyFlashes kind tints start window
    → SurelyFlashes kind tints start window
flashes-sure kind tints start window are (inl general) =
    inl (has_chain-carried IsPossibleRise IsPossibleFall IsSureRise IsSureFall tints tints start window
    (λ j k low less high rise. rise-sure (tints j) (tints k) (are.single j low (omega arith)) (are.single k (omega arith) high) rise)
    (λ j k low less high fall. rise-sure (tints k) (tints j) (are.single k (omega arith) high) (are.single j low (omega arith)) fall) general)
flashes-sure kind tints start window are (inr red) =
    inr (has_chain-carried (PossiblyInto kind) (PossiblyOut kind) (SurelyInto kind) (SurelyOut kind) tints tints start window
    (λ j k low less high into. absurd (never-into kind (tints j) (tints k) (are.single j low (omega arith)) (are.single k (omega arith) high)
    (are.pale k (omega arith) high) into))
    (λ j k low less high out. absurd (never-out kind (tints j) (tints k) (are.single j low (omega arith)) (are.single k (omega arith) high)
    (are.pale j low (omega arith)) out)) red)

pub exact_pages-decided : ExactPagesAreDecided
exact_pages-decided kind scene setup start x y valid page possibly run is =
    many-carried (IsPossiblyFlagged kind (tints_of scene run) setup start) (IsSurelyFlagged kind (tints_of scene run) setup start) setup x y
    (λ column row within below flagged.
    flashes-sure kind (tints_at (tints_of scene run) column row) start (window_of setup)
    (record {
      single = λ frame low high. tints-single kind scene setup start run frame column row valid page.straight is low high;
      pale = λ frame low high. never-saturated kind scene setup start run frame column row valid page is low high within below;
    }) flagged) (possibly run is)
