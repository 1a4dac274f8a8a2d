-- A run of each kind, and an exact one, can't be wanting; and what is said of a window by given tints is decided. So what follows from
-- one of each kind follows.
use Rattle.std.proofs.Common.{ℕ, ℤ, inl, inr}
use Rattle.page_model.specs.declared.scene.Scene.{Scene}
use Rattle.page_model.specs.declared.setup.Setup.{Setup}
use Rattle.page_model.specs.Colour.{IsBadWindow, painting_of}
use Rattle.page_model.specs.Enclosure.{Kind, own, wide}
use Rattle.page_model.specs.TintOf.{tints_of}
use Rattle.page_model.specs.ValidScene.{IsValid}
use Rattle.page_model.specs.Window.{IsPossiblyBad, IsSurelyBad}
use Rattle.state_laws.proofs.RunLemmas.{run-met}
use Rattle.tint_laws.proofs.KindLemmas.{kinds_of_bad_windows_nest}
use Rattle.tint_laws.proofs.WindowLemmas.{bad_windows_lie_between}
use Rattle.wide_laws.specs.DecidedLaws.{IsDecided}
use Rattle.wide_laws.proofs.DecidedLemmas.{bad-decided}
use Rattle.wide_laws.proofs.LooseLemmas.{loose_run-met}
use Rattle.enclosure_laws.specs.CauseLaws.{BadWindowsAreOrdered, OpenIsOpenWidely}
use Rattle.enclosure_laws.proofs.DecidedTintLemmas.{bad_by_tints-decided}

-- what is decided and can't fail is so
decided-stable : {P : Type 0} → IsDecided P → ((P → ⊥) → ⊥) → P
decided-stable (inl p) never = p
decided-stable (inr none) never = absurd (never none)

surely-own : (scene : Scene) (setup : Setup) (start : ℕ) (x y : ℤ) → IsValid scene → IsSurelyBad wide scene setup start x y
    → IsSurelyBad own scene setup start x y
surely-own scene setup start x y valid surely inner is =
    decided-stable (bad_by_tints-decided.surely own (tints_of scene inner) setup start x y)
    (λ none. loose_run-met wide scene setup start
    (λ outer known. none (kinds_of_bad_windows_nest.surely scene setup start x y valid outer inner known is (surely outer known))))

surely-bad : (kind : Kind) (scene : Scene) (setup : Setup) (start : ℕ) (x y : ℤ) → IsValid scene → IsSurelyBad kind scene setup start x y
    → IsBadWindow scene setup start x y
surely-bad kind scene setup start x y valid surely run is =
    decided-stable (bad-decided (painting_of scene run) setup start x y)
    (λ none. loose_run-met kind scene setup start
    (λ loose known. none (bad_windows_lie_between.surely scene setup start x y valid kind loose run known is (surely loose known))))

bad-possible : (kind : Kind) (scene : Scene) (setup : Setup) (start : ℕ) (x y : ℤ) → IsValid scene → IsBadWindow scene setup start x y
    → IsPossiblyBad kind scene setup start x y
bad-possible kind scene setup start x y valid bad loose is =
    decided-stable (bad_by_tints-decided.possibly kind (tints_of scene loose) setup start x y)
    (λ none. run-met scene setup start
    (λ run known. none (bad_windows_lie_between.possibly scene setup start x y valid kind loose run is known (bad run known))))

possibly-wide : (scene : Scene) (setup : Setup) (start : ℕ) (x y : ℤ) → IsValid scene → IsPossiblyBad own scene setup start x y
    → IsPossiblyBad wide scene setup start x y
possibly-wide scene setup start x y valid possibly outer is =
    decided-stable (bad_by_tints-decided.possibly wide (tints_of scene outer) setup start x y)
    (λ none. loose_run-met own scene setup start
    (λ inner known. none (kinds_of_bad_windows_nest.possibly scene setup start x y valid outer inner is known (possibly inner known))))

pub bad_windows-ordered : BadWindowsAreOrdered
bad_windows-ordered = record {
  surely_own = surely-own;
  bad = surely-bad;
  possible = bad-possible;
  possibly_wide = possibly-wide;
}

pub open-widely : OpenIsOpenWidely
open-widely scene setup start x y valid left = record {
  possibly = possibly-wide scene setup start x y valid left.possibly;
  none_surely = λ other across down surely. left.none_surely other across down (surely-own scene setup other across down valid surely);
}
