-- Proofs of how many frames flashes need.
use Rattle.std.proofs.Common.{ℕ, zero, suc, List, [], ◌∷◌, inl, inr, arith, refl}
use Rattle.std.specs.Prelude.{All}
use Rattle.std.specs.List.Sorted.{IsStrictlyIncreasing}
use Rattle.std.proofs.lemmas.List.Elements.{All-from_recursion}
use Rattle.page_model.specs.Flash.{Between, Flashes}
use Rattle.page_model.specs.Light.{IsRise, IsFall}
use Rattle.page_model.specs.Red.{IsIntoRed, IsOutOfRed, chromaticity_of, white}
use Rattle.srgb_luma.proofs.LumaLemmas.{luma_of-black, luma_of-white}
use Rattle.flash_laws.specs.FlagLaws.{NeedsNineFrames, GrowsWithWindow}
use Rattle.flash_laws.specs.FlashLaws.{blinking, NeedsChanges, FlashesNeedNineFrames}
use Rattle.flash_laws.specs.LightLaws.{black}
use Rattle.flash_laws.specs.WrongFlashes.{FlashesByHalves, FlashesByHalvesBreak}
use Rattle.flash_laws.proofs.ChainLemmas.{IsInWindow, chain-nine, chain-changes, has_chain-longer}
use Rattle.flash_laws.proofs.LightLemmas.{rise-not_fall}
use Rattle.flash_laws.proofs.RedLemmas.{far-not_itself}

flashes-nine : NeedsNineFrames Flashes
flashes-nine colours start window short flashes =
    elim flashes [
      | inl general ↦ let long = chain-nine (Between IsRise colours) (Between IsFall colours) start window general.0 general.1 in absurd (omega arith)
      | inr red ↦ let long = chain-nine (Between IsIntoRed colours) (Between IsOutOfRed colours) start window red.0 red.1 in absurd (omega arith)
    ]

flashes-longer : GrowsWithWindow Flashes
flashes-longer colours start window from longer before after flashes =
    elim flashes [
      | inl general ↦ inl (has_chain-longer IsRise IsFall colours start window from longer before after general)
      | inr red ↦ inr (has_chain-longer IsIntoRed IsOutOfRed colours start window from longer before after red)
    ]

flashes-changes : NeedsChanges Flashes
flashes-changes colour start window flashes =
    elim flashes [
      | inl general ↦ chain-changes (Between IsRise (λ frame. colour)) (Between IsFall (λ frame. colour)) start window general.0 general.1
          (λ j k rise. rise-not_fall colour colour rise rise) (λ j k fall. rise-not_fall colour colour fall fall)
      | inr red ↦ chain-changes (Between IsIntoRed (λ frame. colour)) (Between IsOutOfRed (λ frame. colour)) start window red.0 red.1
          (λ j k into. far-not_itself (chromaticity_of colour) into.far) (λ j k out. far-not_itself (chromaticity_of colour) out.far)
    ]

pub black-to_white : IsRise black white
black-to_white =
    let none = luma_of-black in
    let full = luma_of-white in
    record { by_a_tenth = omega (arith, none, full); from_below = omega (arith, none) }

abbrev nine_frames : List ℕ
nine_frames = 0 ∷ (1 ∷ (2 ∷ (3 ∷ (4 ∷ (5 ∷ (6 ∷ (7 ∷ (8 ∷ []))))))))

nine-rise : IsStrictlyIncreasing nine_frames
nine-rise zero below = omega arith
nine-rise (suc zero) below = omega arith
nine-rise (suc (suc zero)) below = omega arith
nine-rise (suc (suc (suc zero))) below = omega arith
nine-rise (suc (suc (suc (suc zero)))) below = omega arith
nine-rise (suc (suc (suc (suc (suc zero))))) below = omega arith
nine-rise (suc (suc (suc (suc (suc (suc zero)))))) below = omega arith
nine-rise (suc (suc (suc (suc (suc (suc (suc zero))))))) below = omega arith
nine-rise (suc (suc (suc (suc (suc (suc (suc (suc k)))))))) below = absurd (omega arith)

nine-within : All (IsInWindow 0 8) nine_frames
nine-within = All-from_recursion (IsInWindow 0 8) nine_frames ((omega arith, omega arith), ((omega arith, omega arith), ((omega arith, omega arith), ((omega arith, omega arith), ((omega arith, omega arith), ((omega arith, omega arith), ((omega arith, omega arith), ((omega arith, omega arith), ((omega arith, omega arith), tt)))))))))

blinking-flashes : Flashes blinking 0 8
blinking-flashes = inl (nine_frames, record { nine = refl; rising = nine-rise; within = nine-within; alternates = inl (black-to_white, (black-to_white, (black-to_white, (black-to_white, (black-to_white, (black-to_white, (black-to_white, (black-to_white, tt)))))))) })

abbrev eight_frames : List ℕ
eight_frames = 0 ∷ (1 ∷ (2 ∷ (3 ∷ (4 ∷ (5 ∷ (6 ∷ (7 ∷ [])))))))

eight-rise : IsStrictlyIncreasing eight_frames
eight-rise zero below = omega arith
eight-rise (suc zero) below = omega arith
eight-rise (suc (suc zero)) below = omega arith
eight-rise (suc (suc (suc zero))) below = omega arith
eight-rise (suc (suc (suc (suc zero)))) below = omega arith
eight-rise (suc (suc (suc (suc (suc zero))))) below = omega arith
eight-rise (suc (suc (suc (suc (suc (suc zero)))))) below = omega arith
eight-rise (suc (suc (suc (suc (suc (suc (suc k))))))) below = absurd (omega arith)

eight-within : All (IsInWindow 0 7) eight_frames
eight-within = All-from_recursion (IsInWindow 0 7) eight_frames ((omega arith, omega arith), ((omega arith, omega arith), ((omega arith, omega arith), ((omega arith, omega arith), ((omega arith, omega arith), ((omega arith, omega arith), ((omega arith, omega arith), ((omega arith, omega arith), tt))))))))

blinking-by_halves : FlashesByHalves blinking 0 7
blinking-by_halves = inl (eight_frames, record { eight = refl; rising = eight-rise; within = eight-within; alternates = inl (black-to_white, (black-to_white, (black-to_white, (black-to_white, (black-to_white, (black-to_white, (black-to_white, tt))))))) })

pub flashes_need_nine_frames : FlashesNeedNineFrames
flashes_need_nine_frames = record { needed = flashes-nine; enough = blinking-flashes; longer = flashes-longer; changes = flashes-changes }

pub flashes_by_halves_break : FlashesByHalvesBreak
flashes_by_halves_break law = law blinking 0 7 (omega arith) blinking-by_halves
