-- Of given tints of all pixels it is decided, by each kind, whether a window is possibly bad at a position, and whether it is surely bad.
use Rattle.std.specs.Prelude.{ℕ, ℤ}
use Rattle.page_model.specs.declared.setup.Setup.{Setup}
use Rattle.page_model.specs.Enclosure.{Kind}
use Rattle.tint_laws.specs.NestLaws.{IsPossiblyBadBy, IsSurelyBadBy, Tinting}
use Rattle.wide_laws.specs.DecidedLaws.{IsDecided}

pub record BadByTintsIsDecided : Type 0 where
  pub possibly : (kind : Kind) (tinting : Tinting) (setup : Setup) (start : ℕ) (x y : ℤ)
      → IsDecided (IsPossiblyBadBy kind tinting setup start x y)
  pub surely : (kind : Kind) (tinting : Tinting) (setup : Setup) (start : ℕ) (x y : ℤ)
      → IsDecided (IsSurelyBadBy kind tinting setup start x y)
