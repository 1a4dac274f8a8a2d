-- What a source in memory that never fails holds.
use Rattle.std.specs.Prelude.{ℕ, List, refl}
use Rattle.std.specs.Coded.{Coded, code_by, coded×, coded_ℕ, coded_list}
use Rattle.std.specs.FinMap as map
use Rattle.io_edge.specs.Files.{Files}

-- the files, and what is left of the opened one
pub record SureState : Type 0 where
  pub files : Files
  pub rest : List ℕ

-- a state is stored as the pair of its fields
abbrev pub sure_code : Coded SureState
sure_code =
    code_by (Files × List ℕ)
    (coded× (map.code (coded_list coded_ℕ) (coded_list coded_ℕ)) (coded_list coded_ℕ))
    (λ s. (s.files, s.rest))
    (λ p. record { files = p.0; rest = p.1 })
    (λ _. refl)
