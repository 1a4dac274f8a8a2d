-- What a source in memory holds, and what each call makes of it.
use Rattle.std.specs.Prelude.{ℕ, Bool, not, ◌&&◌, List, drop, Option, if◌then◌else◌, refl}
use Rattle.std.specs.Coded.{Coded, code_by, coded×, coded_ℕ, coded_list, coded_option}
use Rattle.std.specs.FinMap as map
use Rattle.io_edge.specs.Calls.{is_named, dealt}
use Rattle.io_edge.specs.Faults.{raised}
use Rattle.io_edge.specs.Files.{Files, bytes_of}

-- the files, what is left of the opened one, how many bytes are doled out to a read, where they are,
-- the calls that are named to fail, how many calls there were, and how many faults
pub record SourceState : Type 0 where
  pub files : Files
  pub rest : List ℕ
  pub most : Option ℕ
  pub failing : List ℕ
  pub calls : ℕ
  pub faults : ℕ

-- a state is stored as the tuple of its fields
abbrev pub source_code : Coded SourceState
source_code =
    code_by (Files × (List ℕ × (Option ℕ × (List ℕ × (ℕ × ℕ)))))
    (coded× (map.code (coded_list coded_ℕ) (coded_list coded_ℕ)) (coded× (coded_list coded_ℕ) (coded× (coded_option coded_ℕ) (coded× (coded_list coded_ℕ) (coded× coded_ℕ coded_ℕ)))))
    (λ s. (s.files, (s.rest, (s.most, (s.failing, (s.calls, s.faults))))))
    (λ p. record { files = p.0; rest = p.1.0; most = p.1.1.0; failing = p.1.1.1.0; calls = p.1.1.1.1.0; faults = p.1.1.1.1.1 })
    (λ _. refl)

-- the next call of open or read is named to fail
abbrev pub fails_next : SourceState → Bool
fails_next source = is_named source.failing (raised source.calls)

-- after a call that failed
abbrev pub after_fault : SourceState → SourceState
after_fault source = record source { calls = raised source.calls; faults = raised source.faults }

-- after a call that succeeded, with this rest
abbrev pub after_call : SourceState → List ℕ → SourceState
after_call source rest = record source { calls = raised source.calls; rest = rest }

-- the next call, if it opens this name, succeeds: it isn't named to fail, and a file has the name
abbrev pub opens : SourceState → List ℕ → Bool
opens source name = not (fails_next source) && map.contains_key source.files name

-- after a call that opens a name
abbrev pub after_open : SourceState → List ℕ → SourceState
after_open source name = if opens source name then after_call source (bytes_of source.files name) else after_fault source

-- after a read into this much room
abbrev pub after_read : SourceState → ℕ → SourceState
after_read source room = if fails_next source then after_fault source else after_call source (drop (dealt source.most room) source.rest)
