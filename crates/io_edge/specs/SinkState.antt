-- What a sink in memory holds, and what a call makes of it.
use Rattle.std.specs.Prelude.{ℕ, ◌-◌, Bool, not, ◌==◌, ◌&&◌, List, ◌++◌, length, take, Option, if◌then◌else◌, refl}
use Rattle.std.specs.Coded.{Coded, code_by, coded×, coded_ℕ, coded_list, coded_option}
use Rattle.io_edge.specs.Calls.{is_named, offered}
use Rattle.io_edge.specs.Faults.{raised}

-- the bytes that it took, for how many it has room in all, how many bytes a write takes at most, where
-- they are doled out, the calls that are named to fail, how many calls there were, and how many faults
pub record SinkState : Type 0 where
  pub bytes : List ℕ
  pub room : ℕ
  pub most : Option ℕ
  pub failing : List ℕ
  pub calls : ℕ
  pub faults : ℕ

-- a state is stored as the tuple of its fields
abbrev pub sink_code : Coded SinkState
sink_code =
    code_by (List ℕ × (ℕ × (Option ℕ × (List ℕ × (ℕ × ℕ)))))
    (coded× (coded_list coded_ℕ) (coded× coded_ℕ (coded× (coded_option coded_ℕ) (coded× (coded_list coded_ℕ) (coded× coded_ℕ coded_ℕ)))))
    (λ s. (s.bytes, (s.room, (s.most, (s.failing, (s.calls, s.faults))))))
    (λ p. record { bytes = p.0; room = p.1.0; most = p.1.1.0; failing = p.1.1.1.0; calls = p.1.1.1.1.0; faults = p.1.1.1.1.1 })
    (λ _. refl)

-- the next call is named to fail
abbrev pub fails_next : SinkState → Bool
fails_next sink = is_named sink.failing (raised sink.calls)

-- what of a piece a write takes: of the bytes that it may take, those that still fit
abbrev pub fitting : SinkState → List ℕ → List ℕ
fitting sink piece = take (sink.room - length sink.bytes) (offered sink.most piece)

-- a piece has bytes, and none of them is taken
abbrev pub is_stuck : SinkState → List ℕ → Bool
is_stuck sink piece = not (length piece == 0) && (length (fitting sink piece) == 0)

-- after a call that was named to fail
abbrev pub after_fault : SinkState → SinkState
after_fault sink = record sink { calls = raised sink.calls; faults = raised sink.faults }

-- after a call that took what fits
abbrev pub after_taking : SinkState → List ℕ → SinkState
after_taking sink piece = record sink {
  bytes = sink.bytes ++ fitting sink piece;
  calls = raised sink.calls;
  faults = if is_stuck sink piece then raised sink.faults else sink.faults;
}

-- after a call that writes a piece
abbrev pub after_write : SinkState → List ℕ → SinkState
after_write sink piece = if fails_next sink then after_fault sink else after_taking sink piece
