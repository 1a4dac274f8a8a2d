-- A file has bytes: more than were read of it, or any of which nothing is asked.
use Rattle.std.proofs.Common.{◌≡◌, ℕ, ◌+◌, ◌<◌, inl, inr, List, [], length, replicate, Option, Some, None, refl, arith}
use Rattle.std.proofs.lemmas.List.{length-replicate}
use Rattle.io_edge.specs.Files.{Files, bytes_of}
use Rattle.io_edge.specs.Reading.{IsLonger}
use Rattle.flash_top.specs.Files.{HasFile, OrUnread}
use Rattle.flash_top.specs.declared.outcome.Outcome.{Outcome}

-- of a file of more bytes than a limit there are such bytes, told or not
pub longer_file : (files : Option Files) (name : List ℕ) (limit : ℕ) (Holds : List ℕ → Type 0) → IsLonger files name limit
    → ((bytes : List ℕ) → limit < length bytes → Holds bytes) → HasFile files name Holds
longer_file None name limit Holds longer holds =
    let long : length (replicate {A = ℕ} (limit + 1) 0) ≡ limit + 1 = length-replicate {A = ℕ} (limit + 1) 0 in
    record { bytes = replicate (limit + 1) 0; is_file = tt; holds = holds (replicate (limit + 1) 0) (omega (arith, long)) }
longer_file (Some files) name limit Holds longer holds =
    record { bytes = bytes_of files name; is_file = refl; holds = holds (bytes_of files name) longer }

-- what holds of all bytes holds of those of a file
pub any_file : (files : Option Files) (name : List ℕ) (Holds : List ℕ → Type 0) → ((bytes : List ℕ) → Holds bytes) → HasFile files name Holds
any_file None name Holds holds = record { bytes = []; is_file = tt; holds = holds [] }
any_file (Some files) name Holds holds = record { bytes = bytes_of files name; is_file = refl; holds = holds (bytes_of files name) }

-- what follows of the bytes of a file
pub still_file : (files : Option Files) (name : List ℕ) (Holds Also : List ℕ → Type 0) → HasFile files name Holds
    → ((bytes : List ℕ) → Holds bytes → Also bytes) → HasFile files name Also
still_file files name Holds Also has more = record { bytes = has.bytes; is_file = has.is_file; holds = more has.bytes has.holds }

-- and beside a fault of the source
pub still_unread : {Holds Also : Type 0} (before after : ℕ) (outcome : Outcome) → OrUnread before after outcome Holds → (Holds → Also) → OrUnread before after outcome Also
still_unread before after outcome (inl unread) more = inl unread
still_unread before after outcome (inr holds) more = inr (more holds)
