-- What was taken of a file so far.
use Rattle.std.proofs.Common.{◌≡◌, ℕ, ◌+◌, ◌≤◌, List, [], ◌++◌, Option, None, Some, IfSome, length, drop, sym, subst, refl, ap, ◌∙◌, append-nil, length-append, arith}
use Rattle.std.proofs.Math.Seq.{drop-append_seam}
use Rattle.std.specs.Io.KnownBytes.{Consumes, IsAtEnd}
use Rattle.std.proofs.KnownBytes.{Consumes-trans}
use Rattle.io_edge.specs.Files.{Files, bytes_of, Opens}
use Rattle.io_edge.specs.Reading.{IsFile, IsLonger, IsBehind, IsBehindSome}

-- where the files are told, these bytes and then the rest are that name's
abbrev pub HasTaken : Option Files → List ℕ → Option (List ℕ) → List ℕ → Type 0
HasTaken files name rest bytes = IfSome files (λ files. Consumes (Some (bytes_of files name)) rest bytes)

-- at the start nothing was taken
pub taken_none : (files : Option Files) (name : List ℕ) (rest : Option (List ℕ)) → Opens files name rest → HasTaken files name rest []
taken_none None name rest h = tt
taken_none (Some files) name rest h = subst (λ r. Consumes (Some (bytes_of files name)) r []) (sym h) refl

-- what a read moved was taken too
pub taken_more : (files : Option Files) (name : List ℕ) (old new : Option (List ℕ)) (bytes more : List ℕ) → HasTaken files name old bytes → Consumes old new more → HasTaken files name new (bytes ++ more)
taken_more None name old new bytes more h c = tt
taken_more (Some files) name old new bytes more h c = Consumes-trans (Some (bytes_of files name)) old new bytes more h c

-- at the end the whole file was taken
pub taken_all : (files : Option Files) (name : List ℕ) (rest : Option (List ℕ)) (bytes : List ℕ) → HasTaken files name rest bytes → IsAtEnd rest → IsFile files name bytes
taken_all None name rest bytes h e = tt
taken_all (Some files) name None bytes h e = absurd h
taken_all (Some files) name (Some rest) bytes h e = sym (h ∙ ap (λ r. bytes ++ r) e ∙ append-nil bytes)

-- a file of which one byte more than the limit was taken is longer
pub taken_longer : (files : Option Files) (name : List ℕ) (rest : Option (List ℕ)) (bytes : List ℕ) (limit : ℕ) → HasTaken files name rest bytes → length bytes ≡ limit + 1 → IsLonger files name limit
taken_longer None name rest bytes limit h e = tt
taken_longer (Some files) name None bytes limit h e = absurd h
taken_longer (Some files) name (Some rest) bytes limit h e =
    let all : length (bytes_of files name) ≡ length (bytes ++ rest) = ap length h in
    omega (arith, length-append bytes rest)

-- the rest is behind what was taken
pub taken_behind : (files : Option Files) (name : List ℕ) (rest : Option (List ℕ)) (bytes : List ℕ) (count : ℕ) → HasTaken files name rest bytes → length bytes ≡ count → IsBehind files name count rest
taken_behind None name rest bytes count h e = tt
taken_behind (Some files) name None bytes count h e = absurd h
taken_behind (Some files) name (Some rest) bytes count h e =
    ap Some (sym (ap (drop count) h ∙ subst (λ n. drop n (bytes ++ rest) ≡ rest) e (drop-append_seam bytes rest)))

-- after one more read the rest is behind what was taken, and that isn't more than was missing
pub taken_some : (files : Option Files) (name : List ℕ) (old rest : Option (List ℕ)) (bytes more : List ℕ) (most : ℕ) → HasTaken files name old bytes → Consumes old rest more → length bytes + length more ≤ most → IsBehindSome files name most rest
taken_some files name old rest bytes more most h c e = (length (bytes ++ more), simp length-append e, taken_behind files name rest (bytes ++ more) (length (bytes ++ more)) (taken_more files name old rest bytes more h c) refl)

-- what `read_all` takes, from its first read to its end
pub ruleset taken = (taken_none, taken_more, taken_all, taken_longer, taken_behind, taken_some)
