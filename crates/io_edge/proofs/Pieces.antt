-- Two pieces, one after the other, as one.
use Rattle.std.proofs.Common.{ℕ, ◌+◌, ◌-◌, List, Option, length, take, drop, sym, subst}
use Rattle.std.proofs.Math.Seq.{take-add}
use Rattle.std.proofs.lemmas.List.{take_rest}
use Rattle.std.proofs.KnownBytes.{Appends-trans}
use Rattle.std.specs.Io.KnownBytes.{Appends}

-- the first bytes of a text were appended, and then the first of its rest
pub appends_more : (a b c : Option (List ℕ)) (text : List ℕ) (done n : ℕ) → Appends a b (take done text) → Appends b c (take n (take (length text - done) (drop done text))) → Appends a c (take (done + n) text)
appends_more a b c text done n p q =
    subst (Appends a c) (sym (take-add done n text))
    (Appends-trans a b c _ _ p (subst (λ rest. Appends b c (take n rest)) (take_rest text done) q))
