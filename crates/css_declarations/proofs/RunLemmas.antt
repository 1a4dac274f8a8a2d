-- Units one after the other: where they and what ends them are told by what stands there, so is the whole.
use Rattle.std.proofs.Common.{◌≡◌, List, [], ◌∷◌, ◌++◌, ap, subst}
use Rattle.style_tokens.specs.declared.token.CssToken.{CssToken}
use Rattle.css_declarations.specs.TokenRuns.{Run}
use Rattle.css_declarations.specs.TokenRuns.Run.{none, more}

-- an end behind some units: the units before it, what is left there, and what it says
pub record Ended (A B : Type 0) : Type 0 where
  pub units : List A
  pub rest : List CssToken
  pub says : B

-- from units on, more of them and an end
data Reads {A B : Type 0} (Is : List A → List CssToken → A → List CssToken → Type 0) (Ends : List A → List CssToken → B → Type 0) : List A → List CssToken → Ended A B → Type 0 where
  end : (units : List A) (rest : List CssToken) (says : B) → Ends units rest says → Reads Is Ends units rest (record { units = units; rest = rest; says = says })
  unit : (units : List A) (tokens : List CssToken) (first : A) (rest : List CssToken) (ended : Ended A B) → Is units tokens first rest
      → Reads Is Ends (units ++ (first ∷ [])) rest ended → Reads Is Ends units tokens ended

run_reads : {A B : Type 0} (Is : List A → List CssToken → A → List CssToken → Type 0) (Ends : List A → List CssToken → B → Type 0) (tokens : List CssToken)
    (units : List A) (rest : List CssToken) (ended : Ended A B) → Run Is tokens units rest → Reads Is Ends units rest ended → Reads Is Ends [] tokens ended
run_reads Is Ends tokens units rest ended none reads = reads
run_reads Is Ends tokens units rest ended (more before middle last left run is) reads =
    run_reads Is Ends tokens before middle ended run (unit before middle last left ended is reads)

-- units and ends are told by what stands there
pub record AreTold {A B : Type 0} (Is : List A → List CssToken → A → List CssToken → Type 0) (Ends : List A → List CssToken → B → Type 0) : Type 0 where
  pub one_unit : (units : List A) (tokens : List CssToken) (a b : A) (rest more : List CssToken) → Is units tokens a rest → Is units tokens b more → (b ≡ a) × (more ≡ rest)
  pub one_end : (units : List A) (tokens : List CssToken) (says others : B) → Ends units tokens says → Ends units tokens others → others ≡ says
  pub apart : (units : List A) (tokens : List CssToken) (a : A) (rest : List CssToken) (says : B) → Is units tokens a rest → Ends units tokens says → ⊥

one_reading : {A B : Type 0} (Is : List A → List CssToken → A → List CssToken → Type 0) (Ends : List A → List CssToken → B → Type 0) → AreTold Is Ends
    → (units : List A) (tokens : List CssToken) (ended other : Ended A B) → Reads Is Ends units tokens ended → Reads Is Ends units tokens other → other ≡ ended
one_reading Is Ends told units tokens ended other (end _ _ says is) (end _ _ others also) =
    ap (λ s. record { units = units; rest = tokens; says = s }) (told.one_end units tokens says others is also)
one_reading Is Ends told units tokens ended other (end _ _ says is) (unit _ _ first rest _ also onward) = absurd (told.apart units tokens first rest says also is)
one_reading Is Ends told units tokens ended other (unit _ _ first rest _ is onward) (end _ _ says also) = absurd (told.apart units tokens first rest says is also)
one_reading Is Ends told units tokens ended other (unit _ _ first rest _ is reads) (unit _ _ second left _ also others) =
    let same = told.one_unit units tokens first second rest left is also in
    one_reading Is Ends told (units ++ (first ∷ [])) rest ended other reads
    (subst (λ r. Reads Is Ends (units ++ (first ∷ [])) r other) same.1 (subst (λ f. Reads Is Ends (units ++ (f ∷ [])) left other) same.0 others))

-- units up to an end, of which there is one at most
pub record UpTo {A B : Type 0} (Is : List A → List CssToken → A → List CssToken → Type 0) (Ends : List A → List CssToken → B → Type 0) (tokens : List CssToken) (ended : Ended A B) : Type 0 where
  pub run : Run Is tokens ended.units ended.rest
  pub ends : Ends ended.units ended.rest ended.says

pub one_run : {A B : Type 0} (Is : List A → List CssToken → A → List CssToken → Type 0) (Ends : List A → List CssToken → B → Type 0) → AreTold Is Ends
    → (tokens : List CssToken) (ended other : Ended A B) → UpTo Is Ends tokens ended → UpTo Is Ends tokens other → other ≡ ended
one_run Is Ends told tokens ended other is also =
    one_reading Is Ends told [] tokens ended other
    (run_reads Is Ends tokens ended.units ended.rest ended is.run (end ended.units ended.rest ended.says is.ends))
    (run_reads Is Ends tokens other.units other.rest other also.run (end other.units other.rest other.says also.ends))
