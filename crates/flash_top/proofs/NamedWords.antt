-- The words that a command names are among the words that spell it.
use Rattle.std.proofs.Common.{◌≡◌, ◌∙◌, ℕ, ◌<◌, inl, inr, List, [], length, map, get_or, Option, refl, sym, ap, subst, arith}
use Rattle.std.proofs.lemmas.List.{get_or-map, length-map}
use Rattle.io_edge.specs.Files.{Files}
use Rattle.page_model.specs.Viewing.{Viewing}
use Rattle.flash_top.specs.Files.{HasFile, OrUnread}
use Rattle.flash_top.specs.Outcomes.{ComesTo}
use Rattle.flash_top.specs.Verdicts.{IsVerified}
use Rattle.flash_words.specs.Words.{NamesFile, Spells, word_at}
use Rattle.flash_top.specs.declared.outcome.Outcome.{Outcome}
use Rattle.flash_words.specs.declared.words.Command.{Command}
use Rattle.flash_words.specs.declared.words.Command.TheVariants.{Check, Verify, Tint, Light, Demo}

named_within : (words : List (List ℕ)) (command : Command) (place : ℕ) → Spells words command → NamesFile command place → place < length words
named_within words (Check page setup) place w is = let long = ap length w.words_are in omega (arith, long, w.page_is, is)
named_within words (Verify page witness setup) place w (inl is) = let long = ap length w.words_are in omega (arith, long, w.page_is, is)
named_within words (Verify page witness setup) place w (inr is) = let long = ap length w.words_are in omega (arith, long, w.witness_is, is)
named_within words (Tint page setup frame x y) place w is = let long = ap length w.words_are in omega (arith, long, w.page_is, is)
named_within words (Light colour) place w is = absurd is
named_within words (Demo number setup) place w is = absurd is

-- the text of a word that a command names is the word at its place
pub word_named : {X : Type 0} (f : X → List ℕ) (xs : List X) (command : Command) (place : ℕ) (x : X) (name : List ℕ) → Spells (map f xs) command
    → NamesFile command place → x ≡ get_or xs place x → name ≡ f x → word_at (map f xs) place ≡ name
word_named f xs command place x name spelled named is text =
    let within : place < length xs = omega (arith, named_within (map f xs) command place spelled named, length-map xs f) in
    get_or-map f xs place x [] within ∙ ap f (sym is) ∙ sym text

pub check_named : (command : Command) (page : ℕ) (setup : Viewing) → command ≡ Check page setup → NamesFile command page
check_named command page setup is = subst (λ (command : Command). NamesFile command page) (sym is) refl

pub page_named : (command : Command) (page witness : ℕ) (setup : Viewing) → command ≡ Verify page witness setup → NamesFile command page
page_named command page witness setup is = subst (λ (command : Command). NamesFile command page) (sym is) (inl refl)

pub witness_named : (command : Command) (page witness : ℕ) (setup : Viewing) → command ≡ Verify page witness setup → NamesFile command witness
witness_named command page witness setup is = subst (λ (command : Command). NamesFile command witness) (sym is) (inr refl)

pub tint_named : (command : Command) (page : ℕ) (setup : Viewing) (frame x y : ℕ) → command ≡ Tint page setup frame x y → NamesFile command page
tint_named command page setup frame x y is = subst (λ (command : Command). NamesFile command page) (sym is) refl

-- what two files come to, the words do that name them
pub verify_comes : (words : List (List ℕ)) (files : Option Files) (before after : ℕ) (command : Command) (page witness : ℕ) (setup : Viewing)
    (page_name witness_name : List ℕ) (outcome : Outcome) → command ≡ Verify page witness setup → word_at words page ≡ page_name → word_at words witness ≡ witness_name
    → OrUnread before after outcome (HasFile files page_name (λ bytes. HasFile files witness_name (λ text. IsVerified setup bytes text outcome)))
    → OrUnread before after outcome (ComesTo words files command outcome)
verify_comes words files before after command page witness setup page_name witness_name outcome is at_page at_witness h =
    subst (λ (command : Command). OrUnread before after outcome (ComesTo words files command outcome)) (sym is)
    (subst
    (λ (name : List ℕ). OrUnread before after outcome (HasFile files name (λ bytes. HasFile files (word_at words witness) (λ text. IsVerified setup bytes text outcome))))
    (sym at_page)
    (subst
    (λ (name : List ℕ). OrUnread before after outcome (HasFile files page_name (λ bytes. HasFile files name (λ text. IsVerified setup bytes text outcome))))
    (sym at_witness)
    h))
