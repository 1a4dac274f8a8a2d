-- Which words spell which command.
use Rattle.std.specs.Prelude.{◌≡◌, ◌<◌, ◌^◌, ◌⊎◌, ℕ, List, [], ◌∷◌, ◌++◌, Ok, codes, decimal, get_or}
use Rattle.page_model.specs.Viewing.{Viewing, setup_of, setup_over_1001}
use Rattle.page_model.specs.declared.colour.Rgb.{Rgb}
use Rattle.flash_words.specs.Colours.{SpellsColour}
use Rattle.flash_words.specs.declared.words.Command.{Command}
use Rattle.flash_words.specs.declared.words.Command.TheVariants.{Check, Verify, Tint, Light, Demo}

-- RATE spells the rate of a setup of this size: its number of frames per second
pub record SpellsWholeRate (rate : List ℕ) (width height : ℕ) (setup : Viewing) : Type 0 where
  pub num : ℕ
  pub rate_is : rate ≡ decimal num
  pub setup_is : setup_of width height num ≡ Ok setup

-- or its number of frames in 1,001 seconds, followed by `/1001`
pub record SpellsRateOver1001 (rate : List ℕ) (width height : ℕ) (setup : Viewing) : Type 0 where
  pub num : ℕ
  pub rate_is : rate ≡ decimal num ++ codes "/1001"
  pub setup_is : setup_over_1001 width height num ≡ Ok setup

abbrev pub SpellsRate : List ℕ → ℕ → ℕ → Viewing → Type 0
SpellsRate rate width height setup = SpellsWholeRate rate width height setup ⊎ SpellsRateOver1001 rate width height setup

-- SIZE and RATE spell a setup: SIZE is its width, an `x` (120) and its height, and RATE its rate, each number
-- in decimal digits, with no sign and with no leading zero but in 0 itself
pub record SpellsSetup (size rate : List ℕ) (setup : Viewing) : Type 0 where
  pub width : ℕ
  pub height : ℕ
  pub size_is : size ≡ decimal width ++ 120 ∷ decimal height
  pub rate_is : SpellsRate rate width height setup

-- `check` PAGE SIZE RATE, where any word is a PAGE: judge the page that the word at place 1 names
pub record SpellsCheck (words : List (List ℕ)) (page : ℕ) (setup : Viewing) : Type 0 where
  pub page_name : List ℕ
  pub size : List ℕ
  pub rate : List ℕ
  pub words_are : words ≡ codes "check" ∷ page_name ∷ size ∷ rate ∷ []
  pub page_is : page ≡ 1
  pub setup_is : SpellsSetup size rate setup

-- `verify` PAGE WITNESS SIZE RATE, where any word is a PAGE or a WITNESS: test the witness that the word at place 2 names against the
-- page that the word at place 1 names
pub record SpellsVerify (words : List (List ℕ)) (page witness : ℕ) (setup : Viewing) : Type 0 where
  pub page_name : List ℕ
  pub witness_name : List ℕ
  pub size : List ℕ
  pub rate : List ℕ
  pub words_are : words ≡ codes "verify" ∷ page_name ∷ witness_name ∷ size ∷ rate ∷ []
  pub page_is : page ≡ 1
  pub witness_is : witness ≡ 2
  pub setup_is : SpellsSetup size rate setup

-- a frame, and a pixel of the viewport by its column and row
pub record Spot : Type 0 where
  pub frame : ℕ
  pub column : ℕ
  pub row : ℕ

-- the pixel lies in the viewport, and the frame is a number below 2^32
pub record IsSpot (setup : Viewing) (spot : Spot) : Type 0 where
  pub frame_limit : spot.frame < 2 ^ 32
  pub left_of : spot.column < setup.width
  pub above : spot.row < setup.height

-- `tint` PAGE SIZE RATE FRAME X Y, where any word is a PAGE: the tint of a pixel in a frame of the page that the word at place 1 names
pub record SpellsTint (words : List (List ℕ)) (page : ℕ) (setup : Viewing) (spot : Spot) : Type 0 where
  pub page_name : List ℕ
  pub size : List ℕ
  pub rate : List ℕ
  pub words_are : words ≡ codes "tint" ∷ page_name ∷ size ∷ rate ∷ decimal spot.frame ∷ decimal spot.column ∷ decimal spot.row ∷ []
  pub page_is : page ≡ 1
  pub setup_is : SpellsSetup size rate setup
  pub spot_is : IsSpot setup spot

-- `light` COLOUR: how light a colour is
pub record SpellsLight (words : List (List ℕ)) (colour : Rgb) : Type 0 where
  pub word : List ℕ
  pub words_are : words ≡ codes "light" ∷ word ∷ []
  pub colour_is : SpellsColour word colour

-- `demo` N SIZE RATE, where N is a number below 2^32: judge the page that is made from it
pub record SpellsDemo (words : List (List ℕ)) (number : ℕ) (setup : Viewing) : Type 0 where
  pub size : List ℕ
  pub rate : List ℕ
  pub words_are : words ≡ codes "demo" ∷ decimal number ∷ size ∷ rate ∷ []
  pub limit : number < 2 ^ 32
  pub setup_is : SpellsSetup size rate setup

-- the words spell the command: its name and what goes with it, in this order, and no more
abbrev pub Spells : List (List ℕ) → Command → Type 0
Spells words (Check page setup) = SpellsCheck words page setup
Spells words (Verify page witness setup) = SpellsVerify words page witness setup
Spells words (Tint page setup frame x y) = SpellsTint words page setup (record { frame = frame; column = x; row = y })
Spells words (Light colour) = SpellsLight words colour
Spells words (Demo number setup) = SpellsDemo words number setup

-- a command names a file by the word at this place; `light` and `demo` name none
abbrev pub NamesFile : Command → ℕ → Type 0
NamesFile (Check page setup) place = place ≡ page
NamesFile (Verify page witness setup) place = (place ≡ page) ⊎ (place ≡ witness)
NamesFile (Tint page setup frame x y) place = place ≡ page
NamesFile (Light colour) place = ⊥
NamesFile (Demo number setup) place = ⊥

-- the word at a place
abbrev pub word_at : List (List ℕ) → ℕ → List ℕ
word_at words place = get_or words place []
