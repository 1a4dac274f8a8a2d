-- The text of a page as its tokens, with white space and comments between them, and the first place where it ceases to be such a text.
use Rattle.std.specs.Prelude.{◌≡◌, ℕ, ◌-◌, List, [], ◌∷◌, length, map}
use Rattle.page_model.specs.declared.place.Place.{Place}
use Rattle.page_tokens.specs.HtmlPieces.{Content, doctype, opening, closing, raw, Piece, between, token, IsPiece, after_piece}
use Rattle.text_tokens.specs.declared.fault.ScanFault.{ScanFault}
use Rattle.text_tokens.specs.declared.fault.ScanFault.TheVariants.{BadToken, NoMemory}
use Rattle.page_tokens.specs.declared.html_stand.Stand.{Stand}
use Rattle.page_tokens.specs.declared.html_stand.Stand.TheVariants.{Anything}
use Rattle.page_tokens.specs.declared.token.HtmlToken.{HtmlToken}
use Rattle.page_tokens.specs.declared.token.HtmlKind.{HtmlKind}
use Rattle.page_tokens.specs.declared.token.HtmlKind.TheVariants.{Doctype, Opening, Closing, Raw}

-- a piece, and what is left behind it
pub record Step : Type 0 where
  pub piece : Piece
  pub rest : List ℕ

-- these pieces stand one behind the other, each where it may
abbrev pub IsPath : Stand → List ℕ → List Step → Type 0
IsPath stand bytes [] = Unit {0}
IsPath stand bytes (step ∷ steps) = IsPiece stand bytes step.piece step.rest × IsPath (after_piece stand step.piece) step.rest steps

-- what is left behind them
abbrev pub rest_after : List ℕ → List Step → List ℕ
rest_after bytes [] = bytes
rest_after bytes (step ∷ steps) = rest_after step.rest steps

-- what may stand behind them
abbrev pub stand_after : Stand → List Step → Stand
stand_after stand [] = stand
stand_after stand (step ∷ steps) = stand_after (after_piece stand step.piece) steps

-- a token's content, and its place in the text
pub record Word : Type 0 where
  pub content : Content
  pub place : Place

-- the bytes of a text of this length between what is left before and behind them
abbrev pub place_between : ℕ → List ℕ → List ℕ → Place
place_between total bytes rest = record { from = total - length bytes; to = total - length rest }

-- the token among a piece, if it is one, before others
abbrev pub with_token : Place → Piece → List Word → List Word
with_token place between words = words
with_token place (token content) words = record { content = content; place = place } ∷ words

-- the tokens among the pieces of a text of this length
abbrev pub words_of : ℕ → List ℕ → List Step → List Word
words_of total bytes [] = []
words_of total bytes (step ∷ steps) = with_token (place_between total bytes step.rest) step.piece (words_of total step.rest steps)

-- the whole text is these tokens, with white space and comments between them
pub record IsText (text : List ℕ) (words : List Word) : Type 0 where
  pub steps : List Step
  pub path : IsPath Anything text steps
  pub whole : rest_after text steps ≡ []
  pub complete : stand_after Anything steps ≡ Anything
  pub words_are : words ≡ words_of (length text) text steps

-- at this place no piece begins that may stand there, and before it only such stand; and the text doesn't end well there
pub record IsStuck (text : List ℕ) (place : ℕ) : Type 0 where
  pub steps : List Step
  pub path : IsPath Anything text steps
  pub nothing : (piece : Piece) (rest : List ℕ) → IsPiece (stand_after Anything steps) (rest_after text steps) piece rest → ⊥
  pub unfinished : rest_after text steps ≡ [] → stand_after Anything steps ≡ Anything → ⊥
  pub place_is : place ≡ length text - length (rest_after text steps)

-- the text is these tokens, and no others
pub record AreWordsOf (text : List ℕ) (words : List Word) : Type 0 where
  pub spelled : IsText text words
  pub only : (others : List Word) → IsText text others → others ≡ words

-- the text is no tokens, and this is the one place where it ceases to be such a text
pub record IsBadAt (text : List ℕ) (place : ℕ) : Type 0 where
  pub stuck : IsStuck text place
  pub no_words : (words : List Word) → IsText text words → ⊥
  pub only : (other : ℕ) → IsStuck text other → other ≡ place

-- the kind of a token with this content
abbrev pub kind_of : Content → HtmlKind
kind_of doctype = Doctype
kind_of (opening name attributes slash) = Opening
kind_of (closing name) = Closing
kind_of (raw text) = Raw

-- a token without its content
abbrev pub token_of : Word → HtmlToken
token_of word = record { kind = kind_of word.content; place = word.place }

-- the text is these tokens, and no others
pub record AreTokensOf (text : List ℕ) (tokens : List HtmlToken) : Type 0 where
  pub words : List Word
  pub spelled : AreWordsOf text words
  pub tokens_are : tokens ≡ map token_of words

-- why a text isn't split
abbrev pub IsScanFault : List ℕ → ScanFault → Type 0
IsScanFault text (BadToken place) = IsBadAt text place
IsScanFault text NoMemory = Unit {0}
