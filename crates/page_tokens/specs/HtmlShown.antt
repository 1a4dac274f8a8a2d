-- What the values of the code say, their references read.
use Rattle.std.specs.Prelude.{ℕ, Bool, List, map}
use Rattle.std.specs.Borrow.{Bor}
use Rattle.page_tokens.specs.HtmlTags.{Attribute}
use Rattle.page_tokens.specs.HtmlText.{Word}
use Rattle.page_tokens.specs.declared.html_scan.HtmlWord.{HtmlWord}
use Rattle.page_tokens.specs.HtmlPieces.{Content, doctype, opening, closing, raw, Piece, between, token}
use Rattle.page_tokens.specs.declared.html_pieces.Piece.{Piece as PagePiece}
use Rattle.page_tokens.specs.declared.html_pieces.Piece.TheVariants.{Between, Token}
use Rattle.page_tokens.specs.declared.html_tags.HtmlContent.{HtmlContent}
use Rattle.page_tokens.specs.declared.html_tags.Tail.{Tail}
use Rattle.page_tokens.specs.declared.token.HtmlKind.{HtmlKind}
use Rattle.page_tokens.specs.declared.token.HtmlKind.TheVariants.{Doctype, Opening, Closing, Raw}
use Rattle.page_tokens.specs.declared.html_attribute.HtmlAttribute.{HtmlAttribute}

-- an attribute
abbrev pub shown_attribute : HtmlAttribute → Attribute
shown_attribute attribute = record { name = attribute.name.now; value = attribute.value.now; left = attribute.left }

-- an attribute and what is left
abbrev pub attribute_now : HtmlAttribute × Bor (List ℕ) → Attribute × List ℕ
attribute_now read = (shown_attribute read.0, read.1.now)

-- a value, the number of bytes from its first one on, and what is left
abbrev pub value_now : Bor (List ℕ) × ℕ × Bor (List ℕ) → List ℕ × ℕ × List ℕ
value_now read = (read.0.now, read.1, read.2.now)

-- whether a `/` stands in an end, and what is left
abbrev pub end_now : Bool × Bor (List ℕ) → Bool × List ℕ
end_now read = (read.0, read.1.now)

-- attributes, whether a `/` stands in the end, and what is left
abbrev pub tail_now : Tail → List Attribute × Bool × List ℕ
tail_now read = (map shown_attribute read.attributes.items, read.slash, read.rest.now)

-- what a token of this kind says
abbrev pub content_of : HtmlKind → List ℕ → List Attribute → Bool → Content
content_of Doctype name attributes slash = doctype
content_of Opening name attributes slash = opening name attributes slash
content_of Closing name attributes slash = closing name
content_of Raw name attributes slash = raw name

-- what a token says
abbrev pub shown_content : HtmlContent → Content
shown_content content = content_of content.kind content.name.now (map shown_attribute content.attributes.items) content.slash

-- what a token says, and what is left
abbrev pub content_now : HtmlContent × Bor (List ℕ) → Content × List ℕ
content_now read = (shown_content read.0, read.1.now)

-- a piece
abbrev pub shown_piece : PagePiece → Piece
shown_piece Between = between
shown_piece (Token content) = token (shown_content content)

-- a piece, and what is left
abbrev pub piece_now : PagePiece × Bor (List ℕ) → Piece × List ℕ
piece_now read = (shown_piece read.0, read.1.now)

-- a token with its content
abbrev pub shown_word : HtmlWord → Word
shown_word word = record { content = shown_content word.content; place = word.place }
