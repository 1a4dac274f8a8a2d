-- Tests of tokens, and where what is left of a text begins.
use Rattle.std.specs.Prelude.{ℕ, Bool, true, false, ◌&&◌, List, [], ◌∷◌}
use Rattle.style_tokens.specs.declared.token.CssKind.{CssKind}
use Rattle.style_tokens.specs.declared.token.CssKind.TheVariants.{Ident, Colon, Semicolon, LeftBrace, RightBrace, Bang}
use Rattle.style_tokens.specs.declared.token.CssToken.{CssToken}
use Rattle.css_words.specs.Keywords.{is_keyword}
use Rattle.css_words.specs.Words.{bytes_between}

abbrev pub is_ident : CssKind → Bool
is_ident Ident = true
is_ident other = false

abbrev pub is_colon : CssKind → Bool
is_colon Colon = true
is_colon other = false

abbrev pub is_semicolon : CssKind → Bool
is_semicolon Semicolon = true
is_semicolon other = false

abbrev pub is_left_brace : CssKind → Bool
is_left_brace LeftBrace = true
is_left_brace other = false

abbrev pub is_right_brace : CssKind → Bool
is_right_brace RightBrace = true
is_right_brace other = false

abbrev pub is_bang : CssKind → Bool
is_bang Bang = true
is_bang other = false

-- the token at the front of some is of a kind
abbrev pub begins : (CssKind → Bool) → List CssToken → Bool
begins is [] = false
begins is (token ∷ rest) = is token.kind

-- where what is left of a text begins: at its first token, or at its end where there is none
abbrev pub place_of : ℕ → List CssToken → ℕ
place_of end [] = end
place_of end (token ∷ rest) = token.place.from

-- the bytes of a token
abbrev pub token_text : List ℕ → CssToken → List ℕ
token_text text token = bytes_between text token.place.from token.place.to

-- a token is this keyword, in any case
abbrev pub is_word : List ℕ → List ℕ → CssToken → Bool
is_word keyword text token = is_ident token.kind && is_keyword keyword (token_text text token)
