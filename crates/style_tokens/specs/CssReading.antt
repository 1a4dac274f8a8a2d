-- Reading from the left: what is left behind the longest run, name, number or token at the front of some bytes.
use Rattle.std.specs.Prelude.{ℕ, ◌==◌, ◌||◌, ◌&&◌, Bool, List, [], ◌∷◌, Option, Some, None, option_map, unwrap_or, if◌then◌else◌}
use Rattle.text_tokens.specs.Classes.{is_white, is_digit, is_name_start, is_name_byte}
use Rattle.style_tokens.specs.declared.token.CssKind.{CssKind}
use Rattle.style_tokens.specs.declared.token.CssKind.TheVariants.{Ident, Function, AtWord, Hash, Number, Colon, Semicolon, Comma, LeftBrace, RightBrace, RightParen, Bang, Dot}

-- behind the bytes that pass
abbrev pub skip : (ℕ → Bool) → List ℕ → List ℕ
skip p [] = []
skip p (b ∷ rest) = if p b then skip p rest else b ∷ rest

-- behind one byte of a class and the bytes of another class after it
unfoldable pub run_at : (ℕ → Bool) → (ℕ → Bool) → List ℕ → Option (List ℕ)
run_at first more [] = None
run_at first more (b ∷ rest) = if first b then Some (skip more rest) else None

-- an identifier
unfoldable pub ident_at : List ℕ → Option (List ℕ)
ident_at [] = None
ident_at (b ∷ rest) = if b == 45 then run_at is_name_start is_name_byte rest else run_at is_name_start is_name_byte (b ∷ rest)

-- a point with digits, or nothing
unfoldable pub after_fraction : List ℕ → List ℕ
after_fraction [] = []
after_fraction (b ∷ rest) = if b == 46 then unwrap_or (run_at is_digit is_digit rest) (b ∷ rest) else b ∷ rest

-- digits, with a point or without
unfoldable pub decimal_at : List ℕ → Option (List ℕ)
decimal_at [] = None
decimal_at (b ∷ rest) = if b == 46 then run_at is_digit is_digit rest else option_map after_fraction (run_at is_digit is_digit (b ∷ rest))

-- `%`, an identifier or nothing
unfoldable pub after_unit : List ℕ → List ℕ
after_unit [] = []
after_unit (b ∷ rest) = if b == 37 then rest else unwrap_or (ident_at (b ∷ rest)) (b ∷ rest)

-- a sign or nothing
unfoldable pub after_sign : List ℕ → List ℕ
after_sign [] = []
after_sign (b ∷ rest) = if b == 43 || b == 45 then rest else b ∷ rest

unfoldable pub number_at : List ℕ → Option (List ℕ)
number_at bytes = option_map after_unit (decimal_at (after_sign bytes))

-- behind an identifier stands a `(`, or not
unfoldable pub named : List ℕ → CssKind × List ℕ
named [] = (Ident, [])
named (b ∷ rest) = if b == 40 then (Function, rest) else (Ident, b ∷ rest)

-- the kind of a token of one byte
unfoldable pub mark_of : ℕ → Option CssKind
mark_of b =
    if b == 58 then Some Colon else
    (if b == 59 then Some Semicolon else
    (if b == 44 then Some Comma else
    (if b == 123 then Some LeftBrace else
    (if b == 125 then Some RightBrace else
    (if b == 41 then Some RightParen else
    (if b == 33 then Some Bang else
    (if b == 46 then Some Dot else None)))))))

-- a token that is told by its first byte
unfoldable pub marked_at : List ℕ → Option (CssKind × List ℕ)
marked_at [] = None
marked_at (b ∷ rest) =
    if b == 64 then option_map (λ left. (AtWord, left)) (ident_at rest) else
    (if b == 35 then option_map (λ left. (Hash, left)) (run_at is_name_byte is_name_byte rest) else
    option_map (λ kind. (kind, rest)) (mark_of b))

-- the first of two that there is
abbrev pub or_else : {A : Type 0} → Option A → Option A → Option A
or_else (Some x) other = Some x
or_else None other = other

-- the kind of the longest token, and what it leaves
unfoldable pub token_at : List ℕ → Option (CssKind × List ℕ)
token_at bytes =
    or_else (option_map (λ left. (Number, left)) (number_at bytes))
    (or_else (option_map named (ident_at bytes)) (marked_at bytes))

-- behind the first `*/`
unfoldable pub after_close : List ℕ → Option (List ℕ)
after_close [] = None
after_close (a ∷ []) = None
after_close (a ∷ (b ∷ rest)) = if a == 42 && b == 47 then Some rest else after_close (b ∷ rest)

unfoldable pub comment_at : List ℕ → Option (List ℕ)
comment_at [] = None
comment_at (a ∷ []) = None
comment_at (a ∷ (b ∷ rest)) = if a == 47 && b == 42 then after_close rest else None

-- behind a byte of white space or a comment
unfoldable pub gap_at : List ℕ → Option (List ℕ)
gap_at [] = None
gap_at (b ∷ rest) = if is_white b then Some rest else comment_at (b ∷ rest)
