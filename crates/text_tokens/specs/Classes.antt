-- The classes of bytes that tokens are made of, all of them ASCII.
use Rattle.std.specs.Prelude.{ℕ, Bool, ◌==◌, ◌&&◌, ◌||◌, nat_le}

-- a byte lies between two others
abbrev pub is_within : ℕ → ℕ → ℕ → Bool
is_within first last byte = nat_le first byte && nat_le byte last

-- white space: space, tab, line feed, form feed, carriage return
abbrev pub is_white : ℕ → Bool
is_white byte = byte == 32 || byte == 9 || byte == 10 || byte == 12 || byte == 13

-- a letter of either case
abbrev pub is_letter : ℕ → Bool
is_letter byte = is_within 97 122 byte || is_within 65 90 byte

abbrev pub is_digit : ℕ → Bool
is_digit byte = is_within 48 57 byte

-- the first byte of an identifier of a style text, where no `-` stands before it: a letter or `_`
abbrev pub is_name_start : ℕ → Bool
is_name_start byte = is_letter byte || byte == 95

-- a further byte of such an identifier: a letter, a digit, `_` or `-`
abbrev pub is_name_byte : ℕ → Bool
is_name_byte byte = is_letter byte || is_digit byte || byte == 95 || byte == 45
