-- The classes of bytes of which a page has runs, by their names in the code.
use Rattle.std.specs.Prelude.{ℕ, Bool, List}
use Rattle.std.specs.Borrow.{Bor}
use Rattle.text_tokens.specs.Classes.{is_white}
use Rattle.page_tokens.specs.HtmlRuns.{is_tag_byte, is_attribute_byte, is_value_byte, is_raw_byte}
use Rattle.page_tokens.specs.declared.html_runs.HtmlClass.{HtmlClass}
use Rattle.page_tokens.specs.declared.html_runs.HtmlClass.TheVariants.{White, TagName, AttributeName, Value, RawText}

-- the bytes of a class
abbrev pub has : HtmlClass → ℕ → Bool
has White = is_white
has TagName = is_tag_byte
has AttributeName = is_attribute_byte
has (Value quote) = is_value_byte quote
has RawText = is_raw_byte

-- the bytes of a name and of what is left, that two references point to
abbrev pub both_now : Bor (List ℕ) × Bor (List ℕ) → List ℕ × List ℕ
both_now pair = (pair.0.now, pair.1.now)
