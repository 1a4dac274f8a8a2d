use Rattle.std.proofs.Common.{◌≡◌, drop}
use Rattle.page_tokens.specs.HtmlReading.{any_case_at}
use Rattle.page_tokens.proofs.html_runs.after_any_case.Given as goal

-- what is left to compare with decides
abbrev pub invariant-comparing : goal.invariant-comparing
invariant-comparing l = any_case_at (drop l.letter-index l.word) l.rest ≡ any_case_at l.word l.fn.bytes
