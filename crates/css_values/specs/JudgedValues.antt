-- What words can spell, one way or the other.
use Rattle.std.specs.Prelude.{◌≡◌, ◌⊎◌, Result, Ok, Err}
use Rattle.css_words.specs.declared.fault.ValueFault.{ValueFault}
use Rattle.css_words.specs.declared.fault.ValueFault.TheVariants.{BadValue, OverLimit}

-- they spell a value, or one past its limit, or none
abbrev pub IsJudged : {A : Type 0} → Result A ValueFault → Type 0
IsJudged {A} spelled = ((value : A) × (spelled ≡ Ok value)) ⊎ ((spelled ≡ Err OverLimit) ⊎ (spelled ≡ Err BadValue))
