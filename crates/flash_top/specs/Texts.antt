-- What is written for each outcome, and the status that the run ends with.
use Rattle.std.specs.Prelude.{ℕ, ℤ, Bool, true, false, ◌≡◌, ◌⊎◌, List, [], ◌∷◌, ◌++◌, codes, decimal, if◌then◌else◌}
use Rattle.std.specs.Fmt.{signed_decimal}
use Rattle.witness_checks.specs.Faults.{condition_of}
use Rattle.flash_top.specs.declared.outcome.Outcome.{Outcome}
use Rattle.flash_top.specs.declared.outcome.Outcome.TheVariants.{WordsRefused, ReadFault, Refused, Pass, Fail, TooManyFrames, TooMuchWork, Enclosed, NoWitness, Unaccepted, Accepted, Painted, Lit, Shown, NoMemory}
use Rattle.flash_top.specs.declared.refusal.PageRefusal.{PageRefusal}
use Rattle.flash_top.specs.declared.refusal.PageRefusal.TheVariants.{TooLong, BadText, TooManyBoxes, BadSheet, UnknownProperty, BadValue, BadKeyframes, OverLimit, NotPlaced, BodyProperty, TooManyAnimations}
use Rattle.flash_top.specs.declared.status.Status.{Status}
use Rattle.flash_top.specs.declared.status.Status.TheVariants as status
use Rattle.witness_text.specs.TintText.{colour_text, is_single}
use Rattle.witness_text.specs.WitnessForm.{IsToldRate}
use Rattle.witness_text.specs.WitnessText.{witness_text}
use Rattle.page_judge.specs.declared.types.Judgement.{Judgement}
use Rattle.page_judge.specs.declared.types.Judgement.TheVariants.{Pass as Passed, Fail as Failed, Frames, Work, Enclosure}
use Rattle.page_model.specs.declared.colour.Tint.{Tint}
use Rattle.page_model.specs.declared.witness.Witness.{Witness}
use Rattle.flash_top.specs.declared.outcome.Light.{Light}

-- the line for a page that is refused, without its end; places are byte places from 0 on, and elements go by number, the body's being 0
abbrev pub refusal_line : PageRefusal → List ℕ
refusal_line TooLong = codes "page: too long"
refusal_line (BadText place) = codes "page: bad text at " ++ decimal place
refusal_line TooManyBoxes = codes "page: more than 64 boxes"
refusal_line (BadSheet place) = codes "page: bad sheet at " ++ decimal place
refusal_line (UnknownProperty place) = codes "page: unknown property at " ++ decimal place
refusal_line (BadValue place) = codes "page: bad value at " ++ decimal place
refusal_line (BadKeyframes place) = codes "page: bad keyframes at " ++ decimal place
refusal_line (OverLimit place) = codes "page: over a limit at " ++ decimal place
refusal_line (NotPlaced number) = codes "page: element " ++ (decimal number ++ codes " is not placed")
refusal_line BodyProperty = codes "page: body has a property that it may not have"
refusal_line (TooManyAnimations number) = codes "page: more than 8 animations on element " ++ decimal number

-- the line for a tint: `#rrggbb`, or `#rrggbb-#rrggbb` with the lower colour first where its two colours differ
unfoldable pub tint_line : Tint → List ℕ
tint_line tint =
    if is_single tint then 35 ∷ colour_text tint.lo
    else 35 ∷ (colour_text tint.lo ++ 45 ∷ (35 ∷ colour_text tint.hi))

-- the line for how light a colour is: the linear light of its channels, its luminance, and whether it is a saturated red
abbrev pub light_line : Light → List ℕ
light_line light =
    codes "lin " ++ (decimal light.red ++ 32 ∷ (decimal light.green ++ 32 ∷ (decimal light.blue ++ (codes ", luma " ++ (decimal light.luma
    ++ (if light.saturated then codes ", red yes" else codes ", red no"))))))

-- the lines for a page that is judged without a witness; a pass tells where each region was judged by itself
abbrev pub pass_line : ℕ → Bool → List ℕ
pass_line frames false = codes "pass: frames " ++ decimal frames
pass_line frames true = codes "pass: frames " ++ (decimal frames ++ codes ", regions apart")

abbrev pub frames_line : List ℕ
frames_line = codes "undecided: more than 100000 frames"

abbrev pub work_line : ℕ → ℕ → List ℕ
work_line cells frames = codes "undecided: " ++ (decimal cells ++ (codes " cells in " ++ (decimal frames ++ codes " frames")))

abbrev pub window_line : ℕ → ℤ → ℤ → List ℕ
window_line start x y =
    codes "undecided: enclosure at start " ++ (decimal start ++ (codes ", rectangle " ++ (signed_decimal x ++ 32 ∷ signed_decimal y)))

-- the line that sums up a page that fails, by the window of its witness and its area
abbrev pub fail_line : Witness → List ℕ
fail_line witness =
    codes "fail: start " ++ (decimal witness.start ++ (codes ", rectangle " ++ (signed_decimal witness.x ++ 32 ∷ (signed_decimal witness.y
    ++ (codes ", area " ++ decimal witness.area)))))

-- the line that sums up what a page comes to
abbrev pub summary_line : Judgement → List ℕ
summary_line (Passed frames apart) = pass_line frames apart
summary_line (Failed witness) = fail_line witness
summary_line Frames = frames_line
summary_line (Work cells frames) = work_line cells frames
summary_line (Enclosure start x y) = window_line start x y

-- the lines for the page of a number
abbrev pub demo_lines : ℕ → Judgement → List ℕ
demo_lines number judgement = codes "demo " ++ (decimal number ++ (codes ": boxes 64" ++ 10 ∷ summary_line judgement))

-- the line for an outcome, without its end; there are two for the page of a number
abbrev pub line_of : Outcome → List ℕ
line_of WordsRefused = codes "words: not understood"
line_of ReadFault = codes "cannot read"
line_of (Refused refusal) = refusal_line refusal
line_of (Pass frames apart) = pass_line frames apart
line_of (Fail witness) = witness_text witness
line_of TooManyFrames = frames_line
line_of (TooMuchWork cells frames) = work_line cells frames
line_of (Enclosed start x y) = window_line start x y
line_of NoWitness = codes "refused: not a witness"
line_of (Unaccepted fault) = codes "refused: condition " ++ decimal (condition_of fault)
line_of (Accepted start area) = codes "accepted: start " ++ (decimal start ++ (codes ", area " ++ decimal area))
line_of (Painted tint) = tint_line tint
line_of (Lit light) = light_line light
line_of (Shown number judgement) = demo_lines number judgement
line_of NoMemory = codes "no memory"

-- the text for an outcome: its line, ended by a line feed
abbrev pub text_of : Outcome → List ℕ
text_of outcome = line_of outcome ++ 10 ∷ []

-- the status for an outcome
abbrev pub status_of : Outcome → Status
status_of WordsRefused = status.Words
status_of ReadFault = status.ReadFault
status_of (Refused refusal) = status.Page
status_of (Pass frames apart) = status.Pass
status_of (Fail witness) = status.Bad
status_of TooManyFrames = status.Undecided
status_of (TooMuchWork cells frames) = status.Undecided
status_of (Enclosed start x y) = status.Undecided
status_of NoWitness = status.Bad
status_of (Unaccepted fault) = status.Bad
status_of (Accepted start area) = status.Pass
status_of (Painted tint) = status.Pass
status_of (Lit light) = status.Pass
status_of (Shown number judgement) = status.Pass
status_of NoMemory = status.NoMemory

-- a refusal has a place or an element to tell; the text of each other one is always the same
abbrev pub HasOwnLine : PageRefusal → Type 0
HasOwnLine TooLong = ⊥
HasOwnLine (BadText place) = Unit {0}
HasOwnLine TooManyBoxes = ⊥
HasOwnLine (BadSheet place) = Unit {0}
HasOwnLine (UnknownProperty place) = Unit {0}
HasOwnLine (BadValue place) = Unit {0}
HasOwnLine (BadKeyframes place) = Unit {0}
HasOwnLine (OverLimit place) = Unit {0}
HasOwnLine (NotPlaced number) = Unit {0}
HasOwnLine BodyProperty = ⊥
HasOwnLine (TooManyAnimations number) = Unit {0}

-- an outcome has numbers, a tint or a witness to tell; the text of each other one is always the same
abbrev pub HasOwnText : Outcome → Type 0
HasOwnText WordsRefused = ⊥
HasOwnText ReadFault = ⊥
HasOwnText (Refused refusal) = HasOwnLine refusal
HasOwnText (Pass frames apart) = Unit {0}
HasOwnText (Fail witness) = Unit {0}
HasOwnText TooManyFrames = ⊥
HasOwnText (TooMuchWork cells frames) = Unit {0}
HasOwnText (Enclosed start x y) = Unit {0}
HasOwnText NoWitness = ⊥
HasOwnText (Unaccepted fault) = Unit {0}
HasOwnText (Accepted start area) = Unit {0}
HasOwnText (Painted tint) = Unit {0}
HasOwnText (Lit light) = Unit {0}
HasOwnText (Shown number judgement) = Unit {0}
HasOwnText NoMemory = ⊥

-- a witness that is told has a rate that a version of its text tells
abbrev pub CanBeTold : Outcome → Type 0
CanBeTold (Fail witness) = IsToldRate witness.rate witness.per
CanBeTold other = Unit {0}

-- what is told for an outcome: itself, or that memory was refused for its text
abbrev pub IsToldFor : Outcome → Outcome → Type 0
IsToldFor outcome told = (told ≡ outcome) ⊎ (told ≡ NoMemory)
