-- The page that is made from a number: the numbers of a linear congruential generator say what each of 64 boxes is like. The boxes
-- stand in eight rows of eight, 128 pixels from one another across and 96 down. This is the project's own.
use Rattle.std.specs.Prelude.{ℕ, zero, suc, ◌+◌, ◌*◌, ◌^◌, ◌/◌, ◌%◌, List, [], ◌∷◌, ◌++◌, codes, decimal}

-- the number that follows another in the sequence, and the number at a place of the sequence that begins with one
abbrev pub following : ℕ → ℕ
following z = (1664525 * z + 1013904223) % 2 ^ 32

abbrev pub number_at : ℕ → ℕ → ℕ
number_at first zero = first
number_at first (suc place) = following (number_at first place)

-- what is drawn for a box, from 0 to 65,535
abbrev pub drawn_for : ℕ → ℕ → ℕ
drawn_for first box = number_at first (box + 1) / 65536

-- which of the four animations a box has: it blinks four times a second, or twice; it fades there and back, or again and again
abbrev pub animation_of : ℕ → ℕ
animation_of drawn = drawn % 4

-- place and size in pixels
abbrev pub left_of : ℕ → ℕ
left_of box = 128 * (box % 8)

abbrev pub top_of : ℕ → ℕ
top_of box = 96 * (box / 8)

abbrev pub width_of : ℕ → ℕ
width_of drawn = 24 + 8 * (drawn / 4 % 4)

abbrev pub height_of : ℕ → ℕ
height_of drawn = 16 + 8 * (drawn / 16 % 4)

-- a box, from what is drawn for it
abbrev pub box_text : ℕ → ℕ → List ℕ
box_text box drawn =
    codes "<div class=\"b s" ++ (decimal (animation_of drawn) ++ (codes "\" style=\"left:" ++ (decimal (left_of box)
    ++ (codes "px;top:" ++ (decimal (top_of box) ++ (codes "px;width:" ++ (decimal (width_of drawn)
    ++ (codes "px;height:" ++ (decimal (height_of drawn) ++ codes "px\"></div>")))))))))

-- so many boxes one behind another
unfoldable pub boxes_text : ℕ → ℕ → List ℕ
boxes_text first zero = []
boxes_text first (suc count) = boxes_text first count ++ box_text count (drawn_for first count)

-- what stands before the boxes: the style sheet with the four animations
abbrev pub head_text : List ℕ
head_text =
    codes "<!DOCTYPE html><html><head><style>body{background-color:#ffffff}.b{position:absolute;background-color:#000000}"
    ++ (codes ".s0{animation:f 250ms steps(1) infinite}.s1{animation:f 500ms steps(1) infinite}"
    ++ (codes ".s2{animation:g 1s ease-in-out infinite alternate}.s3{animation:g 2s linear infinite}"
    ++ (codes "@keyframes f{0%{background-color:#000000}50%{background-color:#ffffff}}"
    ++ codes "@keyframes g{from{opacity:1}to{opacity:0.25}}</style></head><body>")))

-- and what stands behind them
abbrev pub tail_text : List ℕ
tail_text = codes "</body></html>" ++ 10 ∷ []

-- the page of a number
abbrev pub generated_page : ℕ → List ℕ
generated_page first = head_text ++ (boxes_text first 64 ++ tail_text)
