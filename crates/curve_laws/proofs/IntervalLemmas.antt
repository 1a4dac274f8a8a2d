-- The own interval of a curve's value at scale 2^22: its ends are the height there, rounded down to parts of 2^30, less 6144 and more
-- 6145. What all of the interval reaches is reached with room at that scale, and what is reached at that scale some of it reaches.
use Rattle.std.proofs.Common.{◌≡◌, ℕ, zero, suc, refl, ap, ◌+◌, ◌*◌, ◌^◌, ◌<◌, ◌≤◌, arith}
use Rattle.std.specs.Prelude.{ℤ, pos, negsuc, ◌+ℤ◌, ◌-ℤ◌, ◌*ℤ◌, ◌≤ℤ◌, ◌<ℤ◌, neg_ℤ, nat_abs}
use Rattle.std.specs.Int.{int_min, int_max, int_div_euclid}
use Rattle.std.proofs.lemmas.Int.{ints, clamps}
use Rattle.std.proofs.lemmas.Nat.{div-add-mod', mod_below}
use Rattle.std.proofs.Math.Nat.{mul-le-mul_left}
use borrow.Author.Differences.{up, down}
use Rattle.curve_laws.proofs.SignedLemmas.{product_is, times_is, abs_is}

-- a part of 2^30, in parts of 1000 M^3 at that scale
abbrev pub part : ℕ
part = 1000 * 2 ^ 36

-- b is the height h in parts of 2^30, rounded down
pub record IsFloor (h b : ℤ) : Type 0 where
  pub low : up b * part + down h ≤ up h + down b * part
  pub high : up h + down b * part ≤ down h + up b * part + part

floor_parts : (z : ℤ) (d : ℕ) → 0 < d → (up (int_div_euclid z (pos d)) * d + down z ≤ up z + down (int_div_euclid z (pos d)) * d)
    × (up z + down (int_div_euclid z (pos d)) * d ≤ down z + up (int_div_euclid z (pos d)) * d + d)
floor_parts (pos n) d some =
    let whole = div-add-mod' n d in
    let rest = mod_below n d some in
    (omega (arith, whole), omega (arith, whole, rest))
floor_parts (negsuc n) d some =
    let whole = div-add-mod' n d in
    let rest = mod_below n d some in
    (omega (arith, whole, rest), omega (arith, whole))

parts_of : (z : ℤ) → z +ℤ pos (down z) ≡ pos (up z)
parts_of z = omega (arith, ints)

pub floor_of : (h : ℤ) → IsFloor h (int_div_euclid (pos (2 ^ 30) *ℤ h) (pos (2 ^ 30 * part)))
floor_of h =
    let b = int_div_euclid (pos (2 ^ 30) *ℤ h) (pos (2 ^ 30 * part)) in
    let parts = floor_parts (pos (2 ^ 30) *ℤ h) (2 ^ 30 * part) (omega arith) in
    let product = product_is (pos (2 ^ 30)) h (up h) (down h) (parts_of h) in
    record { low = omega (arith, ints, parts.0, product); high = omega (arith, ints, parts.1, product) }

-- the least and the greatest of two
min_out : (v x y : ℤ) → v ≤ℤ int_min x y → (v ≤ℤ x) × (v ≤ℤ y)
min_out v x y h = (omega (arith, ints, clamps, h), omega (arith, ints, clamps, h))

min_in : (v x y : ℤ) → v ≤ℤ x → v ≤ℤ y → v ≤ℤ int_min x y
min_in v x y first second = omega (arith, ints, clamps, first, second)

max_left : (v x y : ℤ) → v ≤ℤ x → v ≤ℤ int_max x y
max_left v x y h = omega (arith, ints, clamps, h)

max_right : (v x y : ℤ) → v ≤ℤ y → v ≤ℤ int_max x y
max_right v x y h = omega (arith, ints, clamps, h)

-- the ends of the interval
abbrev pub least : ℤ → ℤ
least b = b -ℤ pos 6144

abbrev pub greatest : ℤ → ℤ
greatest b = b +ℤ pos 6145

least_parts : (b : ℤ) → least b +ℤ pos (down b + 6144) ≡ pos (up b)
least_parts b = omega (arith, ints)

greatest_parts : (b : ℤ) → greatest b +ℤ pos (down b) ≡ pos (up b + 6145)
greatest_parts b = omega (arith, ints)

-- the unit of the scale and its slack for a factor
abbrev pub unit : ℕ
unit = 2 ^ 30 * part

abbrev pub slack : ℤ → ℕ
slack a = 24000 * nat_abs a * 2 ^ 44

-- All of the interval reach b: so it is reached with room. Below a positive factor the least end decides, below a negative one the
-- greatest.
pub room_from_all : (a b h f : ℤ) → IsFloor h f → (b *ℤ pos (2 ^ 30)) ≤ℤ int_min (a *ℤ least f) (a *ℤ greatest f)
    → (b *ℤ pos unit +ℤ pos (slack a)) ≤ℤ (a *ℤ h)
room_from_all (pos a) b h f floor all =
    let own = (min_out (b *ℤ pos (2 ^ 30)) (pos a *ℤ least f) (pos a *ℤ greatest f) all).0 in
    let times = mul-le-mul_left a floor.low in
    omega (arith, ints, own, times, times_is b (2 ^ 30), times_is b unit, product_is (pos a) h (up h) (down h) (parts_of h), product_is (pos a) (least f) (up f) (down f + 6144) (least_parts f))
room_from_all (negsuc a) b h f floor all =
    let own = (min_out (b *ℤ pos (2 ^ 30)) (negsuc a *ℤ least f) (negsuc a *ℤ greatest f) all).1 in
    let times = mul-le-mul_left (suc a) floor.high in
    omega (arith, ints, own, times, times_is b (2 ^ 30), times_is b unit, product_is (negsuc a) h (up h) (down h) (parts_of h), product_is (negsuc a) (greatest f) (up f + 6145) (down f) (greatest_parts f))

-- b is reached at the scale: so some of the interval reaches it
pub some_from_reach : (a b h f : ℤ) → IsFloor h f → (b *ℤ pos unit) ≤ℤ (a *ℤ h +ℤ pos (slack a))
    → (b *ℤ pos (2 ^ 30)) ≤ℤ int_max (a *ℤ least f) (a *ℤ greatest f)
some_from_reach (pos a) b h f floor reach =
    let times = mul-le-mul_left a floor.high in
    max_right (b *ℤ pos (2 ^ 30)) (pos a *ℤ least f) (pos a *ℤ greatest f)
    (omega (arith, ints, reach, times, times_is b (2 ^ 30), times_is b unit, product_is (pos a) h (up h) (down h) (parts_of h), product_is (pos a) (greatest f) (up f + 6145) (down f) (greatest_parts f)))
some_from_reach (negsuc a) b h f floor reach =
    let times = mul-le-mul_left (suc a) floor.low in
    max_left (b *ℤ pos (2 ^ 30)) (negsuc a *ℤ least f) (negsuc a *ℤ greatest f)
    (omega (arith, ints, reach, times, times_is b (2 ^ 30), times_is b unit, product_is (negsuc a) h (up h) (down h) (parts_of h), product_is (negsuc a) (least f) (up f) (down f + 6144) (least_parts f)))

-- a number and its factor as the wide kind has them: 2^16 times as large, and the factor itself added or taken away
abbrev pub wide_factor : ℤ → ℤ
wide_factor a = pos (2 ^ 16) *ℤ a

abbrev pub wide_more : ℤ → ℤ → ℤ
wide_more a b = pos (2 ^ 16) *ℤ b +ℤ pos (nat_abs a)

abbrev pub wide_less : ℤ → ℤ → ℤ
wide_less a b = pos (2 ^ 16) *ℤ b -ℤ pos (nat_abs a)

pub wide_is : (b : ℤ) → wide_factor b +ℤ pos (2 ^ 16 * down b) ≡ pos (2 ^ 16 * up b)
wide_is b =
    let h = product_is (pos (2 ^ 16)) b (up b) (down b) (parts_of b) in omega (arith, ints, h)

neg_parts : (n : ℕ) → (up (neg_ℤ (pos n)) ≡ 0) × (down (neg_ℤ (pos n)) ≡ n)
neg_parts zero = (refl, refl)
neg_parts (suc n) = (refl, refl)

-- the two parts of 2^16 times a number, and its absolute value
wide_up : (a : ℤ) → up (wide_factor a) ≡ 2 ^ 16 * up a
wide_up (pos a) = omega arith
wide_up (negsuc a) = let parts = neg_parts (2 ^ 16 * suc a) in omega (arith, parts.0)

wide_down : (a : ℤ) → down (wide_factor a) ≡ 2 ^ 16 * down a
wide_down (pos a) = omega arith
wide_down (negsuc a) = let parts = neg_parts (2 ^ 16 * suc a) in omega (arith, parts.1)

wide_abs : (a : ℤ) → nat_abs (wide_factor a) ≡ 2 ^ 16 * nat_abs a
wide_abs a = omega (arith, abs_is (wide_factor a), abs_is a, wide_up a, wide_down a)

-- 2^16 times a product
wide_product : (a h : ℤ) → wide_factor a *ℤ h +ℤ pos (2 ^ 16 * (up a * down h + down a * up h))
    ≡ pos (2 ^ 16 * (up a * up h + down a * down h))
wide_product a h =
    let product = product_is (wide_factor a) h (up h) (down h) (parts_of h) in
    let moved = rw (wide_up a, wide_down a) at product in
    omega (arith, ints, moved)

-- a number with its parts, times a whole one
times_parts : (z : ℤ) (p q k : ℕ) → z +ℤ pos q ≡ pos p → z *ℤ pos k +ℤ pos (q * k) ≡ pos (p * k)
times_parts (pos z) p q k e =
    let same : z + q ≡ p = omega (arith, ints, e) in
    let times = ap (λ m. m * k) same in
    omega (arith, ints, times)
times_parts (negsuc z) p q k e =
    let same : suc z + p ≡ q = omega (arith, ints, e) in
    let times = ap (λ m. m * k) same in
    omega (arith, ints, times)

more_is : (a b : ℤ) → wide_more a b +ℤ pos (2 ^ 16 * down b) ≡ pos (2 ^ 16 * up b + nat_abs a)
more_is a b = let h = wide_is b in omega (arith, ints, h)

less_is : (a b : ℤ) → wide_less a b +ℤ pos (2 ^ 16 * down b + nat_abs a) ≡ pos (2 ^ 16 * up b)
less_is a b = let h = wide_is b in omega (arith, ints, h)

-- the margin of the wide kind, which is more than the interval is wide
abbrev pub margin : ℤ → ℕ
margin a = 2 ^ 14 * part * nat_abs a

-- what the wide kind says at the scale, over 2^16
wide_out : (a b h : ℤ) → (wide_more a b *ℤ pos unit) ≤ℤ (wide_factor a *ℤ h +ℤ pos (slack (wide_factor a)))
    → (b *ℤ pos unit +ℤ pos (margin a)) ≤ℤ (a *ℤ h +ℤ pos (slack a))
wide_out a b h reach =
    let far = rw (wide_abs a) at reach in
    omega (arith, ints, far, times_parts (wide_more a b) (2 ^ 16 * up b + nat_abs a) (2 ^ 16 * down b) unit (more_is a b), times_is b unit, wide_product a h, product_is a h (up h) (down h) (parts_of h))

wide_in : (a b h : ℤ) → (b *ℤ pos unit +ℤ pos (slack a)) ≤ℤ (a *ℤ h +ℤ pos (margin a))
    → (wide_less a b *ℤ pos unit +ℤ pos (slack (wide_factor a))) ≤ℤ (wide_factor a *ℤ h)
wide_in a b h near =
    rw (wide_abs a)
    (omega (arith, ints, near, times_parts (wide_less a b) (2 ^ 16 * up b) (2 ^ 16 * down b + nat_abs a) unit (less_is a b), times_is b unit, wide_product a h, product_is a h (up h) (down h) (parts_of h)))

-- all within 2^-16 of a value that is reached at the scale: so all of the interval
pub all_from_wide : (a b h f : ℤ) → IsFloor h f
    → (wide_more a b *ℤ pos unit) ≤ℤ (wide_factor a *ℤ h +ℤ pos (slack (wide_factor a)))
    → (b *ℤ pos (2 ^ 30)) ≤ℤ int_min (a *ℤ least f) (a *ℤ greatest f)
all_from_wide (pos a) b h f floor reach =
    let out = wide_out (pos a) b h reach in
    let times = mul-le-mul_left a floor.high in
    let low = product_is (pos a) (least f) (up f) (down f + 6144) (least_parts f) in
    let high = product_is (pos a) (greatest f) (up f + 6145) (down f) (greatest_parts f) in
    let height = product_is (pos a) h (up h) (down h) (parts_of h) in
    min_in (b *ℤ pos (2 ^ 30)) (pos a *ℤ least f) (pos a *ℤ greatest f)
    (omega (arith, ints, out, times, times_is b (2 ^ 30), times_is b unit, height, low))
    (omega (arith, ints, out, times, times_is b (2 ^ 30), times_is b unit, height, high))
all_from_wide (negsuc a) b h f floor reach =
    let out = wide_out (negsuc a) b h reach in
    let times = mul-le-mul_left (suc a) floor.low in
    let low = product_is (negsuc a) (least f) (up f) (down f + 6144) (least_parts f) in
    let high = product_is (negsuc a) (greatest f) (up f + 6145) (down f) (greatest_parts f) in
    let height = product_is (negsuc a) h (up h) (down h) (parts_of h) in
    min_in (b *ℤ pos (2 ^ 30)) (negsuc a *ℤ least f) (negsuc a *ℤ greatest f)
    (omega (arith, ints, out, times, times_is b (2 ^ 30), times_is b unit, height, low))
    (omega (arith, ints, out, times, times_is b (2 ^ 30), times_is b unit, height, high))

-- some of the interval reaches b: so with room some value within 2^-16 does
max_out : (v x y : ℤ) → v ≤ℤ int_max x y → (x ≤ℤ y → v ≤ℤ y) × (y ≤ℤ x → v ≤ℤ x)
max_out v x y h = ((λ order. omega (arith, ints, clamps, h, order)), (λ order. omega (arith, ints, clamps, h, order)))

pub wide_from_some : (a b h f : ℤ) → IsFloor h f
    → (b *ℤ pos (2 ^ 30)) ≤ℤ int_max (a *ℤ least f) (a *ℤ greatest f)
    → (wide_less a b *ℤ pos unit +ℤ pos (slack (wide_factor a))) ≤ℤ (wide_factor a *ℤ h)
wide_from_some (pos a) b h f floor some =
    let times = mul-le-mul_left a floor.low in
    let low = product_is (pos a) (least f) (up f) (down f + 6144) (least_parts f) in
    let high = product_is (pos a) (greatest f) (up f + 6145) (down f) (greatest_parts f) in
    let height = product_is (pos a) h (up h) (down h) (parts_of h) in
    let order : (pos a *ℤ least f) ≤ℤ (pos a *ℤ greatest f) = omega (arith, ints, low, high) in
    let reach = (max_out (b *ℤ pos (2 ^ 30)) (pos a *ℤ least f) (pos a *ℤ greatest f) some).0 order in
    wide_in (pos a) b h (omega (arith, ints, reach, times, times_is b (2 ^ 30), times_is b unit, height, high))
wide_from_some (negsuc a) b h f floor some =
    let times = mul-le-mul_left (suc a) floor.high in
    let low = product_is (negsuc a) (least f) (up f) (down f + 6144) (least_parts f) in
    let high = product_is (negsuc a) (greatest f) (up f + 6145) (down f) (greatest_parts f) in
    let height = product_is (negsuc a) h (up h) (down h) (parts_of h) in
    let order : (negsuc a *ℤ greatest f) ≤ℤ (negsuc a *ℤ least f) = omega (arith, ints, low, high) in
    let reach = (max_out (b *ℤ pos (2 ^ 30)) (negsuc a *ℤ least f) (negsuc a *ℤ greatest f) some).1 order in
    wide_in (negsuc a) b h (omega (arith, ints, reach, times, times_is b (2 ^ 30), times_is b unit, height, low))

-- what is more than 6145 parts above the height rounded down isn't reached at the scale, and of what is more than 6144 below it the
-- negation isn't reached
pub short_of : (h f b : ℤ) → IsFloor h f → (f +ℤ pos 6145) <ℤ b
    → (b *ℤ pos unit) ≤ℤ (pos (2 ^ 30) *ℤ h +ℤ pos (slack (pos (2 ^ 30)))) → ⊥
short_of h f b floor far reach =
    let far_parts : up f + down b + 6145 < up b + down f = omega (arith, ints, far) in
    let product = product_is (pos (2 ^ 30)) h (up h) (down h) (parts_of h) in
    let whole : (up b * unit + down h * 2 ^ 30) ≤ (down b * unit + up h * 2 ^ 30 + 24000 * 2 ^ 30 * 2 ^ 44) =
    omega (arith, ints, reach, product, times_is b unit) in
    omega (arith, far_parts, whole, floor.high)

pub past : (h f b : ℤ) → IsFloor h f → pos 6144 <ℤ (b +ℤ f)
    → (b *ℤ pos unit) ≤ℤ (neg_ℤ (pos (2 ^ 30)) *ℤ h +ℤ pos (slack (neg_ℤ (pos (2 ^ 30))))) → ⊥
past h f b floor far reach =
    let far_parts : down f + down b + 6144 < up b + up f = omega (arith, ints, far) in
    let product = product_is (neg_ℤ (pos (2 ^ 30))) h (up h) (down h) (parts_of h) in
    let whole : (up b * unit + up h * 2 ^ 30) ≤ (down b * unit + down h * 2 ^ 30 + 24000 * 2 ^ 30 * 2 ^ 44) =
    omega (arith, ints, reach, product, times_is b unit) in
    omega (arith, far_parts, whole, floor.low)
