-- A window has finitely many frames and pixels, and each change is decided: so all of them can be tried.
use Rattle.std.proofs.Common.{◌≡◌, ◌⊎◌, ℕ, zero, suc, ◌+◌, ◌*◌, ◌^◌, ◌<◌, ◌≤◌, ℤ, pos, ◌+ℤ◌, ◌≤ℤ◌, Bool, true, false, cond, List, [], ◌∷◌, All, get_or, length, arith, refl, subst, inl, inr}
use Rattle.std.specs.List.Sorted.{IsStrictlyIncreasing}
use Rattle.std.proofs.lemmas.Bool.{cases_eq, cases_lt}
use Rattle.std.proofs.lemmas.Int.{ints, by_lt_z}
use Rattle.std.proofs.lemmas.List.Elements.{All-cons, All-nil}
use Rattle.page_model.specs.declared.colour.Rgb.{Rgb}
use Rattle.page_model.specs.declared.setup.Setup.{Setup}
use Rattle.page_model.specs.Flash.{Alternates, AlternatesEitherWay, Between, Flashes, HasChain, HasManyFlagged, IsChain, IsFlagged, IsInRectangle, area, colours_at, sum_below}
use Rattle.page_model.specs.Light.{IsFall, IsRise, linear_of, luma_of}
use Rattle.page_model.specs.Red.{AreFar, Chromaticity, IsIntoRed, IsOutOfRed, IsSaturated, chromaticity_of, gap, squared}
use Rattle.page_model.specs.Time.{window_of}
use Rattle.wide_laws.specs.DecidedLaws.{BadIsDecided, IsDecided}

-- facts made of decided ones
pub decided-from : {P Q : Type 0} → (P → Q) → (Q → P) → IsDecided P → IsDecided Q
decided-from there back (inl p) = inl (there p)
decided-from there back (inr none) = inr (λ q. none (back q))

pub decided-both : {P Q : Type 0} → IsDecided P → IsDecided Q → IsDecided (P × Q)
decided-both (inl p) (inl q) = inl (p, q)
decided-both (inl p) (inr none) = inr (λ h. none h.1)
decided-both (inr none) other = inr (λ h. none h.0)

pub decided-either : {P Q : Type 0} → IsDecided P → IsDecided Q → IsDecided (P ⊎ Q)
decided-either (inl p) other = inl (inl p)
decided-either (inr none) (inl q) = inl (inr q)
decided-either (inr none) (inr nor) = inr (elim [ inl p ↦ none p | inr q ↦ nor q ])

pub decided-lt : (m n : ℕ) → IsDecided (m < n)
decided-lt m n = elim (cases_lt m n) [ inl less ↦ inl less | inr above ↦ inr (λ less. omega arith) ]

decided-le : (m n : ℕ) → IsDecided (m ≤ n)
decided-le m n = elim (cases_lt n m) [ inl above ↦ inr (λ less. omega arith) | inr below ↦ inl below ]

pub decided-le_z : (a b : ℤ) → IsDecided (a ≤ℤ b)
decided-le_z a b = by_lt_z b a (λ above. inr (λ below. omega (arith, ints))) (λ below. inl below)

-- some number below a limit
decided-below : (P : ℕ → Type 0) → ((k : ℕ) → IsDecided (P k)) → (n : ℕ) → IsDecided ((k : ℕ) × (k < n) × P k)
decided-below P each zero = inr (λ h. let within = h.1 in omega arith)
decided-below P each (suc n) =
    elim (decided-below P each n) [
      | inl found ↦ inl (found.0, let within = found.1 in omega arith, found.2)
      | inr none ↦ elim (each n) [
        | inl here ↦ inl (n, omega arith, here)
        | inr not_here ↦ inr (λ h. elim (cases_eq h.0 n) [
          | inl e ↦ not_here (subst P e h.2)
          | inr apart ↦ none (h.0, let within = h.1 in omega arith, h.2)
        ])
      ]
    ]

-- so many more frames up to the last one, each later than the one before, with changes in turn
abbrev Follows : (ℕ → ℕ → Type 0) → (ℕ → ℕ → Type 0) → ℕ → ℕ → ℕ → Type 0
Follows First Second last zero j = Unit {0}
Follows First Second last (suc n) j = (k : ℕ) × (k < suc last) × ((j < k) × (First j k × Follows Second First last n k))

decided-follows :
    (First Second : ℕ → ℕ → Type 0) (last n j : ℕ) → ((i k : ℕ) → IsDecided (First i k)) → ((i k : ℕ) → IsDecided (Second i k))
    → IsDecided (Follows First Second last n j)
decided-follows First Second last zero j first second = inl tt
decided-follows First Second last (suc n) j first second =
    decided-below (λ k. (j < k) × (First j k × Follows Second First last n k))
    (λ k. decided-both (decided-lt j k) (decided-both (first j k) (decided-follows Second First last n k second first))) (suc last)

-- the same for a list of frames
abbrev Path : (ℕ → ℕ → Type 0) → (ℕ → ℕ → Type 0) → ℕ → ℕ → List ℕ → Type 0
Path First Second last j [] = Unit {0}
Path First Second last j (k ∷ rest) = (k < suc last) × ((j < k) × (First j k × Path Second First last k rest))

follows-list :
    (First Second : ℕ → ℕ → Type 0) (last n j : ℕ) → Follows First Second last n j
    → (rest : List ℕ) × (length rest ≡ n) × Path First Second last j rest
follows-list First Second last zero j follows = ([], refl, tt)
follows-list First Second last (suc n) j follows =
    let more = follows-list Second First last n follows.0 follows.2.1.1 in
    let long = more.1 in
    (follows.0 ∷ more.0, omega arith, (follows.1, (follows.2.0, (follows.2.1.0, more.2))))

list-follows :
    (First Second : ℕ → ℕ → Type 0) (last n j : ℕ) (rest : List ℕ) → length rest ≡ n → Path First Second last j rest
    → Follows First Second last n j
list-follows First Second last zero j rest long path = tt
list-follows First Second last (suc n) j [] long path = absurd (omega arith)
list-follows First Second last (suc n) j (k ∷ rest) long path =
    (k, path.0, (path.1.0, (path.1.1.0, list-follows Second First last n k rest (omega arith) path.1.1.1)))

-- a list that rises, shorter by its first element
rising-tail : (a : ℕ) (rest : List ℕ) → IsStrictlyIncreasing (a ∷ rest) → IsStrictlyIncreasing rest
rising-tail a rest rises k within =
    let e : suc k + 1 ≡ suc (k + 1) = omega arith in
    subst (λ (n : ℕ). get_or (a ∷ rest) (suc k) 0 < get_or (a ∷ rest) n 0) e (rises (suc k) (omega arith))

rising-cons : (a b : ℕ) (rest : List ℕ) → a < b → IsStrictlyIncreasing (b ∷ rest) → IsStrictlyIncreasing (a ∷ (b ∷ rest))
rising-cons a b rest less rises zero within = less
rising-cons a b rest less rises (suc k) within =
    let e : suc (k + 1) ≡ suc k + 1 = omega arith in
    subst (λ (n : ℕ). get_or (a ∷ (b ∷ rest)) (suc k) 0 < get_or (a ∷ (b ∷ rest)) n 0) e (rises k (omega arith))

chain-path :
    (First Second : ℕ → ℕ → Type 0) (start last a : ℕ) (rest : List ℕ) → IsStrictlyIncreasing (a ∷ rest)
    → All (λ k. (start ≤ k) × (k ≤ last)) (a ∷ rest) → Alternates First Second (a ∷ rest) → Path First Second last a rest
chain-path First Second start last a [] rises within turns = tt
chain-path First Second start last a (b ∷ rest) rises within turns =
    let inside = (within 1 b (omega arith)).1 in (
      omega arith,
      (
        rises 0 (omega arith),
        (turns.0, chain-path Second First start last b rest (rising-tail a (b ∷ rest) rises) (λ k d h. within (suc k) d (omega arith)) turns.1),
      ),
    )

path-rises : (First Second : ℕ → ℕ → Type 0) (last a : ℕ) (rest : List ℕ) → Path First Second last a rest → IsStrictlyIncreasing (a ∷ rest)
path-rises First Second last a [] path = λ k within. absurd (omega arith)
path-rises First Second last a (b ∷ rest) path =
    rising-cons a b rest path.1.0 (path-rises Second First last b rest path.1.1.1)

path-within :
    (First Second : ℕ → ℕ → Type 0) (start last a : ℕ) (rest : List ℕ) → start ≤ a → a ≤ last → Path First Second last a rest
    → All (λ k. (start ≤ k) × (k ≤ last)) (a ∷ rest)
path-within First Second start last a [] low high path =
    All-cons (λ k. (start ≤ k) × (k ≤ last)) a [] (low, high) (All-nil (λ k. (start ≤ k) × (k ≤ last)))
path-within First Second start last a (b ∷ rest) low high path =
    let inside = path.0 in
    let less = path.1.0 in
    All-cons (λ k. (start ≤ k) × (k ≤ last)) a (b ∷ rest) (low, high)
    (path-within Second First start last b rest (omega arith) (omega arith) path.1.1.1)

path-turns : (First Second : ℕ → ℕ → Type 0) (last a : ℕ) (rest : List ℕ) → Path First Second last a rest → Alternates First Second (a ∷ rest)
path-turns First Second last a [] path = tt
path-turns First Second last a (b ∷ rest) path = (path.1.1.0, path-turns Second First last b rest path.1.1.1)

-- a chain is a first frame with eight more
abbrev Begins : (ℕ → ℕ → Type 0) → (ℕ → ℕ → Type 0) → ℕ → ℕ → ℕ → Type 0
Begins Up Down start last a = (start ≤ a) × (Follows Up Down last 8 a ⊎ Follows Down Up last 8 a)

chain-from :
    (Up Down : ℕ → ℕ → Type 0) (start window a : ℕ) → a < suc (start + window) → start ≤ a
    → Follows Up Down (start + window) 8 a ⊎ Follows Down Up (start + window) 8 a
    → (frames : List ℕ) × IsChain Up Down start window frames
chain-from Up Down start window a within low (inl up) =
    let more = follows-list Up Down (start + window) 8 a up in
    let long = more.1 in (
      a ∷ more.0,
      record {
        nine = omega arith;
        rising = path-rises Up Down (start + window) a more.0 more.2;
        within = path-within Up Down start (start + window) a more.0 low (omega arith) more.2;
        alternates = inl (path-turns Up Down (start + window) a more.0 more.2);
      },
    )
chain-from Up Down start window a within low (inr down) =
    let more = follows-list Down Up (start + window) 8 a down in
    let long = more.1 in (
      a ∷ more.0,
      record {
        nine = omega arith;
        rising = path-rises Down Up (start + window) a more.0 more.2;
        within = path-within Down Up start (start + window) a more.0 low (omega arith) more.2;
        alternates = inr (path-turns Down Up (start + window) a more.0 more.2);
      },
    )

begins-from :
    (Up Down : ℕ → ℕ → Type 0) (start window : ℕ) (frames : List ℕ) → IsChain Up Down start window frames
    → (a : ℕ) × (a < suc (start + window)) × Begins Up Down start (start + window) a
begins-from Up Down start window [] chain = absurd (let nine = chain.nine in omega arith)
begins-from Up Down start window (a ∷ rest) chain =
    let nine = chain.nine in
    let first = chain.within 0 a (omega arith) in
    let high = first.1 in
    let long : length rest ≡ 8 = omega arith in
    (a, omega arith, (first.0, turned Up Down start window a rest long chain.rising chain.within chain.alternates))
  where
    turned :
        (Up Down : ℕ → ℕ → Type 0) (start window a : ℕ) (rest : List ℕ) → length rest ≡ 8 → IsStrictlyIncreasing (a ∷ rest)
        → All (λ k. (start ≤ k) × (k ≤ start + window)) (a ∷ rest) → AlternatesEitherWay Up Down (a ∷ rest)
        → Follows Up Down (start + window) 8 a ⊎ Follows Down Up (start + window) 8 a
    turned Up Down start window a rest long rises within (inl up) =
        inl (list-follows Up Down (start + window) 8 a rest long (chain-path Up Down start (start + window) a rest rises within up))
    turned Up Down start window a rest long rises within (inr down) =
        inr (list-follows Down Up (start + window) 8 a rest long (chain-path Down Up start (start + window) a rest rises within down))

pub decided-chain :
    {C : Type 0} (Up Down : C → C → Type 0) (seen : ℕ → C) (start window : ℕ) → ((a b : C) → IsDecided (Up a b))
    → ((a b : C) → IsDecided (Down a b)) → IsDecided (HasChain Up Down seen start window)
decided-chain Up Down seen start window up down =
    decided-from
    (λ (h : (a : ℕ) × (a < suc (start + window)) × Begins (Between Up seen) (Between Down seen) start (start + window) a).
    chain-from (Between Up seen) (Between Down seen) start window h.0 h.1 h.2.0 h.2.1)
    (λ h. begins-from (Between Up seen) (Between Down seen) start window h.0 h.1)
    (decided-below (Begins (Between Up seen) (Between Down seen) start (start + window))
    (λ a. decided-both (decided-le start a) (decided-either
    (decided-follows (Between Up seen) (Between Down seen) (start + window) 8 a (λ i k. up (seen i) (seen k)) (λ i k. down (seen i) (seen k)))
    (decided-follows (Between Down seen) (Between Up seen) (start + window) 8 a (λ i k. down (seen i) (seen k)) (λ i k. up (seen i) (seen k)))))
    (suc (start + window)))

-- each change is decided
pub decided-rise : (a b : Rgb) → IsDecided (IsRise a b)
decided-rise a b =
    decided-from (λ (h : (luma_of a + 1000 * 2 ^ 32 ≤ luma_of b) × (luma_of a < 8000 * 2 ^ 32)). record { by_a_tenth = h.0; from_below = h.1 })
    (λ rise. (rise.by_a_tenth, rise.from_below))
    (decided-both (decided-le (luma_of a + 1000 * 2 ^ 32) (luma_of b)) (decided-lt (luma_of a) (8000 * 2 ^ 32)))

pub decided-saturated : (c : Rgb) → IsDecided (IsSaturated c)
decided-saturated c =
    decided-from (λ (h : (4 * (linear_of c.g + linear_of c.b) ≤ linear_of c.r) × (0 < linear_of c.r)). record { mostly = h.0; some = h.1 })
    (λ red. (red.mostly, red.some))
    (decided-both (decided-le (4 * (linear_of c.g + linear_of c.b)) (linear_of c.r)) (decided-lt 0 (linear_of c.r)))

decided-far : (p q : Chromaticity) → IsDecided (AreFar p q)
decided-far p q =
    decided-lt (squared (p.over * q.over))
    (25 * (squared (gap (p.u * q.over) (q.u * p.over)) + squared (gap (p.v * q.over) (q.v * p.over))))

decided-into : (a b : Rgb) → IsDecided (IsIntoRed a b)
decided-into a b =
    decided-from (λ (h : AreFar (chromaticity_of a) (chromaticity_of b) × IsSaturated b). record { far = h.0; saturated = h.1 })
    (λ red. (red.far, red.saturated)) (decided-both (decided-far (chromaticity_of a) (chromaticity_of b)) (decided-saturated b))

decided-out : (a b : Rgb) → IsDecided (IsOutOfRed a b)
decided-out a b =
    decided-from (λ (h : AreFar (chromaticity_of a) (chromaticity_of b) × IsSaturated a). record { far = h.0; saturated = h.1 })
    (λ red. (red.far, red.saturated)) (decided-both (decided-far (chromaticity_of a) (chromaticity_of b)) (decided-saturated a))

decided-flashes : (seen : ℕ → Rgb) (start window : ℕ) → IsDecided (Flashes seen start window)
decided-flashes seen start window =
    decided-either (decided-chain IsRise IsFall seen start window decided-rise (λ a b. decided-rise b a))
    (decided-chain IsIntoRed IsOutOfRed seen start window decided-into decided-out)

pub decided-inside : (x y : ℤ) (column row : ℕ) → IsDecided (IsInRectangle x y column row)
decided-inside x y column row =
    decided-from
    (λ (h : (x ≤ℤ pos column) × ((pos column ≤ℤ (x +ℤ pos 340)) × ((y ≤ℤ pos row) × (pos row ≤ℤ (y +ℤ pos 255))))).
    record { right_of = h.0; left_of = h.1.0; below = h.1.1.0; above = h.1.1.1 })
    (λ inside. (inside.right_of, (inside.left_of, (inside.below, inside.above))))
    (decided-both (decided-le_z x (pos column)) (decided-both (decided-le_z (pos column) (x +ℤ pos 340))
    (decided-both (decided-le_z y (pos row)) (decided-le_z (pos row) (y +ℤ pos 255)))))

-- the test of a decided fact
test_of : {P : Type 0} → IsDecided P → Bool
test_of (inl p) = true
test_of (inr none) = false

test_of-true : {P : Type 0} (decided : IsDecided P) → test_of decided ≡ true → P
unfolding test_of
test_of-true (inl p) e = p
test_of-true (inr none) e = absurd (cc)

true-test_of : {P : Type 0} (decided : IsDecided P) → P → test_of decided ≡ true
unfolding test_of
true-test_of (inl p) h = refl
true-test_of (inr none) h = absurd (none h)

-- more marks count no less
sum-mono : (n : ℕ) (f g : ℕ → ℕ) → ((k : ℕ) → f k ≤ g k) → sum_below n f ≤ sum_below n g
sum-mono zero f g below = omega arith
sum-mono (suc n) f g below = let h = sum-mono n f g below in let e = below n in omega arith

mark-mono : (a b : Bool) → (a ≡ true → b ≡ true) → cond a 1 0 ≤ cond b 1 0
mark-mono true b implied = rw (implied refl) (omega arith)
mark-mono false b implied = omega arith

area-mono : (w h : ℕ) (marks more : ℕ → ℕ → Bool) → ((column row : ℕ) → marks column row ≡ true → more column row ≡ true) → area w h marks ≤ area w h more
area-mono w h marks more implied =
    sum-mono w (λ column. sum_below h (λ row. cond (marks column row) 1 0)) (λ column. sum_below h (λ row. cond (more column row) 1 0))
    (λ column. sum-mono h (λ row. cond (marks column row) 1 0) (λ row. cond (more column row) 1 0)
    (λ row. mark-mono (marks column row) (more column row) (implied column row)))

-- all flagged pixels of the rectangle are marked, and counted
pub many-decided :
    (Flagged : ℕ → ℕ → Type 0) (setup : Setup) (x y : ℤ) (both : (column row : ℕ) → IsDecided (Flagged column row × IsInRectangle x y column row))
    → IsDecided (HasManyFlagged Flagged setup x y)
many-decided Flagged setup x y both =
    decided-from
    (λ (many : 21824 < area setup.width setup.height (λ column row. test_of (both column row))). record {
      marks = λ column row. test_of (both column row);
      flagged = λ column row marked. (test_of-true (both column row) marked).0;
      inside = λ column row marked. (test_of-true (both column row) marked).1;
      many = many;
    })
    (λ h.
    let most = area-mono setup.width setup.height h.marks (λ column row. test_of (both column row))
    (λ column row marked. true-test_of (both column row) (h.flagged column row marked, h.inside column row marked)) in
    let many = h.many in omega arith)
    (decided-lt 21824 (area setup.width setup.height (λ column row. test_of (both column row))))

pub bad-decided : BadIsDecided
bad-decided painting setup start x y =
    many-decided (IsFlagged painting setup start) setup x y
    (λ column row. decided-both (decided-flashes (colours_at painting column row) start (window_of setup)) (decided-inside x y column row))
