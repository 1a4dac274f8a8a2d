-- The least common multiple of two numbers is one of them times what the other has more than the greatest common divisor.
use Rattle.std.proofs.Common.{◌≡◌, ℕ, ◌+◌, ◌*◌, ◌/◌, ◌%◌, ◌<◌, ◌≤◌, refl, arith, ap, sym, subst}
use Rattle.std.specs.Int.{IsGcd, ◌∣◌}
use Rattle.std.proofs.lemmas.Nat.Gcd.{dvd_of_mod-eq-zero, mod-eq-zero_of_dvd}
use Rattle.std.proofs.Math.Nat.{div-add-mod, dvd-add_iff_left, dvd-mul_right, dvd-mul_right_of_dvd, mul-dvd-mul_left, dvd_of_mul-dvd-mul_left, one-le-mul}
use Rattle.horizon_laws.proofs.DivisionLemmas.{multiple, some_left, some_right, factor_divides}
use Rattle.period_frames.specs.Multiples.{IsLeastMultiple}

split : (d r w m k : ℕ) → r * w + m ≡ d → m * k + r * k * w ≡ d * k
split d r w m k e = let p = ap (λ x. x * k) e in omega arith

-- what divides two numbers so many times divides the rest of one by the other so many times
pub rest_times : (n d r k : ℕ) → n ∣ d * k → n ∣ r * k → n ∣ d % r * k
rest_times n d r k one other =
    let sum : d % r * k + r * k * (d / r) ≡ d * k = split d r (d / r) (d % r) k (div-add-mod d r) in
    (dvd-add_iff_left n {m = d % r * k} (dvd-mul_right_of_dvd n other (d / r))).1 (subst (λ x. n ∣ x) (sym sum) one)

-- a common multiple holds the second number times what it has more
parts : (a b g t n : ℕ) → b ≡ g * t → n ≡ a * (n / a) → b ∣ g * (n / a) → 0 < g → a * t ∣ n
parts a b g t n e f divides some =
    let inner : t ∣ n / a = dvd_of_mul-dvd-mul_left t some (subst (λ x. x ∣ g * (n / a)) e divides) in
    subst (λ x. a * t ∣ x) (sym f) (mul-dvd-mul_left t a inner)

common : (a b n : ℕ) → n % a ≡ 0 → n % b ≡ 0 → b ∣ a * (n / a)
common a b n first second = subst (λ x. b ∣ x) (multiple n a first) (dvd_of_mod-eq-zero b second)

second_whole : (a b g : ℕ) → a ≡ g * (a / g) → b ≡ g * (b / g) → a * (b / g) ≡ b * (a / g)
second_whole a b g e f =
    let p = ap (λ x. x * (b / g)) e in
    let q = ap (λ x. x * (a / g)) f in
    omega arith

-- a divisor of a number from 1 on
pub some-divisor : (n g : ℕ) → 1 ≤ n → g ∣ n → 0 < g
some-divisor n g some divides = some_left g (n / g) n (multiple n g (mod-eq-zero_of_dvd g divides)) (omega arith)

pub least-multiple :
    (a b g : ℕ) → 1 ≤ a → 1 ≤ b → IsGcd b a g → ((n k : ℕ) → n ∣ b * k → n ∣ a * k → n ∣ g * k)
    → IsLeastMultiple a b (a * (b / g))
least-multiple a b g some_a some_b is times =
    let e : b ≡ g * (b / g) = multiple b g (mod-eq-zero_of_dvd g is.0) in
    let f : a ≡ g * (a / g) = multiple a g (mod-eq-zero_of_dvd g is.1) in
    let some_g : 0 < g = some-divisor b g some_b is.0 in
    let some_t : 0 < b / g = some_right g (b / g) b e (omega arith) in
    record {
      some = one-le-mul some_a (omega arith);
      first = factor_divides a (b / g) (a * (b / g)) refl;
      second = factor_divides b (a / g) (a * (b / g)) (second_whole a b g f e);
      least = λ n first second.
          let k = n / a in
          let divides : b ∣ g * k = times b k (dvd-mul_right b k) (common a b n first second) in
          mod-eq-zero_of_dvd (a * (b / g)) (parts a b g (b / g) n e (multiple n a first) divides some_g);
    }
