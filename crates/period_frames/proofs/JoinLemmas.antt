-- What is known of two lists of animations, of one after the other.
use Rattle.std.proofs.Common.{◌≡◌, ℕ, ◌+◌, ◌*◌, ◌%◌, ◌≤◌, max, true, List, [], ◌∷◌, ◌++◌, arith, subst, sym, inl, inr}
use Rattle.std.specs.Prelude.{◌-◌, All, filter, Option, Some, None, nat_le, slice_index_or}
use Rattle.std.proofs.lemmas.Bool.{cases_Bool, cases_lt}
use Rattle.std.proofs.lemmas.Bool.Decides.{nat_tests}
use Rattle.std.proofs.lemmas.List.Elements.{All-append, All-nil, All-cons, All-head, All-tail, All-weaker, filter-append}
use Rattle.std.proofs.lemmas.Nat.Gcd.{dvd_of_mod-eq-zero, le_of_dvd}
use Rattle.page_model.specs.declared.setup.Setup.{Setup}
use Rattle.page_model.specs.declared.animation.Anim.{Anim}
use Rattle.page_model.specs.Horizon.{AreWholeCycles, IsPeriod, IsSettled, cycle_of, has_settled, is_endless}
use Rattle.horizon_laws.proofs.DivisionLemmas.{multiple_whole, rest_whole}
use Rattle.horizon_laws.proofs.PeriodLemmas.{Whole}
use Rattle.horizon_laws.proofs.RepeatLemmas.{settled-more}
use Rattle.period_frames.specs.Multiples.{IsLeastMultiple}
use Rattle.period_frames.specs.Periods.{AreJoined, IsPeriodOrLong, short_or_none}
use Rattle.period_frames.proofs.SingleLemmas.{Settled}

-- a fact on each of two lists, of one after the other
all-left : (P : Anim → Type 0) (xs ys : List Anim) → All P (xs ++ ys) → All P xs
all-left P [] ys all = All-nil P
all-left P (x ∷ xs) ys all = All-cons P x xs (All-head P x (xs ++ ys) all) (all-left P xs ys (All-tail P x (xs ++ ys) all))

all-right : (P : Anim → Type 0) (xs ys : List Anim) → All P (xs ++ ys) → All P ys
all-right P [] ys all = all
all-right P (x ∷ xs) ys all = all-right P xs ys (All-tail P x (xs ++ ys) all)

-- what has settled by a frame has so by each later one
settled-later : (setup : Setup) (anims : List Anim) (frame later : ℕ) → frame ≤ later → All (Settled setup frame) anims → All (Settled setup later) anims
settled-later setup anims frame later behind all =
    let sum : frame + (later - frame) ≡ later = omega arith in
    All-weaker (Settled setup frame) (Settled setup later)
    (λ anim h. subst (λ k. has_settled setup anim k ≡ true) sum (settled-more setup anim frame (later - frame) h)) anims all

pub settled-joined :
    (setup : Setup) (xs ys : List Anim) (one other : ℕ) → IsSettled setup xs one → IsSettled setup ys other
    → IsSettled setup (xs ++ ys) (max one other)
settled-joined setup xs ys one other first second = record {
  holds = All-append (Settled setup (max one other)) xs ys
      (settled-later setup xs one (max one other) (omega arith) first.holds)
      (settled-later setup ys other (max one other) (omega arith) second.holds);
  least = λ m all.
      let below = first.least m (all-left (Settled setup m) xs ys all) in
      let under = second.least m (all-right (Settled setup m) xs ys all) in
      omega arith;
}

-- whole cycles of all are whole cycles of each list's
whole-left : (setup : Setup) (xs ys : List Anim) (frames : ℕ) → AreWholeCycles setup (xs ++ ys) frames → AreWholeCycles setup xs frames
whole-left setup xs ys frames w = record {
  some = w.some;
  whole = all-left (Whole setup frames) (filter is_endless xs) (filter is_endless ys)
      (subst (All (Whole setup frames)) (filter-append is_endless xs ys) w.whole);
}

whole-right : (setup : Setup) (xs ys : List Anim) (frames : ℕ) → AreWholeCycles setup (xs ++ ys) frames → AreWholeCycles setup ys frames
whole-right setup xs ys frames w = record {
  some = w.some;
  whole = all-right (Whole setup frames) (filter is_endless xs) (filter is_endless ys)
      (subst (All (Whole setup frames)) (filter-append is_endless xs ys) w.whole);
}

-- just the multiples of a period are whole cycles of all
period-rest : (setup : Setup) (anims : List Anim) (period n : ℕ) → IsPeriod setup anims period → AreWholeCycles setup anims n → n % period ≡ 0
period-rest setup anims period n is w =
    elim (cases_lt 0 (n % period)) [
      | inr none ↦ omega arith
      | inl rest ↦
          let least = is.least (n % period) (record {
            some = omega arith;
            whole = λ k d below. rest_whole (1000000 * setup.den) (cycle_of setup (slice_index_or (filter is_endless anims) k d)) period n
                (is.holds.whole k d below) (w.whole k d below);
          }) in
          let some = is.holds.some in
          absurd (omega arith)
    ]

multiple-whole : (setup : Setup) (anims : List Anim) (period n : ℕ) → IsPeriod setup anims period → n % period ≡ 0 → All (Whole setup n) (filter is_endless anims)
multiple-whole setup anims period n is rest k d below =
    multiple_whole (1000000 * setup.den) (cycle_of setup (slice_index_or (filter is_endless anims) k d)) period n (is.holds.whole k d below) rest

at_least : (n multiple : ℕ) → 1 ≤ n → n % multiple ≡ 0 → multiple ≤ n
at_least n multiple some rest = le_of_dvd (omega arith) (dvd_of_mod-eq-zero multiple rest)

period-joined :
    (setup : Setup) (xs ys : List Anim) (one other both : ℕ) → IsPeriod setup xs one → IsPeriod setup ys other
    → IsLeastMultiple one other both → IsPeriod setup (xs ++ ys) both
period-joined setup xs ys one other both first second is = record {
  holds = record {
    some = is.some;
    whole = subst (All (Whole setup both)) (sym (filter-append is_endless xs ys))
        (All-append (Whole setup both) (filter is_endless xs) (filter is_endless ys)
        (multiple-whole setup xs one both first is.first) (multiple-whole setup ys other both second is.second));
  };
  least = λ n w.
      at_least n both w.some
      (is.least n (period-rest setup xs one n first (whole-left setup xs ys n w))
      (period-rest setup ys other n second (whole-right setup xs ys n w)));
}

-- a period is told where it is short
pub short-period : (setup : Setup) (anims : List Anim) (period : ℕ) → IsPeriod setup anims period → IsPeriodOrLong setup anims (short_or_none period)
short-period setup anims period is =
    elim (cases_Bool (nat_le period 100000)) [
      | inl short ↦ rw short is
      | inr long ↦ rw long (λ frames w. let least = is.least frames w in grind (arith, nat_tests))
    ]

pub periods-joined :
    (setup : Setup) (xs ys : List Anim) (one other both : Option ℕ) → IsPeriodOrLong setup xs one
    → IsPeriodOrLong setup ys other → AreJoined one other both → IsPeriodOrLong setup (xs ++ ys) both
periods-joined setup xs ys (Some one) (Some other) both first second joined =
    subst (IsPeriodOrLong setup (xs ++ ys)) (sym joined.short)
    (short-period setup (xs ++ ys) joined.multiple (period-joined setup xs ys one other joined.multiple first second joined.is_least))
periods-joined setup xs ys None other both first second joined =
    subst (IsPeriodOrLong setup (xs ++ ys)) (sym joined) (λ frames w. first frames (whole-left setup xs ys frames w))
periods-joined setup xs ys (Some one) None both first second joined =
    subst (IsPeriodOrLong setup (xs ++ ys)) (sym joined) (λ frames w. second frames (whole-right setup xs ys frames w))
