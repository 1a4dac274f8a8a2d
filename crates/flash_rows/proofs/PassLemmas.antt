-- A frame with the tint of the one behind it may be passed over: what leads to it leads to that one too.
use Rattle.std.proofs.Common.{ℕ, zero, suc, ◌≡◌, ◌∙◌, ◌+◌, ◌-◌, ◌<◌, ◌≤◌, List, slice_get, arith, inl, inr, refl, subst, sym}
use Rattle.std.proofs.lemmas.Bool.{cases_lt}
use Rattle.page_model.specs.declared.colour.Tint.{Tint}
use Rattle.tint_changes.specs.declared.changes.Change.{Change}
use Rattle.tint_changes.specs.Counting.{MakesAt}
use Rattle.flash_rows.specs.Rows.{HasRun, opposite_of}
use Rattle.flash_rows.specs.Starts.{IsLatest, Leads}
use Rattle.flash_rows.proofs.RowLemmas.{Back}
use Rattle.flash_rows.proofs.StartLemmas.{Through, latest-same}

-- the start is no earlier: where no change leads to a frame, it is the frame itself
leads-on : (R S : ℕ → ℕ → Type 0) (n start frame next : ℕ) → frame + 1 ≡ next → ((j : ℕ) → R j frame → R j next) → Leads R S n start frame
    → (later : ℕ) × (start ≤ later) × Leads R S n later next
leads-on R S zero start frame next at moves leads = (next, omega (arith, leads), refl)
leads-on R S (suc n) start frame next at moves (middle, before, made, leads) =
    (start, omega arith, (middle, omega arith, moves middle made, leads))

through-passed : (R S : ℕ → ℕ → Type 0) (n frame next end window best : ℕ) → frame + 1 ≡ next → next < end → (R frame end → R next end)
    → ((j : ℕ) → S j frame → S j next) → IsLatest (Through R S n next end) window end best → IsLatest (Through R S n frame end) window end best
through-passed R S n frame next end window best at inside from to =
    latest-same (Through R S n next end) (Through R S n frame end) window end best
    (λ s through. (through.0, omega (arith, through.1), through.2, through.3, through.4))
    (λ s through near. elim (cases_lt frame through.0) [
      | inl later ↦ (s, omega arith, (through.0, omega arith, through.2, through.3, through.4))
      | inr first ↦
          let there : through.0 ≡ frame = omega (arith, through.1) in
          let led = leads-on S R n s frame next at to (subst (λ m. Leads S R n s m) there through.4) in
          (led.0, led.1, (next, omega arith, inside, from (subst (λ m. R m end) there through.3), led.2))
    ])

-- so the numbers stay for all frames with the tint of the one behind them
passed-one : (all : List Tint) (change : Change) (n frame next turn window number : ℕ) → frame + 1 ≡ next → next < turn
    → slice_get all frame ≡ slice_get all next → IsLatest (Back change all n next turn) window turn number
    → IsLatest (Back change all n frame turn) window turn number
passed-one all change n frame next turn window number at inside same =
    through-passed (MakesAt change all) (MakesAt (opposite_of change) all) n frame next turn window number at inside
    (λ made. record {
      earlier = made.earlier;
      later = made.later;
      is_earlier = sym same ∙ made.is_earlier;
      is_later = made.is_later;
      changes = made.changes;
    })
    (λ j made. record {
      earlier = made.earlier;
      later = made.later;
      is_earlier = made.is_earlier;
      is_later = sym same ∙ made.is_later;
      changes = made.changes;
    })

pub starts-passed : (all : List Tint) (change : Change) (n frame turn window number run back : ℕ) → frame < turn → HasRun all frame run
    → back < run → IsLatest (Back change all n frame turn) window turn number → IsLatest (Back change all n (frame - back) turn) window turn number
starts-passed all change n frame turn window number run zero inside has few before =
    let same : frame ≡ frame - 0 = omega arith in subst (λ low. IsLatest (Back change all n low turn) window turn number) same before
starts-passed all change n frame turn window number run (suc back) inside has few before =
    passed-one all change n (frame - suc back) (frame - back) turn window number (omega (arith, has.inside)) (omega (arith, has.inside))
    (has.alike (suc back) few ∙ sym (has.alike back (omega arith)))
    (starts-passed all change n frame turn window number run back inside has (omega arith) before)
