-- A colour comes to one answer by `light`.
use Rattle.std.proofs.Common.{ℕ, ◌≡◌, ◌∙◌, ◌↔◌, Bool, true, false, true≢false, IsTrue, inl, inr, refl, sym, ap}
use Rattle.page_model.specs.declared.colour.Rgb.{Rgb}
use Rattle.flash_top.specs.Lighting.{IsLightOf, IsLit}
use Rattle.flash_top.specs.SameAnswers.{OneLight}
use Rattle.flash_top.specs.declared.outcome.Light.{Light}
use Rattle.flash_top.specs.declared.outcome.Outcome.TheVariants.{Lit, NoMemory}

-- two tests of one thing agree
same_test : {P : Type 0} (one other : Bool) → (IsTrue one ↔ P) → (IsTrue other ↔ P) → other ≡ one
same_test true true is also = refl
same_test true false is also = absurd (true≢false (sym (also.1 (is.0 refl))))
same_test false true is also = absurd (true≢false (sym (is.1 (also.0 refl))))
same_test false false is also = refl

light_by : ℕ → ℕ → ℕ → ℕ → Bool → Light
light_by red green blue luma saturated = record { red = red; green = green; blue = blue; luma = luma; saturated = saturated }

same_light : (colour : Rgb) (one other : Light) → IsLightOf colour one → IsLightOf colour other → other ≡ one
unfolding light_by
same_light colour one other is also =
    let red : other.red ≡ one.red = also.red ∙ sym is.red in
    let green : other.green ≡ one.green = also.green ∙ sym is.green in
    let blue : other.blue ≡ one.blue = also.blue ∙ sym is.blue in
    let luma : other.luma ≡ one.luma = also.luma ∙ sym is.luma in
    let saturated : other.saturated ≡ one.saturated = same_test one.saturated other.saturated is.saturated also.saturated in
    let same : light_by other.red other.green other.blue other.luma other.saturated ≡ light_by one.red one.green one.blue one.luma one.saturated = cc in
    same

pub one_light : OneLight
one_light colour (Lit one) (Lit other) is also = inr (inr (ap Lit (same_light colour one other is also)))
one_light colour (Lit one) NoMemory is also = inr (inl refl)
one_light colour (Lit one) other is also = absurd also
one_light colour NoMemory other is also = inl refl
one_light colour one other is also = absurd is
