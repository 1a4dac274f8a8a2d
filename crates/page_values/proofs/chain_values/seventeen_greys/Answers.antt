-- Each change from the linear light of both greys; neighbours by cases on the remainder.
use Rattle.std.proofs.Common.{◌≡◌, ℕ, zero, suc, ◌%◌, ◌<◌, refl, arith, rules, inl, inr, subst}
use Rattle.std.specs.Prelude.{◌⊎◌, slice_index}
use Rattle.page_model.specs.declared.colour.Rgb.{Rgb}
use Rattle.page_model.specs.Flash.{IsChain, Between}
use Rattle.page_model.specs.Light.{IsRise, IsFall}
use Rattle.time_values.specs.Examples.{grey}
use Rattle.page_values.specs.ChainValues.{levels, grey_in, every_other}
use Rattle.page_values.proofs.LightTable.{light-0, light-64, light-90}
use Rattle.page_values.proofs.chain_values.seventeen_greys.Goals as goal

up : IsRise (grey 0) (grey 90)
up = record { by_a_tenth = omega (arith, light-0, light-90); from_below = omega (arith, light-0) }

chain : IsChain (Between IsRise grey_in) (Between IsFall grey_in) 0 16 every_other
chain = record {
  nine = refl;
  rising = search rules;
  within = search rules;
  alternates = inl (up, (up, (up, (up, (up, (up, (up, (up, tt))))))));
}

-- neither change
abbrev Calm : Rgb → Rgb → Type 0
Calm a b = IsRise a b ⊎ IsFall a b → ⊥

black_calm : Calm (grey 0) (grey 64)
black_calm (inl rise) = omega (arith, light-0, light-64)
black_calm (inr fall) = omega (arith, light-0, light-64)

dark_calm : Calm (grey 64) (grey 90)
dark_calm (inl rise) = omega (arith, light-64, light-90)
dark_calm (inr fall) = omega (arith, light-64, light-90)

light_calm : Calm (grey 90) (grey 64)
light_calm (inl rise) = omega (arith, light-64, light-90)
light_calm (inr fall) = omega (arith, light-64, light-90)

back_calm : Calm (grey 64) (grey 0)
back_calm (inl rise) = omega (arith, light-0, light-64)
back_calm (inr fall) = omega (arith, light-0, light-64)

-- the frames of the first period, and then all by the remainder
next_calm : (r : ℕ) → r < 4 → Calm (grey_in r) (grey_in (suc r))
next_calm zero within = black_calm
next_calm (suc zero) within = dark_calm
next_calm (suc (suc zero)) within = light_calm
next_calm (suc (suc (suc zero))) within = back_calm
next_calm (suc (suc (suc (suc r)))) within = absurd (omega arith)

abbrev shade : ℕ → Rgb
shade place = grey (slice_index levels place)

always_calm : (k : ℕ) → Calm (grey_in k) (grey_in (suc k))
always_calm k =
    let here : k % 4 % 4 ≡ k % 4 = omega arith in
    let next : suc (k % 4) % 4 ≡ suc k % 4 = omega arith in
    let within : k % 4 < 4 = omega arith in
    subst (λ x. Calm (shade x) (shade (suc k % 4))) here
    (subst (λ y. Calm (shade (k % 4 % 4)) (shade y)) next (next_calm (k % 4) within))

pub returns : goal.returns
returns c = record {
  chain = chain;
  flash = inl (every_other, chain);
  no_neighbours_change = always_calm;
  window_one_short = λ short. let last = (short.within 8 0 (omega arith)).1 in omega arith;
}
