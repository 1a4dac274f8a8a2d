-- The most of all places up to one, and the first place with it.
use Rattle.std.proofs.Common.{ℕ, ◌≡◌, ◌+◌, ◌-◌, ◌<◌, ◌≤◌, ◌⊎◌, ◌∙◌, ap, arith, inl, inr, cond}
use Rattle.std.specs.Prelude.{nat_lt}
use Rattle.std.proofs.lemmas.Bool.{cases_lt, lt-ltb, le-ltb}
use Rattle.window_area.specs.declared.strip.Most.{Most}
use Rattle.window_area.specs.declared.best.BestRow.{BestRow}
use Rattle.window_area.specs.Sliding.{IsFirstMost}

-- no place up to the last one has more than this, and none before this place has as much
pub record IsAbove (area : ℕ → ℕ) (last most first : ℕ) : Type 0 where
  pub greatest : (place : ℕ) → place ≤ last → area place ≤ most
  pub earliest : (place : ℕ) → place ≤ last → most ≤ area place → first ≤ place

-- so for one place
abbrev IsAboveAt : ℕ → ℕ → ℕ → ℕ → Type 0
IsAboveAt here most first place = (here ≤ most) × (most ≤ here → first ≤ place)

-- a place up to the end of a stride is known, has less than the end, or is the end
stride-cases : (area : ℕ → ℕ) (last stride most first later place : ℕ) → IsAbove area last most first → first ≤ last
    → area (last + stride) ≤ later
    → ((t : ℕ) → t < stride → (area (last + t) ≤ area last) ⊎ (area (last + t) < area (last + stride)))
    → place ≤ last + stride
    → IsAboveAt (area place) most first place ⊎ ((area place < later) ⊎ (place ≡ last + stride))
stride-cases area last stride most first later place so early no_more between fits =
    elim (cases_lt last place) [
      | inr before ↦ inl (so.greatest place before, so.earliest place before)
      | inl after ↦ elim (cases_lt place (last + stride)) [
        | inr end ↦ inr (inr (omega arith))
        | inl less ↦
            let here : last + (place - last) ≡ place = omega arith in
            let same : area (last + (place - last)) ≡ area place = ap area here in
            elim (between (place - last) (omega arith)) [
              | inl no_more_here ↦ inl (
                omega (arith, so.greatest last (omega arith), same, no_more_here),
                λ as_much. let back = so.earliest last (omega arith) (omega (arith, same, no_more_here)) in omega arith,
              )
              | inr less_here ↦ inr (inl (omega (arith, same, less_here)))
            ]
      ]
    ]

-- a stride further on, where the end has more, or has not
pub above-more : (area : ℕ → ℕ) (last stride most first later : ℕ) → IsAbove area last most first → first ≤ last
    → area (last + stride) ≤ later
    → ((t : ℕ) → t < stride → (area (last + t) ≤ area last) ⊎ (area (last + t) < area (last + stride)))
    → most < later → IsAbove area (last + stride) later (last + stride)
above-more area last stride most first later so early no_more between more = record {
  greatest = λ place fits. elim (stride-cases area last stride most first later place so early no_more between fits) [
    | inl known ↦ omega (arith, known.0)
    | inr (inl less) ↦ omega arith
    | inr (inr end) ↦ omega (arith, ap area end)
  ];
  earliest = λ place fits as_much. elim (stride-cases area last stride most first later place so early no_more between fits) [
    | inl known ↦ absurd (omega (arith, known.0))
    | inr (inl less) ↦ absurd (omega arith)
    | inr (inr end) ↦ omega arith
  ];
}

pub above-kept : (area : ℕ → ℕ) (last stride most first later : ℕ) → IsAbove area last most first → first ≤ last
    → area (last + stride) ≤ later
    → ((t : ℕ) → t < stride → (area (last + t) ≤ area last) ⊎ (area (last + t) < area (last + stride)))
    → later ≤ most → IsAbove area (last + stride) most first
above-kept area last stride most first later so early no_more between kept = record {
  greatest = λ place fits. elim (stride-cases area last stride most first later place so early no_more between fits) [
    | inl known ↦ known.0
    | inr (inl less) ↦ omega arith
    | inr (inr end) ↦ omega (arith, ap area end)
  ];
  earliest = λ place fits as_much. elim (stride-cases area last stride most first later place so early no_more between fits) [
    | inl known ↦ known.1 as_much
    | inr (inl less) ↦ absurd (omega arith)
    | inr (inr end) ↦ omega arith
  ];
}

-- where no later place has more than the last one, this is so of all places
pub above-all : (area : ℕ → ℕ) (last most first : ℕ) → IsAbove area last most first → first ≤ last
    → ((place : ℕ) → last ≤ place → area place ≤ area last)
    → (place : ℕ) → IsAboveAt (area place) most first place
above-all area last most first so early ended place =
    elim (cases_lt last place) [
      | inr before ↦ (so.greatest place before, so.earliest place before)
      | inl after ↦
          let no_more = ended place (omega arith) in
          let whole = so.greatest last (omega arith) in (
            omega (arith, no_more, whole),
            λ as_much. let back = so.earliest last (omega arith) (omega (arith, no_more)) in omega arith,
          )
    ]

-- of the places of a strip up to one
pub record IsMostUpTo (area : ℕ → ℕ) (last : ℕ) (most : Most) : Type 0 where
  pub has : area most.place ≡ most.area
  pub above : IsAbove area last most.area most.place
  pub fits : most.place ≤ last

pub most-begins : (area : ℕ → ℕ) (most : Most) → most.place ≡ 0 → area 0 ≡ most.area → IsMostUpTo area 0 most
most-begins area most zero has = record {
  has = ap area zero ∙ has;
  above = record {
    greatest = λ place fits. let same : place ≡ 0 = omega arith in omega (arith, ap area same);
    earliest = λ place fits as_much. omega arith;
  };
  fits = omega arith;
}

pub most-next : (area : ℕ → ℕ) (last stride : ℕ) (most later : Most) → IsMostUpTo area last most
    → later.place ≡ last + stride → area (last + stride) ≡ later.area
    → ((t : ℕ) → t < stride → (area (last + t) ≤ area last) ⊎ (area (last + t) < area (last + stride)))
    → IsMostUpTo area (last + stride) (cond (nat_lt most.area later.area) later most)
most-next area last stride most later so there has between =
    elim (cases_lt most.area later.area) [
      | inl more ↦ rw (lt-ltb most.area later.area more) record {
        has = ap area there ∙ has;
        above = rw there (above-more area last stride most.area most.place later.area so.above so.fits (omega (arith, has)) between more);
        fits = omega arith;
      }
      | inr kept ↦ rw (le-ltb most.area later.area kept) record {
        has = so.has;
        above = above-kept area last stride most.area most.place later.area so.above so.fits (omega (arith, has)) between kept;
        fits = omega (arith, so.fits);
      }
    ]

pub most-ends : (area : ℕ → ℕ) (last : ℕ) (most : Most) → IsMostUpTo area last most
    → ((place : ℕ) → last ≤ place → area place ≤ area last) → IsFirstMost area most
most-ends area last most so ended = record {
  has = so.has;
  greatest = λ place. (above-all area last most.area most.place so.above so.fits ended place).0;
  first = λ place. (above-all area last most.area most.place so.above so.fits ended place).1;
}

-- of the rows up to one, each with its places; or a limit, where none has more
pub record IsBestUpTo (area : ℕ → ℕ → ℕ) (limit last : ℕ) (best : BestRow) : Type 0 where
  pub least : limit ≤ best.most.area
  pub has : limit < best.most.area → area best.most.place best.row ≡ best.most.area
  pub above : (place : ℕ) → IsAbove (area place) last best.most.area best.row
  pub first : (place : ℕ) → best.most.area ≤ area place best.row → best.most.place ≤ place
  pub fits : best.row ≤ last

pub best-begins : (area : ℕ → ℕ → ℕ) (limit : ℕ) (most : Most) → IsFirstMost (λ place. area place 0) most
    → IsBestUpTo area limit 0
    (cond (nat_lt limit most.area) (record { row = 0; most = most }) (record { row = 0; most = record { area = limit; place = 0 } }))
best-begins area limit most is =
    elim (cases_lt limit most.area) [
      | inl more ↦ rw (lt-ltb limit most.area more) record {
        least = omega arith;
        has = λ above. is.has;
        above = λ place. record {
          greatest = λ row fits. let same : row ≡ 0 = omega arith in omega (arith, ap (area place) same, is.greatest place);
          earliest = λ row fits as_much. omega arith;
        };
        first = is.first;
        fits = omega arith;
      }
      | inr kept ↦ rw (le-ltb limit most.area kept) record {
        least = omega arith;
        has = λ above. absurd (omega (arith, above));
        above = λ place. record {
          greatest = λ row fits. let same : row ≡ 0 = omega arith in omega (arith, ap (area place) same, is.greatest place, kept);
          earliest = λ row fits as_much. omega arith;
        };
        first = λ place as_much. omega arith;
        fits = omega arith;
      }
    ]

pub best-next : (area : ℕ → ℕ → ℕ) (limit last stride : ℕ) (best later : BestRow) → IsBestUpTo area limit last best
    → later.row ≡ last + stride → IsFirstMost (λ place. area place (last + stride)) later.most
    → ((place t : ℕ) → t < stride → (area place (last + t) ≤ area place last) ⊎ (area place (last + t) < area place (last + stride)))
    → IsBestUpTo area limit (last + stride) (cond (nat_lt best.most.area later.most.area) later best)
best-next area limit last stride best later so there is between =
    elim (cases_lt best.most.area later.most.area) [
      | inl more ↦ rw (lt-ltb best.most.area later.most.area more) record {
        least = omega (arith, so.least, more);
        has = λ above. ap (area later.most.place) there ∙ is.has;
        above = λ place. rw there (above-more (area place) last stride best.most.area best.row later.most.area (so.above place) so.fits (is.greatest place) (between place) more);
        first = λ place as_much. is.first place (omega (arith, ap (area place) there));
        fits = omega arith;
      }
      | inr kept ↦ rw (le-ltb best.most.area later.most.area kept) record {
        least = so.least;
        has = so.has;
        above = λ place. above-kept (area place) last stride best.most.area best.row later.most.area (so.above place) so.fits (is.greatest place) (between place) kept;
        first = so.first;
        fits = omega (arith, so.fits);
      }
    ]

-- no place of the row has more, so the best one stays
pub best-kept : (area : ℕ → ℕ → ℕ) (limit last stride : ℕ) (best : BestRow) → IsBestUpTo area limit last best
    → ((place : ℕ) → area place (last + stride) ≤ best.most.area)
    → ((place t : ℕ) → t < stride → (area place (last + t) ≤ area place last) ⊎ (area place (last + t) < area place (last + stride)))
    → IsBestUpTo area limit (last + stride) best
best-kept area limit last stride best so no_more between = record {
  least = so.least;
  has = so.has;
  above = λ place.
      above-kept (area place) last stride best.most.area best.row best.most.area (so.above place) so.fits (no_more place) (between place)
      (omega arith);
  first = so.first;
  fits = omega (arith, so.fits);
}
