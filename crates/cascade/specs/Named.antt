-- The animations of a part of the list of names.
use Rattle.std.specs.Prelude.{ℕ, List, Option, filter_map, option_map}
use Rattle.std.specs.List.{enumerate_from}
use Rattle.page_model.specs.declared.animation.Anim.{Anim}
use Rattle.page_model.specs.Cascade.{Winners, animation_at, set_meant}
use Rattle.css_reader.specs.SheetState.{SheetState, set_named}

-- those of the names from a place on
abbrev pub animations_from : SheetState → Winners → ℕ → List (Option (List ℕ)) → List Anim
animations_from sheet winners place names =
    filter_map (λ (item : ℕ × Option (List ℕ)). option_map (animation_at winners item.0) (set_meant (set_named sheet) sheet.sets item.1))
    (enumerate_from place names)
