-- One more stop: it is the last that is reached, or the first ahead where there was none.
use Rattle.std.proofs.Common.{ℕ, Bool, true, false, not, Option, Some, None, List, [], ◌∷◌, ◌++◌, ◌≡◌, ◌<◌, ◌+◌, length, option_map, unwrap_or, refl, sym, ap, ◌∙◌, filter, take, get_or, append-nil, add-one}
use Rattle.std.specs.List.{cons_option}
use Rattle.std.proofs.lemmas.List.Elements.{filter-append, filter_map-append}
use Rattle.std.proofs.Math.Seq.{take-suc}
use Rattle.page_model.specs.declared.keyframe.Keyframe.{Keyframe}
use Rattle.page_model.specs.declared.property.Prop.{Prop}
use Rattle.page_model.specs.Fraction.{Fraction}
use Rattle.page_model.specs.Keyframes as definition
use Rattle.keyframe_sets.specs.declared.around.Around.{Around}
use Rattle.keyframe_sets.specs.declared.stops.Stop.{Stop}
use Rattle.keyframe_sets.specs.Around.{IsAround, is_ahead}
use Rattle.keyframe_sets.specs.Views.{stop_as}
use Rattle.keyframe_sets.proofs.StopLemmas.{last_of-append, first_of-append}

-- what a test keeps of a list with one more at its end
filter-kept : {X : Type 0} (p : X → Bool) (xs : List X) (x : X) → p x ≡ true → filter p (xs ++ x ∷ []) ≡ filter p xs ++ x ∷ []
filter-kept p xs x e = filter-append p xs (x ∷ []) ∙ rw e refl

filter-left_out : {X : Type 0} (p : X → Bool) (xs : List X) (x : X) → p x ≡ false → filter p (xs ++ x ∷ []) ≡ filter p xs
filter-left_out p xs x e = filter-append p xs (x ∷ []) ∙ rw e (append-nil (filter p xs))

mapped : {X Y : Type 0} (f : X → Y) (o : Option X) (d : X) → Some (f (unwrap_or o d)) ≡ Some (unwrap_or (option_map f o) (f d))
mapped f None d = refl
mapped f (Some x) d = refl

pub IsAround-reached : (at : Fraction) (seen : List definition.Stop) (around : Around) (stop : Stop)
    → definition.is_reached at (stop_as stop) ≡ true → IsAround at seen around
    → IsAround at (seen ++ stop_as stop ∷ []) (record { reached = Some stop; ahead = around.ahead })
IsAround-reached at seen around stop e h =
    let kept : filter (definition.is_reached at) (seen ++ stop_as stop ∷ []) ≡ filter (definition.is_reached at) seen ++ stop_as stop ∷ [] =
    filter-kept (definition.is_reached at) seen (stop_as stop) e in
    let left_out : filter (is_ahead at) (seen ++ stop_as stop ∷ []) ≡ filter (is_ahead at) seen =
    filter-left_out (is_ahead at) seen (stop_as stop) (ap not e) in
    record {
      reached = sym (ap definition.last_of kept ∙ last_of-append (filter (definition.is_reached at) seen) (stop_as stop));
      ahead = h.ahead ∙ sym (ap definition.first_of left_out);
    }

pub IsAround-ahead : (at : Fraction) (seen : List definition.Stop) (around : Around) (stop : Stop)
    → definition.is_reached at (stop_as stop) ≡ false → IsAround at seen around
    → IsAround at (seen ++ stop_as stop ∷ []) (record { reached = around.reached; ahead = Some (unwrap_or around.ahead stop) })
IsAround-ahead at seen around stop e h =
    let left_out : filter (definition.is_reached at) (seen ++ stop_as stop ∷ []) ≡ filter (definition.is_reached at) seen =
    filter-left_out (definition.is_reached at) seen (stop_as stop) e in
    let kept : filter (is_ahead at) (seen ++ stop_as stop ∷ []) ≡ filter (is_ahead at) seen ++ stop_as stop ∷ [] =
    filter-kept (is_ahead at) seen (stop_as stop) (ap not e) in
    record {
      reached = h.reached ∙ sym (ap definition.last_of left_out);
      ahead = mapped stop_as around.ahead stop
          ∙ ap (λ o. Some (unwrap_or o (stop_as stop))) h.ahead
          ∙ sym (ap definition.first_of kept ∙ first_of-append (filter (is_ahead at) seen) (stop_as stop));
    }

-- the stops of one keyframe more
pub stops_of-more : (prop : Prop) (frames : List Keyframe) (i : ℕ) (frame : Keyframe) → i < length frames → frame ≡ get_or frames i frame
    → definition.stops_of prop (take (i + 1) frames)
    ≡ definition.stops_of prop (take i frames) ++ cons_option (definition.stop_of prop frame) []
stops_of-more prop frames i frame inside is =
    ap (definition.stops_of prop) (ap (λ n. take n frames) (add-one i) ∙ take-suc frames i frame inside)
    ∙ filter_map-append (definition.stop_of prop) (take i frames) (get_or frames i frame ∷ [])
    ∙ ap (λ f. definition.stops_of prop (take i frames) ++ cons_option (definition.stop_of prop f) []) (sym is)
