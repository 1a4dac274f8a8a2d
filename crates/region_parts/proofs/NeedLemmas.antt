-- The needs of one layer more.
use Rattle.std.proofs.Common.{ℕ, ◌≡◌, ◌∙◌, ◌+◌, ◌<◌, List, [], ◌∷◌, ◌++◌, length, arith, inl, inr, subst, sym}
use Rattle.std.specs.Prelude.{Some, slice_get, slice_index_or}
use Rattle.std.proofs.lemmas.Bool.{cases_lt}
use Rattle.std.proofs.lemmas.List.{get_or_append_left, get_or_default, get_or_push, length_push}
use Rattle.page_model.specs.declared.scene.Layer.{Layer}
use Rattle.page_model.specs.declared.scene.Scene.{Scene}
use Rattle.page_model.specs.declared.setup.Setup.{Setup}
use Rattle.period_frames.specs.declared.frames.Horizon.{Horizon}
use Rattle.region_split.specs.Marks.{frames_in}
use Rattle.region_parts.specs.Needs.{AreNeedsBefore, IsNeed, horizon_in}
use Rattle.region_parts.specs.Parts.{no_horizon}

pub needs-none : (scene : Scene) (setup : Setup) → AreNeedsBefore scene setup 0 [] []
needs-none scene setup = record {
  one_each = omega arith;
  frames_too = omega arith;
  each = λ n layer below there. absurd (omega arith);
  frames_are = λ n below. absurd (omega arith);
}

pub needs-more : (scene : Scene) (setup : Setup) (number sum : ℕ) (horizons : List Horizon) (frames : List ℕ) (horizon : Horizon)
    → ((layer : Layer) → slice_get scene.layers number ≡ Some layer → IsNeed scene setup layer horizon)
    → sum ≡ horizon.settled + horizon.period → AreNeedsBefore scene setup number horizons frames
    → AreNeedsBefore scene setup (number + 1) (horizons ++ (horizon ∷ [])) (frames ++ (sum ∷ []))
needs-more scene setup number sum horizons frames horizon is sum_is so =
    let as_many = so.one_each in
    let too = so.frames_too in
    record {
      one_each = omega (arith, length_push horizons horizon);
      frames_too = omega (arith, length_push frames sum);
      each = λ n layer below there. elim (cases_lt n number) [
        | inl early ↦ subst (IsNeed scene setup layer) (sym (get_or_append_left horizons (horizon ∷ []) no_horizon n (omega arith))) (so.each n layer early there)
        | inr late ↦
            let same : n ≡ number = omega arith in
            subst (IsNeed scene setup layer) (sym (get_or_push horizons horizon no_horizon n (omega arith))) (is layer (rw same at there))
      ];
      frames_are = λ n below. elim (cases_lt n number) [
        | inl early ↦
            rw (get_or_append_left horizons (horizon ∷ []) no_horizon n (omega arith), get_or_append_left frames (sum ∷ []) 0 n (omega arith))
            (so.frames_are n early)
        | inr late ↦
            rw (get_or_push horizons horizon no_horizon n (omega arith), get_or_push frames sum 0 n (omega arith)) sum_is
      ];
    }

-- what is read of the needs is what stands there
pub own-read : (horizons : List Horizon) (number place : ℕ) (own : Horizon) → place ≡ number → number < length horizons
    → own ≡ slice_index_or horizons place own → own ≡ horizon_in horizons number
own-read horizons number place own same known is =
    rw same at is ∙ get_or_default horizons number own (horizon_in horizons number) known
    ∙ sym (get_or_default horizons number no_horizon (horizon_in horizons number) known)

pub frames-read : (frames : List ℕ) (number place read : ℕ) → place ≡ number → number < length frames
    → read ≡ slice_index_or frames place read → read ≡ frames_in frames number
frames-read frames number place read same known is = rw same at is ∙ get_or_default frames number read 0 known
