-- Where no layer is animated each frame looks like the other, and no colour rises from itself.
use Rattle.std.proofs.Common.{◌≡◌, ℕ, zero, suc, ◌+◌, ◌*◌, ◌≤◌, pos, Bool, true, false, cond, List, [], ◌∷◌, All, filter_map, length, if◌then◌else◌, arith, refl, subst, sym, subst₂, ap, ◌∙◌, inl, inr}
use Rattle.std.proofs.lemmas.Bool.{false_from_ne_true}
use Rattle.std.proofs.lemmas.Option.{slice_get_cases}
use Rattle.page_model.specs.declared.colour.Rgb.{Rgb}
use Rattle.page_model.specs.declared.property.Prop.{Prop}
use Rattle.page_model.specs.declared.property.Prop.TheVariants.{Background, Opacity, Visibility, Left, Top, Width, Height}
use Rattle.page_model.specs.declared.scene.Layer.{Layer}
use Rattle.page_model.specs.declared.scene.Scene.{Scene}
use Rattle.page_model.specs.declared.setup.Setup.{Setup}
use Rattle.page_model.specs.Colour.{IsRunIn, Run, painting_of}
use Rattle.page_model.specs.Flash.{AlternatesEitherWay, Between, Flashes, HasChain, area, colours_at, sum_below}
use Rattle.page_model.specs.LayerAt.{Course, IsChannelOn, IsShownWith, IsStateAt, IsValueOn, State, alpha_of, blue_of, course_by, course_of, cover_of, declared, green_of, interval_at, is_held, length_of, red_of, still}
use Rattle.page_model.specs.Keyframes.{last_of}
use Rattle.page_model.specs.Light.{IsFall, IsRise}
use Rattle.page_model.specs.Red.{AreFar, Chromaticity, IsIntoRed, IsOutOfRed, chromaticity_of, gap}
use Rattle.page_model.specs.Slot.{alpha, cover, extent, position}
use Rattle.page_model.specs.Time.{window_of}
use Rattle.page_model.specs.ValidScene.{IsValid}
use Rattle.safety_laws.specs.StillLaws.{StillIsSafe}
use Rattle.fraction_laws.proofs.ListLemmas.{All-slice_get}
use Rattle.safety_laws.proofs.SafetyLemmas.{painted-same}
use Rattle.state_laws.proofs.UniqueLemmas.{state-unique}

-- without animations a property stays at its declared value
pub course-still : (scene : Scene) (setup : Setup) (frame : ℕ) (layer : Layer) (prop : Prop) → layer.anims ≡ [] → course_of scene setup frame layer prop ≡ still (declared layer prop)
course-still scene setup frame layer prop none =
    let e = ap (λ anims. if is_held layer.important prop then still (declared layer prop) else course_by (declared layer prop)
    (last_of (filter_map (interval_at scene.sets setup frame prop (declared layer prop)) anims))) none in
    e ∙ same (is_held layer.important prop) (still (declared layer prop))
  where
    same : (b : Bool) (course : Course) → (if b then course else course) ≡ course
    same true course = refl
    same false course = refl

-- so an exact state is one in each frame
state-still :
    (scene : Scene) (setup : Setup) (j k : ℕ) (layer : Layer) (state : State) → layer.anims ≡ [] → IsStateAt scene setup j layer state
    → IsStateAt scene setup k layer state
state-still scene setup j k layer state none good = record {
  is_red = subst (λ (c : Course). IsChannelOn red_of c (pos state.red)) (same Background) good.is_red;
  is_green = subst (λ (c : Course). IsChannelOn green_of c (pos state.green)) (same Background) good.is_green;
  is_blue = subst (λ (c : Course). IsChannelOn blue_of c (pos state.blue)) (same Background) good.is_blue;
  is_cover = subst (λ (c : Course). IsValueOn cover cover_of c (pos state.cover)) (same Background) good.is_cover;
  is_alpha = subst (λ (c : Course). IsValueOn alpha alpha_of c (pos state.alpha)) (same Opacity) good.is_alpha;
  is_shown = subst (λ (c : Course). IsShownWith layer.colour c state.shown) (same Visibility) good.is_shown;
  is_left = subst (λ (c : Course). IsValueOn position length_of c state.left) (same Left) good.is_left;
  is_top = subst (λ (c : Course). IsValueOn position length_of c state.top) (same Top) good.is_top;
  is_width = subst (λ (c : Course). IsValueOn extent length_of c state.width) (same Width) good.is_width;
  is_height = subst (λ (c : Course). IsValueOn extent length_of c state.height) (same Height) good.is_height;
} where
  same : (prop : Prop) → course_of scene setup j layer prop ≡ course_of scene setup k layer prop
  same prop = course-still scene setup j layer prop none ∙ sym (course-still scene setup k layer prop none)

-- and each frame of a window looks like its first
frames-alike :
    (scene : Scene) (setup : Setup) (start : ℕ) (run : Run) (k column row : ℕ) → IsValid scene
    → All (λ (layer : Layer). layer.anims ≡ []) scene.layers → IsRunIn scene setup start run → start ≤ k → k ≤ start + window_of setup
    → painting_of scene run k column row ≡ painting_of scene run start column row
frames-alike scene setup start run k column row valid none exact low high =
    painted-same scene (run k) (run start) column row valid (λ number within.
    elim (slice_get_cases scene.layers number).1 [
      | inl there ↦
          let still = All-slice_get (λ (layer : Layer). layer.anims ≡ []) scene.layers number there.0 none there.2 in
          state-unique scene setup start there.0 (run k number) (run start number)
          (state-still scene setup k start there.0 (run k number) still (exact k number there.0 low high there.2))
          (exact start number there.0 (omega arith) (omega arith) there.2)
      | inr past ↦ absurd (let far = past.0 in omega arith)
    ])

-- no colour makes a change to itself
no_rise : (c : Rgb) → IsRise c c → ⊥
no_rise c rise = let by = rise.by_a_tenth in omega arith

not_far : (p : Chromaticity) → AreFar p p → ⊥
not_far p far =
    let u : gap (p.u * p.over) (p.u * p.over) ≡ 0 = omega arith in
    let v : gap (p.v * p.over) (p.v * p.over) ≡ 0 = omega arith in
    let h = rw (u, v) at far in omega arith

no_chain :
    (Up Down : Rgb → Rgb → Type 0) (seen : ℕ → Rgb) (start window : ℕ) (c : Rgb) → ((k : ℕ) → start ≤ k → k ≤ start + window → seen k ≡ c)
    → (Up c c → ⊥) → (Down c c → ⊥) → HasChain Up Down seen start window → ⊥
no_chain Up Down seen start window c same up down found =
    begins Up Down seen start window c same up down found.0 found.1.nine found.1.within found.1.alternates
  where
    begins :
        (Up Down : Rgb → Rgb → Type 0) (seen : ℕ → Rgb) (start window : ℕ) (c : Rgb) → ((k : ℕ) → start ≤ k → k ≤ start + window → seen k ≡ c)
        → (Up c c → ⊥) → (Down c c → ⊥) → (frames : List ℕ) → length frames ≡ 9 → All (λ k. (start ≤ k) × (k ≤ start + window)) frames
        → AlternatesEitherWay (Between Up seen) (Between Down seen) frames → ⊥
    begins Up Down seen start window c same up down [] nine within turns = absurd (omega arith)
    begins Up Down seen start window c same up down (a ∷ []) nine within turns = absurd (omega arith)
    begins Up Down seen start window c same up down (a ∷ (b ∷ rest)) nine within (inl turns) =
        let p = within 0 a (omega arith) in
        let q = within 1 b (omega arith) in
        up (subst₂ Up (same a p.0 p.1) (same b q.0 q.1) turns.0)
    begins Up Down seen start window c same up down (a ∷ (b ∷ rest)) nine within (inr turns) =
        let p = within 0 a (omega arith) in
        let q = within 1 b (omega arith) in
        down (subst₂ Down (same a p.0 p.1) (same b q.0 q.1) turns.0)

no_flash : (seen : ℕ → Rgb) (start window : ℕ) (c : Rgb) → ((k : ℕ) → start ≤ k → k ≤ start + window → seen k ≡ c) → Flashes seen start window → ⊥
no_flash seen start window c same (inl light) = no_chain IsRise IsFall seen start window c same (no_rise c) (no_rise c) light
no_flash seen start window c same (inr red) =
    no_chain IsIntoRed IsOutOfRed seen start window c same (λ h. not_far (chromaticity_of c) h.far) (λ h. not_far (chromaticity_of c) h.far) red

-- marks of which there are none count nothing
sum-none : (n : ℕ) (f : ℕ → ℕ) → ((k : ℕ) → f k ≡ 0) → sum_below n f ≡ 0
sum-none zero f none = refl
sum-none (suc n) f none = let h = sum-none n f none in let e = none n in omega arith

area-none : (w h : ℕ) (marks : ℕ → ℕ → Bool) → ((column row : ℕ) → marks column row ≡ true → ⊥) → area w h marks ≡ 0
area-none w h marks none =
    sum-none w (λ column. sum_below h (λ row. cond (marks column row) 1 0))
    (λ column. sum-none h (λ row. cond (marks column row) 1 0) (λ row. rw (false_from_ne_true (marks column row) (none column row))))

pub still-safe : StillIsSafe
still-safe scene setup valid none start x y run exact bad =
    let empty = area-none setup.width setup.height bad.marks (λ column row marked.
    no_flash (colours_at (painting_of scene run) column row) start (window_of setup) (painting_of scene run start column row)
    (λ k low high. frames-alike scene setup start run k column row valid none exact low high) (bad.flagged column row marked)) in
    let many = bad.many in omega arith
