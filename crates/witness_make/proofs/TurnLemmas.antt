-- The turns of a trace rise, lie in the window and change in turn.
use Rattle.std.proofs.Common.{◌≡◌, ◌∙◌, ℕ, suc, ◌+◌, ◌-◌, ◌*◌, ◌<◌, ◌≤◌, List, [], ◌∷◌, length, get_or, ap, arith, inl, inr, set, subst, sym, get_or-set_same, get_or-set_other, mul-le-mul_right}
use Rattle.std.specs.Prelude.{All}
use Rattle.std.specs.List.Sorted.{IsStrictlyIncreasing}
use Rattle.std.proofs.lemmas.Bool.{cases_eq}
use Rattle.std.proofs.lemmas.Grind.{get_or_default_zero}
use Rattle.std.proofs.lemmas.Option.{get_or_from_slice_get, slice_get-get_or}
use Rattle.page_model.specs.declared.colour.Tint.{Tint}
use Rattle.page_model.specs.declared.scene.Scene.{Scene}
use Rattle.page_model.specs.declared.setup.Setup.{Setup}
use Rattle.page_model.specs.declared.witness.Kind.{Kind}
use Rattle.page_model.specs.declared.witness.Kind.TheVariants.{General, Red}
use Rattle.page_model.specs.declared.witness.Part.{Part}
use Rattle.page_model.specs.Change.{IsSureFall, IsSureRise, IsSurelyIntoRed, IsSurelyOutOfRed}
use Rattle.page_model.specs.Flash.{Alternates, AlternatesEitherWay}
use Rattle.page_model.specs.WitnessConditions.{AlternatesSurely}
use Rattle.region_split.specs.Cutting.{Edges, cell_of}
use Rattle.cell_tints.specs.Tints.{AreTintsOfCells, IsOwnTint, cells_of}
use Rattle.flash_count.specs.declared.tracing.Trace.{Trace}
use Rattle.flash_count.specs.Chains.{HasSureChain, IsChangeAt, IsFirstTrace, IsSureChainOf}
use Rattle.witness_make.specs.Turns.{ArePicked, AreTintsFrom, AreTurnsBefore, TellsTrace, no_tint}

changes-told : (Changes : Tint → Tint → Type 0) (tints : List Tint) (a b : ℕ) (first second : Tint) → first ≡ get_or tints a no_tint
    → second ≡ get_or tints b no_tint → IsChangeAt Changes tints a b → Changes first second
changes-told Changes tints a b first second one other change =
    let earlier : change.earlier ≡ first = sym (get_or_from_slice_get tints a change.earlier no_tint change.is_earlier) ∙ sym one in
    let later : change.later ≡ second = sym (get_or_from_slice_get tints b change.later no_tint change.is_later) ∙ sym other in
    subst (λ (t : Tint). Changes t second) earlier (subst (λ (t : Tint). Changes change.earlier t) later change.changes)

alternates-told : (One Other : Tint → Tint → Type 0) (tints : List Tint) (places : List ℕ) (told : List Tint) → length told ≡ length places
    → ((k : ℕ) → k < length places → get_or told k no_tint ≡ get_or tints (get_or places k 0) no_tint)
    → Alternates (IsChangeAt One tints) (IsChangeAt Other tints) places → Alternates One Other told
alternates-told One Other tints places [] long same turns = tt
alternates-told One Other tints places (t ∷ []) long same turns = tt
alternates-told One Other tints [] (t ∷ (u ∷ rest)) long same turns = absurd (omega (arith, long))
alternates-told One Other tints (a ∷ []) (t ∷ (u ∷ rest)) long same turns = absurd (omega (arith, long))
alternates-told One Other tints (a ∷ (b ∷ places)) (t ∷ (u ∷ rest)) long same turns = (
  changes-told One tints a b t u (same 0 (omega arith)) (same 1 (omega arith)) turns.0,
  alternates-told Other One tints (b ∷ places) (u ∷ rest) (omega (arith, long)) (λ k below. same (suc k) (omega arith)) turns.1,
)

-- the tints of a chain of a kind change in turn by that kind
either-told : (Up Down : Tint → Tint → Type 0) (tints : List Tint) (places : List ℕ) (told : List Tint) → length told ≡ length places
    → ((k : ℕ) → k < length places → get_or told k no_tint ≡ get_or tints (get_or places k 0) no_tint)
    → AlternatesEitherWay (IsChangeAt Up tints) (IsChangeAt Down tints) places → AlternatesEitherWay Up Down told
either-told Up Down tints places told long same (inl up) = inl (alternates-told Up Down tints places told long same up)
either-told Up Down tints places told long same (inr down) = inr (alternates-told Down Up tints places told long same down)

alternates-kind : (kind : Kind) (tints : List Tint) (places : List ℕ) (told : List Tint) → length told ≡ length places
    → ((k : ℕ) → k < length places → get_or told k no_tint ≡ get_or tints (get_or places k 0) no_tint) → IsSureChainOf kind tints places
    → AlternatesSurely kind told
alternates-kind General tints places told long same chain = either-told IsSureRise IsSureFall tints places told long same chain.alternates
alternates-kind Red tints places told long same chain =
    either-told IsSurelyIntoRed IsSurelyOutOfRed tints places told long same chain.alternates

-- nine places in rising order, each of them one of the tints
pub record AreNinePlaces (tints : List Tint) (places : List ℕ) : Type 0 where
  pub nine : length places ≡ 9
  pub rising : IsStrictlyIncreasing places
  pub within : All (λ k. (0 ≤ k) × (k ≤ 0 + (length tints - 1))) places

-- those of a chain are, of whichever kind it is
places-of : (kind : Kind) (tints : List Tint) (places : List ℕ) → IsSureChainOf kind tints places → AreNinePlaces tints places
places-of General tints places chain = record { nine = chain.nine; rising = chain.rising; within = chain.within }
places-of Red tints places chain = record { nine = chain.nine; rising = chain.rising; within = chain.within }

-- and there is a chain
pub has-sure : (kind : Kind) (tints : List Tint) (places : List ℕ) → IsSureChainOf kind tints places → HasSureChain tints
has-sure General tints places chain = inl (places, chain)
has-sure Red tints places chain = inr (places, chain)

-- a place of a trace is one of the tints
pub place-within : (tints : List Tint) (trace : Trace) (turn : ℕ) → 0 < length tints → IsFirstTrace tints trace → turn < 9 → get_or trace.places turn 0 < length tints
place-within tints trace turn some first below =
    let nine = (places-of trace.kind tints trace.places first.chain).nine in
    let inside = (places-of trace.kind tints trace.places first.chain).within turn 0 (omega arith) in
    omega (arith, inside.1)

pub places-within : (tints : List Tint) (trace : Trace) → 0 < length tints → IsFirstTrace tints trace
    → All (λ place. place < length tints) trace.places
places-within tints trace some first k d below =
    let inside = (places-of trace.kind tints trace.places first.chain).within k d below in
    omega (arith, some, inside.1)

pub frames-rise : (start : ℕ) (tints : List Tint) (trace : Trace) (part : Part) → IsFirstTrace tints trace → TellsTrace start tints trace part
    → IsStrictlyIncreasing part.frames
frames-rise start tints trace part first tells k below =
    let nine = tells.nine_frames in
    let long = (places-of trace.kind tints trace.places first.chain).nine in
    let here = tells.turns.frames_are k (omega arith) in
    let next = tells.turns.frames_are (k + 1) (omega arith) in
    let rise = (places-of trace.kind tints trace.places first.chain).rising k (omega arith) in
    omega (arith, here, next, rise)

pub frames-within : (start window : ℕ) (tints : List Tint) (trace : Trace) (part : Part) → length tints ≡ window + 1 → IsFirstTrace tints trace
    → TellsTrace start tints trace part → All (λ k. (start ≤ k) × (k ≤ start + window)) part.frames
frames-within start window tints trace part whole first tells k d below =
    let nine = tells.nine_frames in
    let same = get_or_default_zero part.frames k d below in
    let here = tells.turns.frames_are k (omega arith) in
    let inside = place-within tints trace k (omega (arith, whole)) first (omega arith) in
    (omega (arith, same, here), omega (arith, same, here, inside, whole))

pub tints-change : (start : ℕ) (tints : List Tint) (trace : Trace) (part : Part) → IsFirstTrace tints trace → TellsTrace start tints trace part
    → AlternatesSurely part.kind part.tints
tints-change start tints trace part first tells =
    let long : length part.tints ≡ length trace.places = tells.nine_tints ∙ sym (places-of trace.kind tints trace.places first.chain).nine in
    let same : (k : ℕ) → k < length trace.places → get_or part.tints k no_tint ≡ get_or tints (get_or trace.places k 0) no_tint =
    λ k below. tells.turns.tints_are k (let nine = (places-of trace.kind tints trace.places first.chain).nine in omega arith) in
    subst (λ (kind : Kind). AlternatesSurely kind part.tints) (sym tells.kind)
    (alternates-kind trace.kind tints trace.places part.tints long same first.chain)

-- the tint of a cell in a frame stands among those of all cells
pub place-known : (cells frames k number : ℕ) → k < frames → number < cells → k * cells + number < cells * frames
place-known cells frames k number before known =
    let more = mul-le-mul_right {m = k + 1} {n = frames} cells (omega (arith, before)) in
    omega (arith, more, known)

-- the tints that are picked for a cell are those of its first pixel
pub picked-own : (scene : Scene) (setup : Setup) (edges : Edges) (start frames cells number : ℕ) (all tints : List Tint)
    → AreTintsOfCells scene setup edges start frames all → cells ≡ cells_of edges → number < cells_of edges → length tints ≡ frames
    → ArePicked all cells number tints
    → AreTintsFrom scene setup start (cell_of edges.xs edges.ys number).x (cell_of edges.xs edges.ys number).y tints
picked-own scene setup edges start frames cells number all tints are cells_are known whole picked k below =
    let there : k * cells_of edges + number < length all =
    let fits = place-known (cells_of edges) frames k number (omega (arith, whole, below)) known in
    omega (arith, fits, are.all) in
    let same : get_or tints k no_tint ≡ get_or all (k * cells_of edges + number) no_tint =
    picked k below ∙ ap (λ n. get_or all (k * n + number) no_tint) cells_are in
    subst (λ (t : Tint). IsOwnTint scene setup (start + k) (cell_of edges.xs edges.ys number).x (cell_of edges.xs edges.ys number).y t) (sym same)
    (are.each k number (get_or all (k * cells_of edges + number) no_tint) known (slice_get-get_or all (k * cells_of edges + number) no_tint there))

-- one turn more is told
pub turns-more : (start : ℕ) (tints : List Tint) (places : List ℕ) (turn frame : ℕ) (tint : Tint) (frames more_frames : List ℕ) (told more_told : List Tint)
    → AreTurnsBefore start tints places turn frames told → turn < length frames → turn < length told
    → more_frames ≡ set frames turn frame → more_told ≡ set told turn tint → frame ≡ start + get_or places turn 0
    → tint ≡ get_or tints (get_or places turn 0) no_tint → AreTurnsBefore start tints places (turn + 1) more_frames more_told
turns-more start tints places turn frame tint frames more_frames told more_told are in_frames in_told frames_new told_new frame_is tint_is = record {
  frames_are = λ j below.
      elim (cases_eq j turn) [
        | inl same ↦
            ap (λ (ks : List ℕ). get_or ks j 0) frames_new ∙ ap (λ n. get_or (set frames turn frame) n 0) same ∙ get_or-set_same frames turn frame 0 in_frames
            ∙ frame_is ∙ ap (λ n. start + get_or places n 0) (sym same)
        | inr other ↦ ap (λ (ks : List ℕ). get_or ks j 0) frames_new ∙ get_or-set_other frames turn j frame 0 other ∙ are.frames_are j (omega arith)
      ];
  tints_are = λ j below.
      elim (cases_eq j turn) [
        | inl same ↦
            ap (λ (ts : List Tint). get_or ts j no_tint) told_new ∙ ap (λ n. get_or (set told turn tint) n no_tint) same
            ∙ get_or-set_same told turn tint no_tint in_told ∙ tint_is ∙ ap (λ n. get_or tints (get_or places n 0) no_tint) (sym same)
        | inr other ↦ ap (λ (ts : List Tint). get_or ts j no_tint) told_new ∙ get_or-set_other told turn j tint no_tint other ∙ are.tints_are j (omega arith)
      ];
}
