-- Parts of cells, one by one.
use Rattle.std.proofs.Common.{◌≡◌, ◌∙◌, ℕ, true, false, cond, ◌+◌, ◌<◌, ◌≤◌, List, [], ◌∷◌, ◌++◌, length, slice_get, Some, ap, arith, inl, inr, refl, subst, sym, length-append}
use Rattle.std.specs.Prelude.{ℤ, nat_lt}
use Rattle.std.proofs.lemmas.Bool.{cases_lt, le-ltb, lt-ltb}
use Rattle.std.proofs.lemmas.Option.{slice_get_within}
use Rattle.page_model.specs.declared.colour.Tint.{Tint}
use Rattle.page_model.specs.declared.scene.Scene.{Scene}
use Rattle.page_model.specs.declared.setup.Setup.{Setup}
use Rattle.page_model.specs.declared.witness.Part.{Part}
use Rattle.page_model.specs.Cells.{cells_between}
use Rattle.page_model.specs.Time.{window_of}
use Rattle.page_model.specs.ValidScene.{IsValid}
use Rattle.flash_count.specs.declared.tracing.Trace.{Trace}
use Rattle.flash_count.specs.Chains.{IsFirstTrace}
use Rattle.region_split.specs.declared.types.Rect.{Rect}
use Rattle.region_split.specs.Cutting.{Edges, IsInside, cell_of}
use Rattle.cell_tints.proofs.ListLemmas.{slice_get-back, slice_get-front}
use Rattle.witness_make.specs.Clip.{IsCutTo}
use Rattle.witness_make.specs.Turns.{AreOfBytes, AreTintsFrom, TellsTrace}
use Rattle.witness_make.proofs.SameLemmas.{flagged-seen}
use Rattle.witness_make.proofs.TurnLemmas.{has-sure}
use Rattle.witness_make.specs.Made.{AreCutsOf, AreSurelyFlagged, ArePartsBefore, HasNoPart, IsPartOf}

pub parts-none : (scene : Scene) (setup : Setup) (edges : Edges) (start : ℕ) (x y : ℤ) → ArePartsBefore scene setup edges start x y 0 []
parts-none scene setup edges start x y = record {
  cell = λ k. k;
  few = omega arith;
  order = λ j k less within. absurd (omega arith);
  before = λ k within. absurd (omega arith);
  each = λ k part there. absurd (cc);
  all = λ number column row below flagged inside is. absurd (omega arith);
}

pub parts-skipped : (scene : Scene) (setup : Setup) (edges : Edges) (start : ℕ) (x y : ℤ) (count : ℕ) (parts : List Part)
    → ArePartsBefore scene setup edges start x y count parts → HasNoPart scene setup start x y (cell_of edges.xs edges.ys count)
    → ArePartsBefore scene setup edges start x y (count + 1) parts
parts-skipped scene setup edges start x y count parts are none = record {
  cell = are.cell;
  few = let h = are.few in omega arith;
  order = are.order;
  before = λ k within. let h = are.before k within in omega arith;
  each = are.each;
  all = λ number column row below flagged inside is.
      elim (cases_lt number count) [
        | inl earlier ↦ are.all number column row earlier flagged inside is
        | inr later ↦
            let last : number ≡ count = omega arith in
            absurd (none column row (subst (λ n. AreSurelyFlagged scene setup start (cell_of edges.xs edges.ys n)) last flagged)
            (subst (λ n. IsInside (cell_of edges.xs edges.ys n) column row) last inside) is)
      ];
}

-- the number of a part's cell, with one part more
abbrev with_last : (ℕ → ℕ) → ℕ → ℕ → ℕ → ℕ
with_last cell long count k = cond (nat_lt k long) (cell k) count

with_last-front : (cell : ℕ → ℕ) (long count k : ℕ) → k < long → with_last cell long count k ≡ cell k
with_last-front cell long count k less = let t : nat_lt k long ≡ true = lt-ltb k long less in rw t refl

with_last-back : (cell : ℕ → ℕ) (long count k : ℕ) → long ≤ k → with_last cell long count k ≡ count
with_last-back cell long count k past = let f : nat_lt k long ≡ false = le-ltb k long past in rw f refl

pub parts-more : (scene : Scene) (setup : Setup) (edges : Edges) (start : ℕ) (x y : ℤ) (count : ℕ) (parts more : List Part) (part : Part)
    → ArePartsBefore scene setup edges start x y count parts → IsPartOf scene setup start x y (cell_of edges.xs edges.ys count) part
    → more ≡ parts ++ part ∷ [] → ArePartsBefore scene setup edges start x y (count + 1) more
parts-more scene setup edges start x y count parts more part are of is =
    let long : length more ≡ length parts + 1 = ap length is ∙ length-append parts (part ∷ []) in
    let few = are.few in record {
      cell = with_last are.cell (length parts) count;
      few = omega (arith, long, few);
      order = λ j k less within.
          let front : with_last are.cell (length parts) count j ≡ are.cell j = with_last-front are.cell (length parts) count j (omega (arith, long)) in
          elim (cases_lt k (length parts)) [
            | inl earlier ↦ omega (arith, front, with_last-front are.cell (length parts) count k earlier, are.order j k less earlier)
            | inr later ↦ omega (arith, front, with_last-back are.cell (length parts) count k later, are.before j (omega (arith, long)))
          ];
      before = λ k within.
          elim (cases_lt k (length parts)) [
            | inl earlier ↦ omega (arith, with_last-front are.cell (length parts) count k earlier, are.before k earlier)
            | inr later ↦ omega (arith, with_last-back are.cell (length parts) count k later)
          ];
      each = λ k other there.
          let there' : slice_get (parts ++ part ∷ []) k ≡ Some other = sym (ap (λ (ps : List Part). slice_get ps k) is) ∙ there in
          elim (cases_lt k (length parts)) [
            | inl earlier ↦
                let old : slice_get parts k ≡ Some other = sym (slice_get-front parts (part ∷ []) k earlier) ∙ there' in
                subst (λ n. IsPartOf scene setup start x y (cell_of edges.xs edges.ys n) other)
                (sym (with_last-front are.cell (length parts) count k earlier)) (are.each k other old)
            | inr later ↦
                let inside : k < length more = slice_get_within more k other there in
                let last : length parts + 0 ≡ k = omega (arith, long) in
                let here : slice_get (part ∷ []) 0 ≡ Some other =
                sym (slice_get-back parts (part ∷ []) 0) ∙ ap (λ n. slice_get (parts ++ part ∷ []) n) last ∙ there' in
                let same : part ≡ other = cc in
                subst (λ n. IsPartOf scene setup start x y (cell_of edges.xs edges.ys n) other)
                (sym (with_last-back are.cell (length parts) count k later))
                (subst (λ (p : Part). IsPartOf scene setup start x y (cell_of edges.xs edges.ys count) p) same of)
          ];
      all = λ number column row below flagged inside is_in.
          elim (cases_lt number count) [
            | inl earlier ↦
                let found = are.all number column row earlier flagged inside is_in in
                (found.0, omega (arith, long, found.1), with_last-front are.cell (length parts) count found.0 found.1 ∙ found.2)
            | inr later ↦
                (length parts, omega (arith, long), with_last-back are.cell (length parts) count (length parts) (omega arith) ∙ omega arith)
          ];
    }

-- the part of a cell, as it is told
pub part-told : (scene : Scene) (setup : Setup) (edges : Edges) (start number : ℕ) (x y : ℤ) (rect : Rect) (tints : List Tint) (trace : Trace) (part : Part)
    → IsValid scene → AreCutsOf scene setup start edges → number < cells_between edges.xs edges.ys
    → IsCutTo x y (cell_of edges.xs edges.ys number) rect → length tints ≡ window_of setup + 1
    → AreTintsFrom scene setup start (cell_of edges.xs edges.ys number).x (cell_of edges.xs edges.ys number).y tints → IsFirstTrace tints trace
    → part.x ≡ rect.x → part.y ≡ rect.y → part.width ≡ rect.width → part.height ≡ rect.height → TellsTrace start tints trace part
    → AreOfBytes part.tints → IsPartOf scene setup start x y (cell_of edges.xs edges.ys number) part
part-told scene setup edges start number x y rect tints trace part valid cuts known cut whole are first x_is y_is width_is height_is tells bytes =
    let told : Rect = record { x = part.x; y = part.y; width = part.width; height = part.height } in
    let same : rect ≡ told = λ i. record { x = sym x_is i; y = sym y_is i; width = sym width_is i; height = sym height_is i } in record {
      flagged = flagged-seen scene setup edges start number tints valid cuts known whole are
          (has-sure trace.kind tints trace.places first.chain);
      cut = subst (λ (r : Rect). IsCutTo x y (cell_of edges.xs edges.ys number) r) same cut;
      tells = record { tints = tints; whole = whole; own_tints = are; trace = trace; first = first; tells = tells };
      bytes = bytes;
    }
