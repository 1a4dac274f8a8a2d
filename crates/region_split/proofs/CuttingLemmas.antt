-- What is cut at the marked places is what is cut by the states of the own kind.
use Rattle.std.proofs.Common.{ℕ, zero, suc, Bool, List, [], ◌∷◌, ◌≡◌, ◌<◌, ◌≤◌, length, replicate, Result, Ok, Err, arith, refl, subst, sym}
use Rattle.std.specs.List.Sorted.{IsStrictlyIncreasing}
use Rattle.std.proofs.lemmas.List.{get_or-replicate, length-replicate}
use Rattle.page_model.specs.declared.scene.Scene.{Scene}
use Rattle.page_model.specs.declared.setup.Setup.{Setup}
use Rattle.page_model.specs.Cells.{height_of, left_of, top_of, width_of}
use Rattle.page_model.specs.Enclosure.{Loose, LooseState}
use Rattle.page_model.specs.ValidScene.{IsValid}
use Rattle.cell_laws.proofs.EdgeLemmas.{edge-limit}
use Rattle.region_split.specs.declared.types.CutFault.{CutFault}
use Rattle.region_split.specs.declared.types.CutFault.TheVariants.{Work, NoMemory}
use Rattle.region_split.specs.Cutting.{AreListedBoth, AreSoundBoth, Edges, IsCutInto, IsCutting, IsListedCutting}
use Rattle.region_split.specs.Marks.{AreMarks, AreOwnMarks, HasFramesOfEach, IsCutBelow, IsCutByBox, IsMarked, frames_in}
use Rattle.region_split.specs.Sound.{AreSound}
use Rattle.region_split.proofs.CoverLemmas.{covers-alike}
use Rattle.region_split.proofs.CutLemmas.{cuts-own, cuts-wide}
use Rattle.region_split.proofs.RepeatLemmas.{all-enough}

-- the same frames for each box, said otherwise
before-same : (along across : LooseState → Loose) (scene : Scene) (setup : Setup) (frames_of others_of : ℕ → ℕ) (at : ℕ)
    → ((number : ℕ) → number < length scene.layers → frames_of number ≡ others_of number)
    → IsCutByBox along across scene setup frames_of at → IsCutByBox along across scene setup others_of at
before-same along across scene setup frames_of others_of at same cut = record {
  box = cut.box;
  is_box = cut.is_box;
  before = cut.before;
  is_cut = subst (λ frames. IsCutBelow along across scene setup cut.box frames at) (same cut.box cut.before) cut.is_cut;
}

side-same : (along across : LooseState → Loose) (scene : Scene) (setup : Setup) (frames_of others_of : ℕ → ℕ) (size : ℕ) (marks : List Bool)
    → ((number : ℕ) → number < length scene.layers → frames_of number ≡ others_of number)
    → AreMarks size (IsCutByBox along across scene setup frames_of) marks → AreMarks size (IsCutByBox along across scene setup others_of) marks
side-same along across scene setup frames_of others_of size marks same marked = record {
  each = λ at is. before-same along across scene setup frames_of others_of at same (marked.each at is);
  all = λ at some less cut. marked.all at some less
      (before-same along across scene setup others_of frames_of at (λ number known. sym (same number known)) cut);
}

pub marks-same : (scene : Scene) (setup : Setup) (frames_of others_of : ℕ → ℕ) (columns rows : List Bool)
    → ((number : ℕ) → number < length scene.layers → frames_of number ≡ others_of number)
    → AreOwnMarks scene setup frames_of columns rows → AreOwnMarks scene setup others_of columns rows
marks-same scene setup frames_of others_of columns rows same marked = record {
  columns_are = side-same left_of width_of scene setup frames_of others_of setup.width columns same marked.columns_are;
  rows_are = side-same top_of height_of scene setup frames_of others_of setup.height rows same marked.rows_are;
}

-- so many frames for each of at most so many layers
pub in-replicated : (scene : Scene) (n frames number : ℕ) → length scene.layers ≤ n → number < length scene.layers
    → frames_in (replicate n frames) number ≡ frames
in-replicated scene n frames number few known = get_or-replicate n number frames 0 (omega arith)

pub all-replicated : (scene : Scene) (n frames : ℕ) → length scene.layers ≤ n → 1 ≤ frames → HasFramesOfEach scene (replicate n frames)
all-replicated scene n frames few some = record {
  enough = omega (arith, length-replicate n frames);
  some = λ number known. subst (λ k. 1 ≤ k) (sym (in-replicated scene n frames number few known)) some;
}

-- what is cut at the places marked in the frames of each box
pub cut-into : (scene : Scene) (setup : Setup) (frames_of : ℕ → ℕ) (columns rows : List Bool) (edges : Edges) → IsValid scene
    → AreOwnMarks scene setup frames_of columns rows → AreListedBoth columns rows setup edges.xs edges.ys
    → IsCutInto scene setup frames_of edges
cut-into scene setup frames_of columns rows edges valid marked listed = record {
  cuts = cuts-own scene setup frames_of columns rows edges.xs edges.ys marked listed;
  sound = record { columns = listed.columns_are.sound; rows = listed.rows_are.sound };
  columns_within = λ i known. edge-limit setup.width (IsMarked columns) edges.xs i listed.columns_are.edges_are known;
  rows_within = λ i known. edge-limit setup.height (IsMarked rows) edges.ys i listed.rows_are.edges_are known;
  alike = λ frames run enough are. covers-alike scene setup frames_of columns rows edges.xs edges.ys frames run valid marked listed enough are;
}

-- the two ends of a side are sound edges
pub ends-sound : (size : ℕ) → 1 ≤ size → size ≤ 4096 → AreSound (0 ∷ (size ∷ []))
ends-sound size some limit = record {
  two = omega arith;
  few = omega arith;
  begin = refl;
  rise = rise;
  limit = limit;
} where
  rise : IsStrictlyIncreasing (0 ∷ (size ∷ []))
  rise zero within = some
  rise (suc k) within = absurd (omega arith)

-- so it is with each answer
pub cutting-marked : (scene : Scene) (setup : Setup) (frames : ℕ) (columns rows : List Bool) (told : Result Edges CutFault)
    → IsValid scene → AreOwnMarks scene setup (λ box. frames) columns rows → IsListedCutting columns rows setup frames told
    → IsCutting scene setup frames told
cutting-marked scene setup frames columns rows (Ok edges) valid marked cut =
    let listed = cut.listed in
    let cuts = cuts-own scene setup (λ box. frames) columns rows edges.xs edges.ys marked listed in
    let sound : AreSoundBoth edges.xs edges.ys = record { columns = listed.columns_are.sound; rows = listed.rows_are.sound } in
    record {
      cuts = cuts;
      sound = sound;
      alike = λ run are. covers-alike scene setup (λ box. frames) columns rows edges.xs edges.ys frames run valid marked listed
          (λ number layer there. all-enough scene setup layer frames) are;
      at_most_wide = cuts-wide scene setup frames columns rows edges.xs edges.ys valid marked listed;
      few_enough = cut.few_enough;
    }
cutting-marked scene setup frames columns rows (Err (Work cells)) valid marked work =
    let most = cuts-wide scene setup frames columns rows work.xs work.ys valid marked work.listed in
    let told = work.cells_are in
    record {
      xs = work.xs;
      ys = work.ys;
      cuts = cuts-own scene setup (λ box. frames) columns rows work.xs work.ys marked work.listed;
      cells_are = told;
      at_most_wide = rw told most;
      too_many = work.too_many;
    }
cutting-marked scene setup frames columns rows (Err NoMemory) valid marked none = tt
