-- One cell more.
use Rattle.std.proofs.Common.{ℕ, pos, ◌≡◌, ◌∙◌, ◌+◌, ◌-◌, ◌<◌, ◌≤◌, ◌++◌, ◌∷◌, [], List, length, get_or, arith, inl, inr, refl, subst, sym, length-append}
use Rattle.std.specs.Prelude.{Some, slice_get, slice_index}
use Rattle.std.proofs.lemmas.Bool.{cases_lt}
use Rattle.std.proofs.Math.ListN.{get_or-append}
use Rattle.std.proofs.Math.Seq.{get_or-append_seam}
use Rattle.std.proofs.lemmas.List.Elements.{All-get_or}
use Rattle.std.proofs.lemmas.Option.{slice_get-get_or, slice_get_within}
use Rattle.page_model.specs.declared.scene.Scene.{Scene}
use Rattle.page_model.specs.declared.setup.Setup.{Setup}
use Rattle.frame_state.specs.Places.{LoosePlace, place_in}
use Rattle.region_split.specs.Cutting.{Edges, cell_of}
use Rattle.cell_groups.specs.declared.homes.Home.{Home}
use Rattle.cell_groups.specs.declared.homes.Home.TheVariants.{Fixed, Within}
use Rattle.cell_groups.specs.Adding.{AddsCell, IsNeighbour}
use Rattle.cell_groups.specs.Groups.{AreCoveredAlike, AreGroupsBefore, Grouping, LookAlike, first_of, group_of}
use Rattle.cell_groups.specs.Homes.{AreHomes, IsAtHome, TellAlike, TellsAlike, place_covers}

-- what a home tells of a box that is at home
home-alike : (place : LoosePlace) (home : Home) (column row other_column other_row : ℕ) → IsAtHome place home
    → TellsAlike home column row other_column other_row → place_covers place column row ≡ place_covers place other_column other_row
home-alike place (Fixed across down) column row other_column other_row at told =
    at column row ∙ told ∙ sym (at other_column other_row)
home-alike place (Within area) column row other_column other_row at told =
    at column row told.0 ∙ sym (at other_column other_row told.1)

-- so what all homes tell is so of all boxes
pub told-alike : (scene : Scene) (setup : Setup) (frames : ℕ) (homes : List Home) (column row other_column other_row : ℕ)
    → AreHomes scene setup frames homes → TellAlike homes column row other_column other_row
    → AreCoveredAlike scene setup frames column row other_column other_row
told-alike scene setup frames homes column row other_column other_row are told number layer some there frame state before is =
    let n : ℕ = number - 1 in
    let next : n + 1 ≡ number = omega (arith, some) in
    let known : number < length scene.layers = slice_get_within scene.layers number layer there in
    let within : n < length homes = omega (arith, are.one_each, known, some) in
    let home : Home = get_or homes n (Within (record { left = pos 0; right = pos 0; top = pos 0; bottom = pos 0 })) in
    home-alike (place_in state) home column row other_column other_row
    (are.each n layer home (subst (λ k. slice_get scene.layers k ≡ Some layer) (sym next) there) (slice_get-get_or homes n _ within)
    frame state before is)
    (All-get_or (λ h. TellsAlike h column row other_column other_row) homes n _ within told)

alike-same : (scene : Scene) (setup : Setup) (frames : ℕ) (edges : Edges) (cell : ℕ) → LookAlike scene setup frames edges cell cell
alike-same scene setup frames edges cell number layer some there frame state before is = refl

alike-both : (scene : Scene) (setup : Setup) (frames : ℕ) (edges : Edges) (one other third : ℕ) → LookAlike scene setup frames edges one other
    → LookAlike scene setup frames edges other third → LookAlike scene setup frames edges one third
alike-both scene setup frames edges one other third first second number layer some there frame state before is =
    first number layer some there frame state before is ∙ second number layer some there frame state before is

-- the places of a list that is one longer
front : (xs : List ℕ) (x i : ℕ) → i < length xs → slice_index (xs ++ x ∷ []) i ≡ slice_index xs i
front xs x i within = get_or-append xs (x ∷ []) 0 i within

last : (xs : List ℕ) (x i : ℕ) → length xs ≡ i → slice_index (xs ++ x ∷ []) i ≡ x
last xs x i is = subst (λ n. slice_index (xs ++ x ∷ []) n ≡ x) is (get_or-append_seam xs x [] 0)

-- the groups of the cells before a number stay, and the next cell is in one that is known
record Adds (scene : Scene) (setup : Setup) (frames : ℕ) (edges : Edges) (cell group : ℕ) (old firsts : List ℕ) : Type 0 where
  pub more : length old ≤ length firsts
  pub few : length firsts ≤ cell + 1
  pub kept : (k : ℕ) → k < length old → slice_index firsts k ≡ slice_index old k
  pub before : (k : ℕ) → k < length firsts → slice_index firsts k < cell + 1
  pub known : group < length firsts
  pub alike : LookAlike scene setup frames edges cell (slice_index firsts group)

adds-one : (scene : Scene) (setup : Setup) (frames : ℕ) (edges : Edges) (cell group : ℕ) (old : Grouping) (firsts : List ℕ)
    → AreGroupsBefore scene setup frames edges cell old → Adds scene setup frames edges cell group old.firsts firsts
    → AreGroupsBefore scene setup frames edges (cell + 1) (record { of = old.of ++ group ∷ []; firsts = firsts })
adds-one scene setup frames edges cell group old firsts before adds =
    let same : (c : ℕ) → c < cell → slice_index (old.of ++ group ∷ []) c ≡ group_of old c =
    λ c early. front old.of group c (omega (arith, before.all, early)) in
    let new : slice_index (old.of ++ group ∷ []) cell ≡ group = last old.of group cell before.all in
    record {
      all = omega (arith, length-append old.of (group ∷ []), before.all);
      few = adds.few;
      known = λ c below. elim (cases_lt c cell) [
        | inl early ↦ let was = before.known c early in let is = same c early in let more = adds.more in omega (arith, was, is, more)
        | inr late ↦ let is : c ≡ cell = omega (arith, below, late) in rw (is, new) adds.known
      ];
      firsts_known = adds.before;
      alike = λ c below. elim (cases_lt c cell) [
        | inl early ↦ rw (same c early, adds.kept (group_of old c) (before.known c early)) (before.alike c early)
        | inr late ↦ let is : c ≡ cell = omega (arith, below, late) in rw (is, new) adds.alike
      ];
    }

joins : (scene : Scene) (setup : Setup) (frames : ℕ) (edges : Edges) (homes : List Home) (cell neighbour : ℕ) (old : Grouping)
    → AreHomes scene setup frames homes → AreGroupsBefore scene setup frames edges cell old → IsNeighbour homes edges cell neighbour
    → Adds scene setup frames edges cell (group_of old neighbour) old.firsts old.firsts
joins scene setup frames edges homes cell neighbour old are before is = record {
  more = omega arith;
  few = omega (arith, before.few);
  kept = λ k within. refl;
  before = λ k within. let known = before.firsts_known k within in omega (arith, known);
  known = before.known neighbour is.before;
  alike = alike-both scene setup frames edges cell neighbour (first_of old (group_of old neighbour))
      (told-alike scene setup frames homes (cell_of edges.xs edges.ys cell).x (cell_of edges.xs edges.ys cell).y
      (cell_of edges.xs edges.ys neighbour).x (cell_of edges.xs edges.ys neighbour).y are is.alike)
      (before.alike neighbour is.before);
}

begins : (scene : Scene) (setup : Setup) (frames : ℕ) (edges : Edges) (cell : ℕ) (old : Grouping)
    → AreGroupsBefore scene setup frames edges cell old
    → Adds scene setup frames edges cell (length old.firsts) old.firsts (old.firsts ++ cell ∷ [])
begins scene setup frames edges cell old before =
    let long : length (old.firsts ++ cell ∷ []) ≡ length old.firsts + 1 = length-append old.firsts (cell ∷ []) in
    let new : slice_index (old.firsts ++ cell ∷ []) (length old.firsts) ≡ cell = last old.firsts cell (length old.firsts) refl in
    record {
      more = omega (arith, long);
      few = omega (arith, long, before.few);
      kept = λ k within. front old.firsts cell k within;
      before = λ k within. elim (cases_lt k (length old.firsts)) [
        | inl early ↦ let was = before.firsts_known k early in let is = front old.firsts cell k early in omega (arith, was, is)
        | inr late ↦
            let is : k ≡ length old.firsts = omega (arith, within, late, long) in
            rw (is, new) (omega arith)
      ];
      known = omega (arith, long);
      alike = rw new (alike-same scene setup frames edges cell);
    }

pub groups-more : (scene : Scene) (setup : Setup) (frames : ℕ) (edges : Edges) (homes : List Home) (cell : ℕ) (old new : Grouping)
    → AreHomes scene setup frames homes → AreGroupsBefore scene setup frames edges cell old → AddsCell homes edges cell old new
    → AreGroupsBefore scene setup frames edges (cell + 1) new
groups-more scene setup frames edges homes cell old new are before adds =
    elim adds [
      | inl one ↦
          let same : new ≡ record { of = old.of ++ group_of old one.neighbour ∷ []; firsts = old.firsts } =
          λ i. record { of = one.group i; firsts = one.firsts i } in
          rw same (adds-one scene setup frames edges cell (group_of old one.neighbour) old old.firsts before
          (joins scene setup frames edges homes cell one.neighbour old are before one.is))
      | inr one ↦
          let same : new ≡ record { of = old.of ++ length old.firsts ∷ []; firsts = old.firsts ++ cell ∷ [] } =
          λ i. record { of = one.group i; firsts = one.firsts i } in
          rw same (adds-one scene setup frames edges cell (length old.firsts) old (old.firsts ++ cell ∷ []) before
          (begins scene setup frames edges cell old before))
    ]
