-- One frame more is seen of all cells.
use Rattle.std.proofs.Common.{◌≡◌, ◌∙◌, ℕ, ◌+◌, ◌-◌, ◌<◌, Bool, false, List, [], ◌∷◌, ◌++◌, length, get_or, slice_get, take, ap, arith, inl, inr, refl, subst, sym, length-append}
use Rattle.std.specs.Prelude.{None, Some}
use Rattle.std.proofs.Math.Seq.{take-append_seam}
use Rattle.std.proofs.lemmas.Bool.{cases_lt}
use Rattle.std.proofs.lemmas.Option.{slice_get-get_or, slice_get_within}
use Rattle.page_model.specs.declared.colour.Tint.{Tint}
use Rattle.page_model.specs.declared.scene.Scene.{Scene}
use Rattle.page_model.specs.declared.setup.Setup.{Setup}
use Rattle.page_model.specs.Time.{window_of}
use Rattle.page_model.specs.ValidScene.{IsValid}
use Rattle.cell_flags.specs.Flags.{AreSeenAs, IsFlagOf}
use Rattle.cell_flags.proofs.FlagLemmas.{flag-seen}
use Rattle.cell_groups.specs.Groups.{Grouping, first_of, group_of}
use Rattle.cell_rows.specs.CellRows.{ArePushed, AreRoomy, IsPushed, OnlyRows}
use Rattle.cell_tints.specs.Tints.{AreTintsIn, IsOwnTint, cells_of}
use Rattle.cell_tints.proofs.ListLemmas.{slice_get-back, slice_get-front}
use Rattle.flash_count.specs.declared.tracking.Flag.{Flag}
use Rattle.region_split.specs.declared.types.Rect.{Rect}
use Rattle.region_split.specs.Cutting.{Edges, cell_of}
use Rattle.row_pool.specs.Pools.{row_of}
use Rattle.row_pool.specs.Rows.{Rows}
use Rattle.sweep.specs.declared.windows.Found.{Found}
use Rattle.sweep.specs.declared.windows.Sort.TheVariants.{Possible, Sure}
use Rattle.sweep.specs.Swept.{AreAlikeAt, AreAllBegun, AreFlagsIn, HasSeen, IsFoundBefore, IsSwept, groups_in}
use Rattle.sweep.specs.Told.{IsLookedAt, spread, unflagged}
use Rattle.sweep.proofs.FoundLemmas.{found-more, found-none}
use Rattle.sweep.proofs.GroupLemmas.{seen-moved, spread-at}

-- the tints of the next frame were pushed, of each group, and told their flags
pub record IsStepped (scene : Scene) (setup : Setup) (edges : Edges) (groups : Grouping) (frame : ℕ) (old new : Rows) (tints : List Tint)
    (flags : List Flag) : Type 0 where
  pub valid : IsValid scene
  pub alike : AreAlikeAt scene setup edges groups frame
  pub all : length tints ≡ groups_in groups
  pub are : AreTintsIn scene setup edges frame groups.firsts (groups_in groups) tints
  pub pushed : ArePushed (window_of setup) frame tints (groups_in groups) old new flags
  pub only : OnlyRows (groups_in groups) old new

-- so they are by what the calls of a step tell
pub stepped : (scene : Scene) (setup : Setup) (edges : Edges) (groups : Grouping) (frame rate : ℕ) (old new : Rows) (written tints : List Tint)
    (flags : List Flag) → IsValid scene → AreAlikeAt scene setup edges groups frame
    → AreTintsIn scene setup edges frame groups.firsts (groups_in groups) written → written ≡ tints
    → length tints ≡ groups_in groups → rate ≡ window_of setup → ArePushed rate frame tints (length tints) old new flags
    → OnlyRows (length tints) old new → IsStepped scene setup edges groups frame old new tints flags
stepped scene setup edges groups frame rate old new written tints flags valid alike are same all rate_is pushed only = record {
  valid = valid;
  alike = alike;
  all = all;
  are = subst (AreTintsIn scene setup edges frame groups.firsts (groups_in groups)) same are;
  pushed = subst (λ r. ArePushed r frame tints (groups_in groups) old new flags) rate_is (subst (λ n. ArePushed rate frame tints n old new flags) all pushed);
  only = subst (λ n. OnlyRows n old new) all only;
}

abbrev no_tint : Tint
no_tint = record { lo = record { r = 0; g = 0; b = 0 }; hi = record { r = 0; g = 0; b = 0 } }

-- a list that is written over whole is what was written
pub written-back : {A : Type 0} (count : ℕ) (written rest : List A) → length written ≡ count → take count (written ++ rest) ≡ written
written-back count written rest all = subst (λ n. take n (written ++ rest) ≡ written) all (take-append_seam written rest)

-- before any frame
pub swept-none : (scene : Scene) (setup : Setup) (edges : Edges) (groups : Grouping) (pool : Rows) → AreRoomy (window_of setup) (groups_in groups) pool
    → AreAllBegun (window_of setup) (groups_in groups) pool → IsSwept scene setup edges groups 0 pool (record { sure = None; possible = None })
swept-none scene setup edges groups pool roomy begun = record {
  roomy = roomy;
  seen = λ group known. record {
    tints = [];
    long = refl;
    are = λ frame tint there. absurd (cc);
    stands = begun group known;
  };
  sure = found-none Sure scene setup edges (0 - window_of setup) (omega arith);
  possible = found-none Possible scene setup edges (0 - window_of setup) (omega arith);
}

-- what was seen, and the tint of the next frame
seen-next : (scene : Scene) (setup : Setup) (rect : Rect) (frames : ℕ) (tints : List Tint) (tint : Tint) → length tints ≡ frames
    → AreSeenAs scene setup rect tints → IsOwnTint scene setup frames rect.x rect.y tint → AreSeenAs scene setup rect (tints ++ tint ∷ [])
seen-next scene setup rect frames tints tint long are own frame other e =
    elim (cases_lt frame (length tints)) [
      | inl before ↦ are frame other (sym (slice_get-front tints (tint ∷ []) frame before) ∙ e)
      | inr after ↦
          let there : frame < length (tints ++ tint ∷ []) = slice_get_within (tints ++ tint ∷ []) frame other e in
          let last : frame ≡ length tints + 0 = omega (arith, length-append tints (tint ∷ []), there, after) in
          let here : slice_get (tint ∷ []) 0 ≡ Some other =
          sym (slice_get-back tints (tint ∷ []) 0) ∙ ap (λ n. slice_get (tints ++ tint ∷ []) n) (sym last) ∙ e in
          let same : tint ≡ other = cc in
          let at : frames ≡ frame = omega (arith, last, long) in
          subst (λ (t : Tint). IsOwnTint scene setup frame rect.x rect.y t) same
          (subst (λ n. IsOwnTint scene setup n rect.x rect.y tint) at own)
    ]

-- the rectangle of a group's first cell
abbrev first_rect : Edges → Grouping → ℕ → Rect
first_rect edges groups group = cell_of edges.xs edges.ys (first_of groups group)

-- the tint and the flag of a group
tint-of : (scene : Scene) (setup : Setup) (edges : Edges) (groups : Grouping) (frame : ℕ) (old new : Rows) (tints : List Tint) (flags : List Flag) (group : ℕ)
    → IsStepped scene setup edges groups frame old new tints flags → group < groups_in groups
    → IsOwnTint scene setup frame (first_rect edges groups group).x (first_rect edges groups group).y (get_or tints group no_tint)
tint-of scene setup edges groups frame old new tints flags group is known =
    is.are group (get_or tints group no_tint) known (slice_get-get_or tints group no_tint (omega (arith, known, is.all)))

pushed-of : (scene : Scene) (setup : Setup) (edges : Edges) (groups : Grouping) (frame : ℕ) (old new : Rows) (tints : List Tint) (flags : List Flag) (group : ℕ)
    → IsStepped scene setup edges groups frame old new tints flags → group < groups_in groups
    → IsPushed (window_of setup) frame (get_or tints group no_tint) (row_of old group) (row_of new group) (get_or flags group unflagged)
pushed-of scene setup edges groups frame old new tints flags group is known = is.pushed group no_tint unflagged known

seen-more : (scene : Scene) (setup : Setup) (edges : Edges) (groups : Grouping) (frame : ℕ) (old new : Rows) (tints : List Tint) (flags : List Flag) (group : ℕ)
    → IsStepped scene setup edges groups frame old new tints flags → group < groups_in groups
    → HasSeen scene setup (first_rect edges groups group) frame (row_of old group)
    → HasSeen scene setup (first_rect edges groups group) (frame + 1) (row_of new group)
seen-more scene setup edges groups frame old new tints flags group is known seen =
    let tint : Tint = get_or tints group no_tint in record {
      tints = seen.tints ++ tint ∷ [];
      long = omega (arith, length-append seen.tints (tint ∷ []), seen.long);
      are = seen-next scene setup (first_rect edges groups group) frame seen.tints tint seen.long seen.are
          (tint-of scene setup edges groups frame old new tints flags group is known);
      stands = (pushed-of scene setup edges groups frame old new tints flags group is known).stands seen.tints seen.long seen.stands;
    }

-- the flag that was told of a cell's group is the cell's, in the window that ends with the frame
flag-more : (scene : Scene) (setup : Setup) (edges : Edges) (groups : Grouping) (frame start : ℕ) (old new : Rows) (tints : List Tint) (flags : List Flag) (cell : ℕ)
    → IsStepped scene setup edges groups frame old new tints flags → cell < cells_of edges → frame ≡ start + window_of setup
    → HasSeen scene setup (first_rect edges groups (group_of groups cell)) frame (row_of old (group_of groups cell))
    → IsFlagOf scene setup start (cell_of edges.xs edges.ys cell) (get_or (spread groups flags) cell unflagged)
flag-more scene setup edges groups frame start old new tints flags cell is known ends seen =
    let grouped = is.alike.groups_are in
    let group : ℕ = group_of groups cell in
    let there : group < groups_in groups = grouped.known cell known in
    let tint : Tint = get_or tints group no_tint in
    let list : List Tint = seen.tints ++ tint ∷ [] in
    let long : length list ≡ start + window_of setup + 1 = omega (arith, length-append seen.tints (tint ∷ []), seen.long, ends) in
    let before = is.alike.before in
    let flag = flag-seen scene setup is.alike.frames edges cell start list (get_or flags group unflagged) is.valid is.alike.cells known
    (omega (arith, before, ends)) long
    (seen-moved scene setup is.alike.frames edges groups cell list is.valid grouped known (omega (arith, long, before, ends))
    (seen-next scene setup (first_rect edges groups group) frame seen.tints tint seen.long seen.are
    (tint-of scene setup edges groups frame old new tints flags group is there)))
    ((pushed-of scene setup edges groups frame old new tints flags group is there).flag_is seen.tints seen.long seen.stands) in
    rw (spread-at groups flags cell (omega (arith, grouped.all, known))) flag

roomy-more : (scene : Scene) (setup : Setup) (edges : Edges) (groups : Grouping) (frame : ℕ) (old new : Rows) (tints : List Tint) (flags : List Flag)
    → IsStepped scene setup edges groups frame old new tints flags → AreRoomy (window_of setup) (groups_in groups) old
    → AreRoomy (window_of setup) (groups_in groups) new
roomy-more scene setup edges groups frame old new tints flags is roomy number known =
    let before = roomy number known in (
      subst (λ (free : List Bool). get_or free number Bool.true ≡ false) (sym is.only.free) before.0,
      (let long = (pushed-of scene setup edges groups frame old new tints flags number is known).long in omega (arith, long, before.1)),
    )

-- no window has ended yet
pub swept-early : (scene : Scene) (setup : Setup) (edges : Edges) (groups : Grouping) (frame : ℕ) (old new : Rows) (tints : List Tint) (flags : List Flag) (found : Found)
    → IsStepped scene setup edges groups frame old new tints flags → IsSwept scene setup edges groups frame old found → frame < window_of setup
    → IsSwept scene setup edges groups (frame + 1) new found
swept-early scene setup edges groups frame old new tints flags found is swept early =
    let none : frame - window_of setup ≡ frame + 1 - window_of setup = omega (arith, early) in record {
      roomy = roomy-more scene setup edges groups frame old new tints flags is swept.roomy;
      seen = λ group known. seen-more scene setup edges groups frame old new tints flags group is known (swept.seen group known);
      sure = subst (λ n. IsFoundBefore Sure scene setup edges n found.sure) none swept.sure;
      possible = subst (λ n. IsFoundBefore Possible scene setup edges n found.possible) none swept.possible;
    }

-- one more has
pub swept-more : (scene : Scene) (setup : Setup) (edges : Edges) (groups : Grouping) (frame start : ℕ) (old new : Rows) (tints : List Tint) (flags : List Flag)
    (found next : Found) → IsStepped scene setup edges groups frame old new tints flags → IsSwept scene setup edges groups frame old found
    → frame ≡ start + window_of setup → IsLookedAt Sure edges (spread groups flags) start found.sure next.sure
    → IsLookedAt Possible edges (spread groups flags) start found.possible next.possible
    → IsSwept scene setup edges groups (frame + 1) new next
swept-more scene setup edges groups frame start old new tints flags found next is swept ends sure possible =
    let before : frame - window_of setup ≡ start = omega (arith, ends) in
    let after : start + 1 ≡ frame + 1 - window_of setup = omega (arith, ends) in
    let grouped = is.alike.groups_are in
    let flags_are : AreFlagsIn scene setup edges start (spread groups flags) =
    λ cell known. flag-more scene setup edges groups frame start old new tints flags cell is known ends
    (swept.seen (group_of groups cell) (grouped.known cell known)) in record {
      roomy = roomy-more scene setup edges groups frame old new tints flags is swept.roomy;
      seen = λ group known. seen-more scene setup edges groups frame old new tints flags group is known (swept.seen group known);
      sure = subst (λ n. IsFoundBefore Sure scene setup edges n next.sure) after
          (found-more Sure scene setup edges start (spread groups flags) found.sure next.sure flags_are
          (subst (λ n. IsFoundBefore Sure scene setup edges n found.sure) before swept.sure) sure);
      possible = subst (λ n. IsFoundBefore Possible scene setup edges n next.possible) after
          (found-more Possible scene setup edges start (spread groups flags) found.possible next.possible flags_are
          (subst (λ n. IsFoundBefore Possible scene setup edges n found.possible) before swept.possible) possible);
    }
