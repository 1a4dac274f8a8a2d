-- The first windows that are found, as one more is looked at.
use Rattle.std.proofs.Common.{◌≡◌, ℕ, ◌+◌, ◌≤◌, true, List, Option, arith, subst, sym, below_more}
use Rattle.std.specs.Prelude.{None, Some, MatchOption, is_some}
use Rattle.page_model.specs.declared.scene.Scene.{Scene}
use Rattle.page_model.specs.declared.setup.Setup.{Setup}
use Rattle.page_model.specs.declared.witness.BadWindow.{BadWindow}
use Rattle.flash_count.specs.declared.tracking.Flag.{Flag}
use Rattle.region_split.specs.Cutting.{Edges}
use Rattle.sweep.specs.declared.windows.Found.{Found}
use Rattle.sweep.specs.declared.windows.Sort.{Sort}
use Rattle.sweep.specs.declared.windows.Sort.TheVariants.{Possible, Sure}
use Rattle.sweep.specs.Swept.{AreFewBefore, AreFlagsIn, IsFew, IsFirstMany, IsFoundBefore, IsFoundIn}
use Rattle.sweep.specs.Told.{IsFinding, IsLookedAt}

-- before any window ended nothing is found
pub found-none : (sort : Sort) (scene : Scene) (setup : Setup) (edges : Edges) (end : ℕ) → end ≡ 0 → IsFoundBefore sort scene setup edges end None
found-none sort scene setup edges end none start before = absurd (omega (arith, none, before))

-- what was found stays found
later : (sort : Sort) (scene : Scene) (setup : Setup) (edges : Edges) (end more : ℕ) (window : BadWindow) → end ≤ more
    → IsFirstMany sort scene setup edges end window.start window.x window.y → IsFirstMany sort scene setup edges more window.start window.x window.y
later sort scene setup edges end more window within first =
    record { before = omega (arith, within, first.before); many = first.many; least = first.least }

-- a window more, in which nothing was found before
found-first : (sort : Sort) (scene : Scene) (setup : Setup) (edges : Edges) (start : ℕ) (flags : List Flag) (new : Option BadWindow)
    → AreFlagsIn scene setup edges start flags → AreFewBefore sort scene setup edges start → IsFinding sort edges flags start new
    → IsFoundBefore sort scene setup edges (start + 1) new
found-first sort scene setup edges start flags None are fews few =
    below_more (IsFew sort scene setup edges) start fews (record { flags = flags; are = are; few = few })
found-first sort scene setup edges start flags (Some window) are fews is = record {
  before = omega (arith, is.start_is);
  many = record { flags = flags; are = subst (λ n. AreFlagsIn scene setup edges n flags) (sym is.start_is) are; many = is.many };
  least = subst (AreFewBefore sort scene setup edges) (sym is.start_is) fews;
}

pub found-more : (sort : Sort) (scene : Scene) (setup : Setup) (edges : Edges) (start : ℕ) (flags : List Flag) (old new : Option BadWindow)
    → AreFlagsIn scene setup edges start flags → IsFoundBefore sort scene setup edges start old → IsLookedAt sort edges flags start old new
    → IsFoundBefore sort scene setup edges (start + 1) new
found-more sort scene setup edges start flags None new are fews looked = found-first sort scene setup edges start flags new are fews looked
found-more sort scene setup edges start flags (Some window) new are first looked =
    subst (IsFoundBefore sort scene setup edges (start + 1)) (sym looked) (later sort scene setup edges start (start + 1) window (omega arith) first)

-- where one with many sure flags was found, it is the first of more windows
sure-found : (scene : Scene) (setup : Setup) (edges : Edges) (end more : ℕ) (sure : Option BadWindow) (Else : Type 0) → end ≤ more → is_some sure ≡ true
    → IsFoundBefore Sure scene setup edges end sure
    → MatchOption sure Else (λ window. IsFirstMany Sure scene setup edges more window.start window.x window.y)
sure-found scene setup edges end more None Else within some found = absurd (cc)
sure-found scene setup edges end more (Some window) Else within some found = later Sure scene setup edges end more window within found

pub found-early : (scene : Scene) (setup : Setup) (edges : Edges) (end windows : ℕ) (found : Found) → end ≤ windows → is_some found.sure ≡ true
    → IsFoundBefore Sure scene setup edges end found.sure → IsFoundIn scene setup edges windows found
found-early scene setup edges end windows found within some sure =
    sure-found scene setup edges end windows found.sure _ within some sure

-- where all windows were looked at, either one was found or none is there
all-looked : (scene : Scene) (setup : Setup) (edges : Edges) (windows : ℕ) (sure : Option BadWindow) (Possibly : Type 0) → Possibly
    → IsFoundBefore Sure scene setup edges windows sure
    → MatchOption sure (AreFewBefore Sure scene setup edges windows × Possibly) (λ window. IsFirstMany Sure scene setup edges windows window.start window.x window.y)
all-looked scene setup edges windows None Possibly possible found = (found, possible)
all-looked scene setup edges windows (Some window) Possibly possible found = found

pub found-all : (scene : Scene) (setup : Setup) (edges : Edges) (end windows : ℕ) (found : Found) → end ≡ windows
    → IsFoundBefore Sure scene setup edges end found.sure → IsFoundBefore Possible scene setup edges end found.possible
    → IsFoundIn scene setup edges windows found
found-all scene setup edges end windows found all sure possible =
    all-looked scene setup edges windows found.sure (IsFoundBefore Possible scene setup edges windows found.possible)
    (subst (λ n. IsFoundBefore Possible scene setup edges n found.possible) all possible)
    (subst (λ n. IsFoundBefore Sure scene setup edges n found.sure) all sure)
