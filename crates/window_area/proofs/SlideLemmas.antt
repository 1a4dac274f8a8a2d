-- What a window holds over one stride, where the weight of a place is that of its band.
use Rattle.std.proofs.Common.{ℕ, ◌≡◌, ◌+◌, ◌*◌, ◌<◌, ◌≤◌, ◌⊎◌, get_or, length, List, ap, arith}
use Rattle.std.specs.Prelude.{pos}
use Rattle.std.proofs.lemmas.Bool.{lt-ltb}
use Rattle.window_area.specs.declared.window.Window.{Window}
use Rattle.window_area.specs.Edges.{AreEdges, band_of, end_of}
use Rattle.window_area.specs.Sliding.{IsStride, IsWindow, held}
use Rattle.window_area.proofs.BandLemmas.{band_of-between, edge-le-end}
use Rattle.window_area.proofs.HeldLemmas.{held-slid, no_more_within, slid-by, within}

-- the weight of a place is that of its band
abbrev pub banded : List ℕ → (ℕ → ℕ) → ℕ → ℕ
banded edges value place = value (band_of edges place)

within-banded : (edges : List ℕ) (value : ℕ → ℕ) (place band : ℕ) → AreEdges edges → band + 1 < length edges
    → get_or edges band 0 ≤ place → place < get_or edges (band + 1) 0
    → within (end_of edges) (banded edges value) place ≡ value band
within-banded edges value place band are inside from before =
    let at_end = edge-le-end edges (band + 1) are inside in
    rw (lt-ltb place (end_of edges) (omega arith)) (ap value (band_of-between edges place band are inside from before))

-- over a stride the weight behind the end is gained for each place, and that at the start is lost
pub window-slides : (edges : List ℕ) (value : ℕ → ℕ) (window : Window) (stride : ℕ) → AreEdges edges
    → IsWindow edges window → IsStride edges window stride → (t : ℕ) → t ≤ stride
    → held window.size (end_of edges) (banded edges value) (pos (window.place + t)) + t * value window.first
    ≡ held window.size (end_of edges) (banded edges value) (pos window.place) + t * value window.next
window-slides edges value window stride are is can t fits =
    slid-by (λ x. held window.size (end_of edges) (banded edges value) (pos x)) window.place (value window.next) (value window.first) stride
    one t fits where
      one : (t : ℕ) → t < stride
          → held window.size (end_of edges) (banded edges value) (pos (window.place + t + 1)) + value window.first
          ≡ held window.size (end_of edges) (banded edges value) (pos (window.place + t)) + value window.next
      one t less =
          let lost = within-banded edges value (window.place + t) window.first are is.inside (omega (arith, is.first.from)) (omega (arith, can.first)) in
          let gained = within-banded edges value (window.place + t + window.size) window.next are can.inside (omega (arith, is.next.from)) (omega (arith, can.next)) in
          omega (arith, lost, gained, held-slid window.size (end_of edges) (banded edges value) (window.place + t) is.some)

-- within a stride there is no more than at its start, or less than at its end
pub window-between : (edges : List ℕ) (value : ℕ → ℕ) (window : Window) (stride : ℕ) → AreEdges edges
    → IsWindow edges window → IsStride edges window stride → (t : ℕ) → t < stride
    → (held window.size (end_of edges) (banded edges value) (pos (window.place + t))
    ≤ held window.size (end_of edges) (banded edges value) (pos window.place))
    ⊎ (held window.size (end_of edges) (banded edges value) (pos (window.place + t))
    < held window.size (end_of edges) (banded edges value) (pos (window.place + stride)))
window-between edges value window stride are is can t less =
    no_more_within (held window.size (end_of edges) (banded edges value) (pos (window.place + t)))
    (held window.size (end_of edges) (banded edges value) (pos window.place))
    (held window.size (end_of edges) (banded edges value) (pos (window.place + stride))) t stride (value window.next) (value window.first)
    (window-slides edges value window stride are is can t (omega arith))
    (window-slides edges value window stride are is can stride (omega arith)) less

-- a window begins before the end
pub window-place : (edges : List ℕ) (window : Window) → AreEdges edges → IsWindow edges window → window.place < end_of edges
window-place edges window are is =
    let at_end = edge-le-end edges (window.first + 1) are is.inside in
    let before = is.first.before is.inside in
    omega arith

-- a stride ends before the end
pub stride-place : (edges : List ℕ) (window : Window) (stride : ℕ) → AreEdges edges → IsWindow edges window
    → IsStride edges window stride → window.place + stride ≤ end_of edges
stride-place edges window stride are is can =
    let at_end = edge-le-end edges (window.first + 1) are is.inside in omega (arith, at_end, can.first)
