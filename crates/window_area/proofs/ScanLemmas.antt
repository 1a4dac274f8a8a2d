-- A window that slides over a strip: what it holds at a place, and the most up to there.
use Rattle.std.proofs.Common.{ℕ, List, ◌≡◌, ◌+◌, ◌*◌, ◌<◌, ◌≤◌, ◌⊎◌, ◌∙◌, get_or, cond, arith, ap, sym, subst, refl}
use Rattle.std.specs.Prelude.{pos, nat_lt}
use Rattle.std.proofs.Math.Nat.{mul-le-mul_right}
use Rattle.window_area.specs.declared.strip.Most.{Most}
use Rattle.window_area.specs.declared.window.Window.{Window}
use Rattle.window_area.specs.Edges.{AreEdges, end_of}
use Rattle.window_area.specs.Sliding.{AreWeights, IsFirstMost, IsStride, IsWindow, band_weight, strip_area}
use Rattle.window_area.proofs.BandLemmas.{band_of-below}
use Rattle.window_area.proofs.HeldLemmas.{held-bounded, held-ended}
use Rattle.window_area.proofs.MostLemmas.{IsMostUpTo, most-ends, most-next}
use Rattle.window_area.proofs.SlideLemmas.{window-between, window-slides}

-- the window has come to a place, and the most up to there is known
pub record IsScan (edges weights : List ℕ) (size : ℕ) (window : Window) (held : ℕ) (most : Most) : Type 0 where
  pub window_is : IsWindow edges window
  pub size_is : window.size ≡ size
  pub held_is : held ≡ strip_area edges weights size window.place
  pub most_is : IsMostUpTo (strip_area edges weights size) window.place most

pub strip_area-bounded : (edges weights : List ℕ) (size place : ℕ) → AreEdges edges → AreWeights edges weights
    → strip_area edges weights size place ≤ 4096 * 4096
strip_area-bounded edges weights size place are weighted =
    let by_end = held-bounded size (end_of edges) 4096 (band_weight edges weights) (pos place)
    (λ p before. weighted.small _ (band_of-below edges p are before)) in
    let product = mul-le-mul_right 4096 are.limit in
    omega (arith, by_end, product)

pub strip_area-slides : (edges weights : List ℕ) (size : ℕ) (window : Window) (stride : ℕ) → window.size ≡ size
    → AreEdges edges → IsWindow edges window → IsStride edges window stride
    → strip_area edges weights size (window.place + stride) + stride * get_or weights window.first 0
    ≡ strip_area edges weights size window.place + stride * get_or weights window.next 0
strip_area-slides edges weights size window stride same are is can =
    subst (λ s. strip_area edges weights s (window.place + stride) + stride * get_or weights window.first 0
    ≡ strip_area edges weights s window.place + stride * get_or weights window.next 0) same
    (window-slides edges (λ band. get_or weights band 0) window stride are is can stride (omega arith))

strip_area-between : (edges weights : List ℕ) (size : ℕ) (window : Window) (stride : ℕ) → window.size ≡ size
    → AreEdges edges → IsWindow edges window → IsStride edges window stride → (t : ℕ) → t < stride
    → (strip_area edges weights size (window.place + t) ≤ strip_area edges weights size window.place)
    ⊎ (strip_area edges weights size (window.place + t) < strip_area edges weights size (window.place + stride))
strip_area-between edges weights size window stride same are is can t less =
    subst (λ s. (strip_area edges weights s (window.place + t) ≤ strip_area edges weights s window.place)
    ⊎ (strip_area edges weights s (window.place + t) < strip_area edges weights s (window.place + stride))) same
    (window-between edges (λ band. get_or weights band 0) window stride are is can t less)

pub scan-bounded : (edges weights : List ℕ) (size : ℕ) (window : Window) (held : ℕ) (most : Most) → AreEdges edges
    → AreWeights edges weights → IsScan edges weights size window held most → held ≤ 4096 * 4096
scan-bounded edges weights size window held most are weighted scan =
    omega (arith, scan.held_is, strip_area-bounded edges weights size window.place are weighted)

pub scan-loss : (edges weights : List ℕ) (size : ℕ) (window : Window) (held : ℕ) (most : Most) (stride : ℕ) → AreEdges edges
    → IsScan edges weights size window held most → IsStride edges window stride
    → stride * get_or weights window.first 0 ≤ held + stride * get_or weights window.next 0
scan-loss edges weights size window held most stride are scan can =
    omega (arith, scan.held_is, strip_area-slides edges weights size window stride scan.size_is are scan.window_is can)

-- a stride further on
pub scan-next : (edges weights : List ℕ) (size : ℕ) (window : Window) (held : ℕ) (most : Most) (stride : ℕ) (slid : Window)
    (after : ℕ) → AreEdges edges → IsScan edges weights size window held most → IsStride edges window stride
    → IsWindow edges slid → slid.place ≡ window.place + stride → slid.size ≡ window.size
    → after + stride * get_or weights window.first 0 ≡ held + stride * get_or weights window.next 0
    → IsScan edges weights size slid after (cond (nat_lt most.area after) (record { area = after; place = slid.place }) most)
scan-next edges weights size window held most stride slid after are scan can is there same balance =
    let slides = strip_area-slides edges weights size window stride scan.size_is are scan.window_is can in
    let after_is : after ≡ strip_area edges weights size (window.place + stride) = omega (arith, balance, slides, scan.held_is) in
    record {
      window_is = is;
      size_is = same ∙ scan.size_is;
      held_is = after_is ∙ ap (strip_area edges weights size) (sym there);
      most_is = rw there (most-next (strip_area edges weights size) window.place stride most (record { area = after; place = window.place + stride })
          scan.most_is refl (sym after_is) (strip_area-between edges weights size window stride scan.size_is are scan.window_is can));
    }

-- where the window holds the last place
pub scan-ends : (edges weights : List ℕ) (size : ℕ) (window : Window) (held : ℕ) (most : Most)
    → IsScan edges weights size window held most → end_of edges ≤ window.place + window.size
    → IsFirstMost (strip_area edges weights size) most
scan-ends edges weights size window held most scan ends =
    let reaches : end_of edges ≤ window.place + size = omega (arith, scan.size_is) in
    most-ends (strip_area edges weights size) window.place most scan.most_is
    (λ place after. held-ended size (end_of edges) (band_weight edges weights) window.place place reaches after)
