-- Chains in a list of tints, and the first of them.
use Rattle.std.specs.Prelude.{ℕ, ◌≡◌, List}
use Rattle.page_model.specs.declared.colour.Tint.{Tint}
use Rattle.page_model.specs.declared.witness.Kind.TheVariants.{General, Red}
use Rattle.page_model.specs.Flash.{IsNoLater}
pub use Rattle.tint_changes.specs.Chains.{HasChainOf, HasPossibleChain, HasSureChain, HasSureChainOf, IsChainOf, IsChangeAt, IsSureChainOf}
use Rattle.flash_count.specs.declared.tracing.Trace.{Trace}

-- the trace tells a chain of sure changes, of red only where there is none of luminance, and the first of its kind by the places
-- from the front
pub record IsFirstTrace (tints : List Tint) (trace : Trace) : Type 0 where
  pub general_first : trace.kind ≡ Red → HasSureChainOf General tints → ⊥
  pub chain : IsSureChainOf trace.kind tints trace.places
  pub first : (places : List ℕ) → IsSureChainOf trace.kind tints places → IsNoLater trace.places places
