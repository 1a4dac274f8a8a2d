-- No number is below itself, and a moment has come at its own time.
use Rattle.std.proofs.Common.{◌≡◌, ℕ, true, false, subst, sym, inl, inr, arith}
use Rattle.std.specs.Prelude.{ℤ, int_lt, int_le}
use Rattle.std.proofs.lemmas.Bool.{cases_Bool}
use Rattle.std.proofs.lemmas.Int.{ints}
use Rattle.page_model.specs.declared.setup.Setup.{Setup}
use Rattle.page_model.specs.declared.animation.Anim.{Anim}
use Rattle.page_model.specs.Progress.{before, active, finite, has_come, active_from, after_from, local_time_of, phase_of}
use Rattle.time_values.proofs.phase_laws.phase_boundaries.Goals as goal

not_below : (z : ℤ) → int_lt z z ≡ false
not_below z = grind (arith, ints)

at_itself : (z : ℤ) → int_le z z ≡ true
at_itself z = grind (arith, ints)

start : (setup : Setup) (anim : Anim) (frame : ℕ) → local_time_of setup anim frame ≡ active_from setup anim → phase_of setup anim frame ≡ before → ⊥
start setup anim frame e p =
    let l : int_lt (local_time_of setup anim frame) (active_from setup anim) ≡ false =
    subst (λ z. int_lt (local_time_of setup anim frame) z ≡ false) e (not_below (local_time_of setup anim frame)) in
    let q = rw l at p in
    elim (cases_Bool (has_come (local_time_of setup anim frame) (after_from setup anim))) [
      | inl h ↦ let r = rw h at q in cc
      | inr h ↦ let r = rw h at q in cc
    ]

end : (setup : Setup) (anim : Anim) (frame : ℕ) → after_from setup anim ≡ finite (local_time_of setup anim frame) → phase_of setup anim frame ≡ active → ⊥
end setup anim frame e p =
    let h : has_come (local_time_of setup anim frame) (after_from setup anim) ≡ true =
    subst (λ x. has_come (local_time_of setup anim frame) x ≡ true) (sym e) (at_itself (local_time_of setup anim frame)) in
    elim (cases_Bool (int_lt (local_time_of setup anim frame) (active_from setup anim))) [
      | inl l ↦ let q = rw l at p in cc
      | inr l ↦ let q = rw (l, h) at p in cc
    ]

pub returns : goal.returns
returns c = record { start = start; end = end }
