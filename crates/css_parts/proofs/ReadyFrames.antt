-- Keyframe sets that are made of good blocks are good.
use Rattle.std.proofs.Common.{◌≡◌, ℕ, ◌<◌, ◌≤◌, Bool, true, false, cond, nat_lt, List, [], ◌∷◌, Option, Some, None, refl, arith}
use Rattle.std.specs.Prelude.{◌==◌, not, filter, IfSome}
use Rattle.std.specs.List.{AllByRecursion as Each}
use Rattle.std.specs.Ordering.{match_ordering, nat_cmp}
use Rattle.std.specs.declared.cmp.Ordering.{Ordering}
use Rattle.std.specs.declared.cmp.Ordering.TheVariants.{Less, Equal, Greater}
use Rattle.std.proofs.lemmas.Bool.{ltb-true, ltb-false}
use Rattle.std.proofs.lemmas.Bool.Decides.{nat_tests}
use Rattle.std.proofs.lemmas.List.Elements.{All-from_recursion, recursion_from_All}
use Rattle.page_model.specs.declared.easing.Easing.{Easing}
use Rattle.page_model.specs.declared.keyframe.Keyframe.{Keyframe}
use Rattle.page_model.specs.declared.property.Setting.{Setting}
use Rattle.page_model.specs.declared.rule.Decl.{Decl}
use Rattle.page_model.specs.declared.rule.Longhand.{Longhand}
use Rattle.page_model.specs.declared.rule.Longhand.TheVariants.{Left, Top, Width, Height, Colour, Opacity, Visibility, Easings}
use Rattle.page_model.specs.Keyframes.{is_same}
use Rattle.page_model.specs.ValidScene.{IsEasing, IsKeyframe, IsSet, IsValueOf}
use Rattle.css_values.specs.ValidValues.{IsLonghand}
use Rattle.css_declarations.specs.ReadyDecls.{IsReadyDecl}
use Rattle.css_declarations.proofs.PairLemmas.{Pairs, each_append, each_as, each_at, pairs_append, pairs_at}
use Rattle.css_parts.specs.KeyframeGrammar.{FrameBlock, easing_behind, easing_in, frame_of, frames_behind, set_of, setting_in, settings_behind, with_any, with_frame, with_frames, with_setting}
use Rattle.css_parts.proofs.FrameLemmas.{nat_equal}

-- settings
abbrev IsGood : Setting → Type 0
IsGood setting = IsValueOf setting.prop setting.value

abbrev Apart : Setting → Setting → Type 0
Apart first second = is_same first.prop second.prop ≡ false

each_kept : {A : Type 0} (P : A → Type 0) (p : A → Bool) (xs : List A) → Each P xs → Each P (filter p xs)
each_kept P p [] each = tt
each_kept P p (x ∷ xs) each = test (p x) (each_kept P p xs each.1) where
  test : (b : Bool) → Each P (filter p xs) → Each P (cond b (x ∷ filter p xs) (filter p xs))
  test true inner = (each.0, inner)
  test false inner = inner

each_passes : {A : Type 0} (p : A → Bool) (xs : List A) → Each (λ x. p x ≡ true) (filter p xs)
each_passes p [] = tt
each_passes p (x ∷ xs) = test (p x) refl (each_passes p xs) where
  test : (b : Bool) → p x ≡ b → Each (λ y. p y ≡ true) (filter p xs) → Each (λ y. p y ≡ true) (cond b (x ∷ filter p xs) (filter p xs))
  test true is inner = (is, inner)
  test false is inner = inner

pairs_kept : {A : Type 0} (R : A → A → Type 0) (p : A → Bool) (xs : List A) → Pairs R xs → Pairs R (filter p xs)
pairs_kept R p [] pairs = tt
pairs_kept R p (x ∷ xs) pairs = test (p x) (pairs_kept R p xs pairs.1) where
  test : (b : Bool) → Pairs R (filter p xs) → Pairs R (cond b (x ∷ filter p xs) (filter p xs))
  test true inner = (each_kept (R x) p xs pairs.0, inner)
  test false inner = inner

pub not_true : (b : Bool) → not b ≡ true → b ≡ false
not_true true is = absurd (cc)
not_true false is = refl

-- settings that are good, and of different properties
record AreGood (values : List Setting) : Type 0 where
  good : Each IsGood values
  apart : Pairs Apart values

one_more : (values : List Setting) (setting : Setting) → AreGood values → IsGood setting → AreGood (with_setting values setting)
one_more values setting are is =
    let p : Setting → Bool = λ other. not (is_same other.prop setting.prop) in record {
      good = each_append IsGood (filter p values) (setting ∷ []) (each_kept IsGood p values are.good) (is, tt);
      apart = pairs_append Apart (filter p values) (setting ∷ []) (pairs_kept Apart p values are.apart) (tt, tt)
          (each_as (λ (other : Setting). p other ≡ true) (λ (other : Setting). Each (Apart other) (setting ∷ [])) (λ other passes. (not_true (is_same other.prop setting.prop) passes, tt)) (filter p values)
          (each_passes p values));
    }

setting_good : (longhand : Longhand) → IsLonghand longhand → IfSome (setting_in longhand) IsGood
setting_good (Colour c) is = is
setting_good (Opacity n) is = is
setting_good (Visibility b) is = is
setting_good (Left v) is = is
setting_good (Top v) is = is
setting_good (Width v) is = is
setting_good (Height v) is = is
setting_good other is = tt

any_more : (values : List Setting) (setting : Option Setting) → AreGood values → IfSome setting IsGood → AreGood (with_any values setting)
any_more values None are is = are
any_more values (Some setting) are is = one_more values setting are is

longhand_more : (values : List Setting) (longhand : Longhand) → AreGood values → IsLonghand longhand → AreGood (with_any values (setting_in longhand))
longhand_more values longhand are is = any_more values (setting_in longhand) are (setting_good longhand is)

settings_good : (values : List Setting) (decls : List Decl) → AreGood values → Each IsReadyDecl decls → AreGood (settings_behind values decls)
settings_good values [] are ready = are
settings_good values (decl ∷ decls) are ready = settings_good (with_any values (setting_in decl.longhand)) decls (longhand_more values decl.longhand are ready.0) ready.1

-- the easing
easing_more : (before : Option Easing) (longhand : Longhand) → IfSome before IsEasing → IsLonghand longhand → IfSome (easing_in before longhand) IsEasing
easing_more before (Easings []) good is = good
easing_more before (Easings (easing ∷ rest)) good is = each_at IsEasing (easing ∷ rest) (recursion_from_All IsEasing (easing ∷ rest) is.each) 0 easing refl
easing_more before other good is = good

easing_good : (before : Option Easing) (decls : List Decl) → IfSome before IsEasing → Each IsReadyDecl decls → IfSome (easing_behind before decls) IsEasing
easing_good before [] good ready = good
easing_good before (decl ∷ decls) good ready = easing_good (easing_in before decl.longhand) decls (easing_more before decl.longhand good ready.0) ready.1

-- a keyframe
frame_good : (decls : List Decl) (offset : ℕ) → Each IsReadyDecl decls → offset ≤ 10000 → IsKeyframe (frame_of decls offset)
frame_good decls offset ready fits =
    let settings = settings_good [] decls (record { good = tt; apart = tt }) ready in record {
      offset = fits;
      easing = easing_good None decls tt ready;
      values = All-from_recursion IsGood (settings_behind [] decls) settings.good;
      distinct = λ i j first second less is also. pairs_at Apart (settings_behind [] decls) settings.apart i j first second less is also;
    }

-- keyframes in the order of their offsets
abbrev pub Below : Keyframe → Keyframe → Type 0
Below first second = first.offset < second.offset

record AreInOrder (frames : List Keyframe) : Type 0 where
  good : Each IsKeyframe frames
  rising : Pairs Below frames

pub nat_less : (x y : ℕ) → nat_cmp x y ≡ Less → x < y
nat_less x y is = test (nat_lt x y) refl (x == y) is where
  test : (a : Bool) → nat_lt x y ≡ a → (b : Bool) → cond a Less (cond b Equal Greater) ≡ Less → x < y
  test true less b h = ltb-true x y less
  test false less true h = absurd (cc)
  test false less false h = absurd (cc)

pub nat_greater : (x y : ℕ) → nat_cmp x y ≡ Greater → y < x
nat_greater x y is = test (nat_lt x y) refl (x == y) refl is where
  test : (a : Bool) → nat_lt x y ≡ a → (b : Bool) → (x == y) ≡ b → cond a Less (cond b Equal Greater) ≡ Greater → y < x
  test true less b same h = absurd (cc)
  test false less true same h = absurd (cc)
  test false less false same h = let no_less = ltb-false x y less in grind (arith, nat_tests)

each_with : (P : Keyframe → Type 0) (frames : List Keyframe) (frame : Keyframe) → Each P frames → P frame → Each P (with_frame frames frame)
each_with P [] frame each is = (is, tt)
each_with P (other ∷ frames) frame each is = by_order (nat_cmp frame.offset other.offset) (each_with P frames frame each.1 is) where
  by_order : (order : Ordering) → Each P (with_frame frames frame) → Each P (match_ordering order (frame ∷ (other ∷ frames)) (frame ∷ frames) (other ∷ with_frame frames frame))
  by_order Less inner = (is, each)
  by_order Equal inner = (is, each.1)
  by_order Greater inner = (each.0, inner)

pub rising_with : (frames : List Keyframe) (frame : Keyframe) → Pairs Below frames → Pairs Below (with_frame frames frame)
rising_with [] frame pairs = (tt, tt)
rising_with (other ∷ frames) frame pairs = by_order (nat_cmp frame.offset other.offset) refl (rising_with frames frame pairs.1) where
  by_order : (order : Ordering) → nat_cmp frame.offset other.offset ≡ order → Pairs Below (with_frame frames frame)
      → Pairs Below (match_ordering order (frame ∷ (other ∷ frames)) (frame ∷ frames) (other ∷ with_frame frames frame))
  by_order Less is inner =
      let less : frame.offset < other.offset = nat_less frame.offset other.offset is in
      ((less, each_as (Below other) (Below frame) (λ g below. omega arith) frames pairs.0), pairs)
  by_order Equal is inner =
      let same : frame.offset ≡ other.offset = nat_equal frame.offset other.offset is in
      (each_as (Below other) (Below frame) (λ g below. omega arith) frames pairs.0, pairs.1)
  by_order Greater is inner = (each_with (Below other) frames frame pairs.0 (nat_greater frame.offset other.offset is), inner)

frames_good : (decls : List Decl) (frames : List Keyframe) (offsets : List ℕ) → Each IsReadyDecl decls → Each (λ (o : ℕ). o ≤ 10000) offsets → AreInOrder frames
    → AreInOrder (with_frames (frame_of decls) frames offsets)
frames_good decls frames [] ready fit are = are
frames_good decls frames (offset ∷ offsets) ready fit are = frames_good decls (with_frame frames (frame_of decls offset)) offsets ready fit.1 (record {
  good = each_with IsKeyframe frames (frame_of decls offset) are.good (frame_good decls offset ready fit.0);
  rising = rising_with frames (frame_of decls offset) are.rising;
})

-- a good block: offsets up to 100%, and values in their limits
pub record IsGoodBlock (block : FrameBlock) : Type 0 where
  pub offsets : Each (λ (o : ℕ). o ≤ 10000) block.offsets
  pub values : Each IsReadyDecl block.decls

blocks_good : (frames : List Keyframe) (blocks : List FrameBlock) → Each IsGoodBlock blocks → AreInOrder frames → AreInOrder (frames_behind frames blocks)
blocks_good frames [] good are = are
blocks_good frames (block ∷ blocks) good are =
    blocks_good (with_frames (frame_of block.decls) frames block.offsets) blocks good.1 (frames_good block.decls frames block.offsets good.0.values good.0.offsets are)

pub set_good : (blocks : List FrameBlock) → Each IsGoodBlock blocks → IsSet (set_of blocks)
set_good blocks good =
    let are = blocks_good [] blocks good (record { good = tt; rising = tt }) in record {
      frames = All-from_recursion IsKeyframe (frames_behind [] blocks) are.good;
      rising = λ i j first second less is also. pairs_at Below (frames_behind [] blocks) are.rising i j first second less is also;
    }
