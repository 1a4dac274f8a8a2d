-- In the blocks of a set that is read each offset is listed once.
use Rattle.std.proofs.Common.{◌≡◌, ℕ, ◌<◌, Bool, true, false, cond, List, [], ◌∷◌, ◌++◌, Ok, Err, Some, refl, sym, ap, ◌∙◌, subst, arith, append_assoc, append-nil}
use Rattle.std.specs.Prelude.{◌==◌, ◌||◌, slice_get}
use Rattle.std.specs.List.{AllByRecursion as Each}
use Rattle.std.proofs.lemmas.Bool.Decides.{nat_tests}
use Rattle.style_tokens.specs.declared.token.CssToken.{CssToken}
use Rattle.css_declarations.specs.declared.fault.SheetFault.TheVariants.{BadKeyframes}
use Rattle.css_declarations.specs.DeclarationReading.{after}
use Rattle.css_declarations.specs.TokenKinds.{place_of}
use Rattle.css_declarations.proofs.PairLemmas.{Pairs, pairs_append, pairs_at}
use Rattle.css_parts.specs.KeyframeGrammar.{Blocks, FrameBlock, Offsets, OneBlock, are_closed, given_in, is_given, new_offset, offset_at, said_at}
use Rattle.css_selectors.specs.Readings.{Read, Exactly, Many, behind_first, no_comma}
use Rattle.css_selectors.specs.Readings.Then.{broken, later, whole}
use Rattle.css_selectors.specs.Readings.Many.{stopped, breaks, more}

abbrev Differ : ℕ → ℕ → Type 0
Differ first second = (first == second) ≡ false

-- an offset is new
new_is : (text : List ℕ) (end : ℕ) (given : List ℕ) (tokens : List CssToken) (offset : ℕ) (rest : List CssToken) → Ok (offset, rest) ≡ offset_at text end given tokens → is_given given offset ≡ false
unfolding offset_at
new_is text end given tokens offset rest is = by_said (said_at text end tokens) is where
  by_test : (said : ℕ × List CssToken) (b : Bool) → is_given given said.0 ≡ b → ◌≡◌ {A = Read ℕ} (Ok (offset, rest)) (cond b (Err (BadKeyframes (place_of end tokens))) (Ok said)) → is_given given offset ≡ false
  by_test said true given_is e = absurd (cc)
  by_test said false given_is e = let both : (offset, rest) ≡ said = cc in subst (λ o. is_given given o ≡ false) (sym (ap (λ (p : ℕ × List CssToken). p.0) both)) given_is

  by_said : (said : Read ℕ) → Ok (offset, rest) ≡ after said (new_offset given (place_of end tokens)) → is_given given offset ≡ false
  by_said (Err fault) e = absurd (cc)
  by_said (Ok said) e = by_test said (is_given given said.0) refl e

apart_from : (given : List ℕ) (offset : ℕ) → is_given given offset ≡ false → Each (λ g. Each (Differ g) (offset ∷ [])) given
apart_from [] offset new = tt
apart_from (one ∷ given) offset new = test (one == offset) refl new (λ others. apart_from given offset others) where
  test : (b : Bool) → (one == offset) ≡ b → (b || is_given given offset) ≡ false
      → (is_given given offset ≡ false → Each (λ g. Each (Differ g) (offset ∷ [])) given)
      → Each (λ g. Each (Differ g) (offset ∷ [])) (one ∷ given)
  test true is h rest = absurd (cc)
  test false is h rest = ((is, tt), rest h)

one_new : (given : List ℕ) (offset : ℕ) → Pairs Differ given → is_given given offset ≡ false → Pairs Differ (given ++ (offset ∷ []))
one_new given offset pairs new = pairs_append Differ given (offset ∷ []) pairs (tt, tt) (apart_from given offset new)

-- the offsets of a block
abbrev Item : List ℕ → ℕ → List ℕ → List ℕ → List CssToken → Read ℕ → Type 0
Item text end given before = Exactly (offset_at text end (given ++ before))

further_once : (text : List ℕ) (end : ℕ) (given items : List ℕ) (tokens : List CssToken) (read : Read (List ℕ)) → Many (λ before tokens. Item text end given before (behind_first tokens)) no_comma items tokens read
    → Pairs Differ (given ++ items) → (all : List ℕ) (rest : List CssToken) → read ≡ Ok (all, rest) → Pairs Differ (given ++ all)
further_once text end given items tokens read (stopped _ _ off) pairs all rest e =
    let both : ◌≡◌ {A = List ℕ × List CssToken} (items, tokens) (all, rest) = cc in
    subst (λ i. Pairs Differ (given ++ i)) (ap (λ (p : List ℕ × List CssToken). p.0) both) pairs
further_once text end given items tokens read (breaks _ _ fault on is) pairs all rest e = absurd (cc)
further_once text end given items tokens read (more _ _ item middle _ on is reads) pairs all rest e =
    further_once text end given (items ++ (item ∷ [])) middle read reads
    (subst (Pairs Differ) (append_assoc given items (item ∷ [])) (one_new (given ++ items) item pairs (new_is text end (given ++ items) (behind_first tokens) item middle is))) all rest e

offsets_once : (text : List ℕ) (end : ℕ) (given : List ℕ) (tokens : List CssToken) (read : Read (List ℕ)) → Offsets text end given tokens read → Pairs Differ given → (all : List ℕ) (rest : List CssToken)
    → read ≡ Ok (all, rest) → Pairs Differ (given ++ all)
offsets_once text end given tokens read (broken fault is) pairs all rest e = absurd (cc)
offsets_once text end given tokens read (later item middle fault is also) pairs all rest e = absurd (cc)
offsets_once text end given tokens read (whole item middle items left is also) pairs all rest e =
    let both : ◌≡◌ {A = List ℕ × List CssToken} (items, left) (all, rest) = cc in
    let same : items ≡ all = ap (λ (p : List ℕ × List CssToken). p.0) both in
    let first : Pairs Differ (given ++ (item ∷ [])) = one_new given item pairs (subst (λ g. is_given g item ≡ false) (append-nil given) (new_is text end (given ++ []) tokens item middle is)) in
    subst (λ i. Pairs Differ (given ++ i)) same (further_once text end given (item ∷ []) middle (Ok (items, left)) also first items left refl)

block_once : (text : List ℕ) (end : ℕ) (given : List ℕ) (tokens : List CssToken) (read : Read FrameBlock) → OneBlock text end given tokens read → Pairs Differ given → (block : FrameBlock) (rest : List CssToken)
    → read ≡ Ok (block, rest) → Pairs Differ (given ++ block.offsets)
block_once text end given tokens read (broken fault is) pairs block rest e = absurd (cc)
block_once text end given tokens read (later offsets middle fault is also) pairs block rest e = absurd (cc)
block_once text end given tokens read (whole offsets middle decls left is also) pairs block rest e =
    let both : ◌≡◌ {A = FrameBlock × List CssToken} (record { offsets = offsets; decls = decls }, left) (block, rest) = cc in
    let same : record { offsets = offsets; decls = decls } ≡ block = ap (λ (p : FrameBlock × List CssToken). p.0) both in
    subst (λ (b : FrameBlock). Pairs Differ (given ++ b.offsets)) same (offsets_once text end given tokens (Ok (offsets, middle)) is pairs offsets middle refl)

-- the offsets of one block more
pub given_more : (blocks : List FrameBlock) (block : FrameBlock) → given_in (blocks ++ (block ∷ [])) ≡ given_in blocks ++ block.offsets
given_more [] block = append-nil block.offsets
given_more (first ∷ blocks) block = ap (λ g. first.offsets ++ g) (given_more blocks block) ∙ sym (append_assoc first.offsets (given_in blocks) block.offsets)

blocks_once : (text : List ℕ) (end : ℕ) (units : List FrameBlock) (tokens : List CssToken) (read : Read (List FrameBlock)) → Many (λ before. OneBlock text end (given_in before)) are_closed units tokens read
    → Pairs Differ (given_in units) → (blocks : List FrameBlock) (rest : List CssToken) → read ≡ Ok (blocks, rest) → Pairs Differ (given_in blocks)
blocks_once text end units tokens read (stopped _ _ off) pairs blocks rest e =
    let both : ◌≡◌ {A = List FrameBlock × List CssToken} (units, tokens) (blocks, rest) = cc in
    subst (λ (u : List FrameBlock). Pairs Differ (given_in u)) (ap (λ (p : List FrameBlock × List CssToken). p.0) both) pairs
blocks_once text end units tokens read (breaks _ _ fault on is) pairs blocks rest e = absurd (cc)
blocks_once text end units tokens read (more _ _ unit middle _ on is reads) pairs blocks rest e =
    blocks_once text end (units ++ (unit ∷ [])) middle read reads
    (subst (Pairs Differ) (sym (given_more units unit)) (block_once text end (given_in units) tokens (Ok (unit, middle)) is pairs unit middle refl)) blocks rest e

differ_not : (first second : ℕ) → Differ first second → first ≡ second → ⊥
differ_not first second differ same = grind (arith, nat_tests)

pub listed_once : (text : List ℕ) (end : ℕ) (tokens rest : List CssToken) (blocks : List FrameBlock) → Blocks text end tokens (Ok (blocks, rest)) → (i j : ℕ) (first second : ℕ) → i < j
    → slice_get (given_in blocks) i ≡ Some first → slice_get (given_in blocks) j ≡ Some second → first ≡ second → ⊥
listed_once text end tokens rest blocks are i j first second less is also same =
    differ_not first second (pairs_at Differ (given_in blocks) (blocks_once text end [] tokens (Ok (blocks, rest)) are tt blocks rest refl) i j first second less is also) same
