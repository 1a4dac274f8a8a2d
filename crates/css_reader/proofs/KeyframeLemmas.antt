-- Blocks, and sets of keyframes.
use Rattle.std.proofs.Common.{◌≡◌, ℕ, true, false, List, [], ◌∷◌, ◌++◌, map, Ok, Err, refl, sym, ap, ◌∙◌, subst}
use Rattle.std.specs.BTreeMap.{BTreeMap}
use Rattle.std.specs.BTreeSet.{BTreeSet}
use Rattle.page_model.specs.declared.keyframe.Keyframe.{Keyframe}
use Rattle.page_model.specs.declared.rule.Decl.{Decl}
use Rattle.style_tokens.specs.declared.token.CssToken.{CssToken}
use Rattle.css_declarations.specs.declared.context.Context.TheVariants.{Block}
use Rattle.css_declarations.specs.declared.fault.SheetFault.{SheetFault}
use Rattle.css_declarations.specs.DeclarationFaults.{IsTold}
use Rattle.css_declarations.specs.TokenKinds.{begins, is_right_brace}
use Rattle.css_reader.specs.SheetGrammar.{AreKeyframes, keyframes_of, with_item}
use Rattle.css_reader.specs.SheetState.{SheetState, with_set}
use Rattle.css_parts.specs.KeyframeGrammar.{Blocks, FrameBlock, head_at, offset_at, Offsets, OneBlock, are_closed, block_of, frame_of, frames_behind, given_in, with_frames}
use Rattle.css_parts.specs.OffsetViews.{AreBlocksPut, AreOffsets, Holds, IsBlockPut, IsSetFilled, Keeps, by_offset}
use Rattle.css_selectors.specs.Readings.{Exactly, IsPut, Many, Braced, Declares}
use Rattle.css_selectors.specs.Readings.Then.{broken, later, whole}
use Rattle.css_selectors.specs.Readings.Many.{stopped, breaks, more}
use Rattle.css_parts.proofs.OffsetLemmas.{offset_keeps}
use Rattle.css_parts.proofs.OffsetsOnce.{given_more}
use Rattle.css_selectors.proofs.ReadingLemmas.{Keeps as KeepsTokens, Leads, listed_keeps, many_keeps, then_keeps, told_as, told_if}
use Rattle.css_reader.proofs.RuleLemmas.{braced_keeps, declares_keeps}

-- a block
pub no_offsets : (text : List ℕ) (end : ℕ) (given : List ℕ) (tokens : List CssToken) (fault : SheetFault) → IsTold (λ (f : SheetFault). Offsets text end given tokens (Err f)) fault
    → IsTold (λ (f : SheetFault). OneBlock text end given tokens (Err f)) fault
no_offsets text end given tokens fault is =
    told_as (λ (f : SheetFault). Offsets text end given tokens (Err f)) (λ (f : SheetFault). OneBlock text end given tokens (Err f)) (λ f told. broken f told) fault is

pub no_block : (text : List ℕ) (end : ℕ) (given : List ℕ) (tokens middle : List CssToken) (offsets : List ℕ) (now : BTreeSet ℕ) → AreOffsets text end given tokens offsets now middle → (fault : SheetFault)
    → IsTold (λ (f : SheetFault). Braced end (Declares Block text end) middle (Err f)) fault → IsTold (λ (f : SheetFault). OneBlock text end given tokens (Err f)) fault
no_block text end given tokens middle offsets now found fault is =
    told_as (λ (f : SheetFault). Braced end (Declares Block text end) middle (Err f)) (λ (f : SheetFault). OneBlock text end given tokens (Err f)) (λ f told. later offsets middle f found.are told) fault is

pub is_block : (text : List ℕ) (end : ℕ) (given : List ℕ) (tokens middle rest : List CssToken) (offsets : List ℕ) (decls : List Decl) (now : BTreeSet ℕ) (frames : List Keyframe) (kept : BTreeMap ℕ Keyframe)
    → AreOffsets text end given tokens offsets now middle → Braced end (Declares Block text end) middle (Ok (decls, rest)) → Keeps kept (with_frames (frame_of decls) frames offsets)
    → IsBlockPut text end given tokens frames now kept rest
is_block text end given tokens middle rest offsets decls now frames kept found body keeps = record {
  block = block_of offsets decls;
  is = whole offsets middle decls rest found.are body;
  holds = found.holds;
  keeps = keeps;
}

-- blocks so far
pub record AreBlocks (text : List ℕ) (end : ℕ) (tokens : List CssToken) (now : BTreeSet ℕ) (kept : BTreeMap ℕ Keyframe) (rest : List CssToken) : Type 0 where
  pub blocks : List FrameBlock
  pub leads : Leads (Many (λ before. OneBlock text end (given_in before)) are_closed) [] tokens blocks rest
  pub holds : Holds now (given_in blocks)
  pub keeps : Keeps kept (frames_behind [] blocks)

pub no_blocks : (text : List ℕ) (end : ℕ) (tokens : List CssToken) (now : BTreeSet ℕ) (kept : BTreeMap ℕ Keyframe) → Holds now [] → Keeps kept [] → AreBlocks text end tokens now kept tokens
no_blocks text end tokens now kept holds keeps = record { blocks = []; leads = λ outcome reads. reads; holds = holds; keeps = keeps }

frames_more : (frames : List Keyframe) (blocks : List FrameBlock) (block : FrameBlock)
    → frames_behind frames (blocks ++ (block ∷ [])) ≡ with_frames (frame_of block.decls) (frames_behind frames blocks) block.offsets
frames_more frames [] block = refl
frames_more frames (first ∷ blocks) block = frames_more (with_frames (frame_of first.decls) frames first.offsets) blocks block

pub one_block_more : (text : List ℕ) (end : ℕ) (tokens middle rest : List CssToken) (before now : BTreeSet ℕ) (had kept : BTreeMap ℕ Keyframe) (so : AreBlocks text end tokens before had middle)
    → begins is_right_brace middle ≡ false → IsBlockPut text end (given_in so.blocks) middle (frames_behind [] so.blocks) now kept rest → AreBlocks text end tokens now kept rest
one_block_more text end tokens middle rest before now had kept so unclosed put = record {
  blocks = so.blocks ++ (put.block ∷ []);
  leads = λ outcome reads. so.leads outcome (more so.blocks middle put.block rest outcome unclosed put.is reads);
  holds = subst (Holds now) (sym (given_more so.blocks put.block)) put.holds;
  keeps = put.keeps ∙ ap (map by_offset) (sym (frames_more [] so.blocks put.block));
}

pub block_broken : (text : List ℕ) (end : ℕ) (tokens middle : List CssToken) (before : BTreeSet ℕ) (had : BTreeMap ℕ Keyframe) (so : AreBlocks text end tokens before had middle)
    → begins is_right_brace middle ≡ false → (fault : SheetFault) → IsTold (λ (f : SheetFault). OneBlock text end (given_in so.blocks) middle (Err f)) fault
    → IsTold (λ (f : SheetFault). Blocks text end tokens (Err f)) fault
block_broken text end tokens middle before had so unclosed fault is =
    told_as (λ (f : SheetFault). OneBlock text end (given_in so.blocks) middle (Err f)) (λ (f : SheetFault). Blocks text end tokens (Err f))
    (λ f told. so.leads (Err f) (breaks so.blocks middle f unclosed told)) fault is

pub blocks_ended : (text : List ℕ) (end : ℕ) (tokens rest : List CssToken) (now : BTreeSet ℕ) (kept : BTreeMap ℕ Keyframe) → AreBlocks text end tokens now kept rest
    → begins is_right_brace rest ≡ true → AreBlocksPut text end tokens kept rest
blocks_ended text end tokens rest now kept so closed = record {
  blocks = so.blocks;
  are = so.leads (Ok (so.blocks, rest)) (stopped so.blocks rest closed);
  keeps = so.keeps;
}

-- the keyframes of a map, in order
pub kept_frames : (kept : BTreeMap ℕ Keyframe) (frames list : List Keyframe) → Keeps kept frames → list ≡ map (λ (entry : ℕ × Keyframe). entry.1) kept.entries → list ≡ frames
kept_frames kept frames list keeps is = is ∙ ap (λ (e : List (ℕ × Keyframe)). map (λ (entry : ℕ × Keyframe). entry.1) e) keeps ∙ seconds frames where
  seconds : (fs : List Keyframe) → map (λ (entry : ℕ × Keyframe). entry.1) (map by_offset fs) ≡ fs
  seconds [] = refl
  seconds (f ∷ fs) = ap (λ r. f ∷ r) (seconds fs)

-- a set with its name
pub no_head : (text : List ℕ) (end : ℕ) (tokens : List CssToken) (fault : SheetFault) → Err fault ≡ head_at text end tokens → IsTold (λ (f : SheetFault). AreKeyframes text end tokens (Err f)) fault
no_head text end tokens fault is = told_if (λ (f : SheetFault). AreKeyframes text end tokens (Err f)) fault (broken fault is)

pub no_set : (text : List ℕ) (end : ℕ) (tokens middle : List CssToken) (name : List ℕ) → Ok (name, middle) ≡ head_at text end tokens → (fault : SheetFault)
    → IsTold (λ (f : SheetFault). Braced end (Blocks text end) middle (Err f)) fault → IsTold (λ (f : SheetFault). AreKeyframes text end tokens (Err f)) fault
no_set text end tokens middle name head fault is =
    told_as (λ (f : SheetFault). Braced end (Blocks text end) middle (Err f)) (λ (f : SheetFault). AreKeyframes text end tokens (Err f)) (λ f told. later name middle f head told) fault is

pub set_put : (text : List ℕ) (end : ℕ) (tokens middle rest : List CssToken) (name : List ℕ) (kept : BTreeMap ℕ Keyframe) (frames : List Keyframe) (old new : SheetState) → Ok (name, middle) ≡ head_at text end tokens
    → IsSetFilled (Braced end (Blocks text end) middle) kept rest → frames ≡ map (λ (entry : ℕ × Keyframe). entry.1) kept.entries → new ≡ with_set old name (record { frames = frames })
    → IsPut with_item (AreKeyframes text end tokens) old new rest
set_put text end tokens middle rest name kept frames old new head filled ordered put = record {
  item = keyframes_of name filled.blocks;
  is = whole name middle filled.blocks rest head filled.is;
  new_is = put ∙ ap (λ (f : List Keyframe). with_set old name (record { frames = f })) (kept_frames kept (frames_behind [] filled.blocks) frames filled.keeps ordered);
}

-- what is left of blocks is no longer than they are
block_keeps : (text : List ℕ) (end : ℕ) (given : List ℕ) → KeepsTokens (OneBlock text end given)
block_keeps text end given =
    then_keeps block_of (Offsets text end given) (λ offsets. Braced end (Declares Block text end))
    (listed_keeps (λ before. Exactly (offset_at text end (given ++ before))) (λ before. offset_keeps text end (given ++ before)))
    (λ offsets. braced_keeps end (Declares Block text end) (declares_keeps Block text end))

pub blocks_keep : (text : List ℕ) (end : ℕ) → KeepsTokens (Blocks text end)
blocks_keep text end = many_keeps (λ before. OneBlock text end (given_in before)) are_closed (λ before. block_keeps text end (given_in before)) []
