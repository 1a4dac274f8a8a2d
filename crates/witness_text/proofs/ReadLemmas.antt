-- Why a text is read, and why it is refused.
use Rattle.std.proofs.Common.{[], ◌∷◌, ◌++◌, rules, ◌≡◌, false, ◌≢◌, List, ℕ, Some, sym, ap, ◌∙◌, subst, IsUtf8}
use Rattle.std.proofs.lemmas.Str.{IsUtf8-append}
use Rattle.serde_json.specs.Data.{Data}
use Rattle.serde_json.specs.Read.{read}
use Rattle.serde_json.specs.Written.{compact_text, has_float}
use Rattle.page_model.specs.declared.witness.Witness.{Witness}
use Rattle.witness_text.specs.WitnessText.{witness_value, witness_text}
use Rattle.witness_text.specs.WitnessForm.{IsTextOf, IsInForm}
use Rattle.witness_text.specs.Look.{witness_in}
use Rattle.witness_text.proofs.FormLemmas.{witness-form}
use Rattle.witness_text.proofs.NewlineLemmas.{read_line}
use Rattle.witness_text.proofs.Shape.{witness_whole}
use Rattle.witness_text.proofs.LookLemmas.{witness-again}

some-same : (a b : Data) → Some a ≡ Some b → a ≡ b
some-same a b e = cc

-- a value has one text with the witness whose object it is
pub one_text : (d : Data) (w : Witness) (wanted text : List ℕ) → wanted ≡ witness_text w → (has_float d ≡ false → text ≡ compact_text d) → d ≡ witness_value w → wanted ≡ text
unfolding witness_text
one_text d w wanted text first second is =
    let whole = ap has_float is ∙ witness_whole w in
    first ∙ ap compact_text (sym is) ∙ sym (second whole)

-- the value of what was found is that of the text
pub reads_found : (bytes : List ℕ) (w : Witness) (d : Data) → IsUtf8 bytes → read bytes ≡ Some d → w ≡ witness_in d → d ≡ witness_value w → IsTextOf bytes w
reads_found bytes w d utf8 reads found is = record {
  utf8 = utf8;
  reads = reads ∙ ap Some is;
  form = subst IsInForm (sym found) (witness-form d);
}

-- a text of a witness is one of what was found in it
pub refuses_none : (bytes : List ℕ) (w found : Witness) (d : Data) → read bytes ≡ Some d → found ≡ witness_in d → d ≢ witness_value found → IsTextOf bytes w → ⊥
refuses_none bytes w found d reads is other text =
    let same = some-same d (witness_value w) (sym reads ∙ text.reads) in
    let again = is ∙ ap witness_in same ∙ witness-again w text.form in
    other (same ∙ ap witness_value (sym again))

-- equal bytes are texts of one witness
pub one_witness : (bytes : List ℕ) (v w : Witness) → IsTextOf bytes v → IsTextOf bytes w → v ≡ w
one_witness bytes v w first second =
    let same = some-same (witness_value v) (witness_value w) (sym first.reads ∙ second.reads) in
    sym (witness-again v first.form) ∙ ap witness_in same ∙ witness-again w second.form

-- what is written of a witness in form is a text of it
pub own_text : (bytes : List ℕ) (w : Witness) → IsUtf8 bytes → read bytes ≡ Some (witness_value w) → IsInForm w → IsTextOf bytes w
own_text bytes w utf8 reads form = record { utf8 = utf8; reads = reads; form = form }

-- and with a newline at its end too
pub own_line : (bytes line : List ℕ) (w : Witness) → IsUtf8 bytes → read bytes ≡ Some (witness_value w) → IsInForm w → line ≡ bytes ++ 10 ∷ [] → IsTextOf line w
own_line bytes line w utf8 reads form is =
    subst (λ text. IsTextOf text w) (sym is) (record { utf8 = IsUtf8-append bytes (10 ∷ []) utf8 newline; reads = read_line bytes ∙ reads; form = form }) where
      newline : IsUtf8 (10 ∷ [])
      newline = search rules
