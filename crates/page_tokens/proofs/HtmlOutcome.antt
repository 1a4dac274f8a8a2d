-- Each text is read to its end, or to the place where nothing begins.
use Rattle.std.proofs.Common.{◌≡◌, ℕ, zero, suc, ◌-◌, ◌<◌, ◌⊎◌, List, [], ◌∷◌, ◌++◌, length, Option, Some, None, refl, inl, inr, arith}
use Rattle.page_tokens.specs.HtmlPieces.{Piece, after_piece}
use Rattle.page_tokens.specs.HtmlReading.{piece_at}
use Rattle.page_tokens.specs.HtmlText.{Word, place_between, with_token, AreWordsOf, IsBadAt}
use Rattle.page_tokens.specs.declared.html_stand.Stand.{Stand}
use Rattle.page_tokens.specs.declared.html_stand.Stand.TheVariants.{Anything, TitleText, StyleText, ItsEnd}
use Rattle.page_tokens.proofs.HtmlTextLemmas.{IsReadSo, read_none, read_more, read_all, read_stuck, work, work_less}

abbrev pub IsScanned : List ℕ → Type 0
IsScanned text = ((words : List Word) × AreWordsOf text words) ⊎ ((place : ℕ) × IsBadAt text place)

-- nothing begins at what is left: the text ends there, or it is bad there
stuck : (text : List ℕ) (words : List Word) (stand : Stand) (bytes : List ℕ) → IsReadSo text words stand bytes
    → piece_at stand bytes ≡ None → (bytes ≡ [] → stand ≡ Anything → ⊥) → IsScanned text
stuck text words stand bytes so none unfinished =
    let place = length text - length bytes in
    inr (place, read_stuck text words stand bytes place so none unfinished refl)

read_out : (text : List ℕ) (words : List Word) (stand : Stand) (bytes : List ℕ) → IsReadSo text words stand bytes
    → piece_at stand bytes ≡ None → IsScanned text
read_out text words Anything [] so none = inl (words, read_all text words so)
read_out text words Anything (byte ∷ bytes) so none = stuck text words Anything (byte ∷ bytes) so none (λ empty _. absurd (cc))
read_out text words TitleText bytes so none = stuck text words TitleText bytes so none (λ _ anything. absurd (cc))
read_out text words StyleText bytes so none = stuck text words StyleText bytes so none (λ _ anything. absurd (cc))
read_out text words ItsEnd bytes so none = stuck text words ItsEnd bytes so none (λ _ anything. absurd (cc))

-- from a front that was read on, of any number that is more than the work that is left
read_on : (n : ℕ) (text : List ℕ) (words : List Word) (stand : Stand) (bytes : List ℕ) → IsReadSo text words stand bytes
    → work stand bytes < n → IsScanned text
read_on zero text words stand bytes so fits = absurd (omega (arith, fits))
read_on (suc n) text words stand bytes so fits = by_piece (piece_at stand bytes) refl (read_on n text) where
  by_piece : (o : Option (Piece × List ℕ)) → piece_at stand bytes ≡ o
      → ((more : List Word) (next : Stand) (rest : List ℕ) → IsReadSo text more next rest → work next rest < n → IsScanned text)
      → IsScanned text
  by_piece None none further = read_out text words stand bytes so none
  by_piece (Some read) at further =
      let piece = read.0 in
      let rest = read.1 in
      let more = words ++ with_token (place_between (length text) bytes rest) piece [] in
      let next = after_piece stand piece in
      let less = work_less stand bytes piece rest at in
      further more next rest (read_more text words more stand next bytes rest piece so at refl refl) (omega (arith, less, fits))

pub every_scanned : (text : List ℕ) → IsScanned text
every_scanned text = read_on (suc (work Anything text)) text [] Anything text (read_none text) (omega arith)
