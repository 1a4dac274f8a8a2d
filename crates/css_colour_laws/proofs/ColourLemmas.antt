-- Colours that are read are those that are spelled.
use Rattle.std.proofs.Common.{ℕ, ◌≡◌, ◌∙◌, ◌⊎◌, ◌+◌, ◌*◌, ◌==◌, false, List, [], ◌∷◌, length, min, Option, Some, None, option_and_then, nat_lt, refl, ap, sym, subst, inl, inr, arith, codes, true}
use Rattle.std.proofs.lemmas.Bool.{cases_Bool, ltb-true, lt-ltb, ne_eqb}
use Rattle.std.specs.Char.{digit_value}
use Rattle.page_model.specs.declared.colour.Rgba.{Rgba}
use Rattle.style_tokens.specs.declared.token.CssKind.{CssKind}
use Rattle.style_tokens.specs.declared.token.CssKind.TheVariants.{Comma, Function, Hash, Ident, Number, RightParen}
use Rattle.css_colours.specs.Colours.{pair, channels, hash_colour, channel_at, channel_and_comma, opening_at, alpha_at, rgb_of, colour_of}
use Rattle.css_words.specs.Words.{function_at, Word, front_of, lone, behind, when_hash, when_ident, is_comma, is_close, or_else}
use Rattle.css_words.specs.Numerals.{whole_at, share_at}
use Rattle.css_words.specs.Keywords.{is_keyword, lookup}
use Rattle.css_colours.specs.ColourNames.{colour_names}
use Rattle.css_colour_laws.specs.SpelledColours.{IsPair, IsFade, IsShortAlpha, IsShortHash, IsLongAlpha, IsLongHash, IsFullEnd, IsFadedEnd, IsRgb, SpellsColour}
use Rattle.css_word_laws.specs.SpelledNumbers.{word}
use Rattle.css_word_laws.specs.SpelledWords.{IsWhole, SpellsKeyword}
use Rattle.css_word_laws.specs.ValueLaws.{NonePast}
use Rattle.css_word_laws.proofs.FrontLemmas.{comma_then, Mark, WholeFront, called, call_stands, comma_front, comma_stands, close_front, close_stands, whole_front, whole_stands, end_is}
use Rattle.css_word_laws.proofs.ShareLemmas.{share_front, share_stands}
use Rattle.css_word_laws.proofs.KeywordLemmas.{then_to, lone_hash_is, lone_ident_is, hash_alone, ident_alone, same_kind}
use Rattle.css_word_laws.proofs.Readings.{Reads, reads_bad, reads_ok, reads_of}
use Rattle.css_colour_laws.proofs.TableLemmas.{colours_differ}
use Rattle.css_word_laws.proofs.WordLemmas.{entry_to, entry_from}

some_same : {A : Type 0} {x y : A} → Some x ≡ Some y → x ≡ y
some_same e = cc

pair_to : (high low n : ℕ) → pair high low ≡ Some n → IsPair high low n
unfolding pair
pair_to high low n e = elim (cases_Bool (nat_lt (digit_value high) 16)) [
  | inl h ↦ elim (cases_Bool (nat_lt (digit_value low) 16)) [
    | inl l ↦ let f : Some (16 * digit_value high + digit_value low) ≡ Some n = rw (h, l) at e in
        record { high_digit = ltb-true (digit_value high) 16 h; low_digit = ltb-true (digit_value low) 16 l; value = sym (some_same f) }
    | inr l ↦ absurd (let f : None ≡ Some n = rw (h, l) at e in cc)
  ]
  | inr h ↦ absurd (let f : None ≡ Some n = rw h at e in cc)
]

pair_from : (high low n : ℕ) → IsPair high low n → pair high low ≡ Some n
unfolding pair
pair_from high low n is = rw (lt-ltb (digit_value high) 16 is.high_digit, lt-ltb (digit_value low) 16 is.low_digit) (ap (λ t. Some t) (sym is.value))

fade_to : (high low n : ℕ) → pair high low ≡ Some n → IsFade high low (1000 * n)
fade_to high low n e = record { n = n; pair = pair_to high low n e; value = refl }

full_to : (n : ℕ) → Some 255 ≡ Some n → 1000 * n ≡ 255000
full_to n e = ap (λ k. 1000 * k) (sym (some_same e))

-- four parts that are there
record Four (r g b a : Option ℕ) (c : Rgba) : Type 0 where
  pub part : ℕ
  pub red : r ≡ Some c.r
  pub green : g ≡ Some c.g
  pub blue : b ≡ Some c.b
  pub alpha : a ≡ Some part
  pub value : 1000 * part ≡ c.a

four_to : (r g b a : Option ℕ) (c : Rgba) → channels r g b a ≡ Some c → Four r g b a c
unfolding channels
four_to None g b a c e = absurd (cc)
four_to (Some r) None b a c e = absurd (cc)
four_to (Some r) (Some g) None a c e = absurd (cc)
four_to (Some r) (Some g) (Some b) None c e = absurd (cc)
four_to (Some r) (Some g) (Some b) (Some a) c e = subst (λ d. Four (Some r) (Some g) (Some b) (Some a) d) (some_same e)
    (record { part = a; red = refl; green = refl; blue = refl; alpha = refl; value = refl })

four_from : (r g b a : Option ℕ) (c : Rgba) → Four r g b a c → channels r g b a ≡ Some c
unfolding channels
four_from r g b a c is = rw (is.red, is.green, is.blue, is.alpha) (λ i. Some (record { r = c.r; g = c.g; b = c.b; a = is.value i }))

-- what the bytes of a hash are
abbrev IsHash : List ℕ → Rgba → Type 0
IsHash bytes c = IsShortHash (word Hash bytes ∷ []) c ⊎ IsLongHash (word Hash bytes ∷ []) c

short_to : (m r g b : ℕ) (behind : List ℕ) (a : Option ℕ) (c : Rgba) → ((n : ℕ) → a ≡ Some n → IsShortAlpha behind (1000 * n))
    → channels (pair r r) (pair g g) (pair b b) a ≡ Some c → IsShortHash (word Hash (m ∷ r ∷ g ∷ b ∷ behind) ∷ []) c
short_to m r g b behind a c alpha e =
    let four = four_to (pair r r) (pair g g) (pair b b) a c e in
    record {
      mark = m;
      r = r;
      g = g;
      b = b;
      behind = behind;
      alone = refl;
      red = pair_to r r c.r four.red;
      green = pair_to g g c.g four.green;
      blue = pair_to b b c.b four.blue;
      alpha = subst (λ k. IsShortAlpha behind k) four.value (alpha four.part four.alpha);
    }

long_to : (m r s g h b d : ℕ) (behind : List ℕ) (a : Option ℕ) (c : Rgba) → ((n : ℕ) → a ≡ Some n → IsLongAlpha behind (1000 * n))
    → channels (pair r s) (pair g h) (pair b d) a ≡ Some c → IsLongHash (word Hash (m ∷ r ∷ s ∷ g ∷ h ∷ b ∷ d ∷ behind) ∷ []) c
long_to m r s g h b d behind a c alpha e =
    let four = four_to (pair r s) (pair g h) (pair b d) a c e in
    record {
      mark = m;
      r1 = r;
      r2 = s;
      g1 = g;
      g2 = h;
      b1 = b;
      b2 = d;
      behind = behind;
      alone = refl;
      red = pair_to r s c.r four.red;
      green = pair_to g h c.g four.green;
      blue = pair_to b d c.b four.blue;
      alpha = subst (λ k. IsLongAlpha behind k) four.value (alpha four.part four.alpha);
    }

hash_to : (bytes : List ℕ) (c : Rgba) → hash_colour bytes ≡ Some c → IsHash bytes c
unfolding hash_colour
hash_to [] c e = absurd (cc)
hash_to (m ∷ []) c e = absurd (cc)
hash_to (m ∷ (r ∷ [])) c e = absurd (cc)
hash_to (m ∷ (r ∷ (g ∷ []))) c e = absurd (cc)
hash_to (m ∷ (r ∷ (g ∷ (b ∷ [])))) c e = inl (short_to m r g b [] (Some 255) c full_to e)
hash_to (m ∷ (r ∷ (g ∷ (b ∷ (x ∷ []))))) c e = inl (short_to m r g b (x ∷ []) (pair x x) c (fade_to x x) e)
hash_to (m ∷ (r ∷ (g ∷ (b ∷ (x ∷ (y ∷ [])))))) c e = absurd (cc)
hash_to (m ∷ (r ∷ (s ∷ (g ∷ (h ∷ (b ∷ (d ∷ []))))))) c e = inr (long_to m r s g h b d [] (Some 255) c full_to e)
hash_to (m ∷ (r ∷ (s ∷ (g ∷ (h ∷ (b ∷ (d ∷ (x ∷ [])))))))) c e = absurd (cc)
hash_to (m ∷ (r ∷ (s ∷ (g ∷ (h ∷ (b ∷ (d ∷ (x ∷ (y ∷ []))))))))) c e = inr (long_to m r s g h b d (x ∷ (y ∷ [])) (pair x y) c (fade_to x y) e)
hash_to (m ∷ (r ∷ (s ∷ (g ∷ (h ∷ (b ∷ (d ∷ (x ∷ (y ∷ (z ∷ more)))))))))) c e =
    let bytes = m ∷ (r ∷ (s ∷ (g ∷ (h ∷ (b ∷ (d ∷ (x ∷ (y ∷ (z ∷ more))))))))) in
    let four : (length bytes == 4) ≡ false = ne_eqb _ 4 (λ q. omega arith) in
    let five : (length bytes == 5) ≡ false = ne_eqb _ 5 (λ q. omega arith) in
    let seven : (length bytes == 7) ≡ false = ne_eqb _ 7 (λ q. omega arith) in
    let nine : (length bytes == 9) ≡ false = ne_eqb _ 9 (λ q. omega arith) in
    absurd (let f : None ≡ Some c = rw (four, five, seven, nine) at e in cc)

short_from : (m r g b : ℕ) (behind : List ℕ) (c : Rgba) → IsPair r r c.r → IsPair g g c.g → IsPair b b c.b → IsShortAlpha behind c.a
    → hash_colour (m ∷ (r ∷ (g ∷ (b ∷ behind)))) ≡ Some c
unfolding hash_colour
short_from m r g b [] c p q s full = four_from (pair r r) (pair g g) (pair b b) (Some 255) c
    (record { part = 255; red = pair_from r r c.r p; green = pair_from g g c.g q; blue = pair_from b b c.b s; alpha = refl; value = sym full })
short_from m r g b (x ∷ []) c p q s fade = four_from (pair r r) (pair g g) (pair b b) (pair x x) c
    (record { part = fade.n; red = pair_from r r c.r p; green = pair_from g g c.g q; blue = pair_from b b c.b s; alpha = pair_from x x fade.n fade.pair; value = sym fade.value })
short_from m r g b (x ∷ (y ∷ more)) c p q s none = absurd none

long_from : (m r s g h b d : ℕ) (behind : List ℕ) (c : Rgba) → IsPair r s c.r → IsPair g h c.g → IsPair b d c.b → IsLongAlpha behind c.a
    → hash_colour (m ∷ (r ∷ (s ∷ (g ∷ (h ∷ (b ∷ (d ∷ behind))))))) ≡ Some c
unfolding hash_colour
long_from m r s g h b d [] c p q t full = four_from (pair r s) (pair g h) (pair b d) (Some 255) c
    (record { part = 255; red = pair_from r s c.r p; green = pair_from g h c.g q; blue = pair_from b d c.b t; alpha = refl; value = sym full })
long_from m r s g h b d (x ∷ []) c p q t none = absurd none
long_from m r s g h b d (x ∷ (y ∷ [])) c p q t fade = four_from (pair r s) (pair g h) (pair b d) (pair x y) c
    (record { part = fade.n; red = pair_from r s c.r p; green = pair_from g h c.g q; blue = pair_from b d c.b t; alpha = pair_from x y fade.n fade.pair; value = sym fade.value })
long_from m r s g h b d (x ∷ (y ∷ (z ∷ more))) c p q t none = absurd none

hash_of : (words : List Word) → Option Rgba
hash_of words = option_and_then hash_colour (lone when_hash words)

named_of : (words : List Word) → Option Rgba
named_of words = option_and_then (lookup colour_names) (lone when_ident words)

spells_hash_to : (words : List Word) (c : Rgba) → hash_of words ≡ Some c → IsShortHash words c ⊎ IsLongHash words c
unfolding hash_of
spells_hash_to words c e =
    let both = then_to hash_colour (lone when_hash words) c e in
    subst (λ w. IsShortHash w c ⊎ IsLongHash w c) (sym (lone_hash_is words both.x both.first)) (hash_to both.x c both.second)

short_read : (words : List Word) (c : Rgba) → IsShortHash words c → hash_of words ≡ Some c
unfolding hash_of
short_read words c is = rw (is.alone, hash_alone (is.mark ∷ (is.r ∷ (is.g ∷ (is.b ∷ is.behind)))))
    (short_from is.mark is.r is.g is.b is.behind c is.red is.green is.blue is.alpha)

long_read : (words : List Word) (c : Rgba) → IsLongHash words c → hash_of words ≡ Some c
unfolding hash_of
long_read words c is = rw (is.alone, hash_alone (is.mark ∷ (is.r1 ∷ (is.r2 ∷ (is.g1 ∷ (is.g2 ∷ (is.b1 ∷ (is.b2 ∷ is.behind))))))))
    (long_from is.mark is.r1 is.r2 is.g1 is.g2 is.b1 is.b2 is.behind c is.red is.green is.blue is.alpha)

spells_named_to : (words : List Word) (c : Rgba) → named_of words ≡ Some c → SpellsKeyword colour_names words c
unfolding named_of
spells_named_to words c e =
    let both = then_to (lookup colour_names) (lone when_ident words) c e in
    record { bytes = both.x; alone = lone_ident_is words both.x both.first; entry = entry_to colour_names both.x c both.second }

named_read : (words : List Word) (c : Rgba) → SpellsKeyword colour_names words c → named_of words ≡ Some c
unfolding named_of
named_read words c is = rw (is.alone, ident_alone is.bytes) (entry_from colour_names is.bytes c colours_differ is.entry)

-- a channel at the front, held to 255
channel_front : (words : List Word) (f : ℕ × List Word) → channel_at words ≡ Some f → (n : ℕ) × (WholeFront words n f.1) × (min n 255 ≡ f.0)
unfolding channel_at
channel_front words f e =
    let both = then_to (λ g. Some (min g.0 255, g.1)) (whole_at words) f e in
    let same = some_same both.second in
    let front = whole_front words both.x both.first in
    (both.x.0, subst (λ t. WholeFront words both.x.0 t) (ap (λ p. p.1) same) front, ap (λ p. p.0) same)

channel_stands : (bytes : List ℕ) (n : ℕ) (rest : List Word) → IsWhole bytes n → channel_at (word Number bytes ∷ rest) ≡ Some (min n 255, rest)
unfolding channel_at
channel_stands bytes n rest is = rw (whole_stands bytes n rest is) refl

comma_channel : (words : List Word) (f : ℕ × List Word) → channel_and_comma words ≡ Some f
    → (n : ℕ) × (middle : List Word) × (WholeFront words n middle) × (Mark Comma middle f.1) × (min n 255 ≡ f.0)
unfolding channel_and_comma
comma_channel words f e =
    let both = comma_then (channel_at words) f e in
    let front = channel_front words (f.0, both.middle) both.first in
    (front.0, both.middle, front.1, both.comma, front.2)

comma_stands_behind : (bytes comma : List ℕ) (n : ℕ) (rest : List Word) → IsWhole bytes n
    → channel_and_comma (word Number bytes ∷ (word Comma comma ∷ rest)) ≡ Some (min n 255, rest)
unfolding channel_and_comma
comma_stands_behind bytes comma n rest is = rw (channel_stands bytes n (word Comma comma ∷ rest) is, comma_stands comma rest) refl

-- a function's name, which is one of two
record Opening (words rest : List Word) : Type 0 where
  pub bytes : List ℕ
  pub split : words ≡ word Function bytes ∷ rest
  pub is : (is_keyword (codes "rgb(") bytes ≡ true) ⊎ (is_keyword (codes "rgba(") bytes ≡ true)

opening_to : (words rest : List Word) → opening_at words ≡ Some rest → Opening words rest
unfolding opening_at
opening_to words rest e = by (function_at (codes "rgb(") words) (λ f. f) e where
  by : (o : Option (List Word)) → (o ≡ Some rest → function_at (codes "rgb(") words ≡ Some rest) → or_else o (function_at (codes "rgba(") words) ≡ Some rest → Opening words rest
  by (Some x) is f = let name = called (codes "rgb(") words rest (is f) in record { bytes = name.bytes; split = name.split; is = inl name.is }
  by None is f = let name = called (codes "rgba(") words rest f in record { bytes = name.bytes; split = name.split; is = inr name.is }

call_other : (name bytes : List ℕ) (rest : List Word) → is_keyword name bytes ≡ false → function_at name (word Function bytes ∷ rest) ≡ None
unfolding function_at front_of
call_other name bytes rest other = rw other refl

opening_stands : (bytes : List ℕ) (rest : List Word) → (is_keyword (codes "rgb(") bytes ≡ true) ⊎ (is_keyword (codes "rgba(") bytes ≡ true)
    → opening_at (word Function bytes ∷ rest) ≡ Some rest
unfolding opening_at
opening_stands bytes rest (inl is) = rw (call_stands (codes "rgb(") bytes rest is) refl
opening_stands bytes rest (inr is) = elim (cases_Bool (is_keyword (codes "rgb(") bytes)) [
  | inl as_well ↦ rw (call_stands (codes "rgb(") bytes rest as_well) refl
  | inr other ↦ rw (call_other (codes "rgb(") bytes rest other) (call_stands (codes "rgba(") bytes rest is)
]

-- an alpha or none, and `)`
ending_to : (words rest : List Word) (f : ℕ × List Word) → alpha_at words ≡ Some f → Mark RightParen f.1 rest → rest ≡ []
    → IsFullEnd words (255 * f.0) ⊎ IsFadedEnd words (255 * f.0)
unfolding alpha_at
ending_to words rest f e close last = by (behind is_comma words) (λ more h. h) e where
  closed : f.1 ≡ word RightParen close.bytes ∷ []
  closed = close.split ∙ ap (λ t. word RightParen close.bytes ∷ t) last

  by : (o : Option (List Word)) → ((more : List Word) → o ≡ Some more → behind is_comma words ≡ Some more)
      → elim o [ None ↦ Some (1000, words) | Some more ↦ share_at more ] ≡ Some f → IsFullEnd words (255 * f.0) ⊎ IsFadedEnd words (255 * f.0)
  by None is e =
      let same : (1000, words) ≡ f = some_same e in
      inl (record { end = close.bytes; joined = ap (λ (p : ℕ × List Word). p.1) same ∙ closed; full = ap (λ (p : ℕ × List Word). 255 * p.0) (sym same) })
  by (Some more) is e =
      let comma = comma_front words more (is more refl) in
      let share = share_front more f e in
      inr (record {
        comma = comma.bytes;
        share = share.bytes;
        end = close.bytes;
        n = f.0;
        joined = comma.split ∙ ap (λ t. word Comma comma.bytes ∷ t) (share.split ∙ ap (λ t. word Number share.bytes ∷ t) closed);
        is_share = share.is;
        value = refl;
      })

-- how an end is read
record Ending (words : List Word) (a : ℕ) : Type 0 where
  pub n : ℕ
  pub rest : List Word
  pub alpha : alpha_at words ≡ Some (n, rest)
  pub close : behind is_close rest ≡ Some []
  pub value : a ≡ 255 * n

ending_from : (words : List Word) (a : ℕ) → IsFullEnd words a ⊎ IsFadedEnd words a → Ending words a
unfolding alpha_at behind
ending_from words a (inl end) = record { n = 1000; rest = words; alpha = rw end.joined refl; close = rw end.joined refl; value = end.full }
ending_from words a (inr end) = record {
  n = end.n;
  rest = word RightParen end.end ∷ [];
  alpha = rw end.joined (share_stands end.share end.n (word RightParen end.end ∷ []) end.is_share);
  close = close_stands end.end [];
  value = end.value;
}

abbrev shade : ℕ → ℕ → ℕ → ℕ → Rgba
shade red green blue alpha = record { r = red; g = green; b = blue; a = alpha }

rgb_to : (words : List Word) (c : Rgba) → rgb_of words ≡ Some c → IsRgb words c
unfolding rgb_of
rgb_to words c e =
    let inside = then_to _ (opening_at words) c e in
    let r = then_to _ (channel_and_comma inside.x) c inside.second in
    let g = then_to _ (channel_and_comma r.x.1) c r.second in
    let b = then_to _ (channel_at g.x.1) c g.second in
    let a = then_to _ (alpha_at b.x.1) c b.second in
    let z = then_to _ (behind is_close a.x.1) c a.second in
    let last = end_is _ c z.x z.second in
    let name = opening_to words inside.x inside.first in
    let red = comma_channel inside.x r.x r.first in
    let green = comma_channel r.x.1 g.x g.first in
    let blue = channel_front g.x.1 b.x b.first in
    let close = close_front a.x.1 z.x z.first in
    let w1 = red.2 in let w2 = green.2 in let w3 = blue.1 in
    let m1 = red.3 in let m2 = green.3 in
    record {
      name = name.bytes;
      r = w1.bytes;
      g = w2.bytes;
      b = w3.bytes;
      first = m1.bytes;
      second = m2.bytes;
      behind = b.x.1;
      red = red.0;
      green = green.0;
      blue = blue.0;
      alpha = 255 * a.x.0;
      joined = name.split ∙ ap (λ t. word Function name.bytes ∷ t) (w1.split ∙ ap (λ t. word Number w1.bytes ∷ t) (m1.split
          ∙ ap (λ t. word Comma m1.bytes ∷ t) (w2.split ∙ ap (λ t. word Number w2.bytes ∷ t) (m2.split ∙ ap (λ t. word Comma m2.bytes ∷ t) w3.split))));
      called = name.is;
      is_red = w1.is;
      is_green = w2.is;
      is_blue = w3.is;
      is_end = ending_to b.x.1 z.x a.x a.first close last.0;
      value = sym last.1 ∙ sym (ap (λ k. shade k g.x.0 b.x.0 (255 * a.x.0)) red.4) ∙ sym (ap (λ k. shade (min red.0 255) k b.x.0 (255 * a.x.0)) green.4)
          ∙ sym (ap (λ k. shade (min red.0 255) (min green.0 255) k (255 * a.x.0)) blue.2);
    }

rgb_read : (words : List Word) (c : Rgba) → IsRgb words c → rgb_of words ≡ Some c
unfolding rgb_of
rgb_read words c is =
    let tail = word Number is.b ∷ is.behind in
    let middle = word Number is.g ∷ (word Comma is.second ∷ tail) in
    let inside = word Number is.r ∷ (word Comma is.first ∷ middle) in
    let ending = ending_from is.behind is.alpha is.is_end in
    rw (
      is.joined,
      opening_stands is.name inside is.called,
      comma_stands_behind is.r is.first is.red middle is.is_red,
      comma_stands_behind is.g is.second is.green tail is.is_green,
      channel_stands is.b is.blue is.behind is.is_blue,
      ending.alpha,
      ending.close,
    ) (ap (λ t. Some t) (sym (is.value ∙ ap (λ k. shade (min is.red 255) (min is.green 255) (min is.blue 255) k) ending.value)))

-- a list of one kind of words is of no other
no_hash : (words rest : List Word) (k : CssKind) (bytes : List ℕ) → words ≡ word k bytes ∷ rest → (k ≡ Hash → ⊥) → hash_of words ≡ None
unfolding hash_of
no_hash words rest k bytes e other = none (lone when_hash words) (λ b f. other (same_kind words k Hash bytes b rest [] e (lone_hash_is words b f))) where
  none : (o : Option (List ℕ)) → ((b : List ℕ) → o ≡ Some b → ⊥) → option_and_then hash_colour o ≡ None
  none None not_some = refl
  none (Some b) not_some = absurd (not_some b refl)

no_named : (words rest : List Word) (k : CssKind) (bytes : List ℕ) → words ≡ word k bytes ∷ rest → (k ≡ Ident → ⊥) → named_of words ≡ None
unfolding named_of
no_named words rest k bytes e other = none (lone when_ident words) (λ b f. other (same_kind words k Ident bytes b rest [] e (lone_ident_is words b f))) where
  none : (o : Option (List ℕ)) → ((b : List ℕ) → o ≡ Some b → ⊥) → option_and_then (lookup colour_names) o ≡ None
  none None not_some = refl
  none (Some b) not_some = absurd (not_some b refl)

all_of : (words : List Word) → Option Rgba
all_of words = or_else (hash_of words) (or_else (named_of words) (rgb_of words))

spelled_to : (words : List Word) (c : Rgba) → all_of words ≡ Some c → SpellsColour words c
unfolding all_of
spelled_to words c e = by (hash_of words) (named_of words) (λ f. f) (λ f. f) e where
  by : (h n : Option Rgba) → (h ≡ Some c → hash_of words ≡ Some c) → (n ≡ Some c → named_of words ≡ Some c) → or_else h (or_else n (rgb_of words)) ≡ Some c → SpellsColour words c
  by (Some x) n is_hash is_named f = elim (spells_hash_to words c (is_hash f)) [ inl s ↦ inl s | inr s ↦ inr (inl s) ]
  by None (Some x) is_hash is_named f = inr (inr (inl (spells_named_to words c (is_named f))))
  by None None is_hash is_named f = inr (inr (inr (rgb_to words c f)))

spelled_from : (words : List Word) (c : Rgba) → SpellsColour words c → all_of words ≡ Some c
unfolding all_of
spelled_from words c s = elim s [
  | inl short ↦ rw (short_read words c short) refl
  | inr more ↦ elim more [
    | inl long ↦ rw (long_read words c long) refl
    | inr rest ↦ elim rest [
      | inl word ↦ rw (no_hash words [] Ident word.bytes word.alone (λ f. cc), named_read words c word) refl
      | inr rgb ↦ rw (no_hash words _ Function rgb.name rgb.joined (λ f. cc), no_named words _ Function rgb.name rgb.joined (λ f. cc)) (rgb_read words c rgb)
    ]
  ]
]

pub colour_reads : (words : List Word) → Reads (colour_of words) (SpellsColour words) (NonePast words)
unfolding colour_of all_of hash_of named_of
colour_reads words = reads_of (all_of words) _ (SpellsColour words) (NonePast words)
    (λ none. reads_bad _ _ (λ c s. let e = spelled_from words c s in cc) (λ p. p))
    (λ c some. reads_ok _ _ c (spelled_to words c some) (λ d s. some_same (sym some ∙ spelled_from words d s)) (λ p. p))
