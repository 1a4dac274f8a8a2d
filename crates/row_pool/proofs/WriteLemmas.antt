-- Words that are written over others.
use Rattle.std.proofs.Common.{rules, arith, ℕ, ◌≡◌, ◌+◌, ◌-◌, ◌<◌, ◌≤◌, List, ◌++◌, length, get_or, take, drop}
use Rattle.std.proofs.lemmas.List.{places}

-- the words after words were written over them from a place on, as many as there are
abbrev pub written : List ℕ → ℕ → List ℕ → List ℕ
written items start words = take start items ++ (words ++ drop (length words) (drop start items))

abbrev pub cut : List ℕ → ℕ → List ℕ → List ℕ
cut items start words = take (length items) (written items start words ++ drop (length (written items start words)) items)

pub cut-length : (items : List ℕ) (start : ℕ) (words : List ℕ) → start ≤ length items → length (cut items start words) ≡ length items
cut-length items start words h = search (rules, places)

pub cut-before : (items : List ℕ) (start : ℕ) (words : List ℕ) (place : ℕ) → start ≤ length items → place < start → get_or (cut items start words) place 0 ≡ get_or items place 0
cut-before items start words place h before = grind (arith, places)

pub cut-inside : (items : List ℕ) (start : ℕ) (words : List ℕ) (place : ℕ) → start ≤ length items → start ≤ place → place < start + length words → place < length items
    → get_or (cut items start words) place 0 ≡ get_or words (place - start) 0
cut-inside items start words place h from to there = grind (arith, places)

pub cut-behind : (items : List ℕ) (start : ℕ) (words : List ℕ) (place : ℕ) → start ≤ length items → start + length words ≤ place → get_or (cut items start words) place 0 ≡ get_or items place 0
cut-behind items start words place h behind = grind (arith, places)
