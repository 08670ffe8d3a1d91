-- The sheet that says given sides and patterns by field (document 01, "The question sheet"; request K8): "Given the two sides and the patterns by
-- field, please write the one sheet that says them." And the sheet that says a question: its patterns, operator first, and its sides.
use Rattle.std.specs.Prelude.{ℕ, suc, ◌+◌, cond, List, [], ◌∷◌, ◌++◌, map, ltb, eqb, length, take, drop}
use Rattle.paper.specs.Lists.{each}
use Rattle.paper.specs.Numbers.{empty_code, range_code, then_code, or_code, many_code}
use Rattle.paper.specs.Alphabet.{Edition, edition_1, edition_2, edition_of, codes_from, bytes_of}
use Rattle.paper.specs.Pattern.{char, range, Pattern, leaf, empty, then, either, many, Held, some_text, pattern}
use Rattle.paper.specs.Equation.{Token, chr, fld, Side}
use Rattle.paper.specs.Question.{Question}
use Rattle.paper.specs.Sheet.{Mark, PA, LE, RI, ED, first_letter, second_letter}

abbrev pub mark_bytes : Mark → List ℕ
mark_bytes m = first_letter m ∷ second_letter m ∷ []

-- `PA`: "field byte 0 to 7, length byte n 1 to 192, n bytes"
abbrev pub pattern_laid : ℕ → ℕ → List ℕ → List ℕ
pattern_laid f n code = mark_bytes PA ++ f ∷ n ∷ code

-- `LE`, `RI`: "length byte 0 to 24, tokens"
abbrev pub side_laid : Mark → List ℕ → List ℕ
side_laid m tokens = mark_bytes m ++ length tokens ∷ tokens

-- `ED` and its byte; 0 is for a sheet without it (request K10)
abbrev pub edition_laid : ℕ → List ℕ
edition_laid n = cond (eqb n 0) [] (mark_bytes ED ++ n ∷ [])

-- What a sheet is to say: its edition's byte, 0 for none; the bytes of all patterns one behind the other, how many of them each field has, by field number, and both sides. A
-- field whose length is 0, and one behind the last length, has no pattern. A field's number and a length stand in the sheet as the numbers that they
-- are, also where no byte holds them: reading refuses them then as it refuses the bytes 8 to 255, or 193 to 255 (`NoByte` of `paper_write`).
pub record ToSay : Type 0 where
  pub edition : ℕ
  pub patterns : List ℕ
  pub lengths : List ℕ
  pub left : List ℕ
  pub right : List ℕ

-- The records of the fields from f on, "field numbers rising", and the rest. Where bytes of a pattern are missing, the sheet ends with those that
-- are there.
abbrev pub laid_from : ℕ → List ℕ → List ℕ → List ℕ → List ℕ
laid_from f [] patterns rest = rest
laid_from f (n ∷ lengths) patterns rest =
    cond (eqb n 0) (laid_from (suc f) lengths patterns rest)
    (cond (ltb (length patterns) n) (pattern_laid f n patterns)
    (pattern_laid f n (take n patterns) ++ laid_from (suc f) lengths (drop n patterns) rest))

unfoldable pub sheet_laid : ToSay → List ℕ
sheet_laid t = edition_laid t.edition ++ laid_from 0 t.lengths t.patterns (side_laid LE t.left ++ side_laid RI t.right)

-- "A pattern is written operator first": its codes
abbrev pub pattern_code : Pattern → List ℕ
pattern_code (leaf (char c)) = c ∷ []
pattern_code (leaf (range lo hi)) = range_code ∷ lo ∷ hi ∷ []
pattern_code empty = empty_code ∷ []
pattern_code (then a b) = then_code ∷ pattern_code a ++ pattern_code b
pattern_code (either a b) = or_code ∷ pattern_code a ++ pattern_code b
pattern_code (many a) = many_code ∷ pattern_code a

-- the byte of an edition
abbrev pub edition_byte : Edition → ℕ
edition_byte edition_1 = 0
edition_byte edition_2 = 2

-- what is said in the bytes of an edition
module _ (e : Edition) where
  abbrev pub token_byte : Token → ℕ
  token_byte (chr c) = c
  token_byte (fld f) = codes_from e + f

  -- "A field without `PA` is open": it has no code.
  abbrev pub held_code : Held → List ℕ
  held_code some_text = []
  held_code (pattern p) = bytes_of e (pattern_code p)

  abbrev pub held_lengths : List Held → List ℕ
  held_lengths held = map (λ (h : Held). length (held_code h)) held

  -- The same record by record, as a rule has them too: the patterns of the fields from f on, and a side.
  abbrev pub pattern_saying : ℕ → Held → List ℕ
  pattern_saying f some_text = []
  pattern_saying f (pattern p) = pattern_laid f (length (pattern_code p)) (bytes_of e (pattern_code p))

  abbrev pub patterns_saying : ℕ → List Held → List ℕ
  patterns_saying f [] = []
  patterns_saying f (h ∷ held) = pattern_saying f h ++ patterns_saying (suc f) held

  abbrev pub side_saying : Mark → Side → List ℕ
  side_saying m side = mark_bytes m ++ length side ∷ map token_byte side

abbrev pub to_say : Question → ToSay
to_say q =
    let e = edition_of q.alphabet in
    record {
      edition = edition_byte e;
      patterns = each (held_code e) q.held;
      lengths = held_lengths e q.held;
      left = map (token_byte e) q.left;
      right = map (token_byte e) q.right;
    }

unfoldable pub sheet_saying : Question → List ℕ
sheet_saying q = sheet_laid (to_say q)
