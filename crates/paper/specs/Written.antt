-- A pattern's bytes (document 01, "A pattern is written operator first"): reading them, 15 and 16, and the byte at fault (request K2). Each byte
-- stands here as its code (`Alphabet.code`), which is one for both editions: below 43, behind `ED` below 128, a character, 192 to 196 for 64 to 68, and
-- 255 where it is neither. So what a byte may be is judged by its code alone.
use Rattle.std.specs.Prelude.{ℕ, zero, suc, ◌-◌, cond, ◌&&◌, List, [], ◌∷◌, ◌++◌, leb, ltb, eqb, length, get_or}
use Rattle.paper.specs.Numbers.{most_characters, empty_code, range_code, then_code, or_code, many_code, most_leaves}
use Rattle.paper.specs.Pattern.{char, range, Pattern, leaf, empty, then, either, many}
use Rattle.paper.specs.Places.{leaves}

-- One pattern, how many bytes are left from the first byte of each of its leaves on, and the bytes left behind it; or how many are left from
-- the byte at fault on, none where the code runs out.
pub data Part : Type 0 where
  no_pattern : ℕ → Part
  part : Pattern → List ℕ → List ℕ → Part

-- "65 lo hi: one character with lo ≤ value ≤ hi ≤ 42": "the lo byte if lo is above 42, else the hi byte if that is above 42 or below lo"; behind `ED`
-- "a range's ends go to 127"
abbrev pub read_hi : ℕ → List ℕ → Part
read_hi lo [] = no_pattern 0
read_hi lo (hi ∷ s) =
    cond (leb lo hi && ltb hi most_characters) (part (leaf (range lo hi)) (length (range_code ∷ lo ∷ hi ∷ s) ∷ []) s) (no_pattern (length (hi ∷ s)))

abbrev pub read_range : List ℕ → Part
read_range [] = no_pattern 0
read_range (lo ∷ s) = cond (ltb lo most_characters) (read_hi lo s) (no_pattern (length (lo ∷ s)))

-- "66 A B", "67 A B": the second pattern is read from where the first ended
abbrev pub second_part : (Pattern → Pattern → Pattern) → Pattern → List ℕ → Part → Part
second_part op a starts (no_pattern left) = no_pattern left
second_part op a starts (part b more s) = part (op a b) (starts ++ more) s

abbrev pub two_parts : (Pattern → Pattern → Pattern) → Part → (List ℕ → Part) → Part
two_parts op (no_pattern left) rest = no_pattern left
two_parts op (part a starts s) rest = second_part op a starts (rest s)

-- "68 A"
abbrev pub many_part : Part → Part
many_part (no_pattern left) = no_pattern left
many_part (part a starts s) = part (many a) starts s

-- The pattern at the front of the bytes, "read left to right"; else "the first byte that is no code". Every call reads a byte, so as many turns
-- as there are bytes are enough.
abbrev pub read_part : ℕ → List ℕ → Part
read_part zero s = no_pattern 0
read_part (suc n) [] = no_pattern 0
read_part (suc n) (b ∷ s) =
    let a = read_part n s in
    let a-then-b = two_parts then a (λ (r : List ℕ). read_part n r) in
    let a-or-b = two_parts either a (λ (r : List ℕ). read_part n r) in
    cond (ltb b most_characters) (part (leaf (char b)) (length (b ∷ s) ∷ []) s)
    (cond (eqb b empty_code) (part empty [] s)
    (cond (eqb b range_code) (read_range s)
    (cond (eqb b then_code) a-then-b
    (cond (eqb b or_code) a-or-b
    (cond (eqb b many_code) (many_part a)
    (no_pattern (length (b ∷ s))))))))

-- "The n bytes after the length byte are judged by themselves, as exactly one pattern that uses them all" (else 15).
-- "A pattern has at most 63 leaves" (else 16). With a fault goes the offset of its byte.
pub data Judged : Type 0 where
  not_one_pattern : ℕ → Judged
  too_many_leaves : ℕ → Judged
  judged : Pattern → Judged

-- n bytes in all: "where bytes are left over, the first of them"; "for 16 it is the 64th leaf's first byte"
abbrev pub judge_part : ℕ → Part → Judged
judge_part n (no_pattern left) = not_one_pattern (n - left)
judge_part n (part p starts []) =
    cond (leb (leaves p) most_leaves) (judged p) (too_many_leaves (n - get_or starts most_leaves 0))
judge_part n (part p starts (b ∷ s)) = not_one_pattern (n - length (b ∷ s))

unfoldable pub judge : List ℕ → Judged
judge s = judge_part (length s) (read_part (length s) s)
