-- The sheet that says a question, record by record.
--   said_parts : sheet_saying q ≡ edition_laid n ++ (patterns_saying e 0 q.held ++ (side_saying e LE q.left ++ side_saying e RI q.right)),
--                where e is the question's edition and n its byte
--   code_bytes : a pattern's code has bytes
-- By induction over the fields.
use Prim.Native.Nat.{ℕ, suc, ◌<◌}
use native.Mathlib.Omega.{arith}
use mathlib.Core.Path.{◌≡◌, refl, sym, ap, ap₂, ◌∙◌}
use mathlib.Core.List.{List, [], ◌∷◌, ◌++◌, map, append_assoc}
use lib.ListN.{length, length-append, length-map}
use lib.Seq.{take-append_seam, drop-append_seam}
use Rattle.paper.specs.Lists.{each}
use Rattle.paper.specs.Pattern.{Pattern, leaf, char, range, empty, then, either, many, Held, some_text, pattern}
use Rattle.paper.specs.Equation.{Side}
use Rattle.paper.specs.Alphabet.{Edition, edition_of, byte_of, bytes_of}
use Rattle.paper.specs.Question.{Question}
use Rattle.paper.specs.Sheet.{Mark, LE, RI}
use Rattle.paper.specs.Saying.{mark_bytes, pattern_laid, side_laid, edition_laid, edition_byte, laid_from, sheet_laid, pattern_code, token_byte, held_code, held_lengths}
use Rattle.paper.specs.Saying.{sheet_saying, pattern_saying, patterns_saying, side_saying}
use Rattle.paper.proofs.base.Tests.{le_ltb, neq_eqb}

pub code_bytes : (p : Pattern) → 0 < length (pattern_code p)
code_bytes (leaf (char c)) = omega arith
code_bytes (leaf (range lo hi)) = omega arith
code_bytes empty = omega arith
code_bytes (then a b) = omega arith
code_bytes (either a b) = omega arith
code_bytes (many a) = omega arith

from_held : (e : Edition) (held : List Held) (f : ℕ) (rest : List ℕ)
    → laid_from f (held_lengths e held) (each (held_code e) held) rest ≡ patterns_saying e f held ++ rest
from_held e [] f rest = refl
from_held e (some_text ∷ held) f rest = from_held e held (suc f) rest
from_held e (pattern p ∷ held) f rest =
    let code = bytes_of e (pattern_code p) in
    let codes = each (held_code e) held in
    let same = length-map (pattern_code p) (byte_of e) in
    let some = code_bytes p in
    rw (
      neq_eqb (length code) 0 (λ (z : length code ≡ 0). omega arith),
      le_ltb (length (code ++ codes)) (length code) (omega (arith, length-append code codes)),
      take-append_seam code codes,
      drop-append_seam code codes,
    )
    (ap₂ (λ (n : ℕ) (records : List ℕ). pattern_laid f n code ++ records) same (from_held e held (suc f) rest)
    ∙ sym (append_assoc (pattern_saying e f (pattern p)) (patterns_saying e (suc f) held) rest))

of_side : (e : Edition) (m : Mark) (side : Side) → side_laid m (map (token_byte e) side) ≡ side_saying e m side
of_side e m side = ap (λ (n : ℕ). mark_bytes m ++ n ∷ map (token_byte e) side) (length-map side (token_byte e))

abbrev pub behind_edition : Edition → Question → List ℕ
behind_edition e q = patterns_saying e 0 q.held ++ (side_saying e LE q.left ++ side_saying e RI q.right)

pub said_parts : (q : Question)
    → sheet_saying q ≡ edition_laid (edition_byte (edition_of q.alphabet)) ++ behind_edition (edition_of q.alphabet) q
unfolding sheet_laid sheet_saying
said_parts q =
    let e = edition_of q.alphabet in
    ap (λ (s : List ℕ). edition_laid (edition_byte e) ++ s)
    (ap₂ (λ (l r : List ℕ). laid_from 0 (held_lengths e q.held) (each (held_code e) q.held) (l ++ r)) (of_side e LE q.left) (of_side e RI q.right)
    ∙ from_held e q.held 0 (side_saying e LE q.left ++ side_saying e RI q.right))
