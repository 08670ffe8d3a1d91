-- The edition of a sheet, by whether it begins with `ED` and the byte 2. Follows from the definition of `edition_front`, by its tests.
use Prim.Native.Nat.{ℕ}
use native.Mathlib.Omega.{arith}
use mathlib.Core.Path.{◌≡◌, refl}
use mathlib.Core.Bool.{Bool, cond}
use mathlib.Core.List.{List, [], ◌∷◌}
use lib.Dec.{eqb}
use lib.ListN.{length}
use Rattle.std.specs.List.{starts_with}
use Rattle.paper.specs.Alphabet.{edition_1, edition_2}
use Rattle.paper.specs.Sheet.{bytes_left, marked, next_is, edition_front}
use Rattle.paper.proofs.base.Tests.{by_bool, le_ltb, eqb_symmetric}
use Rattle.paper_print.specs.TextLines.{sheet_edition}

abbrev pub marks_second : List ℕ → Bool
marks_second s = starts_with eqb s (69 ∷ 68 ∷ 2 ∷ [])

pub edition_by_bytes : (s : List ℕ) → cond (marks_second s) edition_2 edition_1 ≡ sheet_edition s
unfolding sheet_edition edition_front next_is marked
edition_by_bytes [] = refl
edition_by_bytes (a ∷ []) = by_bool (eqb 69 a) (λ x. rw x) (λ x. rw x)
edition_by_bytes (a ∷ b ∷ []) =
    rw (eqb_symmetric 69 a, eqb_symmetric 68 b)
    (by_bool (eqb a 69) (λ x. by_bool (eqb b 68) (λ y. rw (x, y)) (λ y. rw (x, y))) (λ x. rw x))
edition_by_bytes (a ∷ b ∷ c ∷ s) =
    rw (eqb_symmetric 69 a, eqb_symmetric 68 b, eqb_symmetric 2 c, le_ltb (bytes_left (a ∷ b ∷ c ∷ s) 0) 2 (omega arith), le_ltb (length (a ∷ b ∷ c ∷ s)) 3 (omega arith))
    (by_bool (eqb a 69) (λ x. by_bool (eqb b 68) (λ y. by_bool (eqb c 2) (λ z. rw (x, y, z)) (λ z. rw (x, y, z))) (λ y. rw (x, y))) (λ x. rw x))
