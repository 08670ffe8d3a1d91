-- Known sheets of the small engine, with the buffer lent and the whole outcome that must come (`few_sheets_met`), and a sheet that needs all the bytes
-- that are ever needed (`largest_needs`). The checker computes them. Few, since each edit of the definitions pays for what is computed here.
use Prim.Native.Nat.{ℕ, suc}
use mathlib.Core.Path.{◌≡◌, refl}
use mathlib.Core.Bool.{Bool, true, false, cond}
use mathlib.Core.List.{List, [], ◌∷◌, ◌++◌, map}
use lib.ListN.{replicate}
use Rattle.paper.specs.Lists.{upto, each}
use Rattle.paper.specs.Search.{enter, offer, take_next, search}
use Rattle.paper.specs.Written.{judge}
use Rattle.paper.specs.Alphabet.{code}
use Rattle.paper.specs.Sheet.{marked, pattern_record, side_record, read_end, marked_side, next_is, edition_front, strays_of, read_by, read_sheet}
use Rattle.paper.proofs.known.KnownSheet.{PA, LE, RI, x, A, B, space}
use Rattle.paper.proofs.known.KnownFew.{leaves_by}
use Rattle.paper_plain.specs.Standing.{next_pairs, pairs_searched}
use Rattle.paper_plain.specs.Engine.{Engine, bits_of, clashes_apart, engine, needs}
use Rattle.paper_plain.specs.EnginePromised.{enough_bytes}

-- a sheet, how many bytes are lent, and what must come: number, place, and whether the buffer is all zero afterwards or unchanged
pub record Known : Type 0 where
  pub sheet : List ℕ
  pub lent : ℕ
  pub number : ℕ
  pub place : ℕ
  pub all_zero : Bool

abbrev row : List ℕ → ℕ → ℕ → Known
row sheet lent number = record { sheet = sheet; lent = lent; number = number; place = 0; all_zero = true }

abbrev got : Known → Engine
got k = engine k.sheet (replicate k.lent 90)

abbrev wanted : Known → Engine
wanted k = record { number = k.number; count = 0; place = k.place; bits = cond k.all_zero (replicate k.lent 0) (replicate k.lent 90) }

abbrev few_sheets : List Known
few_sheets =
    -- both sides empty: three standings each
    row (LE [] ++ RI []) 2 0 ∷
    row (LE [] ++ RI []) 1 43 ∷
    row (LE (A ∷ []) ++ RI (B ∷ [])) 2 1 ∷
    -- four standings and three
    row (LE (A ∷ []) ++ RI (A ∷ space ∷ [])) 3 0 ∷
    row (LE (x ∷ []) ++ RI (A ∷ [])) 3 0 ∷
    -- x twice
    row (LE (x ∷ A ∷ []) ++ RI (B ∷ x ∷ [])) 4 42 ∷
    -- a byte that is no token; a stray pattern, where x stands twice
    record { sheet = LE (43 ∷ []); lent = 2; number = 17; place = 3; all_zero = false } ∷
    record { sheet = PA 0 (A ∷ []) ++ PA 1 (A ∷ []) ++ LE (x ∷ []) ++ RI (x ∷ []); lent = 2; number = 22; place = 5; all_zero = false } ∷
    []

pub few_sheets_met : map got few_sheets ≡ map wanted few_sheets
unfolding judge enter offer take_next search marked pattern_record side_record read_end marked_side next_is code edition_front read_by strays_of read_sheet next_pairs pairs_searched bits_of clashes_apart engine
few_sheets_met = refl

-- Four fields of 63 leaves and 20 characters a side need all the bytes that are ever needed.
abbrev widest : ℕ → List ℕ
widest f = PA f (leaves_by 66 62)

abbrev largest_side : ℕ → List ℕ
largest_side f = f ∷ suc f ∷ suc (suc f) ∷ suc (suc (suc f)) ∷ replicate 20 A

abbrev largest_sheet : List ℕ
largest_sheet = each widest (upto 8) ++ LE (largest_side 64) ++ RI (largest_side 68)

pub largest_needs : needs largest_sheet ≡ record { number = 0; place = 0; bytes = enough_bytes }
unfolding judge marked pattern_record side_record read_end marked_side next_is code edition_front read_by strays_of read_sheet bits_of needs
largest_needs = refl
