-- Looking a character up, entry by entry: what is left of the table from the character c on.
--   found_here : where c has this shift and this value, it is c
--   not_here   : where it has not, it is looked for from the next one on
--   none_left  : behind the last character there is nothing
use Prim.Native.Nat.{ℕ, suc, ◌+◌, ◌*◌, ◌<◌, ◌≤◌}
use native.Mathlib.Numerals.{add-one}
use native.Mathlib.Omega.{arith}
use mathlib.Core.Path.{◌≡◌, ap, ◌∙◌}
use mathlib.Core.Bool.{false, ◌&&◌}
use mathlib.Core.List.{List, ◌∷◌}
use lib.Dec.{eqb}
use lib.ListN.{drop, drop_of_length-le}
use lib.Seq.{drop-cons}
use Rattle.paper.proofs.base.Tests.{eq_eqb}
use Rattle.paper_spell.specs.FullAscii.{ascii, table, shift_of, value_of, look_up}
use Rattle.paper_spell.proofs.Table.{table_length}

-- what is looked up from c on
abbrev pub looked_up : ℕ → ℕ → ℕ → ℕ
looked_up s v c = look_up (drop (2 * c) table) s v c

module _ (s v c : ℕ) (h : c < ascii) where
  entry : drop (2 * c) table ≡ shift_of c ∷ value_of c ∷ drop (2 * (c + 1)) table
  entry =
      let two : 2 * (c + 1) ≡ suc (suc (2 * c)) = omega arith in
      drop-cons table (2 * c) 0 (omega (arith, table_length))
      ∙ rw (two, add-one (2 * c)) (ap (λ (l : List ℕ). shift_of c ∷ l) (drop-cons table (suc (2 * c)) 0 (omega (arith, table_length))))

  pub found_here : shift_of c ≡ s → value_of c ≡ v → looked_up s v c ≡ c
  found_here e f = rw (entry, eq_eqb (shift_of c) s e, eq_eqb (value_of c) v f)

  pub not_here : eqb (shift_of c) s && eqb (value_of c) v ≡ false → looked_up s v c ≡ looked_up s v (c + 1)
  not_here e = rw (entry, e, add-one c)

pub none_left : (s v c : ℕ) → ascii ≤ c → looked_up s v c ≡ c
none_left s v c h = rw (drop_of_length-le table {i = 2 * c} (omega (arith, table_length)))
