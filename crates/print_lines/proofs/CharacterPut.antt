-- A character, as it was put: the sign of its value alone, or that of its shift sign and that of its value. Follows from the definition, by its test.
use Prim.Native.Nat.{ℕ}
use mathlib.Core.Path.{◌≡◌, sym}
use lib.Dec.{eqb}
use Rattle.std.proofs.Common.{Some, None}
use Rattle.std.proofs.lemmas.Option.{none-some, same_Some}
use Rattle.spell_table.specs.Entries.{shift_sign}
use mathlib.Core.List.{List, [], ◌∷◌, map}
use Rattle.paper.specs.Alphabet.{Edition}
use Rattle.paper.specs.Printed.{sign}
use Rattle.paper.proofs.base.Tests.{by_bool}
use Rattle.paper_spell.specs.FullAscii.{no_shift}
use Rattle.print_signs.specs.PrintedCharacter.{shift_printed, value_printed, values_of_character}
use Rattle.print_lines.specs.Writing.{Puts}
use Rattle.print_lines.proofs.Putting.{puts_then}

module _ (k : Edition) (c v : ℕ) (its-value : v ≡ value_printed k c) where
  pub put_alone : {d e : List ℕ} {at n x : ℕ} → shift_sign (shift_printed k c) ≡ None → x ≡ sign v → Puts d e at n (x ∷ []) → Puts d e at n (map sign (values_of_character k c))
  unfolding values_of_character
  put_alone none f p =
      by_bool (eqb (shift_printed k c) no_shift) (λ e. rw (← its-value, e, ← f) p) (λ e. absurd (none-some (shift_printed k c) (sym (rw e at none))))

  pub put_shifted : {d e f : List ℕ} {s at b n x y : ℕ} → shift_sign (shift_printed k c) ≡ Some s → x ≡ sign s → y ≡ sign v → Puts d e at b (x ∷ []) → Puts e f b n (y ∷ [])
      → Puts d f at n (map sign (values_of_character k c))
  unfolding values_of_character
  put_shifted {s = s} some g h p q =
      by_bool (eqb (shift_printed k c) no_shift) (λ e. absurd (none-some s (rw e at some)))
      (λ e. let same : shift_printed k c ≡ s = same_Some _ _ (rw e at some) in rw (← its-value, e, same, ← g, ← h) (puts_then p q))
