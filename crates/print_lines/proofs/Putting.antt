-- Laws of bytes put into a buffer from a place on: none, one behind the other, and all of them from the front. Follows from the laws of
-- stores one after the other.
use Prim.Native.Nat.{ℕ, suc, ◌+◌, ◌≤◌}
use native.Mathlib.Nat.{add-zero, add-suc, suc-add, zero-add, add_assoc}
use mathlib.Core.Path.{◌≡◌, refl, sym, ◌∙◌}
use mathlib.Core.List.{List, [], ◌∷◌, ◌++◌}
use lib.ListN.{length, set, length-append}
use lib.Seq.{sets, sets-eq}
use Rattle.print_lines.specs.Lines.{lines_in_front}
use Rattle.print_lines.specs.Writing.{Puts}

sets_append : (d : List ℕ) (at : ℕ) (l m : List ℕ) → sets d at (l ++ m) ≡ sets (sets d at l) (at + length l) m
sets_append d at [] m = rw add-zero
sets_append d at (b ∷ l) m = rw add-suc (rw (← suc-add) (sets_append (set d at b) (suc at) l m))

module _ {d : List ℕ} {at : ℕ} where
  pub puts_none : Puts d d at at []
  puts_none = record { bytes = refl; behind = sym (add-zero at) }

  pub puts_then : {e f : List ℕ} {b c : ℕ} {l m : List ℕ} → Puts d e at b l → Puts e f b c m → Puts d f at c (l ++ m)
  puts_then {l = l} {m = m} p q =
      record {
        bytes = q.bytes ∙ rw (p.bytes, p.behind) (sym (sets_append d at l m));
        behind = q.behind ∙ rw (p.behind, length-append) (add_assoc at (length l) (length m));
      }

-- what was put from the front on stands in front
pub puts_in_front : {d e l : List ℕ} {n : ℕ} → Puts d e 0 n l → length l ≤ length d → e ≡ lines_in_front l d
puts_in_front {d} {e} {l} p h = p.bytes ∙ sets-eq l d 0 (rw zero-add h) ∙ rw zero-add
