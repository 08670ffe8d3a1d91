-- How trimmed sides are judged that are not dead and have room: the situation is made of them as they are. Follows from the definitions.
use Prim.Native.Nat.{ℕ, ◌≤◌}
use mathlib.Core.Path.{◌≡◌}
use mathlib.Core.Bool.{false}
use mathlib.Core.List.{List}
use lib.ListN.{length}
use lib.Seq.{take_all}
use Rattle.paper.specs.Numbers.{longest_side}
use Rattle.paper.proofs.base.Tests.{le_leb}
use Rattle.search_trim.specs.Trimming.{trimmed_sides}
use Rattle.search_trim.specs.declared.Trimmed.{Trimmed}
use Rattle.search_children.specs.Children.{dead_sides, judged_sides}
use Rattle.search_children.specs.Laid.{child_of}
use Rattle.search_children.specs.declared.Child.TheVariants.{Made}

pub judged_made : (t : Trimmed) (l r sets : List ℕ) → t ≡ trimmed_sides l r → dead_sides l r ≡ false → t.left_len ≤ longest_side → t.right_len ≤ longest_side
    → Made (record { left = t.left; right = t.right; sets = sets }) ≡ child_of (judged_sides l r sets)
unfolding judged_sides
judged_made t l r sets e d h k =
    let few_left : length l ≤ longest_side = rw e at h in
    let few_right : length r ≤ longest_side = rw e at k in
    rw (d, le_leb (length l) longest_side few_left, le_leb (length r) longest_side few_right, e, take_all longest_side l few_left, take_all longest_side r few_right)
