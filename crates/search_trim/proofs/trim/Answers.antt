-- `trim` meets its contract: the sides behind their equal characters are padded, and counted.
use Prim.Native.Nat.{ℕ, ◌-◌}
use mathlib.Core.Path.{◌≡◌}
use mathlib.Core.List.{List}
use lib.ListN.{length, take, drop, length-drop}
use Rattle.paper.specs.Numbers.{longest_side}
use Rattle.base_codes.specs.Inner.{padded}
use Rattle.search_trim.specs.Trimming.{alike_in_front, trimmed_of}
use Rattle.search_trim.proofs.TrimTurns.{rest_part}
use Rattle.search_trim.proofs.trim.Goals.{After-alike_in_front-n}
use Rattle.search_trim.proofs.trim.Goals as goal

-- what is padded and counted are the sides behind n equal characters
trimmed_as : (l r : List ℕ) {n : ℕ} {x y : List ℕ} → n ≡ alike_in_front l r
    → x ≡ padded (take longest_side (take (length l - n) (drop n l))) → y ≡ padded (take longest_side (take (length r - n) (drop n r)))
    → record { left = x; right = y; left_len = length l - n; right_len = length r - n } ≡ trimmed_of l r
unfolding trimmed_of
trimmed_as l r {n} e x y = rw (← e, x, y, rest_part n l, rest_part n r, length-drop, length-drop)

pub returns : goal.returns
returns c =
    let a = c.args in
    trimmed_as a.l.now a.r.now c.alike_in_front-n.ensures c.padded_side-left.ensures c.padded_side-right.ensures
