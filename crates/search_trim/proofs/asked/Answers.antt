-- `asked` meets its contract: where the sides are short, all of what is left of them has room.
use Prim.Native.Nat.{ℕ, ◌≤◌}
use native.Mathlib.Omega.{arith}
use mathlib.Core.Path.{◌≡◌}
use mathlib.Core.List.{List, ◌++◌}
use lib.ListN.{length, drop, length-drop}
use lib.Seq.{take_all}
use Rattle.paper.specs.Numbers.{longest_side}
use Rattle.base_codes.specs.Coded.{as_struct}
use Rattle.search_trim.specs.Trimming.{alike_in_front, trimmed_of, first_masks, question_coded}
use Rattle.search_trim.specs.declared.Trimmed.{Trimmed}
use Rattle.search_trim.proofs.asked.Goals as goal

-- the question by what is trimmed
asked_as : (l r : List ℕ) {t : Trimmed} {sets : List ℕ} → length l ≤ longest_side → length r ≤ longest_side → sets ≡ first_masks (l ++ r)
    → t ≡ trimmed_of l r → record { left = t.left; right = t.right; sets = sets } ≡ as_struct (question_coded l r)
unfolding trimmed_of question_coded
asked_as l r h k e f =
    let n = alike_in_front l r in
    let left : length (drop n l) ≤ longest_side = rw length-drop (omega arith) in
    let right : length (drop n r) ≤ longest_side = rw length-drop (omega arith) in
    rw (e, f, take_all longest_side (drop n l) left, take_all longest_side (drop n r) right)

pub returns : goal.returns
returns c =
    asked_as c.args.l.now c.args.r.now c.requires.0 c.requires.1 c.first_masks-sets.ensures c.trim.ensures
