-- `spelt` meets its contract. The loop's invariant: the tables are those of the characters gone through, and the others are still to come
-- (`Spelling`).
use Prim.Native.Nat.{◌-◌, ℕ}
use lib.ListN.{get_or}
use Rattle.decide_texts.specs.TextsCoded.{start, text_from}
use Rattle.decide_texts.proofs.SpeltTables.{Spelling}
use mathlib.Core.List.{List}
use Rattle.decide_texts.proofs.spelt.Given as goal

-- what stands at each place
abbrev pub at_of : List ℕ → ℕ → ℕ
at_of ends k = get_or ends k 0

abbrev pub invariant-loop-at : goal.invariant-loop-at
invariant-loop-at l =
    Spelling (text_from l.n l.follow l.taking (at_of l.ends) l.length start) (text_from l.n l.follow l.taking (at_of l.ends) (l.length - l.at) l.set) l.tables l.at
