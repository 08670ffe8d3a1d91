-- `endings` meets its contract. The loop's invariant: the numbers below k are there, `here` is the next one, and what is sought is the first that is asked
-- for of those from k on, or `length`.
use Prim.Native.Nat.{ℕ, ◌+◌, ◌≤◌, ◌<◌}
use lib.ListN.{length, get_or}
use Rattle.paper_decide.specs.OneText.{lengths_tried, one_from}
use Rattle.decide_texts.specs.TextsCoded.{ending, meets, start, length_coded}
use mathlib.Core.Path.{◌≡◌}
use mathlib.Core.Bool.{Bool}
use mathlib.Core.List.{List}
use Rattle.std.proofs.Common.{Option, Some, None}
use Rattle.paper.specs.Lists.{from, keep}
use Rattle.decide_texts.proofs.endings.Given as goal

abbrev pub can : (ℕ → ℕ) → ℕ → Bool
can its k = meets start (its k)

-- the length found, or the number behind the last one that is tried
abbrev pub length_of : Option ℕ → ℕ
length_of (Some k) = k
length_of None = lengths_tried

pub record Going (its : ℕ → ℕ) (asked : ℕ) (ends : List ℕ) (found : Option ℕ) (here k : ℕ) : Type 0 where
  pub at : k ≤ lengths_tried
  pub long : length ends ≡ lengths_tried
  pub within : (j : ℕ) → found ≡ Some j → j < k
  pub there : (j : ℕ) → j < k → get_or ends j 0 ≡ its j
  pub next : here ≡ its k
  pub sought : (m : ℕ) → m + k ≡ lengths_tried → length_coded its asked ≡ one_from (length_of found) (keep (can its) (from k m)) asked

abbrev pub invariant-loop-k : goal.invariant-loop-k
invariant-loop-k l = Going (ending l.follow l.taken l.last) l.asked l.ends l.length l.here l.k
