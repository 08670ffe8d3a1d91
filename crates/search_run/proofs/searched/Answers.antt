-- `searched` meets its contract: the first situation is short, and the search from it is over. Follows from what `question` and `search` ensure.
use mathlib.Core.Path.{◌≡◌, ap}
use lib.ListN.{length}
use borrow.Author.Rules.{rules}
use Rattle.paper.specs.Numbers.{longest_side}
use Rattle.base_codes.specs.Inner.{tokens}
use Rattle.base_codes.specs.declared.Situation.{Situation}
use Rattle.search_trim.specs.Trimming.{question_coded}
use Rattle.search_run.proofs.Ending.{first_short}
use Rattle.search_run.proofs.searched.Goals as goal

pub returns : goal.returns
returns c =
    let left = c.args.left in
    let right = c.args.right in
    let l : length left ≡ longest_side = search rules in
    let r : length right ≡ longest_side = search rules in
    record {
      over = rw c.room_for-room.ensures at (c.search-run.ensures.lent (question_coded (tokens left) (tokens right)) c.question-first.ensures (first_short left right l r));
      sets_are = ap (λ (s : Situation). s.sets) c.question-first.ensures;
    }
