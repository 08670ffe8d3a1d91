-- `search` meets its contract: the question is searched over every character. Follows from `ended_uncut`.
use mathlib.Core.List.{[]}
use Rattle.search_question.proofs.Uncut.{ended_uncut}
use Rattle.catalogue_pair.specs.Ask.{searched_pair}
use Rattle.catalogue_pair.proofs.search.Goals as goal

pub returns : goal.returns
unfolding searched_pair
returns c =
    record {
      answer = rw (c.answered.ensures, c.search_all-ended.ensures.ended, ended_uncut _ _ []);
      work = c.search_all-ended.ensures.work;
    }
