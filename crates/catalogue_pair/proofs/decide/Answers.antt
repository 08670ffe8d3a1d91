-- `decide` meets its contract: the question is decided.
use Rattle.catalogue_pair.specs.Ask.{decided_pair}
use Rattle.catalogue_pair.proofs.decide.Goals as goal

pub returns : goal.returns
unfolding decided_pair
returns c =
    record {
      answer = λ m y. rw (c.answered.ensures, ← c.decide-settled.ensures.settled m y);
      work = c.decide-settled.ensures.work;
    }
