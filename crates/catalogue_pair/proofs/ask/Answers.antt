-- `ask` meets its contract: the pair's question is asked, one way or the other.
use mathlib.Core.Path.{sym, subst}
use Rattle.base_question.specs.declared.Question.{Question}
use Rattle.plain_question.specs.Reached.{Meets, Says}
use Rattle.catalogue_pair.proofs.ask.Goals as goal

pub returns-in-Search : goal.returns-in-Search
returns-in-Search c =
    record {
      answer = λ m y. rw (c.in-Search.is, ← c.asked-question.ensures) c.search.ensures.answer;
      work = c.search.ensures.work;
    }

pub returns-in-Decide : goal.returns-in-Decide
returns-in-Decide c =
    record {
      answer = λ m y.
          rw (c.in-Decide.is, ← c.asked-question.ensures)
          (c.decide.ensures.answer m (subst (λ (x : Question). Says m (Meets x)) (sym c.asked-question.ensures) y));
      work = c.decide.ensures.work;
    }
