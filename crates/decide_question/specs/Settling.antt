-- The attempts one after the other in the same working buffer, by inner codes: of any question, bytes of patterns and buffers, what is settled and the
-- answer buffer then. The working buffer is all zero then.
use Rattle.std.specs.Prelude.{ℕ, ◌+◌, Bool, true, cond, List, [], ◌∷◌}
use Rattle.paper.specs.Lists.{from}
use Rattle.base_question.specs.declared.Question.{Question}
use Rattle.base_answers.specs.declared.Ended.{Ended}
use Rattle.search_run.specs.Ended.{told_end}
use Rattle.search_question.specs.Over.{ended_all, buffer_all}
use Rattle.paper_decide.specs.Deciding.{Decision}
use Rattle.decide_question.specs.Attempt.{decides_coded, with_count, Attempted, attempt_coded}
use Rattle.decide_question.specs.declared.Settled.{Settled}

-- what is settled, and the answer buffer then
pub record Settling : Type 0 where
  pub settled : Settled
  pub buffer : List ℕ

-- the numbers of the attempts behind the first
abbrev pub later : List ℕ
later = from 2 6

-- The attempts of these numbers, after n situations, by what each gives. "Otherwise not decided: 18 or 19 as the first search said it."
abbrev pub settled_from : (ℕ → Attempted) → Ended → List ℕ → ℕ → List ℕ → Settling
settled_from gives own answer n [] = record { settled = record { ended = with_count n own; search = 0 }; buffer = answer }
settled_from gives own answer n (k ∷ ks) =
    let t = (gives k).tried in
    cond t.decides
    (record { settled = record { ended = with_count (n + t.ended.count) t.ended; search = k }; buffer = (gives k).buffer })
    (settled_from gives own answer (n + t.ended.count) ks)

-- "1. 01's search. Where it gives 0 or 1, that is the answer"
unfoldable pub settled_coded : Question → Bool → List ℕ → List ℕ → ℕ → List ℕ → Settling
settled_coded s meets first second bytes answer =
    let own = ended_all s bytes answer in
    cond (decides_coded true own)
    (record { settled = record { ended = own; search = 1 }; buffer = buffer_all s bytes answer })
    (settled_from (attempt_coded s bytes answer meets first second) own answer own.count later)

-- what it tells, with the working buffer as it is afterwards
abbrev pub told_settled : Settling → List ℕ → Decision
told_settled r work = record { outcome = told_end r.settled.ended r.buffer work; search = r.settled.search }
