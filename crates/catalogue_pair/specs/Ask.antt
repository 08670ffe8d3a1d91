-- What a pair's question is answered, for all questions and lengths of a working buffer, with no room for an answer.
use Rattle.std.specs.Prelude.{ℕ, Bool, List, []}
use Rattle.paper.specs.Numbers.{most_characters}
use Rattle.paper_chosen.specs.Chosen.{every}
use Rattle.base_question.specs.declared.Question.{Question}
use Rattle.base_answers.specs.AnswerNumbers.{number_in_pair}
use Rattle.search_tables.specs.Cut.{listed_by}
use Rattle.search_question.specs.Over.{ended_over}
use Rattle.decide_question.specs.Settling.{settled_coded}
use Rattle.catalogue_question.specs.declared.Asking.{Asking}
use Rattle.catalogue_question.specs.declared.Asking.TheVariants.{Search, Decide}
use Rattle.catalogue_question.specs.declared.Pair.{Pair}

-- by 01's search, over every character
unfoldable pub searched_pair : Question → ℕ → Pair
searched_pair q bytes =
    let e = ended_over (listed_by every most_characters) q bytes [] in
    record { answer = number_in_pair e.how; count = e.count; search = 1 }

-- by up to seven attempts; `meets` says whether some label is read by both sides, each standing apart, and the patterns stand in these bytes
unfoldable pub decided_pair : Question → Bool → List ℕ → List ℕ → ℕ → Pair
decided_pair q meets present new bytes =
    let s = (settled_coded q meets present new bytes []).settled in
    record { answer = number_in_pair s.ended.how; count = s.ended.count; search = s.search }

abbrev pub pair_by : Asking → Question → Bool → List ℕ → List ℕ → ℕ → Pair
pair_by Search q meets present new bytes = searched_pair q bytes
pair_by Decide q meets present new bytes = decided_pair q meets present new bytes
