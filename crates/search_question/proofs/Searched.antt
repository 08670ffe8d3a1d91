-- A question that was searched tells the outcome of the paper's search:
--   search_told       : over the characters that pass a test, it is the search of `hidden q` over them. The marks tell it of the characters of q alone.
--   search_told_every : over every character it is 01's search of `hidden q`
--   search_told_all   : the same where the tables are not cut
--   steps_told_all    : the same of the search that writes its way
-- for the struct of the question, wherever its patterns stand. Follows from `run_told_over`, from what the hidden fields and the cut tables are.
use Prim.Native.Nat.{ℕ, ◌<◌}
use native.Mathlib.Omega.{arith}
use mathlib.Core.Path.{◌≡◌, ap, subst, ◌∙◌}
use mathlib.Core.Bool.{Bool, false}
use mathlib.Core.List.{List, map}
use lib.ListN.{length, get_or, replicate}
use Rattle.paper.specs.Numbers.{most_characters}
use Rattle.paper.specs.Question.{Question, held_by, hidden}
use Rattle.paper.specs.Outcome.{room_of, searched, answered, count_of, how_of}
use Rattle.paper_laws.proofs.sheets.Asked.{GoodSide}
use Rattle.paper_laws.proofs.sheets.Hidden.{Searchable}
use Rattle.paper_steps.specs.StepsOutcome.{end_steps, with_steps}
use Rattle.paper_chosen.specs.Chosen.{every, searched_over}
use Rattle.paper_chosen.proofs.Over.{searched_every}
use Rattle.paper.proofs.base.Tests.{le_leb}
use Rattle.base_places.specs.Masks.{within}
use Rattle.base_codes.specs.Coded.{Coded}
use Rattle.base_codes.specs.Inner.{side_code, tokens}
use Rattle.base_question.specs.Asked.{question_of}
use Rattle.base_question.specs.declared.Body.{Body}
use Rattle.base_question.specs.declared.Question as Code
use Rattle.search_hidden.specs.Behind.{Hidden, with_hidden}
use Rattle.search_hidden.proofs.Codes.{left_hidden, right_hidden, part_hidden}
use Rattle.search_tables.specs.Cut.{listed_by, cut_coded}
use Rattle.search_tables.specs.Tables.{follow_of, taking_of, last_of}
use Rattle.search_tables.proofs.CutOver.{cut_by}
use Rattle.search_tables.proofs.Listed.{get_or_listed}
use Rattle.search_trim.specs.Trimming.{question_coded}
use Rattle.search_children.specs.Children.{Tables, children_coded}
use Rattle.search_children.specs.Coding.{taking_over, tables_of, tables_over}
use Rattle.search_children.proofs.CodedChildren.{children_every}
use Rattle.search_run.specs.Ended.{room_for, ended_with, buffer_with, told_end}
use Rattle.search_children.specs.Laid.{tables}
use Rattle.search_run.specs.StepsEnded.{StepsRun, told_run}
use Rattle.search_run.proofs.RunIsSearch.{run_told_over}
use Rattle.search_run.proofs.SameTables.{ended_same, buffer_same, steps_same}
use Rattle.search_run.proofs.StepsRunIsSearch.{run_steps_told_over}
use Rattle.base_answers.specs.declared.Ended.{Ended}
use Rattle.search_question.specs.Over.{tables_among, first_of, ended_over, buffer_over, tables_all, ended_all, buffer_all, steps_all}
use Rattle.search_run.specs.Telling.{Telling, TellsEnd}

-- what is promised of a search: how it ended, and both buffers then
abbrev pub Searched : List Bool → Code.Question → List ℕ → List ℕ → List ℕ → List ℕ → Ended → Type 0
Searched among s work answer after worked e =
    (e ≡ ended_over among s (length work) answer)
    × ((after ≡ buffer_over among s (length work) answer) × (worked ≡ replicate (length work) 0))

-- the same by what `search` makes: the question with its hidden fields, and the tables
pub searched_by : (among : List Bool) (s : Code.Question) (whole : Hidden) (many : ℕ) (follow some : List (List ℕ)) (last : List ℕ)
    → whole ≡ with_hidden s → many ≡ s.alphabet.characters
    → follow ≡ map follow_of whole.fields → last ≡ map last_of whole.fields → some ≡ cut_coded many (map taking_of whole.fields) among
    → (work answer after worked : List ℕ) (e : Ended)
    → let first = question_coded (tokens whole.left) (tokens whole.right) in
    (e ≡ ended_with (tables (within many) follow some last) (room_for (length work)) first answer)
    × ((after ≡ buffer_with (tables (within many) follow some last) (room_for (length work)) first answer) × (worked ≡ replicate (length work) 0))
    → Searched among s work answer after worked e
unfolding ended_over buffer_over
searched_by among s whole many follow some last w m a c d work answer after worked e p =
    (rw (p.0, d, a, c, m, w), (rw (p.1.0, d, a, c, m, w), p.1.1))

-- what is promised of a search over every character, and of one with steps
abbrev pub SearchedAll : Code.Question → List ℕ → List ℕ → List ℕ → List ℕ → Ended → Type 0
SearchedAll s work answer after worked e =
    (e ≡ ended_all s (length work) answer) × ((after ≡ buffer_all s (length work) answer) × (worked ≡ replicate (length work) 0))

abbrev pub SearchedSteps : Code.Question → List ℕ → List ℕ → List ℕ → List ℕ → StepsRun → Type 0
SearchedSteps s work answer steps worked r = (r ≡ steps_all s (length work) answer steps) × (worked ≡ replicate (length work) 0)

-- what is told of a search by the tables that `search_told` makes is told of one by the question's own
module _ (s : Code.Question) (whole : Hidden) (many : ℕ) (follow taking : List (List ℕ)) (last : List ℕ)
    (w : whole ≡ with_hidden s) (m : many ≡ s.alphabet.characters)
    (a : follow ≡ map follow_of whole.fields) (c : last ≡ map last_of whole.fields) (d : taking ≡ map taking_of whole.fields) where
  pub told_whole : {A : Type 0} (told_by : Telling A) (room : ℕ) (answer steps after written : List ℕ) (r : A)
      → told_by (tables (within many) follow taking last) room (question_coded (tokens whole.left) (tokens whole.right)) answer steps after written r
      → told_by (tables_all s) room (first_of s) answer steps after written r
  told_whole told_by room answer steps after written r p =
      let T : tables (within many) follow taking last ≡ tables_all s = rw (d, a, c, m, w) in
      let k : question_coded (tokens whole.left) (tokens whole.right) ≡ first_of s = rw w in
      subst (λ (z : Tables). told_by z room (first_of s) answer steps after written r) T
      (subst (λ (z : Coded). told_by (tables (within many) follow taking last) room z answer steps after written r) k p)

-- what is told without the way is what is promised of a search over every character
pub plain_told : (s : Code.Question) (work answer after worked : List ℕ) (e : Ended)
    → (steps written : List ℕ) → TellsEnd (tables_all s) (room_for (length work)) (first_of s) answer steps after written e
    → worked ≡ replicate (length work) 0
    → SearchedAll s work answer after worked e
unfolding ended_all buffer_all
plain_told s work answer after worked e steps written t w = (t.0, (t.1, w))

module _ (q : Question) (l : GoodSide q.alphabet.characters q.left) (r : GoodSide q.alphabet.characters q.right) (good : Searchable (hidden q))
    (bodies : List Body) where
  abbrev characters : ℕ
  characters = q.alphabet.characters

  -- the marks of its characters are those of a test; what is marked behind them says nothing
  abbrev MarksOf : (ℕ → Bool) → List Bool → Type 0
  MarksOf test among = (c : ℕ) → c < characters → get_or among c false ≡ test c

  taking_are : (test : ℕ → Bool) (among : List Bool) → MarksOf test among
      → cut_coded characters (map taking_of (with_hidden (question_of q bodies)).fields) among ≡ (tables_over test (hidden q)).taking
  unfolding tables_over taking_over
  taking_are test among marks =
      ap (λ (t : List (List ℕ)). cut_coded characters t among) (part_hidden q bodies taking_of)
      ∙ cut_by (held_by (hidden q)) characters test among (λ c h k. marks c h)

  within_is : within characters ≡ characters
  unfolding within
  within_is = rw (le_leb characters most_characters good.most)

  tables_are : (test : ℕ → Bool) (among : List Bool) → MarksOf test among → tables_among among (question_of q bodies) ≡ tables_over test (hidden q)
  unfolding tables_over
  tables_are test among marks =
      λ i. tables (within_is i) (part_hidden q bodies follow_of i) (taking_are test among marks i) (part_hidden q bodies last_of i)

  every_marked : (among : List Bool) → among ≡ listed_by every most_characters → MarksOf every among
  every_marked among e c h = rw e (get_or_listed every most_characters false c (omega (arith, good.most)))

  first_is : first_of (question_of q bodies) ≡ question_coded (side_code (hidden q).left) (side_code (hidden q).right)
  first_is = λ i. question_coded (left_hidden q bodies good.most l i) (right_hidden q bodies good.most r i)

  module _ (s : Code.Question) (is : s ≡ question_of q bodies) (work answer after worked : List ℕ) (e : Ended) where
    pub search_told : (test : ℕ → Bool) (among : List Bool) → MarksOf test among → Searched among s work answer after worked e
        → let st = searched_over test (hidden q) (room_of work) in
        told_end e after worked ≡ answered (hidden q) (count_of st) (how_of st) work answer
    unfolding ended_over buffer_over room_of
    search_told test among marks p =
        rw (p.0, p.1.0, p.1.1, is, tables_are test among marks, first_is) (run_told_over test (hidden q) good (room_of work) (omega arith) work answer)

    pub search_told_every : (among : List Bool) → among ≡ listed_by every most_characters → Searched among s work answer after worked e
        → let st = searched (hidden q) (room_of work) in
        told_end e after worked ≡ answered (hidden q) (count_of st) (how_of st) work answer
    search_told_every among marks p = rw (searched_every (hidden q) (room_of work)) at (search_told every among (every_marked among marks) p)

  -- the tables over every character need no cut: a situation has the same children by either
  all_are : tables_all (question_of q bodies) ≡ tables_of (hidden q)
  unfolding tables_of
  all_are = λ i. tables (within_is i) (part_hidden q bodies follow_of i) (part_hidden q bodies taking_of i) (part_hidden q bodies last_of i)

  abbrev same_children : (k : Coded) → children_coded (tables_of (hidden q)) k ≡ children_coded (tables_over every (hidden q)) k
  same_children = children_every (hidden q) good.most

  pub search_told_all : (s : Code.Question) → s ≡ question_of q bodies → (work answer after worked : List ℕ) (e : Ended)
      → SearchedAll s work answer after worked e
      → let st = searched (hidden q) (room_of work) in
      told_end e after worked ≡ answered (hidden q) (count_of st) (how_of st) work answer
  unfolding ended_all buffer_all room_of
  search_told_all s is work answer after worked e p =
      let T = tables_of (hidden q) in
      let U = tables_over every (hidden q) in
      let start = question_coded (side_code (hidden q).left) (side_code (hidden q).right) in
      rw (
        p.0,
        p.1.0,
        p.1.1,
        is,
        all_are,
        first_is,
        ended_same T U same_children (room_for (length work)) start answer,
        buffer_same T U same_children (room_for (length work)) start answer,
      )
      (rw (searched_every (hidden q) (room_of work)) at (run_told_over every (hidden q) good (room_of work) (omega arith) work answer))

  pub steps_told_all : (s : Code.Question) → s ≡ question_of q bodies → (work answer steps worked : List ℕ) (r : StepsRun)
      → SearchedSteps s work answer steps worked r
      → let st = searched (hidden q) (room_of work) in
      told_run r worked ≡ with_steps (end_steps (how_of st)) (answered (hidden q) (count_of st) (how_of st) work answer) answer steps
  unfolding steps_all room_of
  steps_told_all s is work answer steps worked r p =
      let T = tables_of (hidden q) in
      let U = tables_over every (hidden q) in
      let start = question_coded (side_code (hidden q).left) (side_code (hidden q).right) in
      rw (p.0, p.1, is, all_are, first_is, steps_same T U same_children (room_for (length work)) start answer steps)
      (rw (searched_every (hidden q) (room_of work)) at (run_steps_told_over every (hidden q) good (room_of work) (omega arith) work answer steps))
