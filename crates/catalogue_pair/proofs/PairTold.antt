-- Of two good rules, a pair that is asked tells what the paper's pair is answered:
--   search_tells : by 01's search
--   decide_tells : by deciding, where its patterns stand in these bytes
-- Follows from `search_told_every`, from `settled_told` and the laws of good rules.
use Prim.Native.Nat.{ℕ}
use mathlib.Core.Path.{◌≡◌, refl, ap, ◌∙◌}
use mathlib.Core.Bool.{Bool, not}
use mathlib.Core.List.{List, []}
use lib.Dec.{leb}
use lib.ListN.{length}
use Rattle.paper.specs.Numbers.{most_characters}
use Rattle.paper.specs.Places.{PlaceSet}
use Rattle.paper.specs.Search.{End, found, used_up, no_room, too_long}
use Rattle.paper.specs.Situation.{Situation, Move}
use Rattle.paper.specs.Question.{Question, hidden}
use Rattle.paper.specs.Rule.{Rule, pair}
use Rattle.paper.specs.Outcome.{Outcome, room_of, searched, records, cleared, clash, answered, count_of, how_of}
use Rattle.paper.specs.Sheet.{asked}
use Rattle.paper_decide.specs.Deciding.{concluded, Decision, decision_of}
use Rattle.paper_catalogue.specs.PairAsking.{pair_number, pair_answer, pair_count, by_search}
use Rattle.paper_catalogue.proofs.GoodRule.{GoodRule}
use Rattle.paper_catalogue_decide.specs.DecidedPairs.{pair_decided, by_deciding}
use Rattle.paper.proofs.base.Tests.{by_bool}
use Rattle.paper_laws.proofs.sheets.Hidden.{hidden_searchable}
use Rattle.paper_chosen.specs.Chosen.{every}
use Rattle.base_question.specs.Asked.{question_of}
use Rattle.base_question.specs.declared.Body.{Body}
use Rattle.base_question.specs.declared.Question as Code
use Rattle.base_answers.specs.AnswerNumbers.{clash_is_0}
use Rattle.search_tables.specs.Cut.{listed_by}
use Rattle.search_run.specs.Ended.{told_end}
use Rattle.search_question.specs.Over.{ended_over, buffer_over}
use Rattle.search_question.proofs.Searched.{search_told_every}
use Rattle.paper_plain.specs.Engine.{clashes_apart}
use Rattle.decide_question.specs.Settling.{settled_coded, told_settled}
use Rattle.decide_question.proofs.SettledTold.{Written, settled_told}
use Rattle.catalogue_question.specs.AskedBy.{told_pair}
use Rattle.catalogue_question.proofs.PairAsked.{pair_good}
use Rattle.catalogue_pair.specs.Ask.{searched_pair, decided_pair}

module _ (q : Question) (n : ℕ) (work answer : List ℕ) where
  answered_is : (x : End (Situation PlaceSet) Move) →
      let o = answered q n x work answer in (clash_is_0 o.number ≡ pair_number x) × (o.count ≡ n)
  unfolding clash
  answered_is (found e) =
      by_bool (not (leb (length (records q e)) (length answer))) (λ k. (rw k, rw k)) (λ k. (rw k, rw k))
  answered_is used_up = (refl, refl)
  answered_is no_room = (refl, refl)
  answered_is too_long = (refl, refl)

module _ (r s : Rule) (g : GoodRule r) (h : GoodRule s) (bodies : List Body) (question : Code.Question)
    (is : question ≡ question_of (pair r s) bodies) (work : List ℕ) where
  told : let st = searched (hidden (pair r s)) (room_of work) in
      told_end (ended_over (listed_by every most_characters) question (length work) []) (buffer_over (listed_by every most_characters) question (length work) []) (cleared work)
      ≡ answered (hidden (pair r s)) (count_of st) (how_of st) work []
  told =
      let good = pair_good r s g h in
      search_told_every (pair r s) good.left good.right (hidden_searchable (pair r s) good) bodies
      question is work [] _ (cleared work) _ (listed_by every most_characters) refl (refl, (refl, refl))

  pub search_tells : told_pair (searched_pair question (length work)) ≡ by_search.asks r s (room_of work)
  unfolding searched_pair pair_answer pair_count
  search_tells =
      let st = searched (hidden (pair r s)) (room_of work) in
      let is = answered_is (hidden (pair r s)) (count_of st) work [] (how_of st) in
      let number = ap (λ (o : Outcome). clash_is_0 o.number) told ∙ is.0 in
      let count = ap (λ (o : Outcome). o.count) told ∙ is.1 in
      λ i. record { answer = number i; count = count i; search = 1 }

  module _ (present new : List ℕ) (written : Written (pair r s) bodies present new) where
    abbrev meets : Bool
    meets = clashes_apart (pair r s)

    decision_told : told_settled (settled_coded question meets present new (length work) []) (cleared work) ≡ decision_of (asked (pair r s)) work []
    decision_told = settled_told (pair r s) (pair_good r s g h) bodies present new written question is work []

    pub decide_tells : told_pair (decided_pair question meets present new (length work)) ≡ by_deciding.asks r s (room_of work)
    unfolding decided_pair pair_decided
    decide_tells =
        let c = concluded (pair r s) (room_of work) in
        let is = answered_is (hidden (pair r s)) c.count work [] c.end in
        let number = ap (λ (d : Decision). clash_is_0 d.outcome.number) decision_told ∙ is.0 in
        let count = ap (λ (d : Decision). d.outcome.count) decision_told ∙ is.1 in
        let search = ap (λ (d : Decision). d.search) decision_told in
        λ i. record { answer = number i; count = count i; search = search i }
