-- `decide` meets its contract: what the search of the question says, or the attempts behind it. Follows from `SettlingSteps`.
use mathlib.Core.Path.{sym, ◌∙◌}
use Rattle.decide_question.proofs.SettlingSteps.{first_at_most, still_clear, first_told, first_undecided}
use Rattle.search_question.proofs.Searched.{SearchedAll, plain_told}
use Rattle.decide_question.proofs.decide.Goals.{After-search_told-ended}
use Rattle.decide_question.proofs.decide.Goals as goal

-- the first search
searched : (c : After-search_told-ended) →
    let a = c.args in
    SearchedAll a.question a.work.now a.answer.now c.search_told-ended.new.answer c.search_told-ended.new.work c.search_told-ended.result
searched c =
    let a = c.args in
    plain_told a.question a.work.now a.answer.now _ _ _ _ _ c.search_told-ended.ensures.told c.search_told-ended.ensures.work

pub returns-then-decides : goal.returns-then-decides
returns-then-decides c =
    let a = c.args in
    first_told _ a.first.now a.second.now a.work.now a.answer.now _ _ _ (searched (goal.at.returns-then-decides c).After-search_told-ended) (sym c.decides.ensures ∙ c.if-decides.true) _ c.told.ensures

pub further-requires : goal.further-requires
further-requires c =
    let a = c.args in
    record {
      work_value =
          still_clear _ a.first.now a.second.now a.work.now a.answer.now _ _ _ (searched (goal.at.further-requires c).After-search_told-ended);
      entered_le_most_room =
          first_at_most _ a.first.now a.second.now a.work.now a.answer.now _ _ _ (searched (goal.at.further-requires c).After-search_told-ended);
    }

pub returns : goal.returns
returns c =
    let a = c.args in
    first_undecided _ a.first.now a.second.now a.work.now a.answer.now _ _ _ (searched (goal.at.returns c).After-search_told-ended) (sym c.decides.ensures ∙ c.if-decides.false)
    _ _ _ c.further.ensures
