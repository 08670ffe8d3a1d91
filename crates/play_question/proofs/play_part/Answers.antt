-- `play_part` meets its contract: the question with its hidden fields and its tables is made, and walked, or its texts are put (`part_whole`).
use Prim.Native.Nat.{ℕ}
use mathlib.Core.Path.{◌≡◌, refl, sym, ap, ◌∙◌}
use Rattle.std.specs.Prelude.{Option, None, Some, Ok, Err}
use Rattle.std.specs.Option.{ok_or}
use Rattle.play_question.specs.declared.PlayStop.TheVariants.{AnswerTooShort, Stopped}
use mathlib.Core.List.{List, [], ◌∷◌, ◌++◌}
use lib.ListN.{length}
use borrow.Author.Rules.{rules}
use Rattle.paper.specs.Numbers.{longest_side}
use Rattle.base_codes.specs.Coded.{denoted}
use Rattle.search_children.specs.Laid.{tables}
use Rattle.play_question.specs.QuestionPlayed.{End, end_of, walk_end, question_tables, question_first, PartOf}
use Rattle.play_question.proofs.Ended.{part_whole}
use Rattle.play_question.proofs.play_part.Goals.{After-taking_behind-taking}
use Rattle.play_question.proofs.play_part.Goals as goal

-- what is told by the tables that were made is told of the question
made : (c : After-taking_behind-taking) (before after : List ℕ) (r : End)
    → let a = c.args in
    PartOf a.wanted
    (tables a.question.alphabet.characters c.follow_behind-follow.result c.taking_behind-taking.result c.last_behind-last.result)
    (denoted c.question-first.result) a.steps.now before after r
    → PartOf a.wanted (question_tables a.question) (question_first a.question) a.steps.now before after r
made c before after r =
    let a = c.args in
    let own = a.question.fields in
    let many = a.question.alphabet.characters in
    let l : length c.side-left.result ≡ longest_side = search rules in
    let m : length c.side-right.result ≡ longest_side = search rules in
    part_whole a.question
    (record { characters = many; left = c.side-left.result; right = c.side-right.result; fields = own ++ (c.spaces-hidden.result ∷ c.spaces-hidden.result ∷ []) })
    _ _ _ c.question-first.result l m
    (λ i. record {
      characters = many;
      left = c.side-left.ensures i;
      right = c.side-right.ensures i;
      fields = own ++ (c.spaces-hidden.ensures i ∷ c.spaces-hidden.ensures i ∷ []);
    })
    c.follow_behind-follow.ensures c.taking_behind-taking.ensures c.last_behind-last.ensures c.question-first.ensures
    a.wanted a.steps.now before after r

given_end : (o : Option ℕ) → ok_or o AnswerTooShort ≡ end_of o
given_end None = refl
given_end (Some n) = refl

pub returns-then-wanted : goal.returns-then-wanted
returns-then-wanted c =
    made (goal.at.returns-then-wanted c).After-taking_behind-taking _ c.answer_way.new.answer c.ok_or.result
    (rw c.if-wanted.true
    (record {
      end = c.ok_or.ensures.value ∙ given_end c.answer_way.result ∙ ap end_of c.answer_way.ensures.given;
      buffer = c.answer_way.ensures.buffer;
    }))

pub returns : goal.returns
returns c =
    made (goal.at.returns c).After-taking_behind-taking _ _ (Ok 0) (rw c.if-wanted.false (ap walk_end (sym c.in_ok-walk.was ∙ c.walk.ensures)))

pub returns-in_err-walk : goal.returns-in_err-walk
returns-in_err-walk c =
    let told : c.from_residual.result ≡ Err (Stopped c.in_err-walk.field-0.0) = search rules in
    made (goal.at.returns-in_err-walk c).After-taking_behind-taking _ _ c.from_residual.result
    (rw c.if-wanted.false (told ∙ ap walk_end (sym c.in_err-walk.was ∙ c.walk.ensures)))
