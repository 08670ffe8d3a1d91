-- What a field that doesn't stand may hold changes no answer (request K13): "every answer about it stays as it was".
--   outcome_same : of a good question, if each field that stands may hold the same, the outcome is the same in every number and byte
-- Follows from the searches being the same (`SameHeld`), of the question with its hidden fields.
use Prim.Native.Nat.{ℕ}
use mathlib.Core.Path.{◌≡◌, refl, sym, ap, ◌∙◌}
use mathlib.Core.Bool.{true}
use mathlib.Core.List.{List, ◌++◌}
use lib.ListN.{get_or}
use Rattle.paper.specs.Pattern.{Held, some_text}
use Rattle.paper.specs.Places.{PlaceSet}
use Rattle.paper.specs.Search.{State}
use Rattle.paper.specs.Situation.{Situation, Move}
use Rattle.paper.specs.Equation.{stands_in}
use Rattle.paper.specs.Question.{Question, held_by, hidden}
use Rattle.paper.specs.Sheet.{asked}
use Rattle.paper.specs.Outcome.{searched, answered, count_of, how_of, room_of, outcome_of}
use Rattle.paper_laws.proofs.sheets.Asked.{GoodQuestion}
use Rattle.paper_laws.proofs.sheets.Hidden.{held_own, by_standing}
use Rattle.paper_laws.proofs.equations.SameHeld.{with_held, searched_same, answered_same}

module _ (q : Question) (g : GoodQuestion q) (held : List Held)
    (agree : (f : ℕ) → stands_in f (q.left ++ q.right) ≡ true → held_by q f ≡ get_or held f some_text) where
  abbrev p : Question
  p = with_held q held

  pub hidden_agree : (f : ℕ) → stands_in f ((hidden q).left ++ (hidden q).right) ≡ true → held_by (hidden q) f ≡ get_or (hidden p).held f some_text
  hidden_agree =
      by_standing q g (λ (f : ℕ). held_by (hidden q) f ≡ get_or (hidden p).held f some_text)
      (λ f e h. held_own q f h ∙ agree f e ∙ sym (held_own p f h)) refl refl

  pub outcome_same : (work answer : List ℕ) → outcome_of (asked p) work answer ≡ outcome_of (asked q) work answer
  outcome_same work answer =
      let same = searched_same (hidden q) (hidden p).held hidden_agree (room_of work) in
      ap (λ (st : State (Situation PlaceSet) Move). answered (hidden p) (count_of st) (how_of st) work answer) same
      ∙ answered_same (hidden q) (hidden p).held hidden_agree (count_of (searched (hidden q) (room_of work))) (how_of (searched (hidden q) (room_of work))) work answer
