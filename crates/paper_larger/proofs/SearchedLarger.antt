-- In a larger room the search of a question that did not end without room is the same search: the same end, the same entries in the same order.
--   searched_over_larger : over some of its characters
--   searched_larger      : over all of them
-- Follows from `Searched.larger_room`, since the place sets of 01 are compared by equality.
use Prim.Native.Nat.{ℕ, ◌≤◌}
use mathlib.Core.Path.{◌≡◌, sym, ap, ◌∙◌}
use mathlib.Core.Bool.{Bool}
use Rattle.paper.specs.Search.{no_room}
use Rattle.paper.specs.Situation.{question}
use Rattle.paper.specs.Way.{search_from}
use Rattle.paper.specs.Question.{Question}
use Rattle.paper.specs.Outcome.{searched, how_of}
use Rattle.paper_laws.proofs.search.Searched
use Rattle.paper_laws.proofs.equations.Same.{situation_equal, situation_same}
use Rattle.paper_chosen.specs.Chosen.{every, acceptor_over, searched_over}
use Rattle.paper_chosen.proofs.Over.{over_decides, searched_every}

pub searched_over_larger : (among : ℕ → Bool) (q : Question) (room larger : ℕ) → room ≤ larger
    → (how_of (searched_over among q room) ≡ no_room → ⊥) → searched_over among q larger ≡ searched_over among q room
unfolding how_of searched_over search_from
searched_over_larger among q room larger h n =
    Searched.larger_room _ _ _
    (situation_equal (acceptor_over among q) (over_decides among q).same_equal)
    (situation_same (acceptor_over among q) (over_decides among q).equal_same)
    room (question (acceptor_over among q) q.left q.right) larger h n

pub searched_larger : (q : Question) (room larger : ℕ) → room ≤ larger
    → (how_of (searched q room) ≡ no_room → ⊥) → searched q larger ≡ searched q room
searched_larger q room larger h n =
    sym (searched_every q larger)
    ∙ searched_over_larger every q room larger h (λ e. n (ap how_of (sym (searched_every q room)) ∙ e))
    ∙ searched_every q room
