-- Demand 3 of document 01, over any acceptor: of a plain question the count is at most (1 + L) times (1 + R), and with room for that
-- many situations its search never ends with no room (18) or a side too long (19).
-- Every situation entered has tails of the question's sides, so it is one of the pairs of a left and a right standing, and a list
-- has them all. Follows from the bound of a search by such a list. Asked of the acceptor: its test of sets is equality.
use Prim.Native.Nat.{ℕ, ◌≤◌, ◌<◌}
use mathlib.Core.Path.{◌≡◌}
use mathlib.Core.Bool.{true}
use mathlib.Core.List.{List, ◌++◌, Memᴰ}
use lib.ListN.{length}
use Rattle.paper.specs.Search.{child, long, End, no_room, too_long, how, count}
use Rattle.paper_laws.proofs.search.Searched.{within_count, within_has_room, within_not_long}
use Rattle.paper.specs.Equation.{Side, stands_in}
use Rattle.paper.specs.Situation.{Acceptor, Situation, Move, same_situation, finished, children, question}
use Rattle.paper.specs.Way.{search_from}
use Rattle.paper.specs.Plain.{plain, plain_bound, Reaches}
use Rattle.paper_laws.proofs.equations.Same.{situation_equal, situation_same}
use Rattle.paper_laws.proofs.plain.Tails.{Plain, plain_sides}
use Rattle.paper_laws.proofs.plain.Standings.{all_situations, length_situations, reached_listed}
use Rattle.paper_laws.proofs.plain.Reached.{ReachedAt, children_kept, question_reached}

module _
    {P : Type 0} (A : Acceptor P)
    (same_equal : (s t : P) → A.same_set s t ≡ true → s ≡ t) (equal_same : (s : P) → A.same_set s s ≡ true)
    (reach : ℕ → List P) (R : Reaches A reach)
    (limit room : ℕ) (l r : Side)
    (is_plain : plain l r ≡ true) (below : (f : ℕ) → stands_in f (l ++ r) ≡ true → f < A.fields)
  where
    sides : Plain A.fields l r
    sides = plain_sides A.fields l r is_plain below

    abbrev the_end : End (Situation P) Move
    the_end = how (search_from A limit room l r)

    listed : (s : Situation P) → ReachedAt R sides s → Memᴰ s (all_situations A reach l r)
    listed s h = reached_listed A reach l r s.sets s.left s.right h

    child_reached :
        (s : Situation P) → ReachedAt R sides s
        → (m : Move) (t : Situation P) → Memᴰ (child m t) (children A limit s) → ReachedAt R sides t
    child_reached s h m t d = children_kept R sides limit s (child m t) h d

    -- "the count is at most (1 + L) times (1 + R)"
    pub plain_count : count (search_from A limit room l r) ≤ plain_bound reach l r
    unfolding search_from
    plain_count =
        rw (length_situations A reach l r) at
        (within_count (same_situation A) (finished A) (children A limit)
        (situation_equal A same_equal) (situation_same A equal_same) room (question A l r)
        (ReachedAt R sides) (question_reached R sides) child_reached (all_situations A reach l r) listed)

    -- "With working room for that many situations, the answer for such a sheet is never 18 ..
    pub plain_has_room : plain_bound reach l r ≤ room → the_end ≡ no_room → ⊥
    unfolding search_from
    plain_has_room h =
        within_has_room (same_situation A) (finished A) (children A limit)
        (situation_equal A same_equal) (situation_same A equal_same) room (question A l r)
        (ReachedAt R sides) (question_reached R sides) child_reached (all_situations A reach l r) listed
        (rw (length_situations A reach l r) h)

    -- .. or 19."
    pub plain_not_long : length l ≤ limit → length r ≤ limit → the_end ≡ too_long → ⊥
    unfolding search_from
    plain_not_long p q =
        within_not_long (same_situation A) (finished A) (children A limit)
        (situation_equal A same_equal) (situation_same A equal_same) room (question A l r)
        (ReachedAt R sides) (question_reached R sides) child_reached
        (λ s h d. children_kept R sides limit s long h d p q)
