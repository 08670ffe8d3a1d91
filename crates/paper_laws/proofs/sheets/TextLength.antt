-- How long a text can be (request K12): a way has fewer steps than the room has situations, and a text no more characters than its way has steps.
--   short_ways      : ShortWays A limit room l r, for the search over every acceptor whose test `same_set` is equality
--   ways_short      : the search of a question, in any room
--   text_below_room : length (texts_spelt q e f) < room_of work, where e is found; so it is at most `longest_text` (`text_short_enough`)
-- Follows from `way_below_count`, since a move gives a field one character at most, and from the count being within the room.
use Prim.Native.Nat.{ℕ, ◌≤◌, ◌<◌}
use native.Mathlib.Omega.{arith}
use mathlib.Core.Path.{◌≡◌}
use mathlib.Core.Bool.{true}
use mathlib.Core.List.{List, [], ◌∷◌, reverse}
use lib.ListN.{length, length-append, length-reverse_aux}
use Rattle.paper.specs.Lists.{member}
use Rattle.paper.specs.Numbers.{longest_side, longest_text}
use Rattle.paper.specs.Places.{PlaceSet}
use Rattle.paper.specs.Search.{Entry, found, how}
use Rattle.paper.specs.Equation.{Side}
use Rattle.paper.specs.Situation.{Acceptor, Situation, Move, strike_left, strike_right, put, front_fields, moved, trimmed, same_situation, finished, children, question}
use Rattle.paper.specs.Way.{given, text_along, texts_of, search_from}
use Rattle.paper.specs.ShortWays.{Entered, ShortWays}
use Rattle.paper.specs.Question.{Question, acceptor}
use Rattle.paper.specs.Outcome.{room_of, searched, how_of}
use Rattle.paper.specs.Demands.{end_of, texts_spelt}
use Rattle.paper.proofs.base.Lists.{length_only}
use Rattle.paper_laws.proofs.sheets.QuestionSearched.{equal, same}
use Rattle.paper_laws.proofs.search.Searched

module _ {P : Type 0} (A : Acceptor P) where
  one_at_most : (f : ℕ) (s : Situation P) (m : Move) → length (given A f s m) ≤ 1
  one_at_most f s strike_left = omega arith
  one_at_most f s strike_right = omega arith
  one_at_most f s (put c) = length_only (member f (front_fields s.left s.right)) c

  text_short : (f : ℕ) (s : Situation P) (ms : List Move) → length (text_along A f s ms) ≤ length ms
  text_short f s [] = omega arith
  text_short f s (m ∷ ms) =
      let next = trimmed A (moved A s m) in
      omega (arith, length-append (given A f s m) (text_along A f next ms), one_at_most f s m, text_short f next ms)

  module _ (l r : Side) where
    text_of_way : (e : Entry (Situation P) Move) (f : ℕ) → length (texts_of A l r e f) ≤ length e.way
    unfolding texts_of
    text_of_way e f = omega (arith, text_short f (question A l r) (reverse e.way), length-reverse_aux e.way [])

    module _
        (equal : (s t : Situation P) → same_situation A s t ≡ true → s ≡ t)
        (same : (s : Situation P) → same_situation A s s ≡ true)
        (limit room : ℕ)
      where
        steps : (e : Entry (Situation P) Move) → Entered A limit room l r e → length e.way < room
        unfolding search_from
        steps e d =
            let first = question A l r in
            let below = Searched.way_below_count _ _ _ equal same room first e d in
            let within = Searched.count_at_most_room (same_situation A) (finished A) (children A limit) equal same room first in
            omega (arith, below, within)

        pub short_ways : ShortWays A limit room l r
        short_ways =
            record {
              steps = steps;
              one_at_most = one_at_most;
              text_of_way = text_of_way;
              texts = λ at_most e d f. omega (arith, text_of_way e f, steps e d);
            }

        pub found_way : (e : Entry (Situation P) Move) → how (search_from A limit room l r) ≡ found e → Entered A limit room l r e
        unfolding search_from
        found_way e h = Searched.found_entered _ _ _ equal same room (question A l r) e h

pub ways_short : (q : Question) (room : ℕ) → ShortWays (acceptor q) longest_side room q.left q.right
ways_short q room = short_ways (acceptor q) q.left q.right (equal q) (same q) longest_side room

module _ (q : Question) (work : List ℕ) (e : Entry (Situation PlaceSet) Move) (h : end_of q work ≡ found e) where
  entered : Entered (acceptor q) longest_side (room_of work) q.left q.right e
  unfolding how_of searched
  entered = found_way (acceptor q) q.left q.right (equal q) (same q) longest_side (room_of work) e h

  pub text_below_room : (f : ℕ) → length (texts_spelt q e f) < room_of work
  text_below_room f = let w = ways_short q (room_of work) in omega (arith, w.text_of_way e f, w.steps e entered)

  pub text_short_enough : (f : ℕ) → length (texts_spelt q e f) ≤ longest_text
  unfolding room_of
  text_short_enough f = (ways_short q (room_of work)).texts (omega arith) e entered f
