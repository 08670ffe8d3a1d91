-- The search of document 01 over some of the characters alone: "the same code, with tables in which no place takes another character". After a
-- character that is not among them every field's place set is empty, so no text has it. `among` is any test of characters; where every
-- character passes it, this is 01's search.
use Rattle.std.specs.Prelude.{ℕ, Bool, true, cond, []}
use Rattle.paper.specs.Numbers.{set_fields, longest_side}
use Rattle.paper.specs.Places as Places
use Rattle.paper.specs.Search.{State}
use Rattle.paper.specs.Situation.{Acceptor, Situation, Move}
use Rattle.paper.specs.Question.{Question, held_by}
use Rattle.paper.specs.Way.{search_from}

-- every character
abbrev pub every : ℕ → Bool
every c = true

-- the place sets of 01 over the characters that pass the test
unfoldable pub acceptor_over : (ℕ → Bool) → Question → Acceptor Places.PlaceSet
acceptor_over among q =
    record {
      characters = q.alphabet.characters;
      fields = set_fields;
      first_set = λ (f : ℕ). Places.first_set;
      set_after = λ (f : ℕ) (s : Places.PlaceSet) (c : ℕ). cond (among c) (Places.set_after (held_by q f) s c) [];
      may_end = λ (f : ℕ). Places.may_end (held_by q f);
      is_empty = Places.is_empty;
      same_set = Places.same_set;
      gone = [];
    }

-- the search of a question over them, in a room
unfoldable pub searched_over : (ℕ → Bool) → Question → ℕ → State (Situation Places.PlaceSet) Move
searched_over among q room = search_from (acceptor_over among q) longest_side room q.left q.right
