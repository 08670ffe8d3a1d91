-- A known question over some characters: x and y, each the character 4 or 5, and the sides x and y. What 01's answer is, with the count, over
-- every character, over 4 alone, over 5 alone, over 6 alone, and over 5 in a room that is one too small. The checker computes it.
--
-- Over one that both take there are five situations: the question, the one after the character, the two where one field is struck, and the
-- finished one. Over every character there are three more, those after the 5, before the finished one. Over 6 there is the question alone.
use Prim.Native.Nat.{ℕ}
use mathlib.Core.Path.{◌≡◌, refl}
use mathlib.Core.Bool.{Bool}
use mathlib.Core.List.{List, [], ◌∷◌}
use lib.Dec.{eqb}
use Rattle.paper.specs.Pattern.{char, leaf, either, Held, pattern}
use Rattle.paper.specs.Places.{set_after, may_end}
use Rattle.paper.specs.Search.{enter, offer, take_next, search}
use Rattle.paper.specs.Equation.{fld}
use Rattle.paper.specs.Situation.{trimmed, strike, put_before, open_moves, child_by, children, question}
use Rattle.paper.specs.Way.{search_from, texts_of}
use Rattle.paper.specs.Alphabet.{code_39}
use Rattle.paper.specs.Question.{Question, acceptor}
use Rattle.paper.specs.Outcome.{Outcome, standing, value_record, records, clash, answered, without_bytes, count_of, how_of}
use Rattle.paper_chosen.specs.Chosen.{every, acceptor_over, searched_over}

abbrev four_or_five : Held
four_or_five = pattern (either (leaf (char 4)) (leaf (char 5)))

abbrev asked : Question
asked = record { alphabet = code_39; left = fld 0 ∷ []; right = fld 1 ∷ []; held = four_or_five ∷ four_or_five ∷ [] }

-- a working buffer of two bytes, an answer buffer of 13
abbrev work : List ℕ
work = 90 ∷ 90 ∷ []

abbrev answer : List ℕ
answer = 165 ∷ 165 ∷ 165 ∷ 165 ∷ 165 ∷ 165 ∷ 165 ∷ 165 ∷ 165 ∷ 165 ∷ 165 ∷ 165 ∷ 165 ∷ []

abbrev told : (ℕ → Bool) → ℕ → Outcome
told among room = answered asked (count_of (searched_over among asked room)) (how_of (searched_over among asked room)) work answer

-- both texts are this character
abbrev both : ℕ → ℕ → Outcome
both count c =
    record {
      number = 0;
      count = count;
      place = 0;
      written = 12;
      answer = 86 ∷ 65 ∷ 0 ∷ 1 ∷ 0 ∷ c ∷ 86 ∷ 65 ∷ 1 ∷ 1 ∷ 0 ∷ c ∷ 165 ∷ [];
      work = 0 ∷ 0 ∷ [];
    }

pub known_over :
    told every 20 ∷ told (eqb 4) 20 ∷ told (eqb 5) 20 ∷ told (eqb 6) 20 ∷ told (eqb 5) 4 ∷ []
    ≡ both 8 4 ∷ both 5 4 ∷ both 5 5 ∷ without_bytes 1 1 work answer ∷ without_bytes 18 4 work answer ∷ []
unfolding set_after may_end enter offer take_next search trimmed strike put_before open_moves child_by children question search_from texts_of acceptor standing value_record records clash count_of how_of acceptor_over searched_over
known_over = refl
