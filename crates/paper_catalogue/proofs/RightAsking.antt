-- When a way to ask a pair is right, and that 01's search is.
--   AsksRight    : two good rules whose pair is answered 1 make no labels that are the same; another answer is 0, 18 or 19; listed pairs have one length
--   search_right : AsksRight by_search
-- Follows, for 01's search, from `pair_apart`.
use Prim.Native.Nat.{ℕ}
use mathlib.Core.Path.{◌≡◌, refl}
use mathlib.Core.Bool.{true}
use mathlib.Core.List.{List, [], ◌∷◌}
use lib.ListN.{length}
use Rattle.paper.specs.Lists.{member}
use Rattle.paper.specs.Numbers.{space}
use Rattle.paper.specs.Places.{PlaceSet}
use Rattle.paper.specs.Search.{End, found, used_up, no_room, too_long}
use Rattle.paper.specs.Equation.{Same}
use Rattle.paper.specs.Situation.{Situation, Move}
use Rattle.paper.specs.Question.{hidden}
use Rattle.paper.specs.Rule.{Rule, Makes, pair}
use Rattle.paper.specs.Outcome.{room_of, searched, how_of}
use Rattle.paper_catalogue.specs.PairAsking.{PairAnswered, PairAsking, record_by, pair_number, pair_answer, by_search}
use Rattle.paper_catalogue.proofs.GoodRule.{GoodRule}
use Rattle.paper_catalogue.proofs.Pair.{pair_apart}

pub record AsksRight (a : PairAsking) : Type 0 where
  pub apart : (r s : Rule) → GoodRule r → GoodRule s → (work : List ℕ) → (a.asks r s (room_of work)).answer ≡ 1
      → (l n : List ℕ) → Same space l n → Makes r l → Makes s n → ⊥
  pub not_1 : (r s : Rule) (room : ℕ) → ((a.asks r s room).answer ≡ 1 → ⊥) → member (a.asks r s room).answer (0 ∷ 18 ∷ 19 ∷ []) ≡ true
  pub one_length : (lower higher : ℕ) (p : PairAnswered) → length (record_by a lower higher p) ≡ a.pair_bytes

-- A pair's answer is 0, 1, 18 or 19; not 1, it is 0, 18 or 19.
pub number_not_1 : (x : End (Situation PlaceSet) Move) → (pair_number x ≡ 1 → ⊥) → member (pair_number x) (0 ∷ 18 ∷ 19 ∷ []) ≡ true
number_not_1 (found e) n = refl
number_not_1 used_up n = absurd (n refl)
number_not_1 no_room n = refl
number_not_1 too_long n = refl

answer_not_1 : (r s : Rule) (room : ℕ) → (pair_answer r s room ≡ 1 → ⊥) → member (pair_answer r s room) (0 ∷ 18 ∷ 19 ∷ []) ≡ true
unfolding pair_answer
answer_not_1 r s room = number_not_1 (how_of (searched (hidden (pair r s)) room))

pub search_right : AsksRight by_search
search_right =
    record {
      apart = λ r s g h work e. pair_apart r s g h (room_of work) e;
      not_1 = answer_not_1;
      one_length = λ lower higher p. refl;
    }
