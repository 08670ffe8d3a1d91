-- A catalogue that decides: adding and checking again as in requests K1 and K3, "but a pair is asked as `decide` asks". All of it is the catalogue's
-- (`adding_by`, `rechecking_by`); here stands how a pair is asked.
use Rattle.std.specs.Prelude.{ℕ, ◌/◌, ◌%◌, ◌≡◌, List, [], ◌∷◌}
use Rattle.paper.specs.Sheet.{asked, read_sheet}
use Rattle.paper.specs.Rule.{Rule, pair}
use Rattle.paper.specs.Saying.{sheet_saying}
use Rattle.paper.specs.Outcome.{room_of}
use Rattle.paper_decide.specs.Deciding.{concluded, decision}
use Rattle.paper_catalogue.specs.PairAsking.{PairAnswered, PairAsking, pair_number, by_search}
use Rattle.paper_catalogue.specs.Catalogue.{AddedBy, adding_by}
use Rattle.paper_catalogue.specs.Recheck.{Rechecked, rechecking_by}
use Rattle.paper_catalogue.specs.Calls.{without_20}

-- The pair of a present rule and a new one, by up to seven attempts in a room. A pair's texts are not written, so it can't give 20. Not decided, it
-- is answered 18 or 19, as the first search said it, and no attempt gave it: 0.
unfoldable pub pair_decided : Rule → Rule → ℕ → PairAnswered
pair_decided present new room =
    let c = concluded (pair present new) room in
    record { answer = pair_number c.end; count = c.count; search = c.search }

-- "a listed pair has seven bytes: lower, higher, the answer .., the count in three bytes, low first, .. and the search"
abbrev pub by_deciding : PairAsking
by_deciding =
    record {
      asks = pair_decided;
      pair_bytes = 7;
      bytes_behind = λ (p : PairAnswered). p.answer ∷ p.count % 256 ∷ p.count / 256 % 256 ∷ p.count / 65536 ∷ p.search ∷ [];
    }

unfoldable pub adding_decided : List ℕ → List ℕ → List ℕ → AddedBy
unfolding adding_by
adding_decided catalogue bytes work = adding_by by_deciding catalogue bytes work

unfoldable pub rechecking_decided : List ℕ → List ℕ → List ℕ → Rechecked
unfolding rechecking_by
rechecking_decided catalogue work list = rechecking_by by_deciding catalogue work list

-- adding, "either kind"
pub data AddingKind : Type 0 where
  searching : AddingKind
  deciding : AddingKind

abbrev pub asking_of : AddingKind → PairAsking
asking_of searching = by_search
asking_of deciding = by_deciding

-- A pair is asked as `decide` asks: the sheet that says the pair, lent the same room and any answer buffer, gets from `decide` the pair's count, the
-- pair's search and the pair's answer, where a clash is 0 whether or not its texts fit.
pub record OwnDecision (present new : Rule) (work answer : List ℕ) : Type 0 where
  pub asks : read_sheet (sheet_saying (pair present new)) ≡ asked (pair present new)
  pub number : (pair_decided present new (room_of work)).answer ≡ without_20 (decision (sheet_saying (pair present new)) work answer).outcome.number
  pub count : (decision (sheet_saying (pair present new)) work answer).outcome.count ≡ (pair_decided present new (room_of work)).count
  pub search : (decision (sheet_saying (pair present new)) work answer).search ≡ (pair_decided present new (room_of work)).search
