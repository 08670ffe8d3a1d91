-- The whole outcome of deciding: attempts one after the other in the same working buffer. From a sheet, a working buffer and an answer buffer, any
-- lists of bytes, to the outcome and the number of the attempt that decided.
use Rattle.std.specs.Prelude.{ℕ, suc, ◌+◌, ◌*◌, Bool, true, false, cond, not, ◌&&◌, List, [], ◌∷◌, leb}
use Rattle.paper.specs.Numbers.{situation_bytes}
use Rattle.paper.specs.Places.{PlaceSet}
use Rattle.paper.specs.Search.{End, found, used_up, no_room, too_long}
use Rattle.paper.specs.Situation.{Situation, Move}
use Rattle.paper.specs.Question.{Question, hidden}
use Rattle.paper.specs.Sheet.{Reading, refused, asked, read_sheet}
use Rattle.paper.specs.Outcome.{Outcome, room_of, searched, answered, count_of, how_of, outcome_of}
use Rattle.paper_chosen.specs.Chosen.{every, searched_over}
use Rattle.paper_plain.specs.Engine.{bits_of, clashes_apart}
use Rattle.paper_decide.specs.Alike.{is_least}
use Rattle.paper_decide.specs.Few.{is_few}
use Rattle.paper_decide.specs.Letters.{letters_differ}
use Rattle.paper_decide.specs.OneText.{with_texts}

-- One of the attempts: 01's search of a question over some characters, and which of its ends decide the sheet's question; or a test, by the room, that
-- says no clash or nothing, and enters no situation.
pub data Attempt : Type 0 where
  searching : Question → (ℕ → Bool) → Bool → Bool → Attempt
  testing : (ℕ → Bool) → Attempt

-- "1. 01's search. Where it gives 0 or 1, that is the answer"
abbrev pub own_search : Question → Attempt
own_search q = searching (hidden q) every true true

-- "2. Letters": where they differ there is no clash.
abbrev pub letters_test : Question → Attempt
letters_test q = testing (λ (room : ℕ). letters_differ q)

-- "3. Each standing apart by K9's engine": its no clash is a no clash. "The bits are those of 8 × 184 × room".
abbrev pub apart_test : Question → Attempt
apart_test q = testing (λ (room : ℕ). leb (bits_of q) (8 * (situation_bytes * room)) && not (clashes_apart q))

-- "A text for each field that stands twice": its clash is a clash of the question. All characters are gone over.
abbrev pub text_search : ℕ → Question → Attempt
text_search n q = searching (hidden (with_texts n q)) every true false

-- "4. .. the shortest"
abbrev pub short_search : Question → Attempt
short_search q = text_search 0 q

-- "5. .. then the next ones": the shortest of so many characters or more
abbrev pub longer : ℕ
longer = 3

abbrev pub longer_search : Question → Attempt
longer_search q = text_search longer q

-- "6. Characters alike. .. Its 0 carries texts that solve the question; its 1 is a no clash."
abbrev pub alike_search : Question → Attempt
alike_search q = searching (hidden q) (is_least (hidden q)) true true

-- "7. Few characters. .. Its 0 carries texts that solve the question; its 1 says nothing."
abbrev pub few_search : Question → Attempt
few_search q = searching (hidden q) (is_few (hidden q)) true false

abbrev pub attempts : Question → List Attempt
attempts q = own_search q ∷ letters_test q ∷ apart_test q ∷ short_search q ∷ longer_search q ∷ alike_search q ∷ few_search q ∷ []

-- so many there are
abbrev pub most_attempts : ℕ
most_attempts = 7

-- what an attempt gives in a room: whether it decides, the situations entered and how it ends
pub record Tried : Type 0 where
  pub decides : Bool
  pub count : ℕ
  pub end : End (Situation PlaceSet) Move

abbrev pub end_decides : Bool → Bool → End (Situation PlaceSet) Move → Bool
end_decides clash no_clash (found e) = clash
end_decides clash no_clash used_up = no_clash
end_decides clash no_clash no_room = false
end_decides clash no_clash too_long = false

abbrev pub tried : Attempt → ℕ → Tried
tried (searching q among clash no_clash) room =
    let st = searched_over among q room in
    record { decides = end_decides clash no_clash (how_of st); count = count_of st; end = how_of st }
tried (testing says-no) room = record { decides = says-no room; count = 0; end = used_up }

-- how deciding ends: the attempt that decided, 0 where none did; the situations entered in all the attempts made; the end that is told
pub record Conclusion : Type 0 where
  pub search : ℕ
  pub count : ℕ
  pub end : End (Situation PlaceSet) Move

-- The attempts from number k on, after n situations. "Otherwise not decided: 18 or 19 as the first search said it."
abbrev pub concluded_from : End (Situation PlaceSet) Move → ℕ → ℕ → ℕ → List Attempt → Conclusion
concluded_from first room k n [] = record { search = 0; count = n; end = first }
concluded_from first room k n (t ∷ ts) =
    let o = tried t room in
    cond o.decides (record { search = k; count = n + o.count; end = o.end }) (concluded_from first room (suc k) (n + o.count) ts)

unfoldable pub concluded : Question → ℕ → Conclusion
concluded q room = concluded_from (how_of (searched (hidden q) room)) room 1 0 (attempts q)

-- the outcome, and which search decided
pub record Decision : Type 0 where
  pub outcome : Outcome
  pub search : ℕ

abbrev pub decision_of : Reading → List ℕ → List ℕ → Decision
decision_of (refused x at) work answer = record { outcome = outcome_of (refused x at) work answer; search = 0 }
decision_of (asked q) work answer =
    let c = concluded q (room_of work) in
    record { outcome = answered (hidden q) c.count c.end work answer; search = c.search }

unfoldable pub decision : List ℕ → List ℕ → List ℕ → Decision
decision sheet work answer = decision_of (read_sheet sheet) work answer
