-- What demand 2 shuts out (document 01, "Promises that say enough", item 3): "one that always refuses, one that always says clash or always
-- no clash, one that writes nothing .., and one that reports an invented count". Of any function F that meets demand 2, whatever its code:
--   not_always_refused  : its number is not always 11 or more
--   not_always_clash    : its number is not always 0
--   not_always_no_clash : its number is not always 1
--   sheet_S_written     : for sheet S it writes the twelve bytes of 01, and leaves the rest of the answer buffer
--   search_count        : its count is that of 01's outcome, for every sheet
-- Follows from what demand 2 settles (`same_number`, `same_count`, `same_bytes`): the number of a good sheet, the count of every sheet, and at
-- a clash the bytes written and the answer buffer. So F agrees there with 01's outcome, which is computed for two sheets.
use Prim.Native.Nat.{ℕ, ◌*◌, ◌≤◌, ◌<◌}
use native.Mathlib.Omega.{arith}
use mathlib.Core.Path.{◌≡◌, refl, sym, ◌∙◌}
use mathlib.Core.List.{List, [], ◌∷◌, ◌++◌}
use lib.ListN.{length, drop, replicate, take-append-drop}
use lib.Seq.{length-take-le}
use Rattle.paper.specs.Numbers.{situation_bytes}
use Rattle.paper.specs.Places.{PlaceSet, set_after, may_end}
use Rattle.paper.specs.Written.{judge}
use Rattle.paper.specs.Search.{Entry, End, found, used_up, no_room, too_long, enter, offer, take_next, search}
use Rattle.paper.specs.Situation.{Situation, Move, trimmed, strike, put_before, open_moves, child_by, children, question}
use Rattle.paper.specs.Way.{search_from, texts_of}
use Rattle.paper.specs.Question.{Question, hidden, acceptor}
use Rattle.paper.specs.Alphabet.{code}
use Rattle.paper.specs.Sheet.{marked, pattern_record, side_record, Reading, read_end, marked_side, next_is, edition_front, strays_of, read_by, read_sheet}
use Rattle.paper.specs.Outcome.{Outcome, outcome, room_of, searched, standing, value_record, records, cleared, clash, count_of, how_of}
use Rattle.paper.specs.Demands.{Good, end_of, Solved, texts_found, records_of, Clash, Demand2}
use Rattle.paper.proofs.base.Tests.{le_leb}
use Rattle.paper.proofs.known.KnownSheet.{sheet_S}
use Rattle.paper_laws.proofs.sheets.Rows.{fault_above, refused_number, by_reading}
use Rattle.paper_laws.proofs.demands.Demand2.{sheet_demand_2}
use Rattle.paper_laws.proofs.demands.Demand3.{question_S, sheet_S_asks}

-- the records of the texts found
abbrev solved_records : {r : Reading} {work : List ℕ} → Solved r work → List ℕ
solved_records s = records_of s.question (texts_found s)

same_records : {r : Reading} {work : List ℕ} (s t : Solved r work) → solved_records s ≡ solved_records t
same_records s t =
    let p : s.question ≡ t.question = cc in
    let q : s.entry ≡ t.entry = cc in
    rw (p, q)

module _ (r : Reading) (work answer : List ℕ) where
  -- at a clash the bytes written and the answer buffer are settled by the texts found
  clash_written : (o : Outcome) (c : Clash r work answer o) → o.written ≡ length (solved_records c.solved)
  clash_written o c = rw (← c.written) (sym (length-take-le o.written o.answer (rw c.same_length c.fits)))

  clash_answer : (o : Outcome) (c : Clash r work answer o)
      → o.answer ≡ solved_records c.solved ++ drop (length (solved_records c.solved)) answer
  clash_answer o c =
      sym (take-append-drop o.written o.answer) ∙ rw (c.written, c.rest, clash_written o c)

  -- Two outcomes that meet demand 2 for the same reading and buffers have the same number, count and bytes.
  module _ (o p : Outcome) (d : Demand2 r work answer o) (e : Demand2 r work answer p) where
    pub same_number : (q : Question) → Good r q → o.number ≡ p.number
    same_number q g = (d.in_order q g).number ∙ sym (e.in_order q g).number

    pub same_count : o.count ≡ p.count
    same_count =
        by_reading r
        (λ x at f. (d.not_good x at f).1 ∙ sym (e.not_good x at f).1)
        (λ q g. (d.in_order q g).count ∙ sym (e.in_order q g).count)

    pub same_bytes : o.number ≡ 0 → p.number ≡ 0 → (o.written ≡ p.written) × (o.answer ≡ p.answer)
    same_bytes n m =
        let c = d.clash n in
        let k = e.clash m in
        let s = same_records c.solved k.solved in
        (cc (clash_written o c, clash_written p k, s), rw (clash_answer o c, clash_answer p k, s))

-- The outcome of 01 for two sheets, with room for 13 situations: `A` and `B`, and sheet S.
abbrev pub roomy : List ℕ
roomy = replicate (situation_bytes * 13) 0

abbrev sheet_AB : List ℕ
sheet_AB = 76 ∷ 69 ∷ 1 ∷ 10 ∷ 82 ∷ 73 ∷ 1 ∷ 11 ∷ []

-- "The answer is `56 41 00 01 00 04 56 41 01 01 00 04`."
abbrev pub bytes_S : List ℕ
bytes_S = 86 ∷ 65 ∷ 0 ∷ 1 ∷ 0 ∷ 4 ∷ 86 ∷ 65 ∷ 1 ∷ 1 ∷ 0 ∷ 4 ∷ []

-- where the search of sheet S ends
abbrev no_entry : Entry (Situation PlaceSet) Move
no_entry = record { at = record { left = []; right = []; sets = [] }; way = [] }

abbrev entry_of : End (Situation PlaceSet) Move → Entry (Situation PlaceSet) Move
entry_of (found e) = e
entry_of used_up = no_entry
entry_of no_room = no_entry
entry_of too_long = no_entry

abbrev entry_S : Entry (Situation PlaceSet) Move
entry_S = entry_of (end_of (hidden question_S) roomy)

end_S : end_of (hidden question_S) roomy ≡ found entry_S
unfolding set_after may_end enter offer take_next search trimmed strike put_before open_moves child_by children question search_from acceptor room_of searched how_of
end_S = refl

count_S : count_of (searched (hidden question_S) (room_of roomy)) ≡ 13
unfolding set_after may_end enter offer take_next search trimmed strike put_before open_moves child_by children question search_from acceptor room_of searched count_of
count_S = refl

records_S : records (hidden question_S) entry_S ≡ bytes_S
unfolding set_after may_end enter offer take_next search trimmed strike put_before open_moves child_by children question search_from texts_of acceptor room_of searched standing value_record records how_of
records_S = refl

found_S : (answer : List ℕ) → outcome sheet_S roomy answer ≡ clash (hidden question_S) 13 entry_S roomy answer
unfolding outcome
found_S answer = rw (sheet_S_asks, count_S, end_S)

written_S : (answer : List ℕ) → 12 ≤ length answer
    → clash (hidden question_S) 13 entry_S roomy answer
    ≡ record { number = 0; count = 13; place = 0; written = 12; answer = bytes_S ++ drop 12 answer; work = cleared roomy }
unfolding clash
written_S answer h = rw (records_S, le_leb 12 (length answer) h)

number_AB : (outcome sheet_AB roomy []).number ≡ 1
unfolding set_after may_end judge enter offer take_next search trimmed strike put_before open_moves child_by children question search_from texts_of acceptor marked pattern_record side_record read_end marked_side next_is code edition_front read_by strays_of read_sheet outcome room_of searched clash count_of how_of
number_AB = refl

outcome_S : (answer : List ℕ) → 12 ≤ length answer
    → outcome sheet_S roomy answer
    ≡ record { number = 0; count = 13; place = 0; written = 12; answer = bytes_S ++ drop 12 answer; work = cleared roomy }
outcome_S answer h = found_S answer ∙ written_S answer h

module _ (F : List ℕ → List ℕ → List ℕ → Outcome) (meets : (sheet work answer : List ℕ) → Demand2 (read_sheet sheet) work answer (F sheet work answer)) where
  -- a number below 11 in the outcome of 01 is F's too
  searched_number : (sheet work answer : List ℕ) → (outcome sheet work answer).number < 11
      → (F sheet work answer).number ≡ (outcome sheet work answer).number
  unfolding outcome
  searched_number sheet work answer h =
      by_reading (read_sheet sheet)
      (λ x at r. let low = fault_above x in let same = refused_number (read_sheet sheet) work answer x at r in absurd (omega arith))
      (same_number (read_sheet sheet) work answer (F sheet work answer) (outcome sheet work answer) (meets sheet work answer) (sheet_demand_2 sheet work answer))

  sheet_S_clashes : (answer : List ℕ) → 12 ≤ length answer → (F sheet_S roomy answer).number ≡ 0
  sheet_S_clashes answer h =
      let e = outcome_S answer h in
      searched_number sheet_S roomy answer (rw e (omega arith)) ∙ rw e

  pub not_always_refused : ((sheet work answer : List ℕ) → 11 ≤ (F sheet work answer).number) → ⊥
  not_always_refused always =
      omega (arith, always sheet_S roomy bytes_S, sheet_S_clashes bytes_S (omega arith))

  pub not_always_clash : ((sheet work answer : List ℕ) → (F sheet work answer).number ≡ 0) → ⊥
  not_always_clash always =
      let e = number_AB in
      omega (arith, always sheet_AB roomy [], searched_number sheet_AB roomy [] (rw e (omega arith)), e)

  pub not_always_no_clash : ((sheet work answer : List ℕ) → (F sheet work answer).number ≡ 1) → ⊥
  not_always_no_clash always =
      omega (arith, always sheet_S roomy bytes_S, sheet_S_clashes bytes_S (omega arith))

  pub sheet_S_written : (answer : List ℕ) → 12 ≤ length answer
      → ((F sheet_S roomy answer).written ≡ 12) × ((F sheet_S roomy answer).answer ≡ bytes_S ++ drop 12 answer)
  sheet_S_written answer h =
      let e = outcome_S answer h in
      rw e at
      (same_bytes (read_sheet sheet_S) roomy answer (F sheet_S roomy answer) (outcome sheet_S roomy answer)
      (meets sheet_S roomy answer) (sheet_demand_2 sheet_S roomy answer) (sheet_S_clashes answer h) (rw e))

  pub search_count : (sheet work answer : List ℕ) → (F sheet work answer).count ≡ (outcome sheet work answer).count
  search_count sheet work answer =
      same_count (read_sheet sheet) work answer (F sheet work answer) (outcome sheet work answer) (meets sheet work answer) (sheet_demand_2 sheet work answer)
