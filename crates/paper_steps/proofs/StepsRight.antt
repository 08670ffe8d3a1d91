-- The search that writes its way keeps what is promised of it, for all sheets and all three buffers.
--   sheet_steps_promised : (sheet work answer steps : List ℕ) → StepsPromised (read_sheet sheet) work answer steps (steps_outcome sheet work answer steps)
-- What is said of a sheet holds of every reading whose question is good (`steps_promised`). Follows from demands 1 and 2 for 01's outcome, from the way
-- that the search finds being one of 01's children (`found_way`) with fewer steps than the room has situations (`ways_short`), and from what is
-- promised of the player.
use Prim.Native.Nat.{ℕ, ◌≤◌, ◌<◌}
use native.Mathlib.Omega.{arith}
use mathlib.Core.Path.{◌≡◌, refl, sym, ap, ◌∙◌}
use mathlib.Core.Bool.{true, not}
use mathlib.Core.List.{List, ◌++◌}
use lib.Dec.{leb}
use lib.ListN.{length, take, drop}
use lib.Seq.{take-append_seam}
use Rattle.paper.specs.Numbers.{longest_side}
use Rattle.paper.specs.Places.{PlaceSet}
use Rattle.paper.specs.Search.{Entry, found}
use Rattle.paper.specs.Situation.{Situation, Move, finished}
use Rattle.paper.specs.Question.{Question, hidden, acceptor}
use Rattle.paper.specs.Sheet.{Reading, read_sheet}
use Rattle.paper.specs.Outcome.{Outcome, room_of, searched, how_of, outcome_of}
use Rattle.paper.specs.Demands.{end_of, Solved}
use Rattle.paper.proofs.base.Tests.{cond_by, true_false, not_is_true, not_is_false, leb_true, leb_false, eqb_true, eqb_false}
use Rattle.paper_laws.proofs.places.Accepts.{question_decides}
use Rattle.paper_laws.proofs.equations.Answered.{found_way}
use Rattle.paper_laws.proofs.sheets.Asked.{AsksGood, sheet_good}
use Rattle.paper_laws.proofs.sheets.QuestionSearched.{equal, same}
use Rattle.paper_laws.proofs.sheets.TextLength.{ways_short}
use Rattle.paper_laws.proofs.sheets.TextLength as TextLength
use Rattle.paper_laws.proofs.sheets.Rows.{Row, faulty, clashes, in_row}
use Rattle.paper_laws.proofs.demands.Demand1.{demand_1}
use Rattle.paper_laws.proofs.demands.Demand2.{demand_2}
use Rattle.paper_steps.specs.StepRecords.{step_records}
use Rattle.paper_steps.specs.StepsOutcome.{StepsOutcome, end_steps, steps_found, without_steps, is_clash, steps_too_short, steps_written, with_steps, steps_outcome_of, steps_outcome}
use Rattle.paper_steps.specs.Player.{play_of, play}
use Rattle.paper_steps.specs.PlayPromised.{WayTo, Accepted}
use Rattle.paper_steps.specs.StepsPromised.{AsClash, After51, Wrote, way_bytes, enough_steps, StepsPromised}
use Rattle.paper_steps.proofs.RecordsRead.{records_long}
use Rattle.paper_steps.proofs.PlayRight.{play_promised}

-- The way that the search finds, as the player is to make it.
module _ (q : Question) (work : List ℕ) (e : Entry (Situation PlaceSet) Move) (h : end_of (hidden q) work ≡ found e) where
  way_found : WayTo q e × (finished (acceptor (hidden q)) e.at ≡ true)
  unfolding how_of searched
  way_found = found_way (acceptor (hidden q)) (question_decides (hidden q)) longest_side (room_of work) (hidden q).left (hidden q).right e h

  -- "No route through the search has more steps than the room has situations, less one" (request K12)
  pub way_below_room : length e.way < room_of work
  unfolding how_of searched
  way_below_room =
      (ways_short (hidden q) (room_of work)).steps e
      (TextLength.found_way (acceptor (hidden q)) (hidden q).left (hidden q).right (equal (hidden q)) (same (hidden q)) longest_side (room_of work) e h)

  way_accepted : Accepted q (step_records e.way) e
  unfolding room_of
  way_accepted = record { said = refl; few = omega (arith, way_below_room); leads = way_found.0; at_finish = way_found.1 }

-- what becomes of 01's outcome, by its tests
data StepsTold (bytes : List ℕ) (c : Outcome) (answer steps : List ℕ) : StepsOutcome → Type 0 where
  as_before : (c.number ≡ 0 → ⊥) → StepsTold bytes c answer steps (without_steps c steps)
  short_of : c.number ≡ 0 → length steps < length bytes → StepsTold bytes c answer steps (steps_too_short c answer steps)
  put_in_front : c.number ≡ 0 → length bytes ≤ length steps → StepsTold bytes c answer steps (steps_written bytes c steps)

steps_told : (bytes : List ℕ) (c : Outcome) (answer steps : List ℕ) → StepsTold bytes c answer steps (with_steps bytes c answer steps)
unfolding with_steps
steps_told bytes c answer steps =
    let Told = StepsTold bytes c answer steps in
    cond_by Told (not (is_clash c))
    (λ h. as_before (eqb_false c.number 0 (not_is_true h)))
    (λ h.
    let zero = eqb_true c.number 0 (not_is_false h) in
    cond_by Told (not (leb (length bytes) (length steps)))
    (λ k. short_of zero (leb_false (length bytes) (length steps) (not_is_true k)))
    (λ k. put_in_front zero (leb_true (length bytes) (length steps) (not_is_false k))))

module _ (r : Reading) (good : AsksGood r) (work answer steps : List ℕ) where
  abbrev c : Outcome
  c = outcome_of r work answer

  abbrev Told : StepsOutcome → Type 0
  Told = StepsTold (steps_found r work) c answer steps

  -- 51 is no number of 01's
  not_51 : c.number ≡ 51 → ⊥
  not_51 e = true_false (rw e at (demand_1 r work answer).numbered) refl

  -- the records of the way found are those of the entry that the search finds
  found_bytes : (s : Solved r work) → steps_found r work ≡ way_bytes s
  found_bytes s = rw s.good (ap end_steps s.is_found)

  clash_solved : c.number ≡ 0 → Solved r work
  clash_solved h = ((demand_2 r good work answer).clash h).solved

  told_as_clash : {o : StepsOutcome} → Told o → (o.number ≡ 51 → ⊥) → AsClash c o
  told_as_clash (as_before n) h = record { number = refl; count = refl; place = refl; written = refl; answer = refl; work = refl }
  told_as_clash (short_of z k) h = absurd (h refl)
  told_as_clash (put_in_front z k) h = record { number = refl; count = refl; place = refl; written = refl; answer = refl; work = refl }

  told_51 : {o : StepsOutcome} → Told o → o.number ≡ 51 → After51 c work answer o
  told_51 (as_before n) h = absurd (not_51 h)
  told_51 (short_of z k) h =
      let a = (demand_1 r work answer).after_search (rw z refl) in
      record { is_clash = z; count = refl; place = a.place; written = refl; answer_after = refl; all_zero = a.all_zero }
  told_51 (put_in_front z k) h = absurd (not_51 h)

  told_wrote : {o : StepsOutcome} → Told o → c.number ≡ 0 → (s : Solved r work) → length (way_bytes s) ≤ length steps → Wrote (way_bytes s) steps o
  told_wrote (as_before n) h s fits = absurd (n h)
  told_wrote (short_of z k) h s fits = absurd (let same = ap length (found_bytes s) in omega arith)
  told_wrote (put_in_front z k) h s fits =
      let same = found_bytes s in
      record { number = z; step_bytes = ap length same; steps_after = ap (λ (b : List ℕ). b ++ drop (length b) steps) same }

  told_short : {o : StepsOutcome} → Told o → c.number ≡ 0 → (s : Solved r work) → length steps < length (way_bytes s) → o.number ≡ 51
  told_short (as_before n) h s short = absurd (n h)
  told_short (short_of z k) h s short = refl
  told_short (put_in_front z k) h s short = absurd (let same = ap length (found_bytes s) in omega arith)

  told_unchanged : {o : StepsOutcome} → Told o → (o.number ≡ 0 → ⊥) → (o.step_bytes ≡ 0) × (o.steps ≡ steps)
  told_unchanged (as_before n) h = (refl, refl)
  told_unchanged (short_of z k) h = (refl, refl)
  told_unchanged (put_in_front z k) h = absurd (h z)

  -- The player makes the way that the search found, and gives what 01's outcome has.
  row_accepted : Row r work answer c 0
      → play_of r (steps_found r work) answer ≡ record { number = 0; count = 0; place = 0; written = c.written; answer = c.answer }
  row_accepted (faulty x at e n none) = absurd (true_false n refl)
  row_accepted (clashes q e g h fits w a) =
      let bytes = step_records e.way in
      let same : steps_found r work ≡ bytes = rw g (ap end_steps h) in
      let p = play_promised r good bytes answer in
      let x = way_accepted q work e h in
      let y = p.carries q g e x fits in
      ap (λ (b : List ℕ). play_of r b answer) same
      ∙ (λ i.
      record {
        number = y.number i;
        count = p.no_count i;
        place = p.no_place q g i;
        written = (y.written ∙ sym w) i;
        answer = (y.answer_after ∙ sym a) i;
      })

  told_accepted : {o : StepsOutcome} → Told o → o.number ≡ 0
      → play_of r (take o.step_bytes o.steps) answer ≡ record { number = 0; count = 0; place = 0; written = o.written; answer = o.answer }
  told_accepted (as_before n) h = absurd (n h)
  told_accepted (short_of z k) h = absurd (omega arith)
  told_accepted (put_in_front z k) h =
      let bytes = steps_found r work in
      ap (λ (b : List ℕ). play_of r b answer) (take-append_seam bytes (drop (length bytes) steps)) ∙ row_accepted (in_row r work answer 0 z)

  told_enough : {o : StepsOutcome} → Told o → enough_steps (room_of work) ≤ length steps → o.number ≡ 51 → ⊥
  told_enough (as_before n) enough h = not_51 h
  told_enough (short_of z k) enough h =
      let s = clash_solved z in
      omega (arith, ap length (found_bytes s), records_long s.entry.way, way_below_room s.question work s.entry s.is_found)
  told_enough (put_in_front z k) enough h = not_51 h

  -- For every reading whose question is good.
  pub steps_promised : StepsPromised r work answer steps (steps_outcome_of r work answer steps)
  steps_promised =
      let t = steps_told (steps_found r work) c answer steps in
      record {
        as_clash = told_as_clash t;
        after_51 = told_51 t;
        wrote = told_wrote t;
        too_short = told_short t;
        unchanged = told_unchanged t;
        solved = λ h. clash_solved (told_51 t h).is_clash;
        accepted = told_accepted t;
        enough = told_enough t;
      }

-- For all sheets.
pub sheet_steps_promised : (sheet work answer steps : List ℕ) → StepsPromised (read_sheet sheet) work answer steps (steps_outcome sheet work answer steps)
unfolding steps_outcome
sheet_steps_promised sheet = steps_promised (read_sheet sheet) (sheet_good sheet)

-- "Every way the search writes is accepted, for the same answer buffer, and gives the same texts", for all sheets.
pub sheet_way_accepted : (sheet work answer steps : List ℕ)
    → let o = steps_outcome sheet work answer steps in
    o.number ≡ 0
    → play sheet (take o.step_bytes o.steps) answer ≡ record { number = 0; count = 0; place = 0; written = o.written; answer = o.answer }
unfolding play
sheet_way_accepted sheet work answer steps = (sheet_steps_promised sheet work answer steps).accepted
