-- How the search over slots that writes its way ends tells the whole outcome of a good question, over the characters that pass a test:
--   run_steps_told_over : told_run (steps_with T room (start q) answer steps) (cleared work)
--     ≡ with_steps (end_steps (how_of st)) (answered q (count_of st) (how_of st) work answer) answer steps, where T is `tables_over among q` and st is
--     `searched_over among q room`, for every room of 01
-- Follows from how the search over slots stands for the paper's search (`Simulated`), and from the answer records being the same (`records_alike`).
use Prim.Native.Nat.{ℕ, ◌-◌, ◌≤◌}
use mathlib.Core.Path.{◌≡◌, refl, ap, ◌∙◌}
use mathlib.Core.Bool.{Bool, true, false, cond, not}
use mathlib.Core.List.{List, [], ◌++◌}
use lib.Dec.{leb, eqb}
use lib.ListN.{length, drop}
use Rattle.paper.specs.Numbers.{most_room}
use Rattle.paper.specs.Places.{PlaceSet}
use Rattle.paper.specs.Search.{Entry, End, found, used_up, no_room, too_long}
use Rattle.paper.specs.Situation.{Situation, Move}
use Rattle.paper.specs.Question.{Question}
use Rattle.paper.specs.Outcome.{records, cleared, without_bytes, clash, answered, count_of, how_of}
use Rattle.paper_laws.proofs.sheets.Hidden.{Searchable}
use Rattle.paper_chosen.specs.Chosen.{searched_over}
use Rattle.paper_steps.specs.StepRecords.{step_records}
use Rattle.paper_steps.specs.StepsOutcome.{end_steps, without_steps, steps_too_short, steps_written, with_steps}
use Rattle.search_trim.specs.Trimming.{first_masks, question_coded}
use Rattle.search_children.specs.Coding.{tables_over}
use Rattle.search_records.specs.Records.{value_records, in_front}
use Rattle.search_slots.specs.Slots.{Slot}
use Rattle.search_steps.specs.WaySteps.{steps_told, steps_answered}
use Rattle.base_steps.specs.declared.StepsHow.TheVariants.{Clash, AnswerTooShort, StepsTooShort}
use Rattle.search_run.specs.Run.{status_of}
use Rattle.search_run.specs.StepsEnded.{steps_at, steps_by, steps_concluded, counted, steps_with, told_run}
use Rattle.search_run.specs.Way.{text_at}
use Rattle.search_run.proofs.Simulated.{start, run, status_agrees, count_agrees, steps_agree}
use Rattle.search_run.proofs.RunIsSearch.{codes, records_alike}

-- 20 before 51 before 0, in both
clash_cases : (short unfit : Bool) (n : ℕ) (rs way work answer steps : List ℕ) →
    let o = cond short (without_bytes 20 n work answer)
    (record { number = 0; count = n; place = 0; written = length rs; answer = rs ++ drop (length rs) answer; work = cleared work }) in
    told_run
    (counted n
    (cond short (steps_told AnswerTooShort answer steps)
    (cond unfit (steps_told StepsTooShort answer steps) (steps_told (Clash (length rs) (length way)) (in_front rs answer) (in_front way steps)))))
    (cleared work)
    ≡ cond (not (eqb o.number 0)) (without_steps o steps) (cond unfit (steps_too_short o answer steps) (steps_written way o steps))
clash_cases true unfit n rs way work answer steps = refl
clash_cases false true n rs way work answer steps = refl
clash_cases false false n rs way work answer steps = refl

-- the ends without a clash: nothing is written
none_told : (x n m : ℕ) (work answer steps : List ℕ) → eqb x 0 ≡ false → n ≡ m
    → without_steps (without_bytes x n work answer) steps ≡ with_steps [] (without_bytes x m work answer) answer steps
unfolding with_steps
none_told x n m work answer steps e h = rw (e, h)

module _ (among : ℕ → Bool) (q : Question) (good : Searchable q) where
  module _ (room : ℕ) (at_most : room ≤ most_room) (e : Entry (Situation PlaceSet) Move) (h : how_of (searched_over among q room) ≡ found e) where
    abbrev ss : List Slot
    ss = (run among q good room).slots

    clash_with_steps : (n : ℕ) (work answer steps : List ℕ)
        → told_run (counted n (steps_answered (value_records (first_masks (codes q)) (text_at ss (length ss - 1))) (steps_at ss (length ss - 1)) answer steps)) (cleared work)
        ≡ with_steps (step_records e.way) (clash q n e work answer) answer steps
    unfolding steps_answered with_steps clash
    clash_with_steps n work answer steps =
        rw (records_alike among q good room at_most e h, steps_agree among q good room e h)
        (clash_cases (not (leb (length (records q e)) (length answer))) (not (leb (length (step_records e.way)) (length steps))) n (records q e) (step_records e.way) work answer steps)

  -- The end of the search over slots, with the buffers that it leaves, is the outcome by how the paper's search ended.
  pub run_steps_told_over : (room : ℕ) → room ≤ most_room → (work answer steps : List ℕ) →
      let st = searched_over among q room in
      told_run (steps_with (tables_over among q) room (start q) answer steps) (cleared work)
      ≡ with_steps (end_steps (how_of st)) (answered q (count_of st) (how_of st) work answer) answer steps
  unfolding steps_with steps_concluded question_coded
  run_steps_told_over room at_most work answer steps =
      rw (status_agrees among q good room) (by_end (how_of (searched_over among q room)) refl)
    where
      slots : List Slot
      slots = (run among q good room).slots

      by_end : (x : End (Situation PlaceSet) Move) → how_of (searched_over among q room) ≡ x
          → told_run (counted (length slots) (steps_by (status_of x) slots (first_masks (codes q)) answer steps)) (cleared work)
          ≡ with_steps (end_steps x) (answered q (count_of (searched_over among q room)) x work answer) answer steps
      by_end (found e) h =
          clash_with_steps room at_most e h (length slots) work answer steps
          ∙ ap (λ (n : ℕ). with_steps (step_records e.way) (clash q n e work answer) answer steps) (count_agrees among q good room)
      by_end used_up h = none_told 1 (length slots) _ work answer steps refl (count_agrees among q good room)
      by_end no_room h = none_told 18 (length slots) _ work answer steps refl (count_agrees among q good room)
      by_end too_long h = none_told 19 (length slots) _ work answer steps refl (count_agrees among q good room)
