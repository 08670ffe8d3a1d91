-- What the whole search ends with, for all sides, tables and buffers: the end, the count, the answer buffer. The working buffer is all zero
-- then.
use Rattle.std.specs.Prelude.{ℕ, ◌-◌, ◌/◌, ◌<◌, min, ◌≡◌, Option, Some, None, Ok, List, length}
use Rattle.paper.specs.Numbers.{situation_bytes, most_room}
use Rattle.paper.specs.Outcome.{Outcome}
use Rattle.base_codes.specs.Coded.{Coded}
use Rattle.search_children.specs.Children.{Tables}
use Rattle.search_run.specs.Lent.{Lent}
use Rattle.search_run.specs.Way.{Earlier, text_at}
use Rattle.search_run.specs.Run.{Running, slot_search}
use Rattle.search_slots.specs.Slots.{Slot}
use Rattle.base_answers.specs.AnswerNumbers.{told}
use Rattle.base_answers.specs.declared.Ended.{Ended}
use Rattle.base_answers.specs.declared.How.{How}
use Rattle.base_answers.specs.declared.How.TheVariants.{Clash, NoClash, NoRoom, SideTooLong, AnswerTooShort}
use Rattle.search_records.specs.Records.{answer_given, buffer_after}
use Rattle.search_run.specs.declared.search.Run.{Run}
use Rattle.search_run.specs.declared.search.Status.{Status}
use Rattle.search_run.specs.declared.search.Status.TheVariants as Status-as

-- "Room is one situation for each whole 184 bytes of working buffer, and at most 65,535"
abbrev pub room_for : ℕ → ℕ
room_for bytes = min (bytes / situation_bytes) most_room

-- the outcome that an end tells, with both buffers as they are afterwards
abbrev pub told_end : Ended → List ℕ → List ℕ → Outcome
told_end r answer work = told (Ok r) answer work

-- how a clash ends, by what became of its records
abbrev pub clash_how : Option ℕ → How
clash_how None = AnswerTooShort
clash_how (Some bytes) = Clash bytes

-- how it ends, by how the search over slots stands; where it found a finished situation, that is in the last slot. `sets` are the first
-- situation's: they say which fields stand.
abbrev pub how_by : Status → List Slot → List ℕ → List ℕ → How
how_by Status-as.Found ss sets buffer = clash_how (answer_given sets (text_at ss (length ss - 1)) buffer)
how_by Status-as.UsedUp ss sets buffer = NoClash
how_by Status-as.NoRoom ss sets buffer = NoRoom
how_by Status-as.TooLong ss sets buffer = SideTooLong
how_by Status-as.Going ss sets buffer = NoRoom

-- the answer buffer then
abbrev pub buffer_by : Status → List Slot → List ℕ → List ℕ → List ℕ
buffer_by Status-as.Found ss sets buffer = buffer_after sets (text_at ss (length ss - 1)) buffer
buffer_by Status-as.UsedUp ss sets buffer = buffer
buffer_by Status-as.NoRoom ss sets buffer = buffer
buffer_by Status-as.TooLong ss sets buffer = buffer
buffer_by Status-as.Going ss sets buffer = buffer

unfoldable pub run_concluded : Running → List ℕ → List ℕ → How
run_concluded R sets buffer = how_by R.status R.slots sets buffer

unfoldable pub concluded_buffer : Running → List ℕ → List ℕ → List ℕ
concluded_buffer R sets buffer = buffer_by R.status R.slots sets buffer

-- the end of the search that begins with k, and the answer buffer then
unfoldable pub ended_with : Tables → ℕ → Coded → List ℕ → Ended
ended_with T room k buffer =
    let search = slot_search T room k in
    record { how = run_concluded search k.sets buffer; count = length search.slots }

unfoldable pub buffer_with : Tables → ℕ → Coded → List ℕ → List ℕ
buffer_with T room k buffer = concluded_buffer (slot_search T room k) k.sets buffer

-- what `found` promises: how a clash from these slots ends, and the answer buffer
pub record ClashTold (ss : List Slot) (n : ℕ) (sets before after : List ℕ) (r : How) : Type 0 where
  pub answer : r ≡ clash_how (answer_given sets (text_at ss (n - 1)) before)
  pub buffer : after ≡ buffer_after sets (text_at ss (n - 1)) before

-- the search in the buffer is over, and its slots lead back to the first
pub record SearchOver (work : List ℕ) (run : Run) : Type 0 where
  pub search : Running
  pub lent : Lent work run search
  pub earlier : Earlier search.slots
  pub some : search.status ≡ Status-as.Found → 0 < length search.slots

-- the search that begins with k is over in the buffer, and these are its sets
pub record SearchedSo (T : Tables) (room : ℕ) (k : Coded) (work : List ℕ) (run : Run) (sets : List ℕ) : Type 0 where
  pub over : Lent work run (slot_search T room k)
  pub sets_are : sets ≡ k.sets

-- what `conclude` promises
pub record Concluded (R : Running) (sets before after : List ℕ) (r : How) : Type 0 where
  pub answer : r ≡ run_concluded R sets before
  pub buffer : after ≡ concluded_buffer R sets before
