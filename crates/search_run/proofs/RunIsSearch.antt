-- How the search over slots ends tells the whole outcome of a good question, over the characters that pass a test and over all:
--   run_told_over : told_end (ended_with T room (start q) buffer) (buffer_with T room (start q) buffer) (cleared work)
--     ≡ answered q (count_of st) (how_of st) work buffer, where T is `tables_over among q` and st is `searched_over among q room`, for every room of 01
--   run_told      : the same where T is `tables_of q` and st is `searched q room`
-- Follows from how the search over slots stands for the paper's search (`Simulated`), and from the standing fields and their texts being
-- the same. The texts are those that 01 reads from the way, whichever characters pass (`texts_over`), and none is so long that its length has a
-- third byte (`short_over`).
use Prim.Native.Nat.{ℕ, ◌+◌, ◌-◌, ◌≤◌, ◌<◌}
use native.Mathlib.Nat.{le_refl}
use native.Mathlib.Omega.{arith}
use mathlib.Core.Path.{◌≡◌, refl, sym, ap, ◌∙◌}
use mathlib.Core.Bool.{Bool, true, false, cond, not}
use mathlib.Core.List.{List, ◌++◌, Memᴰ}
use lib.Dec.{leb, eqb}
use lib.ListN.{length, drop}
use Rattle.paper.specs.Lists.{upto, member}
use Rattle.paper.specs.Numbers.{fields, set_fields, most_room}
use Rattle.paper.specs.Places.{PlaceSet}
use Rattle.paper.specs.Equation.{stands_in}
use Rattle.paper.specs.Search.{Entry, End, found, used_up, no_room, too_long}
use Rattle.paper.specs.Situation.{Situation, Move}
use Rattle.paper.specs.Way.{texts_of}
use Rattle.paper.specs.Question.{Question, acceptor}
use Rattle.paper.specs.Outcome.{searched, standing, value_record, records, cleared, without_bytes, clash, answered, count_of, how_of}
use Rattle.paper_laws.proofs.sheets.Hidden.{Searchable}
use Rattle.paper.proofs.base.Lists.{mem_keep, mem_upto, map_append}
use Rattle.paper.proofs.base.Listed.{get_or_map_upto, keep_same, each_same}
use Rattle.paper_chosen.specs.Chosen.{every, searched_over}
use Rattle.paper_chosen.proofs.Over.{texts_over, short_over, searched_every}
use Rattle.base_codes.specs.Inner.{field_code, token_code, side_code}
use Rattle.search_trim.specs.Trimming.{first_mask, first_masks, question_coded}
use Rattle.search_children.specs.Coding.{tables_over}
use Rattle.search_children.proofs.CodedQuestion.{stands_coded, known_append}
use Rattle.search_children.proofs.CodedSides.{known_side}
use Rattle.search_run.specs.Ended.{told_end, clash_how, how_by, buffer_by, run_concluded, concluded_buffer, ended_with, buffer_with}
use Rattle.search_run.specs.Way.{text_at}
use Rattle.search_records.specs.Records.{fields_with_sets, record_bytes, value_records, in_front, answer_given, buffer_after}
use Rattle.search_records.proofs.Records.{record_is}
use Rattle.search_run.specs.Run.{status_of}
use Rattle.search_slots.specs.Slots.{Slot}
use Rattle.std.specs.Prelude.{Some, None}
use Rattle.search_run.proofs.Simulated.{start, run, status_agrees, count_agrees, text_agrees}

-- a first place set is not 0 exactly if its field stands
one_or_none : (b : Bool) → not (eqb (cond b 1 0) 0) ≡ b
one_or_none true = refl
one_or_none false = refl

-- a field that a sheet may name has a set
set_field : (f : ℕ) → Memᴰ f (upto fields) → f < set_fields
set_field f d = omega (arith, mem_upto fields d)

-- 20 before 0, in both
clash_cases : (short : Bool) (n : ℕ) (rs work buffer : List ℕ)
    → told_end (record { how = clash_how (cond short None (Some (length rs))); count = n }) (cond short buffer (in_front rs buffer)) (cleared work)
    ≡ cond short (without_bytes 20 n work buffer)
    (record
    { number = 0; count = n; place = 0; written = length rs; answer = rs ++ drop (length rs) buffer; work = cleared work })
clash_cases true n rs work buffer = refl
clash_cases false n rs work buffer = refl

-- the codes of the sides' tokens
abbrev pub codes : Question → List ℕ
codes q = side_code q.left ++ side_code q.right

module _ (q : Question) (good : Searchable q) where
  stands_alike : (f : ℕ) → member (field_code + f) (codes q) ≡ stands_in f (q.left ++ q.right)
  stands_alike f =
      ap (member (field_code + f)) (sym (map_append token_code q.left q.right))
      ∙ stands_coded f (q.left ++ q.right) (known_append q.left q.right (known_side q.left good.left) (known_side q.right good.right))

  standing_alike : fields_with_sets (first_masks (codes q)) ≡ standing q
  unfolding fields_with_sets first_mask first_masks standing
  standing_alike =
      keep_same _ (λ (f : ℕ). stands_in f (q.left ++ q.right)) (upto fields)
      (λ f d. ap (λ (m : ℕ). not (eqb m 0)) (get_or_map_upto (first_mask (codes q)) 0 set_fields f (set_field f d)) ∙ one_or_none (member (field_code + f) (codes q)) ∙ stands_alike f)

module _ (among : ℕ → Bool) (q : Question) (good : Searchable q) where
  module _ (room : ℕ) (at_most : room ≤ most_room) (e : Entry (Situation PlaceSet) Move) (h : how_of (searched_over among q room) ≡ found e) where
    abbrev ss : List Slot
    ss = (run among q good room).slots

    text_alike : (f : ℕ) → Memᴰ f (standing q) → text_at ss (length ss - 1) f ≡ texts_of (acceptor q) q.left q.right e f
    unfolding standing
    text_alike f d =
        text_agrees among q good room e h f (set_field f (mem_keep (λ (g : ℕ). stands_in g (q.left ++ q.right)) (upto fields) d).0) (length ss - 1) (le_refl _)
        ∙ texts_over among q e f

    pub records_alike : value_records (first_masks (codes q)) (text_at ss (length ss - 1)) ≡ records q e
    unfolding value_records records
    records_alike =
        rw (standing_alike q good)
        (each_same _ (λ (f : ℕ). value_record f (texts_of (acceptor q) q.left q.right e f)) (standing q)
        (λ f d. ap (record_bytes f) (text_alike f d) ∙ record_is f (texts_of (acceptor q) q.left q.right e f) (short_over among q room at_most e h f)))

    clash_told : (n : ℕ) (work buffer : List ℕ)
        → told_end (record { how = clash_how (answer_given (first_masks (codes q)) (text_at ss (length ss - 1)) buffer); count = n }) (buffer_after (first_masks (codes q)) (text_at ss (length ss - 1)) buffer) (cleared work)
        ≡ clash q n e work buffer
    unfolding answer_given buffer_after clash
    clash_told n work buffer =
        rw records_alike
        (clash_cases (not (leb (length (records q e)) (length buffer))) n (records q e) work buffer)

  -- The end of the search over slots, with the buffers that it leaves, is the outcome by how the paper's search ended.
  pub run_told_over : (room : ℕ) → room ≤ most_room → (work buffer : List ℕ)
      → told_end (ended_with (tables_over among q) room (start q) buffer) (buffer_with (tables_over among q) room (start q) buffer) (cleared work)
      ≡ answered q (count_of (searched_over among q room)) (how_of (searched_over among q room)) work buffer
  unfolding ended_with buffer_with run_concluded concluded_buffer question_coded
  run_told_over room at_most work buffer =
      rw (status_agrees among q good room) (by_end (how_of (searched_over among q room)) refl)
    where
      slots : List Slot
      slots = (run among q good room).slots

      by_end : (x : End (Situation PlaceSet) Move) → how_of (searched_over among q room) ≡ x
          → told_end (record { how = how_by (status_of x) slots (first_masks (codes q)) buffer; count = length slots }) (buffer_by (status_of x) slots (first_masks (codes q)) buffer) (cleared work)
          ≡ answered q (count_of (searched_over among q room)) x work buffer
      by_end (found e) h = clash_told room at_most e h (length slots) work buffer ∙ ap (λ (n : ℕ). clash q n e work buffer) (count_agrees among q good room)
      by_end used_up h = ap (λ (n : ℕ). without_bytes 1 n work buffer) (count_agrees among q good room)
      by_end no_room h = ap (λ (n : ℕ). without_bytes 18 n work buffer) (count_agrees among q good room)
      by_end too_long h = ap (λ (n : ℕ). without_bytes 19 n work buffer) (count_agrees among q good room)

-- Over every character it is the paper's search of the question.
pub run_told : (q : Question) → Searchable q → (room : ℕ) → room ≤ most_room → (work buffer : List ℕ)
    → told_end (ended_with (tables_over every q) room (start q) buffer) (buffer_with (tables_over every q) room (start q) buffer) (cleared work)
    ≡ answered q (count_of (searched q room)) (how_of (searched q room)) work buffer
run_told q good room at_most work buffer = rw (searched_every q room) at (run_told_over every q good room at_most work buffer)
