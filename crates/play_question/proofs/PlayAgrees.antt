-- A question that was played tells what the paper's player tells of it:
--   played_told : told_end r after ≡ play_ended q answer (play_from (hidden q) most_steps (first_entry (hidden q)) steps)
-- for the struct of a good question, wherever its patterns stand. Follows from the walk (`WalkAgrees`), from the standing fields being the same, and
-- from what the hidden fields are.
use Prim.Native.Nat.{ℕ, ◌<◌}
use native.Mathlib.Omega.{arith}
use mathlib.Core.Path.{◌≡◌, refl, sym, ap, ◌∙◌}
use mathlib.Core.Bool.{not}
use mathlib.Core.List.{List, ◌++◌, Memᴰ}
use lib.Dec.{leb, eqb}
use lib.ListN.{length, get_or}
use Rattle.paper.specs.Lists.{upto, each}
use Rattle.paper.specs.Numbers.{fields, set_fields}
use Rattle.paper.specs.Places.{PlaceSet}
use Rattle.paper.specs.Search.{Entry}
use Rattle.paper.specs.Equation.{stands_in}
use Rattle.paper.specs.Situation.{Situation, Move}
use Rattle.paper.specs.Way.{texts_of}
use Rattle.paper.specs.Question.{Question, hidden}
use Rattle.paper.specs.Outcome.{standing, value_record}
use Rattle.paper.specs.Demands.{texts_spelt, records_of}
use Rattle.paper.proofs.base.Tests.{by_bool}
use Rattle.paper.proofs.base.Lists.{mem_keep, mem_upto, map_append}
use Rattle.paper.proofs.base.Listed.{keep_same, each_same}
use Rattle.paper_laws.proofs.sheets.Asked.{GoodQuestion, good_most}
use Rattle.paper_laws.proofs.sheets.Hidden.{Searchable, hidden_searchable, standing_hidden}
use Rattle.paper_steps.specs.Player.{most_steps, Played, play_from, first_entry, play_told, play_ended}
use Rattle.base_codes.specs.Inner.{token_code}
use Rattle.base_question.specs.Asked.{question_of}
use Rattle.base_question.specs.declared.Body.{Body}
use Rattle.base_question.specs.declared.Question as Code
use Rattle.search_hidden.proofs.Codes.{left_hidden, right_hidden, part_hidden}
use Rattle.search_tables.specs.Tables.{follow_of, taking_of, last_of}
use Rattle.search_trim.specs.Trimming.{first_masks, question_coded}
use Rattle.search_children.specs.Coding.{tables_of}
use Rattle.search_children.proofs.CodedSides.{known_side}
use Rattle.search_children.proofs.CodedQuestion.{known_append, marked_stands}
use Rattle.search_records.specs.Records.{fields_with_sets}
use Rattle.search_children.specs.Laid.{tables}
use Rattle.play_walk.specs.WalkCoded.{Ending, text_walked}
use Rattle.play_walk.proofs.WalkAgrees.{Tells, arrives, stops, first_coded, walk_told}
use Rattle.play_texts.specs.WayRecords.{records_along, way_records, way_given, way_buffer}
use Rattle.play_question.specs.QuestionPlayed.{End, question_tables, question_first, end_of, end_by, buffer_by, PlayedFrom, told_end}

-- 20 before 0, in both
fits_told : (bytes answer : List ℕ) → told_end (end_of (way_given bytes answer)) (way_buffer bytes answer) ≡ play_told bytes answer
unfolding play_told
fits_told bytes answer = by_bool (leb (length bytes) (length answer)) (λ e. rw e) (λ e. rw e)

module _ (q : Question) (good : Searchable q) where
  -- the fields with a first place set are those that stand
  pub standing_marked : fields_with_sets (first_coded q).sets ≡ standing q
  unfolding fields_with_sets standing question_coded
  standing_marked =
      keep_same _ (λ (f : ℕ). stands_in f (q.left ++ q.right)) (upto fields)
      (λ f d.
      ap (λ (l : List ℕ). not (eqb (get_or (first_masks l) f 0) 0)) (sym (map_append token_code q.left q.right))
      ∙ marked_stands (q.left ++ q.right) (known_append q.left q.right (known_side q.left good.left) (known_side q.right good.right)) f
      (omega (arith, mem_upto fields d)))

  in_sets : (f : ℕ) → Memᴰ f (standing q) → f < set_fields
  unfolding standing
  in_sets f d = omega (arith, mem_upto fields (mem_keep (λ (g : ℕ). stands_in g (q.left ++ q.right)) (upto fields) d).0)

  -- the records of texts that are those of an entry
  records_are : (steps : List ℕ) (e : Entry (Situation PlaceSet) Move)
      → ((f : ℕ) → f < set_fields → texts_spelt q e f ≡ text_walked (tables_of q) f (first_coded q) steps)
      → way_records (tables_of q) (first_coded q) steps ≡ each (λ (f : ℕ). value_record f (texts_spelt q e f)) (standing q)
  unfolding way_records records_along
  records_are steps e h =
      ap (each (λ (f : ℕ). value_record f (text_walked (tables_of q) f (first_coded q) steps))) standing_marked
      ∙ each_same _ (λ (f : ℕ). value_record f (texts_spelt q e f)) (standing q)
      (λ f d. ap (value_record f) (sym (h f (in_sets f d))))

-- the bytes that are put at the end, and what is told of it
module _ (q : Question) (g : GoodQuestion q) (steps answer : List ℕ) where
  abbrev good : Searchable (hidden q)
  good = hidden_searchable q g

  abbrev bytes : List ℕ
  bytes = way_records (tables_of (hidden q)) (first_coded (hidden q)) steps

  bytes_are : (e : Entry (Situation PlaceSet) Move)
      → ((f : ℕ) → f < set_fields → texts_spelt (hidden q) e f ≡ text_walked (tables_of (hidden q)) f (first_coded (hidden q)) steps)
      → bytes ≡ records_of q (texts_spelt (hidden q) e)
  bytes_are e h =
      records_are (hidden q) good steps e h ∙ ap (each (λ (f : ℕ). value_record f (texts_spelt (hidden q) e f))) (standing_hidden q)

  told_by : {x : Ending} {y : Played} → Tells (hidden q) good (λ (f : ℕ). text_walked (tables_of (hidden q)) f (first_coded (hidden q)) steps) x y
      → told_end (end_by x bytes answer) (buffer_by x bytes answer) ≡ play_ended q answer y
  unfolding texts_of
  told_by (stops why) = refl
  told_by (arrives e t) = rw (bytes_are e t) (fits_told (records_of q (texts_spelt (hidden q) e)) answer)

  -- the struct of the question
  module _ (bodies : List Body) where
    pub tables_are : question_tables (question_of q bodies) ≡ tables_of (hidden q)
    unfolding tables_of
    tables_are = λ i.
        tables q.alphabet.characters (part_hidden q bodies follow_of i) (part_hidden q bodies taking_of i) (part_hidden q bodies last_of i)

    pub first_is : question_first (question_of q bodies) ≡ first_coded (hidden q)
    first_is = λ i. question_coded (left_hidden q bodies (good_most g) g.left i) (right_hidden q bodies (good_most g) g.right i)

    pub played_told : (s : Code.Question) → s ≡ question_of q bodies → (after : List ℕ) (r : End)
        → PlayedFrom (question_tables s) (question_first s) steps answer after r
        → told_end r after ≡ play_ended q answer (play_from (hidden q) most_steps (first_entry (hidden q)) steps)
    played_told s is after r p =
        rw (p.end, p.buffer, is, tables_are, first_is) (told_by (walk_told (hidden q) good steps))
