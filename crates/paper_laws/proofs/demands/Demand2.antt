-- Demand 2: for every reading whose question is good and all buffers, lists of bytes, the outcome of 01 meets it. A sheet's is an instance: from
-- bytes to bytes. What it says stands in specs/Demands: clash carries texts that solve the question, no clash means that there are none, the
-- refusals 18, 19, 20 and the count are those of the search.
-- Follows from the rows of the table of answers, from the laws of good questions, and from the laws of the search of a question.
use Prim.Native.Nat.{ℕ}
use native.Mathlib.Omega.{arith}
use mathlib.Core.Path.{◌≡◌, ◌∙◌, refl}
use mathlib.Core.Bool.{true}
use mathlib.Core.List.{List, [], ◌∷◌, ◌++◌}
use lib.ListN.{length, drop, length-append, length-drop}
use lib.Seq.{take-append_seam, drop-append_seam}
use Rattle.paper.specs.Lists.{upto, member}
use Rattle.paper.specs.Numbers.{fields}
use Rattle.paper.proofs.base.Tests.{true_false}
use Rattle.paper.proofs.base.Lists.{keep_mem, upto_mem}
use Rattle.paper.specs.Places.{PlaceSet}
use Rattle.paper.specs.Search.{Entry, found}
use Rattle.paper.specs.Equation.{stands_in}
use Rattle.paper.specs.Situation.{Situation, Move}
use Rattle.paper.specs.Question.{Question, hidden}
use Rattle.paper.specs.Sheet.{Reading, read_sheet}
use Rattle.paper.specs.Outcome.{Outcome, room_of, standing, outcome_of, outcome}
use Rattle.paper.specs.Demands.{Good, end_of, texts_spelt, Solved, Clash, NoClash, NoRoom, TooLong, TooShort, InOrder, Demand2}
use Rattle.paper_laws.proofs.sheets.Asked.{AsksGood, sheet_good, fields_known}
use Rattle.paper_laws.proofs.sheets.Hidden.{hidden_known, own_solves, with_spaces, hidden_solves}
use Rattle.paper_laws.proofs.sheets.QuestionSearched.{found_solves, used_up_unsolved, count_entered, count_in_room, first_entered, entered_trimmed}
use Rattle.paper_laws.proofs.sheets.QuestionSearched.{no_room_left, too_long_left}
use Rattle.paper_laws.proofs.sheets.TextLength.{text_short_enough}
use Rattle.paper_laws.proofs.sheets.Rows.{found_records, Row, faulty, clashes, clashes_not, has_no_room, is_too_long, is_too_short, in_row}
use Rattle.paper_laws.proofs.sheets.Rows.{good_outcome, number_of_search, refused_outcome, by_reading}

-- For every reading whose question is good, and all buffers.
pub demand_2 : (r : Reading) → AsksGood r → (work answer : List ℕ) → Demand2 r work answer (outcome_of r work answer)
unfolding standing
demand_2 r good work answer =
    record {
      clash = λ e. clash (row 0 e);
      no_clash = λ e. no_clash (row 1 e);
      in_order = in_order;
      good_number = good_number;
      no_room = λ e. full (row 18 e);
      too_long = λ e. long (row 19 e);
      too_short = λ e. short (row 20 e);
      not_good = refused_outcome r work answer;
      count_within = by_reading r
          (λ x at e. let (n, none) = refused_outcome r work answer x at e in omega arith)
          (λ q g. rw (good_outcome r work answer q g).1 (count_in_room (hidden q) work));
    }
  where
    o : Outcome
    o = outcome_of r work answer

    row : (n : ℕ) → o.number ≡ n → Row r work answer o n
    row = in_row r work answer

    solved : (q : Question) (e : Entry (Situation PlaceSet) Move) → Good r q → end_of (hidden q) work ≡ found e → Solved r work
    solved q e g h =
        record {
          question = q;
          good = g;
          entry = e;
          is_found = h;
          solution = own_solves q (good q g) (texts_spelt (hidden q) e) (found_solves (hidden q) (room_of work) e h);
        }

    clash : Row r work answer o 0 → Clash r work answer o
    clash (faulty x at e n c) = absurd (true_false n refl)
    clash (clashes q e g h fits w a) =
        let bytes = found_records q e in
        let rest = drop (length bytes) answer in
        record {
          solved = solved q e g h;
          written = rw (w, a) (take-append_seam bytes rest);
          each_field = λ f i. keep_mem (λ (k : ℕ). stands_in k (q.left ++ q.right)) (upto fields) (upto_mem fields (fields_known q (good q g) f i)) i;
          lengths = λ f i. text_short_enough (hidden q) work e h f;
          rest = rw (w, a) (drop-append_seam bytes rest);
          fits = rw w fits;
          same_length = rw (a, length-append bytes rest, length-drop (length bytes) answer) (omega arith);
        }

    no_clash : Row r work answer o 1 → NoClash r
    no_clash (faulty x at e n c) = absurd (true_false n refl)
    no_clash (clashes_not q g h) =
        record {
          question = q;
          good = g;
          none = λ texts x.
              used_up_unsolved (hidden q) (room_of work) (hidden_known q (good q g)) h
              (with_spaces q (good q g) texts x) (hidden_solves q (good q g) texts x);
        }

    full : Row r work answer o 18 → NoRoom r work o
    full (faulty x at e n c) = absurd (true_false n refl)
    full (has_no_room q g h) =
        let (f, out) = no_room_left (hidden q) work h in
        record { question = q; good = g; full = (good_outcome r work answer q g).1 ∙ f; left_out = out }

    long : Row r work answer o 19 → TooLong r work
    long (faulty x at e n c) = absurd (true_false n refl)
    long (is_too_long q g h) =
        let (s, m, t, i, c, above) = too_long_left (hidden q) work h in
        record { question = q; good = g; parent = s; move = m; long = t; parent_entered = i; is_child = c; above = above }

    short : Row r work answer o 20 → TooShort r work answer
    short (faulty x at e n c) = absurd (true_false n refl)
    short (is_too_short q e g h k) = record { solved = solved q e g h; short = k }

    in_order : (q : Question) → Good r q → InOrder q work answer o
    in_order q g =
        let (n, c) = good_outcome r work answer q g in
        record { number = n; count = c ∙ count_entered (hidden q) work; first = first_entered (hidden q) work; all_trimmed = entered_trimmed (hidden q) work }

    good_number : (q : Question) → Good r q → member o.number (0 ∷ 1 ∷ 18 ∷ 19 ∷ 20 ∷ []) ≡ true
    good_number q g = rw (good_outcome r work answer q g).0 (number_of_search q answer (end_of (hidden q) work))

-- For all sheets and buffers.
pub sheet_demand_2 : (sheet work answer : List ℕ) → Demand2 (read_sheet sheet) work answer (outcome sheet work answer)
unfolding outcome
sheet_demand_2 sheet = demand_2 (read_sheet sheet) (sheet_good sheet)
