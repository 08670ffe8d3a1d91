-- Demand 3: for every reading whose question is good and all buffers, lists of bytes, the outcome of 01 meets it. A sheet's is an instance: from
-- bytes to bytes. What it says stands in specs/Demands.
-- The number of a field's reachable place sets is the length of `reachable_sets`, which has each of them once (`Reachable`).
-- Follows from demand 3 over any acceptor (`Plain`), from the laws of good questions and of reachable place sets.
use Prim.Native.Nat.{ℕ, ◌≤◌}
use native.Mathlib.Omega.{arith}
use mathlib.Core.Path.{◌≡◌, refl, subst}
use mathlib.Core.Bool.{true}
use mathlib.Core.List.{List, [], ◌∷◌}
use Rattle.paper.specs.Numbers.{longest_side}
use Rattle.paper.specs.Pattern.{range, char, leaf, many, some_text, pattern}
use Rattle.paper.specs.Places.{PlaceSet, set_after, reachable_sets}
use Rattle.paper.specs.Written.{judge}
use Rattle.paper.specs.Search.{no_room, too_long, enter, offer, take_next, search}
use Rattle.paper.specs.Equation.{fld}
use Rattle.paper.specs.Plain.{plain, Reaches}
use Rattle.paper.specs.Alphabet.{code_39, code}
use Rattle.paper.specs.Question.{Question, held_by, hidden, acceptor}
use Rattle.paper.specs.Sheet.{marked, pattern_record, side_record, Reading, read_end, marked_side, next_is, edition_front, strays_of, read_by, read_sheet}
use Rattle.paper.specs.Outcome.{room_of, searched, count_of, how_of, outcome_of, outcome}
use Rattle.paper.specs.Demands.{Good, end_of, bound_of, Demand3}
use Rattle.paper.proofs.base.Tests.{true_false}
use Rattle.paper_laws.proofs.places.PlaceSets.{same_equal, equal_same}
use Rattle.paper_laws.proofs.places.Reachable.{reachable_first, reachable_after}
use Rattle.paper_laws.proofs.plain.Plain.{plain_count, plain_has_room, plain_not_long}
use Rattle.paper_laws.proofs.sheets.Asked.{AsksGood, sheet_good}
use Rattle.paper_laws.proofs.sheets.Hidden.{hidden_known, hidden_short, hidden_plain}
use Rattle.paper.proofs.known.KnownSheet.{sheet_S}
use Rattle.paper_laws.proofs.sheets.Rows.{Row, faulty, has_no_room, is_too_long, in_row, good_outcome}

-- For every reading whose question is good, and all buffers.
pub demand_3 : (r : Reading) → AsksGood r → (work answer : List ℕ) → Demand3 r work (outcome_of r work answer)
unfolding acceptor room_of searched count_of how_of
demand_3 r good work answer =
    record {
      bounded = λ q g p. rw (good_outcome r work answer q g).1
          (plain_count (acceptor (hidden q)) same_equal equal_same (reach (hidden q)) (reaches (hidden q)) longest_side (room_of work) (hidden q).left (hidden q).right
          (hidden_plain q (good q g) p) (hidden_known q (good q g)));
      room_counted = omega arith;
      enough_room = λ q g p enough. (
        λ e. has_room q g p enough (in_row r work answer 18 e),
        λ e. not_long q g p (in_row r work answer 19 e),
      );
    }
  where
    reach : Question → ℕ → List PlaceSet
    reach q f = reachable_sets q.alphabet.characters (held_by q f)

    reaches : (q : Question) → Reaches (acceptor q) (reach q)
    reaches q =
        record {
          first = λ f h. reachable_first q.alphabet.characters (held_by q f);
          after = λ f s c h k d e. reachable_after q.alphabet.characters (held_by q f) s c d k e;
        }

    has_room : (q : Question) → Good r q → plain q.left q.right ≡ true → bound_of q ≤ room_of work
        → Row r work answer (outcome_of r work answer) 18 → ⊥
    has_room q g p enough (faulty x at e n c) = true_false n refl
    has_room q g p enough (has_no_room q' g' h) =
        let same : q' ≡ q = cc in
        plain_has_room (acceptor (hidden q)) same_equal equal_same (reach (hidden q)) (reaches (hidden q)) longest_side (room_of work) (hidden q).left (hidden q).right
        (hidden_plain q (good q g) p) (hidden_known q (good q g))
        enough (subst (λ (t : Question). end_of (hidden t) work ≡ no_room) same h)

    not_long : (q : Question) → Good r q → plain q.left q.right ≡ true
        → Row r work answer (outcome_of r work answer) 19 → ⊥
    not_long q g p (faulty x at e n c) = true_false n refl
    not_long q g p (is_too_long q' g' h) =
        let same : q' ≡ q = cc in
        plain_not_long (acceptor (hidden q)) same_equal equal_same (reach (hidden q)) (reaches (hidden q)) longest_side (room_of work) (hidden q).left (hidden q).right
        (hidden_plain q (good q g) p) (hidden_known q (good q g)) (omega (arith, (hidden_short q (good q g)).0)) (omega (arith, (hidden_short q (good q g)).1))
        (subst (λ (t : Question). end_of (hidden t) work ≡ too_long) same h)

-- For all sheets and buffers.
pub sheet_demand_3 : (sheet work answer : List ℕ) → Demand3 (read_sheet sheet) work (outcome sheet work answer)
unfolding outcome
sheet_demand_3 sheet = demand_3 (read_sheet sheet) (sheet_good sheet)

-- Sheet S, x any digits and y the digit 4: the bound of demand 3 is (1 + 4) times (1 + 4), since each side has a hidden field.
abbrev pub question_S : Question
question_S =
    record {
      alphabet = code_39;
      left = fld 0 ∷ [];
      right = fld 1 ∷ [];
      held = pattern (many (leaf (range 0 9))) ∷ pattern (leaf (char 4)) ∷ some_text ∷ some_text ∷ some_text ∷ some_text ∷ some_text ∷ some_text ∷ [];
    }

pub sheet_S_asks : Good (read_sheet sheet_S) question_S
unfolding judge marked pattern_record side_record read_end marked_side next_is code edition_front read_by strays_of read_sheet
sheet_S_asks = refl

pub sheet_S_bound : bound_of question_S ≡ 25
unfolding set_after enter offer take_next search reachable_sets
sheet_S_bound = refl
