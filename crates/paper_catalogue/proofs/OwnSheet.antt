-- "Demands 2 and 3 read each pair as a sheet of its own": the sheet that says the pair of two good rules, lent the same room and any answer buffer.
--   own_sheet : GoodRule r → GoodRule s → neither has a stray pattern → OwnSheet r s work answer
--   pair_demand_1, pair_demand_2, pair_demand_3 : its outcome meets demands 1, 2 and 3
-- Follows from `reads_back`, from the demands for every reading whose question is good, and from the number and the count of a good reading.
use Prim.Native.Nat.{ℕ}
use mathlib.Core.Path.{◌≡◌, refl, sym, ap, ◌∙◌}
use mathlib.Core.List.{List, []}
use lib.Dec.{leb}
use lib.ListN.{length}
use Rattle.paper.specs.Places.{PlaceSet}
use Rattle.paper.specs.Search.{End, found, used_up, no_room, too_long}
use Rattle.paper.specs.Situation.{Situation, Move}
use Rattle.paper.specs.Question.{Question, hidden}
use Rattle.paper.specs.Sheet.{asked, read_sheet}
use Rattle.paper.specs.Outcome.{outcome_of, outcome}
use Rattle.paper.specs.Buffers.{Demand1}
use Rattle.paper.specs.Demands.{demanded_number, end_of, Demand2, Demand3}
use Rattle.paper.specs.Rule.{Rule, rule_strays, pair}
use Rattle.paper_catalogue.specs.PairAsking.{pair_number, pair_answer, pair_count}
use Rattle.paper.specs.Saying.{sheet_saying}
use Rattle.paper_catalogue.specs.Calls.{without_20, OwnSheet}
use Rattle.paper.proofs.base.Tests.{cond_by}
use Rattle.paper_laws.proofs.sheets.Rows.{found_records, good_outcome}
use Rattle.paper_laws.proofs.demands.Demand1.{demand_1}
use Rattle.paper_laws.proofs.demands.Demand2.{demand_2}
use Rattle.paper_laws.proofs.demands.Demand3.{demand_3}
use Rattle.paper_laws.proofs.saying.Saying.{reads_back}
use Rattle.paper_catalogue.proofs.GoodRule.{GoodRule, pair_sayable, pair_asks}
use Rattle.paper_catalogue.proofs.Pair.{pair_free}

-- A pair's answer is the sheet's, where a clash is 0 whether or not its texts fit.
same_number : (q : Question) (answer : List ℕ) (x : End (Situation PlaceSet) Move) → pair_number x ≡ without_20 (demanded_number q answer x)
same_number q answer (found e) =
    cond_by (λ (n : ℕ). 0 ≡ without_20 n) (leb (length (found_records q e)) (length answer)) (λ _. refl) (λ _. refl)
same_number q answer used_up = refl
same_number q answer no_room = refl
same_number q answer too_long = refl

module _ (r s : Rule) (good-r : GoodRule r) (good-s : GoodRule s) (free-r : rule_strays r ≡ []) (free-s : rule_strays s ≡ []) (work answer : List ℕ) where
  asks_pair : read_sheet (sheet_saying (pair r s)) ≡ asked (pair r s)
  asks_pair = reads_back (pair r s) (pair_sayable r s good-r good-s) (pair_free r s good-r good-s free-r free-s)

  pub own_sheet : OwnSheet r s work answer
  unfolding outcome pair_answer pair_count
  own_sheet =
      let (number, count) = good_outcome (read_sheet (sheet_saying (pair r s))) work answer (pair r s) asks_pair in
      record {
        asks = asks_pair;
        count = count;
        number = same_number (pair r s) answer (end_of (hidden (pair r s)) work) ∙ ap without_20 (sym number);
      }

  same_outcome : outcome (sheet_saying (pair r s)) work answer ≡ outcome_of (asked (pair r s)) work answer
  unfolding outcome
  same_outcome = rw asks_pair

  pub pair_demand_1 : Demand1 (asked (pair r s)) work answer (outcome (sheet_saying (pair r s)) work answer)
  pair_demand_1 = rw same_outcome (demand_1 (asked (pair r s)) work answer)

  pub pair_demand_2 : Demand2 (asked (pair r s)) work answer (outcome (sheet_saying (pair r s)) work answer)
  pair_demand_2 = rw same_outcome (demand_2 (asked (pair r s)) (pair_asks r s good-r good-s) work answer)

  pub pair_demand_3 : Demand3 (asked (pair r s)) work (outcome (sheet_saying (pair r s)) work answer)
  pair_demand_3 = rw same_outcome (demand_3 (asked (pair r s)) (pair_asks r s good-r good-s) work answer)
