-- A pair of two good rules, decided.
--   own_decision     : if neither has a stray pattern, it is answered as `decide` answers the sheet that says the pair
--   decision_tells   : so by what is decided of the pair's question
--   deciding_right   : answered 1, the two make no labels that are the same
--   decided_together : answered 0, they make some
--   as_searched      : where 01's search ends in 0 or 1, that is the answer, with its count, and 1 is the search
--   decided_count, decided_search : the count has three bytes, the search is 4 at most
-- Follows from what is promised of deciding (`Decided`) for the reading that asks the pair.
use Prim.Native.Nat.{ℕ, ◌*◌, ◌≤◌}
use native.Mathlib.Nat.{zero-add}
use native.Mathlib.Omega.{arith}
use mathlib.Core.Path.{◌≡◌, refl, sym, ap, ◌∙◌, subst}
use mathlib.Core.Bool.{true, not}
use mathlib.Core.List.{List, [], ◌∷◌}
use lib.Dec.{leb, eqb}
use lib.ListN.{length}
use Rattle.paper.specs.Lists.{member}
use Rattle.paper.specs.Numbers.{space, most_room}
use Rattle.paper.specs.Places.{PlaceSet}
use Rattle.paper.specs.Search.{End, found, used_up, no_room, too_long}
use Rattle.paper.specs.Equation.{Texts, Same}
use Rattle.paper.specs.Situation.{Situation, Move}
use Rattle.paper.specs.Question.{Question, Solution, hidden}
use Rattle.paper.specs.Sheet.{asked, read_sheet}
use Rattle.paper.specs.Rule.{Rule, Makes, rule_strays, pair}
use Rattle.paper.specs.Saying.{sheet_saying}
use Rattle.paper.specs.Outcome.{Outcome, room_of, searched, records, clash, answered, count_of, how_of}
use Rattle.paper.proofs.base.Tests.{cond_by, eqb_true}
use Rattle.paper_laws.proofs.saying.Saying.{reads_back}
use Rattle.paper_chosen.proofs.Over.{searched_every}
use Rattle.paper_decide.specs.Deciding.{most_attempts, end_decides, concluded, Decision, decision_of, decision}
use Rattle.paper_decide.specs.DecidePromised.{Decided}
use Rattle.paper_decide.proofs.Decided.{decided}
use Rattle.paper_catalogue.specs.PairAsking.{pair_number, pair_answer, pair_count, by_search}
use Rattle.paper_catalogue.specs.Calls.{without_20}
use Rattle.paper_catalogue.proofs.GoodRule.{GoodRule, pair_sayable, pair_asks}
use Rattle.paper_catalogue.proofs.Pair.{pair_free, unsolved_apart, solved_together}
use Rattle.paper_catalogue.proofs.RightAsking.{AsksRight, number_not_1}
use Rattle.paper_catalogue_decide.specs.DecidedPairs.{pair_decided, by_deciding, OwnDecision}

-- What the answer of an end says of the number and the count that are told of it.
module _ (q : Question) (n : ℕ) (work answer : List ℕ) where
  same_number : (x : End (Situation PlaceSet) Move) → pair_number x ≡ without_20 (answered q n x work answer).number
  unfolding clash
  same_number (found e) =
      cond_by (λ (o : Outcome). 0 ≡ without_20 o.number) (not (leb (length (records q e)) (length answer))) (λ _. refl) (λ _. refl)
  same_number used_up = refl
  same_number no_room = refl
  same_number too_long = refl

  same_count : (x : End (Situation PlaceSet) Move) → (answered q n x work answer).count ≡ n
  unfolding clash
  same_count (found e) =
      cond_by (λ (o : Outcome). o.count ≡ n) (not (leb (length (records q e)) (length answer))) (λ _. refl) (λ _. refl)
  same_count used_up = refl
  same_count no_room = refl
  same_count too_long = refl

module _ (r s : Rule) (good-r : GoodRule r) (good-s : GoodRule s) (work answer : List ℕ) where
  abbrev its_decision : Decision
  its_decision = decision_of (asked (pair r s)) work answer

  promised : Decided (asked (pair r s)) work answer its_decision
  promised = decided (asked (pair r s)) (pair_asks r s good-r good-s) work answer

  its_number : (pair_decided r s (room_of work)).answer ≡ without_20 its_decision.outcome.number
  unfolding pair_decided
  its_number =
      let c = concluded (pair r s) (room_of work) in
      same_number (hidden (pair r s)) c.count work answer c.end

  its_count : its_decision.outcome.count ≡ (pair_decided r s (room_of work)).count
  unfolding pair_decided
  its_count = let c = concluded (pair r s) (room_of work) in same_count (hidden (pair r s)) c.count work answer c.end

  its_search : its_decision.search ≡ (pair_decided r s (room_of work)).search
  unfolding pair_decided
  its_search = refl

  -- What is decided of the pair's question tells what the pair is answered.
  pub decision_tells : let d = decision_of (asked (pair r s)) work answer in
      pair_decided r s (room_of work) ≡ record { answer = without_20 d.outcome.number; count = d.outcome.count; search = d.search }
  decision_tells = λ i. record { answer = its_number i; count = sym its_count i; search = sym its_search i }

  -- "a pair is asked as `decide` asks": the sheet that says the pair is good, since neither rule has a stray pattern
  module _ (free-r : rule_strays r ≡ []) (free-s : rule_strays s ≡ []) where
    asks_pair : read_sheet (sheet_saying (pair r s)) ≡ asked (pair r s)
    asks_pair = reads_back (pair r s) (pair_sayable r s good-r good-s) (pair_free r s good-r good-s free-r free-s)

    same_decision : decision (sheet_saying (pair r s)) work answer ≡ its_decision
    unfolding decision
    same_decision = rw asks_pair

    pub own_decision : OwnDecision r s work answer
    own_decision =
        record {
          asks = asks_pair;
          number = its_number ∙ ap (λ (d : Decision). without_20 d.outcome.number) (sym same_decision);
          count = ap (λ (d : Decision). d.outcome.count) same_decision ∙ its_count;
          search = ap (λ (d : Decision). d.search) same_decision ∙ its_search;
        }

  -- the pair's question, whatever a reading says of it
  unsolved : (q : Question) → asked (pair r s) ≡ asked q → ((texts : Texts) → Solution q texts → ⊥) → (texts : Texts) → Solution (pair r s) texts → ⊥
  unsolved q e = let same : pair r s ≡ q = cc in subst (λ (p : Question). (texts : Texts) → Solution p texts → ⊥) (sym same)

  solved : (q : Question) → asked (pair r s) ≡ asked q → (texts : Texts) → Solution q texts → Solution (pair r s) texts
  solved q e texts = let same : pair r s ≡ q = cc in subst (λ (p : Question). Solution p texts) (sym same)

  -- answered 1, `decide`'s number is 1; answered 0, it is 0 or 20
  number_1 : (n : ℕ) → without_20 n ≡ 1 → n ≡ 1
  number_1 n = cond_by (λ (m : ℕ). m ≡ 1 → n ≡ 1) (eqb n 20) (λ _ (e : 0 ≡ 1). absurd (omega (arith, e))) (λ _ e. e)

  decided_apart : (pair_decided r s (room_of work)).answer ≡ 1 → (l n : List ℕ) → Same space l n → Makes r l → Makes s n → ⊥
  decided_apart e =
      let none = promised.no_clash (number_1 its_decision.outcome.number (sym its_number ∙ e)) in
      unsolved_apart r s good-r good-s (unsolved none.question none.good none.none)

  together_by : (n : ℕ) → n ≡ its_decision.outcome.number → without_20 n ≡ 0
      → (l : List ℕ) × (m : List ℕ) × Same space l m × Makes r l × Makes s m
  together_by n is =
      cond_by (λ (m : ℕ). m ≡ 0 → (l : List ℕ) × (m : List ℕ) × Same space l m × Makes r l × Makes s m) (eqb n 20)
      (λ h _. let t = promised.too_short (sym is ∙ eqb_true n 20 h) in
      solved_together r s good-r good-s t.texts (solved t.question t.good t.texts t.solution))
      (λ _ e. let t = promised.clash (sym is ∙ e) in
      solved_together r s good-r good-s t.texts (solved t.question t.good t.texts t.solution))

  -- Answered 0, they make labels that are the same.
  pub decided_together : (pair_decided r s (room_of work)).answer ≡ 0 → (l : List ℕ) × (m : List ℕ) × Same space l m × Makes r l × Makes s m
  decided_together e = together_by its_decision.outcome.number refl (sym its_number ∙ e)

  -- "the count in three bytes .. since four searches can enter more than two bytes say"
  pub decided_count : (pair_decided r s (room_of work)).count ≤ most_attempts * most_room
  unfolding room_of
  decided_count = omega (arith, promised.count_within, its_count)

  pub decided_search : (pair_decided r s (room_of work)).search ≤ most_attempts
  decided_search = omega (arith, promised.search_number, its_search)

decided_not_1 : (r s : Rule) (room : ℕ) → ((pair_decided r s room).answer ≡ 1 → ⊥) → member (pair_decided r s room).answer (0 ∷ 18 ∷ 19 ∷ []) ≡ true
unfolding pair_decided
decided_not_1 r s room = number_not_1 (concluded (pair r s) room).end

-- Answered 1, they make no labels that are the same.
pub deciding_right : AsksRight by_deciding
deciding_right =
    record {
      apart = λ r s g h work e. decided_apart r s g h work [] e;
      not_1 = decided_not_1;
      one_length = λ lower higher p. refl;
    }

-- Where 01's search decides, deciding gives the same: its answer, its count, and 1 is the search.
pub as_searched : (r s : Rule) (room : ℕ) → end_decides true true (how_of (searched (hidden (pair r s)) room)) ≡ true
    → pair_decided r s room ≡ by_search.asks r s room
unfolding pair_decided concluded pair_answer pair_count
as_searched r s room d = rw (searched_every (hidden (pair r s)) room, d, zero-add (count_of (searched (hidden (pair r s)) room)))

answer_decides : (q : Question) (x : End (Situation PlaceSet) Move) → pair_number x ≡ 1 → end_decides true true x ≡ true
answer_decides q (found e) h = refl
answer_decides q used_up h = refl
answer_decides q no_room h = absurd (omega (arith, h))
answer_decides q too_long h = absurd (omega (arith, h))

pub searched_decided : (r s : Rule) (room : ℕ) → pair_answer r s room ≡ 1 → (pair_decided r s room).answer ≡ 1
unfolding pair_answer
searched_decided r s room e =
    rw (as_searched r s room (answer_decides (pair r s) (how_of (searched (hidden (pair r s)) room)) e)) e
