-- What is decided stays decided in a larger room.
--   decision_stands    : room_of work ≤ room_of larger → DecisionStands (decision sheet work answer) (decision sheet larger answer)
--   as_clash_stands    : where `clash` gives 0, 1, 20 or a fault, deciding in the larger room gives the same in every number and byte
--   same_room_decision : two working buffers of the same room decide the same
-- An attempt that decides ends alike in the larger room (`SearchedLarger`), so it decides there, or one before it does. That it is a clash again, or a
-- no clash, follows from what is promised of deciding (`Decided`): with 0 and 20 there are texts that solve the question, with 1 there are none.
use Prim.Native.Nat.{ℕ, suc, ◌*◌, ◌≤◌, ◌<◌}
use native.Mathlib.Omega.{arith}
use mathlib.Core.Path.{◌≡◌, refl, sym, ◌∙◌, subst}
use mathlib.Core.Bool.{true, false, not}
use lib.Dec.{leb}
use mathlib.Core.List.Memᴰ
use mathlib.Core.List.{List, [], ◌∷◌, Memᴰ}
use Rattle.paper.specs.Lists.{member}
use Rattle.paper.specs.Numbers.{situation_bytes}
use Rattle.paper.specs.Places.{PlaceSet}
use Rattle.paper.specs.Search.{End, no_room}
use Rattle.paper.specs.Equation.{Texts}
use Rattle.paper.specs.Situation.{Situation, Move}
use Rattle.paper.specs.Question.{Question, Solution, hidden}
use Rattle.paper.specs.Sheet.{Reading, refused, asked, read_sheet}
use Rattle.paper.specs.Outcome.{room_of, searched, how_of, outcome_of, outcome}
use Rattle.paper.specs.Demands.{Good, NoClash}
use Rattle.paper.proofs.base.Tests.{by_bool, true_false, both_true, and_left, and_right, leb_true, le_leb, not_is_true, false_not, eqb_false, neq_eqb}
use Rattle.paper.proofs.base.Lists.{mem_cons_by, member_true}
use Rattle.paper_laws.proofs.sheets.Asked.{AsksGood, sheet_good}
use Rattle.paper_chosen.specs.Chosen.{searched_over}
use Rattle.paper_decide.specs.Deciding.{Attempt, searching, testing, apart_test, attempts, end_decides, tried, concluded_from, concluded, Decision, decision_of, decision}
use Rattle.paper_plain.specs.Engine.{bits_of, clashes_apart}
use Rattle.paper_decide.specs.DecidePromised.{Decided}
use Rattle.paper_decide.proofs.Decided.{decided}
use Rattle.paper_larger.specs.Stands.{SameTold, is_decided, is_clash, DecisionStands}
use Rattle.paper_larger.proofs.SearchedLarger.{searched_over_larger}
use Rattle.paper_larger.proofs.OutcomeStands.{told_alike, reading_stands}

abbrev Ended : Type 0
Ended = End (Situation PlaceSet) Move

-- one attempt decided, and in the larger room the same one or an earlier one
record Earlier (before after : ℕ) : Type 0 where
  some : 0 < after
  no_later : after ≤ before

module _ (room larger : ℕ) (more : room ≤ larger) where
  -- a test that says no clash says it in the larger room
  abbrev Lasts : Attempt → Type 0
  Lasts (searching q among clash no_clash) = Unit {0}
  Lasts (testing says-no) = says-no room ≡ true → says-no larger ≡ true

  -- A search that decides has room, so it ends alike.
  still_decides : (t : Attempt) → Lasts t → (tried t room).decides ≡ true → (tried t larger).decides ≡ true
  still_decides (searching q among clash no_clash) l d =
      let has_room : how_of (searched_over among q room) ≡ no_room → ⊥ = λ e. true_false (subst (λ (x : Ended). end_decides clash no_clash x ≡ true) e d) refl in
      rw (searched_over_larger among q room larger more has_room) d
  still_decides (testing says-no) l d = l d

  -- Attempts are numbered by their order.
  number_from : (first : Ended) (k n : ℕ) (ts : List Attempt) → ((concluded_from first room (suc k) n ts).search ≡ 0 → ⊥)
      → suc k ≤ (concluded_from first room (suc k) n ts).search
  number_from first k n [] h = absurd (h refl)
  number_from first k n (t ∷ ts) h =
      by_bool (tried t room).decides
      (λ d. rw d (omega arith))
      (λ d. rw d (let later = number_from first (suc k) _ ts (rw d at h) in omega (arith, later)))

  earlier : (first other : Ended) (k n m : ℕ) (ts : List Attempt) → ((t : Attempt) → Memᴰ t ts → Lasts t)
      → ((concluded_from first room (suc k) n ts).search ≡ 0 → ⊥)
      → Earlier (concluded_from first room (suc k) n ts).search (concluded_from other larger (suc k) m ts).search
  earlier first other k n m [] lasts h = absurd (h refl)
  earlier first other k n m (t ∷ ts) lasts h =
      by_bool (tried t larger).decides
      (λ d. rw d (record { some = omega arith; no_later = number_from first k n (t ∷ ts) h }))
      (λ d. by_bool (tried t room).decides
      (λ b. absurd (true_false (still_decides t (lasts t (Memᴰ.head refl)) b) d))
      (λ b. rw (d, b) (earlier first other (suc k) _ _ ts (λ u i. lasts u (Memᴰ.tail i)) (rw b at h))))

  -- the letters don't know of the room; and bits that fit fit in more
  all_last : (q : Question) (t : Attempt) → Memᴰ t (attempts q) → Lasts t
  all_last q =
      mem_cons_by Lasts tt
      (mem_cons_by Lasts (λ e. e)
      (mem_cons_by Lasts bits_last
      (mem_cons_by Lasts tt
      (mem_cons_by Lasts tt
      (mem_cons_by Lasts tt
      (mem_cons_by Lasts tt (λ t d. absurd (Memᴰ.not-nil d))))))))
    where
      bits_last : Lasts (apart_test q)
      bits_last e =
          let fit = leb_true (bits_of q) (8 * (situation_bytes * room)) (and_left (leb (bits_of q) (8 * (situation_bytes * room))) (not (clashes_apart q)) e) in
          let no = and_right (leb (bits_of q) (8 * (situation_bytes * room))) (not (clashes_apart q)) e in
          both_true (le_leb (bits_of q) (8 * (situation_bytes * larger)) (omega arith)) no

  concluded_earlier : (q : Question) → ((concluded q room).search ≡ 0 → ⊥) → Earlier (concluded q room).search (concluded q larger).search
  unfolding concluded
  concluded_earlier q = earlier (how_of (searched (hidden q) room)) (how_of (searched (hidden q) larger)) 0 0 0 (attempts q) (all_last q)

-- the three numbers of what is decided
decided_cases : {C : Type 0} (n : ℕ) → is_decided n ≡ true → (n ≡ 0 → C) → (n ≡ 1 → C) → (n ≡ 20 → C) → C
decided_cases {C} n h a b c = of (member_true n (0 ∷ 1 ∷ 20 ∷ []) h)
  where
    of : Memᴰ n (0 ∷ 1 ∷ 20 ∷ []) → C
    of (Memᴰ.head e) = a e
    of (Memᴰ.tail (Memᴰ.head e)) = b e
    of (Memᴰ.tail (Memᴰ.tail (Memᴰ.head e))) = c e
    of (Memᴰ.tail (Memᴰ.tail (Memᴰ.tail d))) = absurd (Memᴰ.not-nil d)

pub clash_cases : {C : Type 0} (n : ℕ) → is_clash n ≡ true → (n ≡ 0 → C) → (n ≡ 20 → C) → C
clash_cases {C} n h a b = of (member_true n (0 ∷ 20 ∷ []) h)
  where
    of : Memᴰ n (0 ∷ 20 ∷ []) → C
    of (Memᴰ.head e) = a e
    of (Memᴰ.tail (Memᴰ.head e)) = b e
    of (Memᴰ.tail (Memᴰ.tail d)) = absurd (Memᴰ.not-nil d)

clash_decided : (n : ℕ) → is_clash n ≡ true → is_decided n ≡ true
clash_decided n h = clash_cases n h (λ e. rw e) (λ e. rw e)

-- texts that solve the question
record Solved (r : Reading) : Type 0 where
  question : Question
  good : Good r question
  texts : Texts
  solution : Solution question texts

never_both : (r : Reading) → Solved r → NoClash r → ⊥
never_both r s n =
    let same : s.question ≡ n.question = cc (s.good, n.good) in
    n.none s.texts (subst (λ (q : Question). Solution q s.texts) same s.solution)

module _ (r : Reading) (asks-good : AsksGood r) (answer : List ℕ) where
  promised : (work : List ℕ) → Decided r work answer (decision_of r work answer)
  promised work = decided r asks-good work answer

  clash_solved : (work : List ℕ) → is_clash (decision_of r work answer).outcome.number ≡ true → Solved r
  clash_solved work h =
      clash_cases (decision_of r work answer).outcome.number h
      (λ e. let t = (promised work).clash e in
      record { question = t.question; good = t.good; texts = t.texts; solution = t.solution })
      (λ e. let t = (promised work).too_short e in
      record { question = t.question; good = t.good; texts = t.texts; solution = t.solution })

  -- Decided is where some search is told.
  some_search : (work : List ℕ) → is_decided (decision_of r work answer).outcome.number ≡ true → (decision_of r work answer).search ≡ 0 → ⊥
  some_search work h = eqb_false (decision_of r work answer).search 0 (not_is_true (sym (promised work).search_told ∙ h))

  search_some : (work : List ℕ) → 0 < (decision_of r work answer).search → is_decided (decision_of r work answer).outcome.number ≡ true
  search_some work h =
      (promised work).search_told ∙ false_not (neq_eqb (decision_of r work answer).search 0 (λ (e : (decision_of r work answer).search ≡ 0). omega (arith, e, h)))

  module _ (work larger : List ℕ) (more : room_of work ≤ room_of larger) where
    abbrev before : Decision
    before = decision_of r work answer

    abbrev after : Decision
    after = decision_of r larger answer

    decided_earlier : (x : Reading) → ((decision_of x work answer).search ≡ 0 → ⊥)
        → Earlier (decision_of x work answer).search (decision_of x larger answer).search
    decided_earlier (refused x at) n = absurd (n refl)
    decided_earlier (asked q) n = concluded_earlier (room_of work) (room_of larger) more q n

    -- "what was decided stays decided in any larger room"
    stays_decided : is_decided before.outcome.number ≡ true → is_decided after.outcome.number ≡ true
    stays_decided h = search_some larger (decided_earlier r (some_search work h)).some

    stays_1 : before.outcome.number ≡ 1 → after.outcome.number ≡ 1
    stays_1 e =
        let none = (promised work).no_clash e in
        decided_cases after.outcome.number (stays_decided (rw e))
        (λ f. absurd (never_both r (clash_solved larger (rw f)) none))
        (λ f. f)
        (λ f. absurd (never_both r (clash_solved larger (rw f)) none))

    stays_clash : is_clash before.outcome.number ≡ true → is_clash after.outcome.number ≡ true
    stays_clash h =
        decided_cases after.outcome.number (stays_decided (clash_decided before.outcome.number h))
        (λ f. rw f)
        (λ f. absurd (never_both r (clash_solved work h) ((promised larger).no_clash f)))
        (λ f. rw f)

    pub reading_decision_stands : DecisionStands (decision_of r work answer) (decision_of r larger answer)
    reading_decision_stands =
        record {
          no_clash = stays_1;
          clash = stays_clash;
          decided = stays_decided;
          no_later = λ h. (decided_earlier r (some_search work h)).no_later;
        }

    -- 18 is none of the first search's decisions, and 19 neither
    decides_not_18 : (n : ℕ) → member n (18 ∷ 19 ∷ []) ≡ false → n ≡ 18 → ⊥
    decides_not_18 n h e = true_false refl (subst (λ (m : ℕ). member m (18 ∷ 19 ∷ []) ≡ false) e h)

    -- Where `clash` is not left open, deciding is `clash`, in the larger room too.
    as_clash : member (outcome_of r work answer).number (18 ∷ 19 ∷ []) ≡ false → SameTold before.outcome after.outcome
    as_clash h =
        let same = reading_stands work larger answer r more (decides_not_18 (outcome_of r work answer).number h) in
        rw ((promised work).as_clash h, (promised larger).as_clash (rw same.number h)) same

  -- Two buffers of the same room decide the same.
  alike_decision : (x : Reading) (work larger : List ℕ) → room_of work ≡ room_of larger
      → SameTold (decision_of x work answer).outcome (decision_of x larger answer).outcome
      × ((decision_of x larger answer).search ≡ (decision_of x work answer).search)
  alike_decision (refused x at) work larger e = (record { number = refl; count = refl; place = refl; written = refl; answer = refl }, refl)
  alike_decision (asked q) work larger e =
      let c = concluded q (room_of larger) in rw e (told_alike (hidden q) c.count answer c.end work larger, refl)

-- For all sheets and buffers.
module _ (sheet answer work larger : List ℕ) where
  pub decision_stands : room_of work ≤ room_of larger → DecisionStands (decision sheet work answer) (decision sheet larger answer)
  unfolding decision
  decision_stands = reading_decision_stands (read_sheet sheet) (sheet_good sheet) answer work larger

  -- "If `clash` with the same buffers gives 0, 1, 20 or a refusal of the sheet, `decide` gives the same in every number and byte", and so it does with
  -- any larger working buffer.
  pub as_clash_stands : room_of work ≤ room_of larger → member (outcome sheet work answer).number (18 ∷ 19 ∷ []) ≡ false
      → SameTold (decision sheet work answer).outcome (decision sheet larger answer).outcome
  unfolding outcome decision
  as_clash_stands = as_clash (read_sheet sheet) (sheet_good sheet) answer work larger

  pub same_room_decision : room_of work ≡ room_of larger
      → SameTold (decision sheet work answer).outcome (decision sheet larger answer).outcome
      × ((decision sheet larger answer).search ≡ (decision sheet work answer).search)
  unfolding decision
  same_room_decision = alike_decision (read_sheet sheet) (sheet_good sheet) answer (read_sheet sheet) work larger
