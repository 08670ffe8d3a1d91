-- The records of the way to a slot: they are those of the slot before it with that of the step, they have at most four bytes for each slot, and the
-- record of a step, stored in front of what is written already, makes them longer by one. And the three answers, each under its tests.
-- Follows from the definition of `steps_back` by induction on the fuel, which does not matter.
use Prim.Native.Nat.{ℕ, zero, suc, ◌+◌, ◌≤◌, ◌<◌}
use native.Mathlib.Omega.{arith}
use mathlib.Core.Path.{◌≡◌, refl, sym, ap, ap₂, ◌∙◌}
use mathlib.Core.Bool.{Bool, true, false}
use mathlib.Core.List.{List, ◌++◌, append_assoc}
use lib.Dec.{ltb, eqb}
use lib.ListN.{length, take, drop, length-append}
use lib.Seq.{sets, drop-drop, drop_at, length-take-le}
use borrow.Author.Tests.{lt-ltb, le-ltb}
use borrow.Rule.Slice.PartMut.{put_mid}
use Rattle.paper.specs.Lists.{only}
use Rattle.paper.proofs.base.Tests.{by_bool, ltb_true, le_leb, lt_leb}
use Rattle.search_records.specs.Records.{parent_in, step_in, in_front, value_records, buffer_after}
use Rattle.search_records.specs.declared.Origin.{Origin}
use Rattle.base_steps.specs.declared.StepsHow.TheVariants.{Clash, AnswerTooShort, StepsTooShort}
use Rattle.search_steps.specs.WaySteps.{kind_of, step_bytes, slot_before, steps_back, way_steps, StepsBefore, steps_told, steps_answered}

length_only : (b : Bool) (x : ℕ) → length (only b x) ≤ 1
length_only true x = omega arith
length_only false x = omega arith

-- a record has at most four bytes
pub record_short : (step : ℕ) → length (step_bytes step) ≤ 4
unfolding step_bytes
record_short step = omega (arith, length_only (eqb (kind_of step) 2) step)

module _ (work : List ℕ) where
  before_below : (i : ℕ) → slot_before work (suc i) ≤ i
  before_below i =
      let p = parent_in work (suc i) in
      by_bool (ltb p (suc i)) (λ t. rw t (omega (arith, ltb_true p (suc i) t))) (λ t. rw t (omega arith))

  fuel : (n m i : ℕ) → i ≤ n → i ≤ m → steps_back n work i ≡ steps_back m work i
  fuel zero zero i h g = refl
  fuel zero (suc m) zero h g = refl
  fuel zero (suc m) (suc i) h g = absurd (omega arith)
  fuel (suc n) zero zero h g = refl
  fuel (suc n) zero (suc i) h g = absurd (omega arith)
  fuel (suc n) (suc m) zero h g = refl
  fuel (suc n) (suc m) (suc i) h g =
      let p = slot_before work (suc i) in
      let b : p ≤ i = before_below i in
      ap (λ (l : List ℕ). l ++ step_bytes (step_in work (suc i))) (fuel n m p (omega arith) (omega arith))

  records_there : (i : ℕ) → way_steps work (suc i) ≡ way_steps work (slot_before work (suc i)) ++ step_bytes (step_in work (suc i))
  records_there i =
      let p = slot_before work (suc i) in
      let b : p ≤ i = before_below i in
      ap (λ (l : List ℕ). l ++ step_bytes (step_in work (suc i))) (fuel i p p (omega arith) (omega arith))

  -- One step back, to a parent that stands before its slot.
  pub stepped : (i p m : ℕ) → 0 < i → p ≡ parent_in work i → p < i → m ≡ step_in work i → StepsBefore work i (record { parent = p; step = m })
  stepped zero p m h e l g = absurd (omega arith)
  stepped (suc i) p m h e l g =
      let there : slot_before work (suc i) ≡ p = rw (lt-ltb (parent_in work (suc i)) (suc i) (rw (← e) l)) (sym e) in
      record { falls = l; records = records_there i ∙ ap₂ (λ (p m : ℕ). way_steps work p ++ step_bytes m) there (sym g) }

  -- And where it does not.
  pub began : (i m : ℕ) → 0 < i → i ≤ parent_in work i → m ≡ step_in work i → StepsBefore work i (record { parent = 0; step = m })
  began zero m h l g = absurd (omega arith)
  began (suc i) m h l g =
      let there : slot_before work (suc i) ≡ 0 = rw (le-ltb (parent_in work (suc i)) (suc i) l) in
      record { falls = omega arith; records = records_there i ∙ ap₂ (λ (p m : ℕ). way_steps work p ++ step_bytes m) there (sym g) }

module _ {work : List ℕ} {i : ℕ} {back : Origin} (s : StepsBefore work i back) where
  pub length_grown : length (way_steps work i) ≡ length (way_steps work back.parent) + length (step_bytes back.step)
  length_grown = ap length s.records ∙ length-append (way_steps work back.parent) (step_bytes back.step)

  -- The step's record is stored in front of what is written already, and nothing else is.
  pub stored_before : (out bytes : List ℕ) (at n : ℕ) → bytes ≡ step_bytes back.step → at + n ≤ length out
      → way_steps work back.parent ++ drop at (put_mid at n out bytes) ≡ way_steps work i ++ drop (at + n) out
  stored_before out bytes at n e h =
      let l : length (take at out) ≡ at = length-take-le at out (omega arith) in
      let d : drop at (put_mid at n out bytes) ≡ bytes ++ drop (at + n) out = drop_at (take at out) _ at l ∙ rw (drop-drop n at out) in
      rw (d, e, s.records, append_assoc)

-- The three answers.
module _ (texts way answer steps : List ℕ) where
  pub texts_too_short : length answer < length texts → steps_told AnswerTooShort answer steps ≡ steps_answered texts way answer steps
  unfolding steps_answered
  texts_too_short h = rw (lt_leb (length texts) (length answer) h)

  pub steps_too_short : length texts ≤ length answer → length steps < length way
      → steps_told StepsTooShort answer steps ≡ steps_answered texts way answer steps
  unfolding steps_answered
  steps_too_short h k = rw (le_leb (length texts) (length answer) h, lt_leb (length way) (length steps) k)

  pub both_written : (written many : ℕ) (after stepped : List ℕ) → length texts ≤ length answer → length way ≤ length steps
      → written ≡ length texts → many ≡ length way → after ≡ in_front texts answer → stepped ≡ in_front way steps
      → steps_told (Clash written many) after stepped ≡ steps_answered texts way answer steps
  unfolding steps_answered
  both_written written many after stepped h k n m a b = rw (le_leb (length texts) (length answer) h, le_leb (length way) (length steps) k, n, m, a, b)

-- the answer buffer after a clash whose texts fit
pub texts_written : (sets : List ℕ) (text : ℕ → List ℕ) (answer after : List ℕ) → length (value_records sets text) ≤ length answer
    → after ≡ buffer_after sets text answer → after ≡ in_front (value_records sets text) answer
unfolding buffer_after
texts_written sets text answer after h e = rw (le_leb (length (value_records sets text)) (length answer) h) at e

-- the way's records in the front of the third buffer
pub way_written : (way steps bytes : List ℕ) (n : ℕ) → bytes ≡ way → n ≡ length way → bytes ++ drop n steps ≡ in_front way steps
way_written way steps bytes n e m = rw (e, m)
