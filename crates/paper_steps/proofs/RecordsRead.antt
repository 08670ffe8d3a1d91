-- Reading a step's record in front of bytes.
--   front_record : front_of n (step_record m ++ later) ≡ front m later, for every step m
--   front_says   : and only such bytes have a step in front
--   records_long : a record has three bytes or four, so k of them have at most four times k
-- Follows from the definition, test by test.
use Prim.Native.Nat.{ℕ, ◌*◌, ◌≤◌}
use native.Mathlib.Omega.{arith}
use mathlib.Core.Path.{◌≡◌, refl}
use mathlib.Core.Bool.{◌&&◌}
use mathlib.Core.List.{List, [], ◌∷◌, ◌++◌}
use lib.Dec.{ltb, eqb}
use lib.ListN.{length, length-append}
use Rattle.paper.specs.Situation.{Move, strike_left, strike_right, put}
use Rattle.paper.proofs.base.Tests.{cond_by, and_left, and_right, eqb_true, ltb_true, lt_ltb}
use Rattle.paper.proofs.base.Lists.{cons_eq}
use Rattle.paper_steps.specs.StepRecords.{step_mark_1, step_mark_2, step_record, step_records, IsStep, Front, no_record, front, with_value, front_of}

pub front_record : (n : ℕ) (m : Move) (later : List ℕ) → IsStep n m → front_of n (step_record m ++ later) ≡ front m later
front_record n strike_left later h = refl
front_record n strike_right later h = refl
front_record n (put c) later h = rw (lt_ltb c n h)

-- what it says of bytes that they have this in front
abbrev pub FrontSays : ℕ → List ℕ → Front → Type 0
FrontSays n bytes no_record = Unit {0}
FrontSays n bytes (front m later) = IsStep n m × (bytes ≡ step_record m ++ later)

value_says : (n a b k : ℕ) (later : List ℕ) → a ≡ step_mark_1 → b ≡ step_mark_2 → k ≡ 2 → FrontSays n (a ∷ b ∷ k ∷ later) (with_value n later)
value_says n a b k [] e f g = tt
value_says n a b k (c ∷ later) e f g =
    cond_by (FrontSays n (a ∷ b ∷ k ∷ c ∷ later)) (ltb c n) (λ h. (ltb_true c n h, cons_eq e (cons_eq f (cons_eq g refl)))) (λ _. tt)

pub front_says : (n : ℕ) (bytes : List ℕ) → FrontSays n bytes (front_of n bytes)
front_says n [] = tt
front_says n (a ∷ []) = tt
front_says n (a ∷ b ∷ []) = tt
front_says n (a ∷ b ∷ k ∷ later) =
    let Says = FrontSays n (a ∷ b ∷ k ∷ later) in
    cond_by Says (eqb a step_mark_1 && eqb b step_mark_2)
    (λ h.
    let e = eqb_true a step_mark_1 (and_left (eqb a step_mark_1) (eqb b step_mark_2) h) in
    let f = eqb_true b step_mark_2 (and_right (eqb a step_mark_1) (eqb b step_mark_2) h) in
    cond_by Says (eqb k 0) (λ g. (tt, cons_eq e (cons_eq f (cons_eq (eqb_true k 0 g) refl))))
    (λ _. cond_by Says (eqb k 1) (λ g. (tt, cons_eq e (cons_eq f (cons_eq (eqb_true k 1 g) refl))))
    (λ _. cond_by Says (eqb k 2) (λ g. value_says n a b k later e f (eqb_true k 2 g)) (λ _. tt))))
    (λ _. tt)

record_long : (m : Move) → length (step_record m) ≤ 4
record_long strike_left = omega arith
record_long strike_right = omega arith
record_long (put c) = omega arith

pub records_long : (way : List Move) → length (step_records way) ≤ 4 * length way
records_long [] = omega arith
records_long (m ∷ way) = simp length-append (omega (arith, record_long m, records_long way))
