-- The small engine keeps what is promised of it, for all sheets and all bit buffers, and so does the number of bytes that a sheet needs.
--   engine_promised : (sheet bits : List ℕ) → EnginePromised (read_sheet sheet) bits (engine sheet bits)
--   needs_promised  : (sheet : List ℕ) → NeedsPromised (read_sheet sheet) (needs sheet)
-- What is said of a sheet holds of every reading whose question is good. Follows from the engine's tests, walked once (`told`), from `Solved` and
-- `Enough`, and for the search from demand 2.
use Prim.Native.Nat.{ℕ, ◌+◌, ◌*◌, ◌/◌, ◌≤◌, ◌<◌}
use native.Mathlib.Omega.{arith}
use mathlib.Core.Path.{◌≡◌, refl, subst}
use mathlib.Core.Logic.{◌⊎◌, inl, inr, ⊎_elim}
use mathlib.Core.Bool.{true, false, not}
use mathlib.Core.List.{List}
use lib.ListN.{length, replicate}
use Rattle.paper.specs.Plain.{plain}
use Rattle.paper.specs.Question.{Question}
use Rattle.paper.specs.Sheet.{Reading, asked, read_sheet}
use Rattle.paper.specs.Outcome.{outcome_of}
use Rattle.paper.specs.Demands.{Demand2}
use Rattle.paper.proofs.base.Tests.{cond_by, true_false, not_is_true, not_is_false, leb_true, leb_false}
use Rattle.paper_laws.proofs.sheets.Asked.{GoodQuestion, AsksGood, sheet_good}
use Rattle.paper_laws.proofs.sheets.Rows.{by_reading}
use Rattle.paper_laws.proofs.demands.Demand2.{demand_2}
use Rattle.paper_plain.specs.Engine.{Engine, bits_of, bits_fit, clashes_apart, engine_told, engine_of, engine, Needs, needs_of, needs}
use Rattle.paper_plain.specs.EnginePromised.{Solvable, Answers, enough_bytes, EnginePromised, NeedsPromised}
use Rattle.paper_plain.proofs.Solved.{solvable_clashes, clashes_solvable}
use Rattle.paper_plain.proofs.Enough.{bits_enough}

-- what the engine says of a question, by its tests
data Told (q : Question) (bits : List ℕ) : Engine → Type 0 where
  stands_twice : plain q.left q.right ≡ false → Told q bits (engine_told 42 bits)
  bits_too_few : plain q.left q.right ≡ true → 8 * length bits < bits_of q → Told q bits (engine_told 43 bits)
  clashes : Answers q bits → clashes_apart q ≡ true → Told q bits (engine_told 0 bits)
  clashes_not : Answers q bits → clashes_apart q ≡ false → Told q bits (engine_told 1 bits)

told : (q : Question) (bits : List ℕ) → Told q bits (engine_of (asked q) bits)
told q bits =
    cond_by (Told q bits) (not (plain q.left q.right))
    (λ h. stands_twice (not_is_true h))
    (λ h. cond_by (Told q bits) (not (bits_fit q bits))
    (λ k. bits_too_few (not_is_false h) (leb_false (bits_of q) (8 * length bits) (not_is_true k)))
    (λ k.
    let a : Answers q bits = record { once = not_is_false h; fit = leb_true (bits_of q) (8 * length bits) (not_is_false k) } in
    cond_by (Told q bits) (clashes_apart q) (clashes a) (clashes_not a)))

-- two readings of one kind ask the same question
same_asked : {r : Reading} {q p : Question} → r ≡ asked q → r ≡ asked p → p ≡ q
same_asked h k = cc

module _ (q : Question) (bits : List ℕ) where
  told_answered : {e : Engine} → Told q bits e → Answers q bits → (e.number ≡ 0) ⊎ (e.number ≡ 1)
  told_answered (stands_twice h) a = absurd (true_false a.once h)
  told_answered (bits_too_few h k) a = absurd (omega (arith, a.fit))
  told_answered (clashes a h) _ = inl refl
  told_answered (clashes_not a h) _ = inr refl

  told_answers : {e : Engine} → Told q bits e → (e.number ≡ 0) ⊎ (e.number ≡ 1) → Answers q bits
  told_answers (stands_twice h) n = absurd (⊎_elim (λ i. omega (arith, i)) (λ i. omega (arith, i)) n)
  told_answers (bits_too_few h k) n = absurd (⊎_elim (λ i. omega (arith, i)) (λ i. omega (arith, i)) n)
  told_answers (clashes a h) n = a
  told_answers (clashes_not a h) n = a

  told_twice : {e : Engine} → Told q bits e → plain q.left q.right ≡ false → e.number ≡ 42
  told_twice (stands_twice h) n = refl
  told_twice (bits_too_few h k) n = absurd (true_false h n)
  told_twice (clashes a h) n = absurd (true_false a.once n)
  told_twice (clashes_not a h) n = absurd (true_false a.once n)

  twice_told : {e : Engine} → Told q bits e → e.number ≡ 42 → plain q.left q.right ≡ false
  twice_told (stands_twice h) n = h
  twice_told (bits_too_few h k) n = absurd (omega (arith, n))
  twice_told (clashes a h) n = absurd (omega (arith, n))
  twice_told (clashes_not a h) n = absurd (omega (arith, n))

  told_too_few : {e : Engine} → Told q bits e → plain q.left q.right ≡ true → 8 * length bits < bits_of q → e.number ≡ 43
  told_too_few (stands_twice h) p b = absurd (true_false p h)
  told_too_few (bits_too_few h k) p b = refl
  told_too_few (clashes a h) p b = absurd (omega (arith, a.fit))
  told_too_few (clashes_not a h) p b = absurd (omega (arith, a.fit))

  too_few_told : {e : Engine} → Told q bits e → e.number ≡ 43 → (plain q.left q.right ≡ true) × (8 * length bits < bits_of q)
  too_few_told (stands_twice h) n = absurd (omega (arith, n))
  too_few_told (bits_too_few h k) n = (h, k)
  too_few_told (clashes a h) n = absurd (omega (arith, n))
  too_few_told (clashes_not a h) n = absurd (omega (arith, n))

  told_cleared : {e : Engine} → Told q bits e → (e.count ≡ 0) × (e.place ≡ 0) × (e.bits ≡ replicate (length bits) 0)
  told_cleared (stands_twice h) = (refl, refl, refl)
  told_cleared (bits_too_few h k) = (refl, refl, refl)
  told_cleared (clashes a h) = (refl, refl, refl)
  told_cleared (clashes_not a h) = (refl, refl, refl)

-- of a good question
module _ (q : Question) (g : GoodQuestion q) (bits : List ℕ) where
  told_clash : {e : Engine} → Told q bits e → e.number ≡ 0 → Solvable q
  told_clash (stands_twice h) n = absurd (omega (arith, n))
  told_clash (bits_too_few h k) n = absurd (omega (arith, n))
  told_clash (clashes a h) n = clashes_solvable q g a.once h
  told_clash (clashes_not a h) n = absurd (omega (arith, n))

  told_no_clash : {e : Engine} → Told q bits e → e.number ≡ 1 → Solvable q → ⊥
  told_no_clash (stands_twice h) n x = omega (arith, n)
  told_no_clash (bits_too_few h k) n x = omega (arith, n)
  told_no_clash (clashes a h) n x = omega (arith, n)
  told_no_clash (clashes_not a h) n x = true_false (solvable_clashes q g x) h

  -- where the engine answers, it says whether texts solve the question
  solvable_told : {e : Engine} → Told q bits e → Answers q bits → Solvable q → e.number ≡ 0
  solvable_told t a x = ⊎_elim (λ h. h) (λ h. absurd (told_no_clash t h x)) (told_answered q bits t a)

  unsolvable_told : {e : Engine} → Told q bits e → Answers q bits → (Solvable q → ⊥) → e.number ≡ 1
  unsolvable_told t a n = ⊎_elim (λ h. absurd (n (told_clash t h))) (λ h. h) (told_answered q bits t a)

module _ (r : Reading) (good : AsksGood r) (bits : List ℕ) where
  its : (q : Question) → r ≡ asked q → Told q bits (engine_of r bits)
  its q e = rw e (told q bits)

  agreeing : (q : Question) → r ≡ asked q → Answers q bits → (work answer : List ℕ)
      → (((outcome_of r work answer).number ≡ 0) ⊎ ((outcome_of r work answer).number ≡ 20) → (engine_of r bits).number ≡ 0)
      × ((outcome_of r work answer).number ≡ 1 → (engine_of r bits).number ≡ 1)
  agreeing q e a work answer = (
    λ (h : ((outcome_of r work answer).number ≡ 0) ⊎ ((outcome_of r work answer).number ≡ 20)).
        solvable_told q (good q e) bits (its q e) a
        (⊎_elim
        (λ i. let s = (demanded.clash i).solved in of_same s.question s.good (_, s.solution))
        (λ i. let s = (demanded.too_short i).solved in of_same s.question s.good (_, s.solution))
        h),
    λ h.
        let n = demanded.no_clash h in
        unsolvable_told q (good q e) bits (its q e) a
        (λ (x : Solvable q). let y : Solvable n.question = subst Solvable (same_asked n.good e) x in n.none y.0 y.1),
  )
    where
      demanded : Demand2 r work answer (outcome_of r work answer)
      demanded = demand_2 r good work answer

      of_same : (p : Question) → r ≡ asked p → Solvable p → Solvable q
      of_same p h x = subst Solvable (same_asked e h) x

  pub engine_kept : EnginePromised r bits (engine_of r bits)
  engine_kept =
      record {
        answered = λ q e. told_answered q bits (its q e);
        answers = λ q e. told_answers q bits (its q e);
        clash = λ q e. told_clash q (good q e) bits (its q e);
        no_clash = λ q e. told_no_clash q (good q e) bits (its q e);
        agrees = agreeing;
        twice = λ q e. told_twice q bits (its q e);
        twice_only = λ q e. twice_told q bits (its q e);
        too_few = λ q e. told_too_few q bits (its q e);
        too_few_only = λ q e. too_few_told q bits (its q e);
        enough = λ q e h n.
            let (once, few) = too_few_told q bits (its q e) n in
            let most : bits_of q ≤ 8 * enough_bytes = bits_enough q (good q e) once in
            omega arith;
        cleared = λ q e. (told_cleared q bits (its q e)).2;
        refuses = λ x at e. rw e (refl, refl, refl);
        no_count = by_reading r (λ x at e. rw e) (λ q e. (told_cleared q bits (its q e)).0);
        no_place = λ q e. (told_cleared q bits (its q e)).1;
      }

-- How many bytes a reading needs.
data NeedsTold (q : Question) : Needs → Type 0 where
  needs_none : plain q.left q.right ≡ false → NeedsTold q (record { number = 42; place = 0; bytes = 0 })
  needs_some : plain q.left q.right ≡ true → NeedsTold q (record { number = 0; place = 0; bytes = (bits_of q + 7) / 8 })

needs_told : (q : Question) → NeedsTold q (needs_of (asked q))
needs_told q = cond_by (NeedsTold q) (not (plain q.left q.right)) (λ h. needs_none (not_is_true h)) (λ h. needs_some (not_is_false h))

module _ (q : Question) where
  needs_once : {n : Needs} → NeedsTold q n → plain q.left q.right ≡ true → n.number ≡ 0
  needs_once (needs_none h) p = absurd (true_false p h)
  needs_once (needs_some h) p = refl

  needs_enough : {n : Needs} → NeedsTold q n → n.number ≡ 0 → (bits : List ℕ) → n.bytes ≤ length bits → bits_of q ≤ 8 * length bits
  needs_enough (needs_none h) e bits k = absurd (omega (arith, e))
  needs_enough (needs_some h) e bits k = omega arith

  needs_needed : {n : Needs} → NeedsTold q n → n.number ≡ 0 → (bits : List ℕ) → bits_of q ≤ 8 * length bits → n.bytes ≤ length bits
  needs_needed (needs_none h) e bits k = omega arith
  needs_needed (needs_some h) e bits k = omega arith

  needs_twice : {n : Needs} → NeedsTold q n → plain q.left q.right ≡ false → (n.number ≡ 42) × (n.bytes ≡ 0)
  needs_twice (needs_none h) p = (refl, refl)
  needs_twice (needs_some h) p = absurd (true_false h p)

  needs_no_place : {n : Needs} → NeedsTold q n → n.place ≡ 0
  needs_no_place (needs_none h) = refl
  needs_no_place (needs_some h) = refl

  needs_most : GoodQuestion q → {n : Needs} → NeedsTold q n → n.bytes ≤ enough_bytes
  needs_most g (needs_none h) = omega arith
  needs_most g (needs_some h) = let most : bits_of q ≤ 8 * enough_bytes = bits_enough q g h in omega arith

module _ (r : Reading) (good : AsksGood r) where
  its_needs : (q : Question) → r ≡ asked q → NeedsTold q (needs_of r)
  its_needs q e = rw e (needs_told q)

  pub needs_kept : NeedsPromised r (needs_of r)
  needs_kept =
      record {
        once = λ q e. needs_once q (its_needs q e);
        enough = λ q e. needs_enough q (its_needs q e);
        needed = λ q e. needs_needed q (its_needs q e);
        twice = λ q e. needs_twice q (its_needs q e);
        refuses = λ x at e. rw e (refl, refl, refl);
        no_place = λ q e. needs_no_place q (its_needs q e);
        most = by_reading r (λ x at e. rw e (omega arith)) (λ q e. needs_most q (good q e) (its_needs q e));
      }

-- For all sheets and bit buffers.
pub engine_promised : (sheet bits : List ℕ) → EnginePromised (read_sheet sheet) bits (engine sheet bits)
unfolding engine
engine_promised sheet = engine_kept (read_sheet sheet) (sheet_good sheet)

pub needs_promised : (sheet : List ℕ) → NeedsPromised (read_sheet sheet) (needs sheet)
unfolding needs
needs_promised sheet = needs_kept (read_sheet sheet) (sheet_good sheet)
