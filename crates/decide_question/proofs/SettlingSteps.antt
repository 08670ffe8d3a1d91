-- Settling attempt by attempt, of any question:
--   says_same                      : two tests that say the same are equal
--   made_by, made_test_by          : an attempt that is what its number says
--   Going, going_first, still_zero : what holds where the attempt k is to be made
--   first_told, first_undecided    : the first search decides, or the others do
-- Follows from the definitions and from what each attempt leaves alone (`Harmless`).
use Prim.Native.Nat.{ℕ, ◌-◌, ◌*◌, ◌≤◌}
use native.Mathlib.Omega.{arith}
use mathlib.Core.Path.{◌≡◌, refl, ap, ◌∙◌}
use mathlib.Core.Bool.{Bool, true, false}
use mathlib.Core.List.{List}
use lib.ListN.{length, replicate, length-replicate}
use Rattle.std.specs.Prelude.{Result, OnErr}
use Rattle.paper.specs.Lists.{from}
use Rattle.paper.specs.Numbers.{most_room}
use Rattle.paper.proofs.base.Tests.{same_tests, by_bool}
use Rattle.base_answers.specs.declared.Ended.{Ended}
use Rattle.base_question.specs.declared.Question as Code
use Rattle.plain_question.specs.Reached.{Meets, Says}
use Rattle.search_question.specs.Over.{ended_all, buffer_all}
use Rattle.decide_question.specs.Attempt.{decides_coded, with_count, tested_coded, as_result, entered_in, Attempted, GivesAs, Harmless, by_test, attempt_coded}
use Rattle.decide_question.specs.Settling.{later, settled_from, settled_coded}
use Rattle.decide_question.specs.declared.Settled.{Settled}
use Rattle.decide_question.proofs.AnyQuestion.{own_at_most, own_unchanged, test_harmless}

pub says_same : {P : Type 0} {a b : Bool} → Says a P → Says b P → a ≡ b
says_same {a = a} {b = b} x y = same_tests a b (λ e. y.told (x.holds e)) (λ e. x.told (y.holds e))

-- the numbers from k on
abbrev from_here : ℕ → List ℕ
from_here k = from k (8 - k)

-- what is promised of an attempt that is made
abbrev pub AttemptMade : Code.Question → List ℕ → List ℕ → ℕ → List ℕ → List ℕ → Result Ended ℕ → List ℕ → List ℕ → Type 0
AttemptMade s first second k work answer r after worked =
    record {
      tried : (m : Bool) → Says m (Meets s) → GivesAs (attempt_coded s (length work) answer m first second k) r after;
      entered : entered_in r ≤ most_room;
      unchanged : OnErr r (after ≡ answer);
      work : worked ≡ work;
    }

entered_as : (answer : List ℕ) (x : Attempted) → Harmless answer x → entered_in (as_result x.tried) ≤ most_room
entered_as answer x h = by_bool x.tried.decides (λ (d : x.tried.decides ≡ true). rw d h.at_most) (λ (d : x.tried.decides ≡ false). rw d h.at_most)

unchanged_as : (answer : List ℕ) (x : Attempted) → Harmless answer x → OnErr (as_result x.tried) (x.buffer ≡ answer)
unchanged_as answer x h = by_bool x.tried.decides (λ (d : x.tried.decides ≡ true). rw d tt) (λ (d : x.tried.decides ≡ false). rw d (h.unchanged d))

pub made_by : (s : Code.Question) (first second : List ℕ) (k : ℕ) (work answer : List ℕ) {x : Attempted} {r : Result Ended ℕ} {after worked : List ℕ}
    → Harmless answer x → r ≡ as_result x.tried → after ≡ x.buffer
    → ((m : Bool) → x ≡ attempt_coded s (length work) answer m first second k) → worked ≡ work
    → AttemptMade s first second k work answer r after worked
made_by s first second k work answer {x = x} h e b n w =
    record {
      tried = λ m y. record { result = e ∙ ap (λ (z : Attempted). as_result z.tried) (n m); answer = b ∙ ap (λ (z : Attempted). z.buffer) (n m) };
      entered = rw e (entered_as answer x h);
      unchanged = rw (e, b) (unchanged_as answer x h);
      work = w;
    }

-- a test, whose answer is that of any m that says whether a label is read
pub made_test_by : (s : Code.Question) (first second : List ℕ) (k : ℕ) (work answer : List ℕ) (b : Bool) {r : Result Ended ℕ}
    → r ≡ as_result (tested_coded b)
    → ((m : Bool) → Says m (Meets s) → by_test s (length work) answer b ≡ attempt_coded s (length work) answer m first second k)
    → AttemptMade s first second k work answer r answer work
made_test_by s first second k work answer b e n =
    let x = by_test s (length work) answer b in
    let h = test_harmless s (length work) answer b in
    record {
      tried = λ m y. record { result = e ∙ ap (λ (z : Attempted). as_result z.tried) (n m y); answer = ap (λ (z : Attempted). z.buffer) (n m y) };
      entered = rw e (entered_as answer x h);
      unchanged = rw e (unchanged_as answer x h);
      work = refl;
    }

-- what is promised of settling by the attempts behind the first, after so many situations
abbrev pub Promised : Code.Question → List ℕ → List ℕ → Ended → ℕ → List ℕ → List ℕ → Settled → List ℕ → List ℕ → Type 0
Promised s first second own entered work answer r after worked =
    record {
      settled : (m : Bool) → Says m (Meets s)
          → record { settled = r; buffer = after } ≡ settled_from (attempt_coded s (length work) answer m first second) own answer entered later;
      work : worked ≡ work;
    }

-- Where the attempt k is to be made, after n situations: what is settled from here on is what was to be settled from the second on.
pub record Going (s : Code.Question) (first second : List ℕ) (own : Ended) (entered : ℕ) (lent lent_answer : List ℕ) (k n : ℕ) (work answer : List ℕ)
    : Type 0 where
  pub clear : lent ≡ replicate (length lent) 0
  pub same_work : work ≡ lent
  pub same_answer : answer ≡ lent_answer
  pub low : 2 ≤ k
  pub high : k ≤ 8
  pub bound : n ≤ k * most_room
  pub settled : (m : Bool) → Says m (Meets s)
      → settled_from (attempt_coded s (length lent) lent_answer m first second) own lent_answer n (from_here k)
      ≡ settled_from (attempt_coded s (length lent) lent_answer m first second) own lent_answer entered later

pub going_first : (s : Code.Question) (first second : List ℕ) (own : Ended) (entered : ℕ) (lent lent_answer : List ℕ)
    → lent ≡ replicate (length lent) 0 → entered ≤ most_room → Going s first second own entered lent lent_answer 2 entered lent lent_answer
going_first s first second own entered lent lent_answer c b =
    record {
      clear = c;
      same_work = refl;
      same_answer = refl;
      low = omega arith;
      high = omega arith;
      bound = omega arith;
      settled = λ m y. refl;
    }

module _ {s : Code.Question} {first second : List ℕ} {own : Ended} {entered : ℕ} {lent lent_answer : List ℕ} {k n : ℕ} {work answer : List ℕ}
    (g : Going s first second own entered lent lent_answer k n work answer) where
  pub still_zero : work ≡ replicate (length work) 0
  still_zero = rw g.same_work g.clear

-- The first search.
module _ (s : Code.Question) (first second work answer after worked : List ℕ) (e : Ended)
    (p : (e ≡ ended_all s (length work) answer) × ((after ≡ buffer_all s (length work) answer) × (worked ≡ replicate (length work) 0))) where
  -- what `decide` promises
  abbrev Settles : Settled → List ℕ → List ℕ → Type 0
  Settles r after worked =
      record {
        settled : (m : Bool) → Says m (Meets s) → record { settled = r; buffer = after } ≡ settled_coded s m first second (length work) answer;
        work : worked ≡ replicate (length work) 0;
      }

  pub first_at_most : e.count ≤ most_room
  first_at_most = rw p.0 (own_at_most s (length work) answer)

  pub still_clear : worked ≡ replicate (length worked) 0
  still_clear = rw (p.1.1, length-replicate {A = ℕ} (length work) 0)

  pub first_told : decides_coded true e ≡ true → (r : Settled) → r ≡ record { ended = with_count e.count e; search = 1 } → Settles r after worked
  unfolding settled_coded
  first_told d r z =
      let y : decides_coded true (ended_all s (length work) answer) ≡ true = rw p.0 at d in
      record { settled = λ m says. rw (y, z, p.1.0, p.0); work = p.1.1 }

  pub first_undecided : decides_coded true e ≡ false → (last end : List ℕ) (r : Settled)
      → Promised s first second e e.count worked after r last end → Settles r last end
  unfolding settled_coded
  first_undecided d last end r q =
      let y : decides_coded true (ended_all s (length work) answer) ≡ false = rw p.0 at d in
      let same : after ≡ answer = p.1.0 ∙ own_unchanged s (length work) answer true y in
      let length-same : length worked ≡ length work = ap length p.1.1 ∙ length-replicate {A = ℕ} (length work) 0 in
      record { settled = λ m says. rw y (rw (length-same, same, p.0) at (q.settled m says)); work = q.work ∙ p.1.1 }
