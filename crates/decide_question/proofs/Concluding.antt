-- The conclusion attempt by attempt: what one gives says of the attempts from it on.
--   Made           : what is known of an attempt that was made
--   made_search, made_test : a search, by what its end tells; a test
--   decided_here   : where it decides, that is the conclusion, with the situations of all the attempts made
--   undecided_here : where not, the attempts behind it conclude
--   nothing_left   : where none is left, the first search's end is told
-- Follows from what an end tells (`told_end`), by its number and its count.
use Prim.Native.Nat.{ℕ, suc, ◌+◌}
use mathlib.Core.Path.{◌≡◌, refl, sym, ap, ◌∙◌}
use mathlib.Core.Bool.{Bool, true, false, not}
use mathlib.Core.List.{List, [], ◌∷◌}
use lib.Dec.{leb}
use lib.ListN.{length}
use Rattle.paper.specs.Places.{PlaceSet}
use Rattle.paper.specs.Search.{End, found, used_up, no_room, too_long}
use Rattle.paper.specs.Situation.{Situation, Move}
use Rattle.paper.specs.Question.{Question, hidden}
use Rattle.paper.specs.Outcome.{Outcome, room_of, records, cleared, clash, answered, count_of, how_of}
use Rattle.paper.proofs.base.Tests.{by_bool}
use Rattle.paper_chosen.specs.Chosen.{searched_over}
use Rattle.paper_decide.specs.Deciding.{Attempt, searching, testing, end_decides, tried, Conclusion, concluded_from, Decision}
use Rattle.base_answers.specs.AnswerNumbers.{clash_is_0}
use Rattle.base_answers.specs.declared.Ended.{Ended}
use Rattle.search_run.specs.Ended.{told_end}
use Rattle.decide_question.specs.Attempt.{decides_number, with_count, tested_coded, searched_coded, Attempted}
use Rattle.decide_question.specs.Settling.{told_settled}

abbrev pub Ends : Type 0
Ends = End (Situation PlaceSet) Move

-- what a conclusion tells
abbrev pub conclusion_told : Question → Conclusion → List ℕ → List ℕ → Decision
conclusion_told q c work answer = record { outcome = answered (hidden q) c.count c.end work answer; search = c.search }

-- the outcome with another count
abbrev counted : ℕ → Outcome → Outcome
counted m o =
    record { number = o.number; count = m; place = o.place; written = o.written; answer = o.answer; work = o.work }

module _ (q : Question) (n : ℕ) (work answer : List ℕ) where
  answer_decides : (no_clash : Bool) (x : Ends) → end_decides true no_clash x ≡ decides_number no_clash (clash_is_0 (answered q n x work answer).number)
  unfolding clash
  answer_decides no_clash (found e) =
      by_bool (not (leb (length (records q e)) (length answer))) (λ k. rw k) (λ k. rw k)
  answer_decides no_clash used_up = refl
  answer_decides no_clash no_room = refl
  answer_decides no_clash too_long = refl

  answer_count : (x : Ends) → (answered q n x work answer).count ≡ n
  unfolding clash
  answer_count (found e) =
      by_bool (not (leb (length (records q e)) (length answer))) (λ k. rw k) (λ k. rw k)
  answer_count used_up = refl
  answer_count no_room = refl
  answer_count too_long = refl

  answer_counted : (m : ℕ) (x : Ends) → counted m (answered q n x work answer) ≡ answered q m x work answer
  unfolding clash
  answer_counted m (found e) =
      by_bool (not (leb (length (records q e)) (length answer))) (λ k. rw k) (λ k. rw k)
  answer_counted m used_up = refl
  answer_counted m no_room = refl
  answer_counted m too_long = refl

-- An attempt was made. It gave this, and left this answer buffer: what it says of the question q.
pub record Made (q : Question) (t : Attempt) (work answer : List ℕ) (x : Attempted) : Type 0 where
  pub entered : x.tried.ended.count ≡ (tried t (room_of work)).count
  pub says : x.tried.decides ≡ (tried t (room_of work)).decides
  pub tells : x.tried.decides ≡ true
      → (n : ℕ) → told_end (with_count n x.tried.ended) x.buffer (cleared work) ≡ answered (hidden q) n (tried t (room_of work)).end work answer

-- A search of a question whose answers are q's, by what its end tells.
pub made_search : (q asks : Question) (among : ℕ → Bool) (no_clash : Bool) (work answer after : List ℕ) (e : Ended)
    → (let st = searched_over among asks (room_of work) in told_end e after (cleared work) ≡ answered asks (count_of st) (how_of st) work answer)
    → ((n : ℕ) (x : Ends) → answered asks n x work answer ≡ answered (hidden q) n x work answer)
    → Made q (searching asks among true no_clash) work answer (record { tried = searched_coded no_clash e; buffer = after })
made_search q asks among no_clash work answer after e h same =
    let st = searched_over among asks (room_of work) in
    record {
      entered = ap (λ (o : Outcome). o.count) h ∙ answer_count asks (count_of st) work answer (how_of st);
      says =
          ap (λ (o : Outcome). decides_number no_clash (clash_is_0 o.number)) h ∙ sym (answer_decides asks (count_of st) work answer no_clash (how_of st));
      tells = λ d n. ap (counted n) h ∙ answer_counted asks (count_of st) work answer n (how_of st) ∙ same n (how_of st);
    }

-- A test.
pub made_test : (q : Question) (says-no : ℕ → Bool) (work answer : List ℕ) (b : Bool) → b ≡ says-no (room_of work)
    → Made q (testing says-no) work answer (record { tried = tested_coded b; buffer = answer })
made_test q says-no work answer b e = record { entered = refl; says = e; tells = λ d n. refl }

-- What is concluded from it on.
module _ {q : Question} {t : Attempt} {work answer : List ℕ} {x : Attempted} (m : Made q t work answer x) (first : Ends) (k n : ℕ) (ts : List Attempt) where
  pub undecided_here : x.tried.decides ≡ false
      → concluded_from first (room_of work) (suc k) (n + x.tried.ended.count) ts ≡ concluded_from first (room_of work) k n (t ∷ ts)
  undecided_here d = rw (sym m.says ∙ d, m.entered)

  concludes : x.tried.decides ≡ true
      → concluded_from first (room_of work) k n (t ∷ ts)
      ≡ record { search = k; count = n + (tried t (room_of work)).count; end = (tried t (room_of work)).end }
  concludes d = rw (sym m.says ∙ d)

  pub decided_here : x.tried.decides ≡ true
      → told_settled
      (record { settled = record { ended = with_count (n + x.tried.ended.count) x.tried.ended; search = k }; buffer = x.buffer }) (cleared work)
      ≡ conclusion_told q (concluded_from first (room_of work) k n (t ∷ ts)) work answer
  decided_here d =
      ap (λ (o : Outcome). record { outcome = o; search = k })
      (m.tells d (n + x.tried.ended.count)
      ∙ ap (λ (c : ℕ). answered (hidden q) (n + c) (tried t (room_of work)).end work answer) m.entered)
      ∙ sym (ap (λ (c : Conclusion). conclusion_told q c work answer) (concludes d))

-- No attempt is left.
pub nothing_left : (q : Question) (m n k room : ℕ) (first : Ends) (e : Ended) (work answer : List ℕ)
    → told_end e answer (cleared work) ≡ answered (hidden q) m first work answer
    → told_settled (record { settled = record { ended = with_count n e; search = 0 }; buffer = answer }) (cleared work)
    ≡ conclusion_told q (concluded_from first room k n []) work answer
nothing_left q m n k room first e work answer h =
    ap (λ (o : Outcome). record { outcome = o; search = 0 }) (ap (counted n) h ∙ answer_counted (hidden q) m work answer n first)
