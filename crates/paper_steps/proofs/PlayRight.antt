-- The player keeps what is promised of it, for all sheets, all bytes of steps and all answer buffers.
--   sheet_play_promised : (sheet steps answer : List ℕ) → PlayPromised (read_sheet sheet) steps answer (play sheet steps answer)
-- What is said of a sheet holds of every reading whose question is good (`play_promised`). Follows from playing record by record (`Playing`); that the
-- texts solve the question, from the laws of the texts that a way spells, as for the way that the search finds.
use Prim.Native.Nat.{ℕ, ◌≤◌, ◌<◌}
use native.Mathlib.Omega.{arith}
use mathlib.Core.Path.{◌≡◌, refl, sym, ap, subst}
use mathlib.Core.Logic.{◌⊎◌, inl, inr, ⊎_elim}
use mathlib.Core.Bool.{true, not}
use mathlib.Core.List.{List}
use lib.Dec.{leb}
use lib.ListN.{length}
use Rattle.paper.specs.Numbers.{longest_side}
use Rattle.paper.specs.Places.{PlaceSet}
use Rattle.paper.specs.Search.{Entry}
use Rattle.paper.specs.Situation.{Situation, Move, finished, question}
use Rattle.paper.specs.Way.{texts_of}
use Rattle.paper.specs.Question.{Question, Solution, hidden, Equated, acceptor}
use Rattle.paper.specs.Sheet.{Reading, refused, asked, read_sheet}
use Rattle.paper.specs.Demands.{texts_spelt}
use Rattle.paper.proofs.base.Tests.{cond_by, le_leb, lt_leb}
use Rattle.paper_laws.proofs.places.Accepts.{question_decides}
use Rattle.paper_laws.proofs.equations.Question.{asked_solves}
use Rattle.paper_laws.proofs.equations.Question as Equations
use Rattle.paper_laws.proofs.equations.Spelled.{spelled_trimmed, way_spelled}
use Rattle.paper_laws.proofs.sheets.Asked.{GoodQuestion, AsksGood, sheet_good}
use Rattle.paper_laws.proofs.sheets.Hidden.{own_solves}
use Rattle.paper_laws.proofs.sheets.TextLength.{ways_short}
use Rattle.paper_steps.specs.Player.{most_steps, Played, stopped, arrived, play_from, first_entry, Play, play_told, play_ended, play_of, play}
use Rattle.paper_steps.specs.PlayPromised.{WayTo, Accepted, Stops, past_most, is_no_record, makes_no_child, makes_long, ends_early, way_answer, Carries, PlayPromised}
use Rattle.paper_steps.proofs.Playing.{PlayTold, is_accepted, is_stopped, plays_stops, plays_accepted}
use Rattle.paper_steps.proofs.Playing as Playing

-- The texts that a way to the finish spells solve the question with its hidden fields, and so the sheet's.
module _ (q : Question) (e : Entry (Situation PlaceSet) Move) (w : WayTo q e) (h : finished (acceptor (hidden q)) e.at ≡ true) where
  way_solves : Equated (hidden q) (texts_spelt (hidden q) e)
  unfolding texts_of question acceptor
  way_solves =
      let A = acceptor (hidden q) in
      let D = question_decides (hidden q) in
      let l = (hidden q).left in
      let r = (hidden q).right in
      asked_solves A D l r (texts_of A l r e)
      (spelled_trimmed A (Equations.asked A l r) (texts_of A l r e) (way_spelled A D longest_side w h)).solution

  pub own_way_solves : GoodQuestion q → Solution q (texts_spelt (hidden q) e)
  own_way_solves g = own_solves q g (texts_spelt (hidden q) e) way_solves

-- no refusal of the records is 0 or 20
pub stops_apart : (q : Question) (steps : List ℕ) {k : ℕ} → Stops q steps k → (k ≡ 0) ⊎ (k ≡ 20) → ⊥
stops_apart q steps (past_most e rest b l some) h = ⊎_elim (λ i. omega (arith, i)) (λ i. omega (arith, i)) h
stops_apart q steps (is_no_record e rest b l some none) h = ⊎_elim (λ i. omega (arith, i)) (λ i. omega (arith, i)) h
stops_apart q steps (makes_no_child e m later b l i none) h = ⊎_elim (λ i. omega (arith, i)) (λ i. omega (arith, i)) h
stops_apart q steps (makes_long e m later t b l c above) h = ⊎_elim (λ i. omega (arith, i)) (λ i. omega (arith, i)) h
stops_apart q steps (ends_early e b l n) h = ⊎_elim (λ i. omega (arith, i)) (λ i. omega (arith, i)) h

module _ (bytes answer : List ℕ) where
  told_fits : length bytes ≤ length answer → Carries bytes answer (play_told bytes answer)
  unfolding play_told
  told_fits h = rw (le_leb (length bytes) (length answer) h) (record { number = refl; written = refl; answer_after = refl })

  told_short : length answer < length bytes → (play_told bytes answer).number ≡ 20
  unfolding play_told
  told_short h = rw (lt_leb (length bytes) (length answer) h)

  told_number : ((play_told bytes answer).number ≡ 0) ⊎ ((play_told bytes answer).number ≡ 20)
  unfolding play_told
  told_number = cond_by (λ (p : Play). (p.number ≡ 0) ⊎ (p.number ≡ 20)) (not (leb (length bytes) (length answer))) (λ _. inr refl) (λ _. inl refl)

  told_unchanged : ((play_told bytes answer).number ≡ 0 → ⊥) → ((play_told bytes answer).written ≡ 0) × ((play_told bytes answer).answer ≡ answer)
  unfolding play_told
  told_unchanged =
      cond_by (λ (p : Play). (p.number ≡ 0 → ⊥) → (p.written ≡ 0) × (p.answer ≡ answer)) (not (leb (length bytes) (length answer)))
      (λ _ n. (refl, refl)) (λ _ n. absurd (n refl))

  told_none : ((play_told bytes answer).count ≡ 0) × ((play_told bytes answer).place ≡ 0)
  unfolding play_told
  told_none = cond_by (λ (p : Play). (p.count ≡ 0) × (p.place ≡ 0)) (not (leb (length bytes) (length answer))) (λ _. (refl, refl)) (λ _. (refl, refl))

-- What is told of a question, by where playing ends.
module _ (q : Question) (steps answer : List ℕ) where
  ended_accepted : {x : Played} → PlayTold q steps x → ((play_ended q answer x).number ≡ 0) ⊎ ((play_ended q answer x).number ≡ 20)
      → (e : Entry (Situation PlaceSet) Move) × Accepted q steps e
  ended_accepted (is_accepted {e = e} a) h = (e, a)
  ended_accepted (is_stopped s) h = absurd (stops_apart q steps s h)

  ended_stopped : {x : Played} → PlayTold q steps x → ((play_ended q answer x).number ≡ 0 → ⊥) → ((play_ended q answer x).number ≡ 20 → ⊥)
      → Stops q steps (play_ended q answer x).number
  ended_stopped (is_accepted {e = e} a) n k = absurd (⊎_elim n k (told_number (way_answer q e) answer))
  ended_stopped (is_stopped s) n k = s

  ended_unchanged : (x : Played) → ((play_ended q answer x).number ≡ 0 → ⊥) → ((play_ended q answer x).written ≡ 0) × ((play_ended q answer x).answer ≡ answer)
  ended_unchanged (stopped k) n = (refl, refl)
  ended_unchanged (arrived e) n = told_unchanged (way_answer q e) answer n

  ended_none : (x : Played) → ((play_ended q answer x).count ≡ 0) × ((play_ended q answer x).place ≡ 0)
  ended_none (stopped k) = (refl, refl)
  ended_none (arrived e) = told_none (way_answer q e) answer

  abbrev the_play : Played
  the_play = play_from (hidden q) most_steps (first_entry (hidden q)) steps

  -- an accepted way is told by its answer records
  pub accepted_told : (e : Entry (Situation PlaceSet) Move) → Accepted q steps e → play_of (asked q) steps answer ≡ play_told (way_answer q e) answer
  accepted_told e a = ap (play_ended q answer) (plays_accepted q steps e a)

  accepted_by : (P : Play → Type 0) (e : Entry (Situation PlaceSet) Move) → Accepted q steps e → P (play_told (way_answer q e) answer)
      → P (play_of (asked q) steps answer)
  accepted_by P e a x = subst P (sym (accepted_told e a)) x

-- For every reading whose question is good.
pub play_promised : (r : Reading) → AsksGood r → (steps answer : List ℕ) → PlayPromised r steps answer (play_of r steps answer)
play_promised r good steps answer =
    record {
      accepted = λ q h. rw h (ended_accepted q steps answer (Playing.play_told q steps));
      accepts = λ q h e a.
          rw h (accepted_by q steps answer (λ (p : Play). (p.number ≡ 0) ⊎ (p.number ≡ 20)) e a (told_number (way_answer q e) answer));
      solves = λ q h e a. own_way_solves q e a.leads a.at_finish (good q h);
      lengths = λ q h e a f. omega (arith, (ways_short (hidden q) 0).text_of_way e f, a.few);
      carries = λ q h e a fits. rw h (accepted_by q steps answer (Carries (way_answer q e) answer) e a (told_fits (way_answer q e) answer fits));
      too_short = λ q h e a short. rw h (accepted_by q steps answer (λ (p : Play). p.number ≡ 20) e a (told_short (way_answer q e) answer short));
      stops = λ q h k s. rw h (ap (λ (x : Played). (play_ended q answer x).number) (plays_stops q steps s));
      stopped = λ q h. rw h (ended_stopped q steps answer (Playing.play_told q steps));
      refuses = λ x at h. rw h (refl, refl);
      unchanged = unchanged r;
      no_count = no_count r;
      no_place = λ q h. rw h (ended_none q steps answer (the_play q steps answer)).1;
    }
  where
    unchanged : (r : Reading) → ((play_of r steps answer).number ≡ 0 → ⊥) → ((play_of r steps answer).written ≡ 0) × ((play_of r steps answer).answer ≡ answer)
    unchanged (refused x at) n = (refl, refl)
    unchanged (asked q) n = ended_unchanged q steps answer (the_play q steps answer) n

    no_count : (r : Reading) → (play_of r steps answer).count ≡ 0
    no_count (refused x at) = refl
    no_count (asked q) = (ended_none q steps answer (the_play q steps answer)).0

-- For all sheets.
pub sheet_play_promised : (sheet steps answer : List ℕ) → PlayPromised (read_sheet sheet) steps answer (play sheet steps answer)
unfolding play
sheet_play_promised sheet = play_promised (read_sheet sheet) (sheet_good sheet)
