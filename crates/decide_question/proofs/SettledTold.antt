-- What is settled tells the decision of the paper:
--   settled_told : of the struct of a good question, whose patterns stand where its bodies say in the bytes that are their own (`Written`), and any buffers
-- A sheet that is read asks a good question (`sheet_good`), and so does a pair of good rules (`pair_asks`). Follows from `search_told` and
-- `search_told_all`, the ties of letters, standings, texts and characters, and the laws of `Concluding`.
use Prim.Native.Nat.{ℕ, suc, ◌+◌, ◌*◌, ◌≤◌, ◌<◌}
use native.Mathlib.Nat.{zero-add}
use mathlib.Core.Path.{◌≡◌, refl, ap, ◌∙◌}
use mathlib.Core.Bool.{Bool, true, false, not, ◌&&◌}
use mathlib.Core.List.{List, [], ◌∷◌}
use lib.Dec.{leb}
use lib.ListN.{length, get_or}
use Rattle.paper.specs.Alphabet.{edition_of}
use Rattle.paper.specs.Lists.{from, each}
use Rattle.paper.specs.Numbers.{fields, rule_fields, situation_bytes}
use Rattle.paper.specs.Places.{PlaceSet}
use Rattle.paper.specs.Search.{Entry, found, used_up, no_room, too_long}
use Rattle.paper.specs.Situation.{Situation, Move}
use Rattle.paper.specs.Equation.{Texts}
use Rattle.paper.specs.Question.{Question, held_by, hidden, acceptor}
use Rattle.paper.specs.Sheet.{asked}
use Rattle.paper.specs.Outcome.{room_of, searched, standing, value_record, records, cleared, clash, answered, count_of, how_of}
use Rattle.paper.proofs.base.Tests.{by_bool}
use Rattle.paper_laws.proofs.sheets.Asked.{GoodQuestion}
use Rattle.paper_laws.proofs.sheets.Hidden.{hidden_searchable}
use Rattle.paper_chosen.specs.Chosen.{every}
use Rattle.paper_chosen.proofs.Over.{searched_every}
use Rattle.paper_chosen.proofs.Likewise.{same_texts}
use Rattle.paper_plain.specs.Engine.{bits_of, clashes_apart}
use Rattle.paper_decide.specs.Alike.{is_least}
use Rattle.paper_decide.specs.Few.{is_few}
use Rattle.paper_decide.specs.Letters.{letters_differ}
use Rattle.paper_decide.specs.OneText.{with_texts}
use Rattle.paper_decide.specs.Deciding as Paper
use Rattle.paper_decide.specs.Deciding.{own_search, letters_test, apart_test, text_search, longer, alike_search, few_search, attempts, Conclusion, concluded_from, concluded, decision_of}
use Rattle.paper_decide.proofs.TextsGood.{texts_good}
use Rattle.base_answers.specs.declared.Ended.{Ended}
use Rattle.base_question.specs.Asked.{question_of}
use Rattle.base_question.specs.Bodies.{nowhere}
use Rattle.base_question.specs.declared.Body.{Body}
use Rattle.base_question.specs.declared.Question as Code
use Rattle.plain_count.proofs.BitsTold.{bits_told}
use Rattle.search_run.specs.Ended.{told_end}
use Rattle.search_question.specs.Over.{ended_over, buffer_over, ended_all, buffer_all}
use Rattle.search_question.proofs.Searched.{search_told, search_told_all}
use Rattle.decide_alike.specs.AlikeCoded.{characters_coded, least_coded}
use Rattle.decide_alike.proofs.AlikeTies.{least_read, few_read}
use Rattle.decide_letters.proofs.LettersTold.{letters_told}
use Rattle.decide_letters.proofs.PatternRead.{Says}
use Rattle.decide_texts.specs.TextsCoded.{texts_coded}
use Rattle.decide_texts.proofs.TextsTies.{texts_read}
use Rattle.decide_question.specs.Attempt.{decides_coded, Attempted, letters_asked, apart_asked, by_test, by_text, by_characters, attempt_coded}
use Rattle.decide_question.specs.Settling.{settled_from, settled_coded, told_settled}
use Rattle.decide_question.proofs.AnyQuestion.{own_unchanged}
use Rattle.decide_question.proofs.Concluding.{Ends, conclusion_told, Made, made_search, made_test, undecided_here, decided_here, nothing_left}

-- The patterns of a question, where its bodies say: those of the fields 0 to 3 in the first bytes, those of the others in the second.
pub record Written (q : Question) (bodies : List Body) (first second : List ℕ) : Type 0 where
  pub firsts : (f : ℕ) → f < rule_fields → Says (edition_of q.alphabet) first (get_or bodies f nowhere) (held_by q f)
  pub seconds : (f : ℕ) → rule_fields ≤ f → f < fields → Says (edition_of q.alphabet) second (get_or bodies f nowhere) (held_by q f)

module _ (q : Question) (good : GoodQuestion q) (bodies : List Body) (first second : List ℕ) (written : Written q bodies first second)
    (s : Code.Question) (is : s ≡ question_of q bodies) (work answer : List ℕ) where
  -- the attempt of the code gives what the paper's does
  abbrev Gives : Attempted → Paper.Attempt → Type 0
  Gives x p = Made q p work answer x

  letters_same : Gives (by_test s (length work) answer (letters_asked s first second)) (letters_test q)
  unfolding letters_asked
  letters_same =
      made_test q (λ (room : ℕ). letters_differ q) work answer (letters_asked s first second)
      (ap (λ (x : Code.Question). letters_asked x first second) is ∙ letters_told q good (edition_of q.alphabet) bodies first second written.firsts written.seconds)

  apart_same : Gives (by_test s (length work) answer (apart_asked s (clashes_apart q) (length work))) (apart_test q)
  unfolding apart_asked room_of
  apart_same =
      made_test q (λ (room : ℕ). leb (bits_of q) (8 * (situation_bytes * room)) && not (clashes_apart q)) work answer
      (apart_asked s (clashes_apart q) (length work))
      (ap (λ (x : Code.Question). apart_asked x (clashes_apart q) (length work)) is
      ∙ ap (λ (n : ℕ). leb n (8 * (situation_bytes * room_of work)) && not (clashes_apart q)) (bits_told q good bodies))

  -- a search of the question with one text for each field that stands twice answers as one of the question: the way alone spells the texts
  records_same : (n : ℕ) (e : Entry (Situation PlaceSet) Move) → records (hidden (with_texts n q)) e ≡ records (hidden q) e
  unfolding with_texts records standing
  records_same n e =
      ap (λ (texts : Texts). each (λ (f : ℕ). value_record f (texts f)) (standing (hidden q)))
      (λ j f. same_texts (acceptor (hidden (with_texts n q))) (acceptor (hidden q)) (hidden q).left (hidden q).right e f j)

  answered_same : (n m : ℕ) (x : Ends) → answered (hidden (with_texts n q)) m x work answer ≡ answered (hidden q) m x work answer
  unfolding clash
  answered_same n m (found e) = rw (records_same n e)
  answered_same n m used_up = refl
  answered_same n m no_room = refl
  answered_same n m too_long = refl

  text_same : (n : ℕ) → Gives (by_text s (length work) answer n) (text_search n q)
  unfolding with_texts
  text_same n =
      let its = texts_good n q good in
      let t = texts_coded s n in
      made_search q (hidden (with_texts n q)) every false work answer (buffer_all t (length work) answer) (ended_all t (length work) answer)
      (rw (searched_every (hidden (with_texts n q)) (room_of work))
      (search_told_all (with_texts n q) its.left its.right (hidden_searchable (with_texts n q) its) bodies t (texts_read q good bodies n s is) work answer
      (buffer_all t (length work) answer) (cleared work) (ended_all t (length work) answer) (refl, (refl, refl))))
      (answered_same n)

  over : (test : ℕ → Bool) (no_clash : Bool) (among : List Bool) → ((c : ℕ) → c < q.alphabet.characters → get_or among c false ≡ test c)
      → Made q (Paper.searching (hidden q) test true no_clash) work answer
      (record { tried = record { decides = decides_coded no_clash (ended_over among s (length work) answer); ended = ended_over among s (length work) answer }; buffer = buffer_over among s (length work) answer })
  over test no_clash among marks =
      made_search q (hidden q) test no_clash work answer (buffer_over among s (length work) answer) (ended_over among s (length work) answer)
      (search_told q good.left good.right (hidden_searchable q good) bodies s is work answer (buffer_over among s (length work) answer) (cleared work)
      (ended_over among s (length work) answer) test among marks (refl, (refl, refl)))
      (λ m x. refl)

  alike_same : Gives (by_characters s (length work) answer false) (alike_search q)
  unfolding characters_coded
  alike_same =
      over (is_least (hidden q)) true (characters_coded s false)
      (least_read q good.left good.right (hidden_searchable q good) bodies s is (least_coded s) refl)

  few_same : Gives (by_characters s (length work) answer true) (few_search q)
  unfolding characters_coded
  few_same =
      over (is_few (hidden q)) false (characters_coded s true)
      (few_read q good.left good.right (hidden_searchable q good) bodies s is (least_coded s) refl)

  -- The attempts from number k on.
  data AllGive (gives : ℕ → Attempted) : ℕ → List Paper.Attempt → Type 0 where
    none_left : (k : ℕ) → AllGive gives k []
    one_more : {k : ℕ} {p : Paper.Attempt} {ps : List Paper.Attempt} → Gives (gives k) p → AllGive gives (suc k) ps → AllGive gives k (p ∷ ps)

  -- the first search's end is told where none decides
  from_there : (gives : ℕ → Attempted) (m : ℕ) (own : Ended) (end : Ends) → told_end own answer (cleared work) ≡ answered (hidden q) m end work answer
      → (n : ℕ) {k : ℕ} {ps : List Paper.Attempt} → AllGive gives k ps
      → told_settled (settled_from gives own answer n (from k (length ps))) (cleared work)
      ≡ conclusion_told q (concluded_from end (room_of work) k n ps) work answer
  from_there gives m own end h n (none_left k) = nothing_left q m n k (room_of work) end own work answer h
  from_there gives m own end h n (one_more {k = k} {p = p} {ps = ps} x xs) =
      let on = from_there gives m own end h (n + (gives k).tried.ended.count) xs in
      by_bool (gives k).tried.decides (λ d. rw d (decided_here x end k n ps d))
      (λ d. rw d (on ∙ ap (λ (c : Conclusion). conclusion_told q c work answer) (undecided_here x end k n ps d)))

  abbrev gives_here : ℕ → Attempted
  gives_here = attempt_coded s (length work) answer (clashes_apart q) first second

  -- the attempts behind the first
  abbrev behind : List Paper.Attempt
  behind = letters_test q ∷ apart_test q ∷ text_search 0 q ∷ text_search longer q ∷ alike_search q ∷ few_search q ∷ []

  later_give : AllGive gives_here 2 behind
  unfolding attempt_coded
  later_give =
      one_more letters_same
      (one_more apart_same (one_more (text_same 0) (one_more (text_same longer) (one_more alike_same (one_more few_same (none_left 8))))))

  own_told : told_end (ended_all s (length work) answer) (buffer_all s (length work) answer) (cleared work)
      ≡ answered (hidden q) (count_of (searched (hidden q) (room_of work))) (how_of (searched (hidden q) (room_of work))) work answer
  own_told =
      search_told_all q good.left good.right (hidden_searchable q good) bodies s is work answer
      (buffer_all s (length work) answer) (cleared work) (ended_all s (length work) answer) (refl, (refl, refl))

  own_same : Gives
      (record { tried = record { decides = decides_coded true (ended_all s (length work) answer); ended = ended_all s (length work) answer }; buffer = buffer_all s (length work) answer })
      (own_search q)
  own_same =
      made_search q (hidden q) every true work answer (buffer_all s (length work) answer) (ended_all s (length work) answer)
      (rw (searched_every (hidden q) (room_of work)) own_told) (λ m x. refl)

  pub settled_told : told_settled (settled_coded s (clashes_apart q) first second (length work) answer) (cleared work) ≡ decision_of (asked q) work answer
  unfolding settled_coded concluded
  settled_told =
      let own = ended_all s (length work) answer in
      let st = searched (hidden q) (room_of work) in
      by_bool (decides_coded true own) (λ d. rw d (rw (zero-add own.count) at (decided_here own_same (how_of st) 1 0 behind d)))
      (λ d.
      rw d
      (from_there gives_here (count_of st) own (how_of st) (rw (own_unchanged s (length work) answer true d) at own_told) own.count later_give
      ∙ ap (λ (c : Conclusion). conclusion_told q c work answer) (rw (zero-add own.count) at (undecided_here own_same (how_of st) 1 0 behind d))))
