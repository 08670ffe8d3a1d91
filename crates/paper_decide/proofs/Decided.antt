-- Deciding: for every reading whose question is good and all buffers, lists of bytes, the decision is as promised (specs/Promised). A sheet's is an
-- instance: from bytes to bytes.
--   decided       : AsksGood r → Decided r work answer (decision_of r work answer)
--   sheet_decided : Decided (read_sheet sheet) work answer (decision sheet work answer)
-- Each of the attempts is right: where its clash decides, the texts found solve the question; where its no clash does, there are none. One
-- induction over the attempts follows the conclusion. Follows from the laws of the search over some characters, of letters, of each standing apart, of
-- the texts that are tried and of characters alike.
use Prim.Native.Nat.{ℕ, suc, ◌+◌, ◌*◌, ◌≤◌, ◌<◌}
use native.Mathlib.Nat.{zero-add, suc-mul}
use native.Mathlib.Omega.{arith}
use mathlib.Core.Path.{◌≡◌, refl, sym, ap, ◌∙◌, subst}
use mathlib.Core.Bool.{Bool, true, false, not}
use mathlib.Core.List.{List, [], ◌∷◌, ◌++◌, Memᴰ}
use lib.Dec.{leb, eqb}
use lib.ListN.{length, drop, length-append, length-drop}
use lib.Seq.{take-append_seam, drop-append_seam}
use Rattle.paper.specs.Lists.{upto, all, member}
use Rattle.paper.specs.Numbers.{fields, situation_bytes, most_room, longest_text}
use Rattle.paper.specs.Places.{PlaceSet}
use Rattle.paper.specs.Search.{Entry, End, found, used_up, no_room, too_long, State}
use Rattle.paper.specs.Equation.{Texts, stands_in}
use Rattle.paper.specs.Situation.{Situation, Move}
use Rattle.paper.specs.Question.{Question, Solution, hidden, Equated, acceptor}
use Rattle.paper.specs.Sheet.{Fault, cut_short, wrong_mark, wrong_field, wrong_length, not_one_pattern, too_many_leaves, wrong_token, wrong_edition, stray_pattern}
use Rattle.paper.specs.Sheet.{fault_number, Reading, refused, asked, read_sheet}
use Rattle.paper.specs.Outcome.{Outcome, room_of, searched, standing, cleared, without_bytes, clash, answered, count_of, how_of, outcome_of}
use Rattle.paper.specs.Demands.{texts_spelt}
use Rattle.paper.proofs.base.Tests.{cond_by, true_false, and_right, not_is_true, not_is_false, false_not, leb_true, leb_false, neq_eqb}
use Rattle.paper.proofs.base.Lists.{mem_length, mem_cons_by, keep_mem, upto_mem}
use Rattle.paper_laws.proofs.sheets.Asked.{GoodQuestion, AsksGood, sheet_good, fields_known}
use Rattle.paper_laws.proofs.sheets.Hidden.{hidden_known, own_solves, with_spaces, hidden_solves}
use Rattle.paper_laws.proofs.sheets.Rows.{fault_above, found_records, records_hidden}
use Rattle.paper_laws.proofs.demands.Demand1.{demand_1, answered_met}
use Rattle.paper_chosen.specs.Chosen.{every, searched_over}
use Rattle.paper_chosen.proofs.Likewise.{same_texts}
use Rattle.paper_chosen.proofs.Over.{searched_every, found_over, used_up_over, count_over, short_over}
use Rattle.paper_plain.specs.Engine.{bits_of, clashes_apart}
use Rattle.paper_plain.proofs.Solved.{solvable_clashes}
use Rattle.paper_decide.specs.OneText.{with_texts}
use Rattle.paper_decide.specs.Deciding.{Attempt, searching, testing, own_search, letters_test, apart_test, alike_search, few_search, text_search, short_search, longer, longer_search, most_attempts, end_decides, tried, Conclusion, concluded_from, concluded, Decision, decision_of, decision}
use Rattle.paper_decide.specs.DecidePromised.{ClashTold, TextsDontFit, Decided}
use Rattle.paper_decide.proofs.Alike.{alike_unsolved}
use Rattle.paper_decide.proofs.LettersRight.{letters_unsolved}
use Rattle.paper_decide.proofs.TextFits.{texts_equated}

abbrev Ended : Type 0
Ended = End (Situation PlaceSet) Move

-- what an entry that is found must give: its texts solve the word equation, and each is short enough
record Solving (q : Question) (e : Entry (Situation PlaceSet) Move) : Type 0 where
  solves : Equated (hidden q) (texts_spelt (hidden q) e)
  short : (f : ℕ) → length (texts_spelt (hidden q) e f) ≤ longest_text

abbrev Unsolved : Question → Type 0
Unsolved q = (texts : Texts) → Solution q texts → ⊥

-- An attempt is right: where its ends decide, they say it of the question.
record SearchRight (q p : Question) (among : ℕ → Bool) (clash-decides no-clash-decides : Bool) (room : ℕ) : Type 0 where
  clash : clash-decides ≡ true → (e : Entry (Situation PlaceSet) Move) → how_of (searched_over among p room) ≡ found e → Solving q e
  no_clash : no-clash-decides ≡ true → how_of (searched_over among p room) ≡ used_up → Unsolved q

abbrev IsRight : Question → ℕ → Attempt → Type 0
IsRight q room (searching p among clash no_clash) = SearchRight q p among clash no_clash room
IsRight q room (testing says-no) = says-no room ≡ true → Unsolved q

-- A search of the question itself, over any characters, finds texts that solve it.
found_solving : (among : ℕ → Bool) (q : Question) (room : ℕ) → room ≤ most_room → (e : Entry (Situation PlaceSet) Move)
    → how_of (searched_over among (hidden q) room) ≡ found e → Solving q e
found_solving among q room h e k =
    record {
      solves = found_over among (hidden q) room e k;
      short = short_over among (hidden q) room h e k;
    }

-- and a search of the question with one text for each field that stands twice does
text_solving : (n : ℕ) (q : Question) → GoodQuestion q → (e : Entry (Situation PlaceSet) Move) → Solving (with_texts n q) e → Solving q e
unfolding with_texts
text_solving n q good e x =
    let p = with_texts n q in
    let same : texts_spelt (hidden p) e ≡ texts_spelt (hidden q) e =
    λ j f. same_texts (acceptor (hidden p)) (acceptor (hidden q)) (hidden q).left (hidden q).right e f j in
    record {
      solves = subst (Equated (hidden q)) same (texts_equated n q good (texts_spelt (hidden p) e) x.solves);
      short = λ f. subst (λ (t : Texts). length (t f) ≤ longest_text) same (x.short f);
    }

every_passes : (w : List ℕ) → all every w ≡ true
every_passes [] = refl
every_passes (c ∷ w) = every_passes w

module _ (q : Question) (good : GoodQuestion q) (room : ℕ) (at_most : room ≤ most_room) where
  own_right : IsRight q room (own_search q)
  own_right =
      record {
        clash = λ _. found_solving every q room at_most;
        no_clash = λ _ h texts x.
            used_up_over every (hidden q) room (hidden_known q good) h (with_spaces q good texts x) (hidden_solves q good texts x)
            (λ f _. every_passes (with_spaces q good texts x f));
      }

  letters_right : IsRight q room (letters_test q)
  letters_right e = letters_unsolved q good e

  apart_right : IsRight q room (apart_test q)
  apart_right e texts x =
      let no = not_is_true (and_right (leb (bits_of q) (8 * (situation_bytes * room))) (not (clashes_apart q)) e) in
      true_false (solvable_clashes q good (texts, x)) no

  alike_right : IsRight q room (alike_search q)
  alike_right =
      record {
        clash = λ _. found_solving _ q room at_most;
        no_clash = λ _ h texts x.
            alike_unsolved (hidden q) (hidden_known q good) room h (with_spaces q good texts x) (hidden_solves q good texts x);
      }

  few_right : IsRight q room (few_search q)
  few_right = record { clash = λ _. found_solving _ q room at_most; no_clash = λ e. absurd (true_false e refl) }

  text_right : (n : ℕ) → IsRight q room (text_search n q)
  text_right n =
      record {
        clash = λ _ e k. text_solving n q good e (found_solving every (with_texts n q) room at_most e k);
        no_clash = λ e. absurd (true_false e refl);
      }

  -- how the first search ends
  abbrev own_end : Ended
  own_end = how_of (searched (hidden q) room)

  -- How deciding ends, as a relation without a test.
  data Concludes : Conclusion → Type 0 where
    clashes : (k n : ℕ) (e : Entry (Situation PlaceSet) Move) → k < most_attempts → n ≤ most_attempts * room → Solving q e
        → Concludes (record { search = suc k; count = n; end = found e })
    clashes_not : (k n : ℕ) → k < most_attempts → n ≤ most_attempts * room → Unsolved q → Concludes (record { search = suc k; count = n; end = used_up })
    no_room_undecided : (n : ℕ) → n ≤ most_attempts * room → own_end ≡ no_room → Concludes (record { search = 0; count = n; end = no_room })
    too_long_undecided : (n : ℕ) → n ≤ most_attempts * room → own_end ≡ too_long → Concludes (record { search = 0; count = n; end = too_long })

  decided_by : (t : Attempt) → IsRight q room t → (tried t room).decides ≡ true → (k n : ℕ) → k < most_attempts → n ≤ most_attempts * room
      → Concludes (record { search = suc k; count = n; end = (tried t room).end })
  decided_by (searching p among c d) r decides k n i j = by_end (how_of (searched_over among p room)) refl decides
    where
      by_end : (x : Ended) → how_of (searched_over among p room) ≡ x → end_decides c d x ≡ true → Concludes (record { search = suc k; count = n; end = x })
      by_end (found e) h d-is = clashes k n e i j (r.clash d-is e h)
      by_end used_up h d-is = clashes_not k n i j (r.no_clash d-is h)
      by_end no_room h d-is = absurd (true_false d-is refl)
      by_end too_long h d-is = absurd (true_false d-is refl)
  decided_by (testing says-no) r decides k n i j = clashes_not k n i j (r decides)

  -- no attempt enters more than the room
  tried_within : (t : Attempt) → (tried t room).count ≤ room
  tried_within (searching p among c d) = count_over among p room
  tried_within (testing says-no) = omega arith

  -- "Otherwise not decided: 18 or 19 as the first search said it."
  left_open : (x : Ended) → own_end ≡ x → end_decides true true x ≡ false → (n : ℕ) → n ≤ most_attempts * room
      → Concludes (record { search = 0; count = n; end = x })
  left_open (found e) own d n j = absurd (true_false refl d)
  left_open used_up own d n j = absurd (true_false refl d)
  left_open no_room own d n j = no_room_undecided n j own
  left_open too_long own d n j = too_long_undecided n j own

  module _ (undecided : end_decides true true own_end ≡ false) where
    concludes_from : (k n : ℕ) (ts : List Attempt) → ((t : Attempt) → Memᴰ t ts → IsRight q room t)
        → k + length ts ≤ most_attempts → n + length ts * room ≤ most_attempts * room → Concludes (concluded_from own_end room (suc k) n ts)
    concludes_from k n [] right h i = left_open own_end refl undecided n (omega arith)
    concludes_from k n (t ∷ ts) right h i =
        let o = tried t room in
        let within = tried_within t in
        let more = suc-mul (length ts) room in
        cond_by Concludes o.decides
        (λ d. decided_by t (right t (Memᴰ.head refl)) d k (n + o.count) (omega arith) (omega arith))
        (λ _. concludes_from (suc k) (n + o.count) ts (λ u j. right u (Memᴰ.tail j)) (omega arith) (omega arith))

  -- the attempts behind the first
  abbrev later : List Attempt
  later = letters_test q ∷ apart_test q ∷ short_search q ∷ longer_search q ∷ alike_search q ∷ few_search q ∷ []

  concludes : Concludes (concluded q room)
  unfolding concluded
  concludes =
      let st = searched_over every (hidden q) room in
      let within = count_over every (hidden q) room in
      cond_by Concludes (end_decides true true (how_of st))
      (λ d. decided_by (own_search q) own_right d 0 (0 + count_of st) (omega arith) (omega arith))
      (λ d. concludes_from
      (subst (λ (x : State (Situation PlaceSet) Move). end_decides true true (how_of x) ≡ false) (searched_every (hidden q) room) d)
      1 (0 + count_of st) later later_right (omega arith) (omega arith))
    where
      later_right : (t : Attempt) → Memᴰ t later → IsRight q room t
      later_right =
          mem_cons_by (IsRight q room) letters_right
          (mem_cons_by (IsRight q room) apart_right
          (mem_cons_by (IsRight q room) (text_right 0)
          (mem_cons_by (IsRight q room) (text_right longer)
          (mem_cons_by (IsRight q room) alike_right
          (mem_cons_by (IsRight q room) few_right (λ t d. let z = mem_length d in absurd (omega arith)))))))

-- Where the first search decides, its end and its count are told.
first_decides : (q : Question) (room : ℕ) → end_decides true true (how_of (searched (hidden q) room)) ≡ true
    → concluded q room
    ≡ record { search = 1; count = count_of (searched (hidden q) room); end = how_of (searched (hidden q) room) }
unfolding concluded
first_decides q room d =
    rw (searched_every (hidden q) room, d, zero-add (count_of (searched (hidden q) room)))

module _ (q : Question) (good : GoodQuestion q) (work answer : List ℕ) where
  -- What is told of an entry that is found: the records, or that they don't fit.
  data Tells (e : Entry (Situation PlaceSet) Move) (n : ℕ) : Outcome → Type 0 where
    fit :
        length (found_records q e) ≤ length answer
        → Tells e n
        (record {
          number = 0;
          count = n;
          place = 0;
          written = length (found_records q e);
          answer = found_records q e ++ drop (length (found_records q e)) answer;
          work = cleared work;
        })
    dont_fit : length answer < length (found_records q e) → Tells e n (without_bytes 20 n work answer)

  tells : (e : Entry (Situation PlaceSet) Move) (n : ℕ) → Tells e n (clash (hidden q) n e work answer)
  unfolding clash
  tells e n =
      let bytes = found_records q e in
      rw (records_hidden q e)
      (cond_by (Tells e n) (not (leb (length bytes) (length answer)))
      (λ k. dont_fit (leb_false (length bytes) (length answer) (not_is_true k)))
      (λ k. fit (leb_true (length bytes) (length answer) (not_is_false k))))

  solution : (e : Entry (Situation PlaceSet) Move) → Solving q e → Solution q (texts_spelt (hidden q) e)
  solution e x = own_solves q good (texts_spelt (hidden q) e) x.solves

  clash_told : (e : Entry (Situation PlaceSet) Move) (n : ℕ) (o : Outcome) → Solving q e → Tells e n o → o.number ≡ 0 → ClashTold (asked q) answer o
  unfolding standing
  clash_told e n o x (fit h) z =
      let bytes = found_records q e in
      let rest = drop (length bytes) answer in
      record {
        question = q;
        good = refl;
        texts = texts_spelt (hidden q) e;
        solution = solution e x;
        written = take-append_seam bytes rest;
        each_field = λ f i. keep_mem (λ (k : ℕ). stands_in k (q.left ++ q.right)) (upto fields) (upto_mem fields (fields_known q good f i)) i;
        lengths = λ f _. x.short f;
        rest = drop-append_seam bytes rest;
        fits = h;
        same_length = rw (length-append bytes rest, length-drop (length bytes) answer) (omega arith);
      }
  clash_told e n o x (dont_fit h) z = absurd (omega arith)

  dont_fit_told : (e : Entry (Situation PlaceSet) Move) (n : ℕ) (o : Outcome) → Solving q e → Tells e n o → o.number ≡ 20
      → TextsDontFit (asked q) answer
  unfolding standing
  dont_fit_told e n o x (fit h) z = absurd (omega arith)
  dont_fit_told e n o x (dont_fit h) z =
      record { question = q; good = refl; texts = texts_spelt (hidden q) e; solution = solution e x; short = h }

  -- the numbers of an entry that is found
  record FoundNumber (n : ℕ) (o : Outcome) : Type 0 where
    good_number : member o.number (0 ∷ 1 ∷ 18 ∷ 19 ∷ 20 ∷ []) ≡ true
    decides_it : member o.number (0 ∷ 1 ∷ 20 ∷ []) ≡ true
    leaves_none_open : member o.number (18 ∷ 19 ∷ []) ≡ false
    counted : o.count ≡ n
    no_no_clash : o.number ≡ 1 → ⊥

  tells_number : (e : Entry (Situation PlaceSet) Move) (n : ℕ) (o : Outcome) → Tells e n o → FoundNumber n o
  tells_number e n o (fit h) =
      record { good_number = refl; decides_it = refl; leaves_none_open = refl; counted = refl; no_no_clash = λ z. omega arith }
  tells_number e n o (dont_fit h) =
      record { good_number = refl; decides_it = refl; leaves_none_open = refl; counted = refl; no_no_clash = λ z. omega arith }

  some_number : (k : ℕ) → not (eqb (suc k) 0) ≡ true
  some_number k = false_not (neq_eqb (suc k) 0 (λ (e : suc k ≡ 0). omega arith))

  abbrev decision_by : Conclusion → Decision
  decision_by c = record { outcome = answered (hidden q) c.count c.end work answer; search = c.search }

  abbrev AsClash : Conclusion → Type 0
  AsClash c = member (outcome_of (asked q) work answer).number (18 ∷ 19 ∷ []) ≡ false → (decision_by c).outcome ≡ outcome_of (asked q) work answer

  -- the number of the first search's end
  own_number : (x : Ended) → how_of (searched (hidden q) (room_of work)) ≡ x
      → (outcome_of (asked q) work answer).number ≡ (answered (hidden q) (count_of (searched (hidden q) (room_of work))) x work answer).number
  own_number x own =
      ap (λ (y : Ended). (answered (hidden q) (count_of (searched (hidden q) (room_of work))) y work answer).number) own

  decided_of : (at_most : room_of work ≤ most_room) (c : Conclusion) → Concludes q good (room_of work) at_most c → AsClash c
      → Decided (asked q) work answer (decision_by c)
  decided_of at_most c (clashes k n e i j x) same =
      let t = tells e n in
      let told = tells_number e n (clash (hidden q) n e work answer) t in
      record {
        demand1 = answered_met work answer q n (found e);
        clash = clash_told e n (clash (hidden q) n e work answer) x t;
        no_clash = λ z. absurd (told.no_no_clash z);
        too_short = dont_fit_told e n (clash (hidden q) n e work answer) x t;
        good_number = λ _ _. told.good_number;
        as_clash = same;
        not_decided = λ z. absurd (true_false z told.leaves_none_open);
        search_told = told.decides_it ∙ sym (some_number k);
        search_number = omega arith;
        count_within = omega (arith, told.counted);
      }
  decided_of at_most c (clashes_not k n i j x) same =
      record {
        demand1 = answered_met work answer q n used_up;
        clash = λ z. absurd (omega arith);
        no_clash = λ _. record { question = q; good = refl; none = x };
        too_short = λ z. absurd (omega arith);
        good_number = λ _ _. refl;
        as_clash = same;
        not_decided = λ z. absurd (true_false z refl);
        search_told = sym (some_number k);
        search_number = omega arith;
        count_within = j;
      }
  decided_of at_most c (no_room_undecided n j own) same =
      record {
        demand1 = answered_met work answer q n no_room;
        clash = λ z. absurd (omega arith);
        no_clash = λ z. absurd (omega arith);
        too_short = λ z. absurd (omega arith);
        good_number = λ _ _. refl;
        as_clash = same;
        not_decided = λ _. sym (own_number no_room own);
        search_told = refl;
        search_number = omega arith;
        count_within = j;
      }
  decided_of at_most c (too_long_undecided n j own) same =
      record {
        demand1 = answered_met work answer q n too_long;
        clash = λ z. absurd (omega arith);
        no_clash = λ z. absurd (omega arith);
        too_short = λ z. absurd (omega arith);
        good_number = λ _ _. refl;
        as_clash = same;
        not_decided = λ _. sym (own_number too_long own);
        search_told = refl;
        search_number = omega arith;
        count_within = j;
      }

  -- "If `clash` with the same buffers gives 0, 1, 20 .., `decide` gives the same in every number and byte"
  number_decides : (n : ℕ) (x : Ended) → member (answered (hidden q) n x work answer).number (18 ∷ 19 ∷ []) ≡ false → end_decides true true x ≡ true
  number_decides n (found e) h = refl
  number_decides n used_up h = refl
  number_decides n no_room h = absurd (true_false refl h)
  number_decides n too_long h = absurd (true_false refl h)

  as_first : AsClash (concluded q (room_of work))
  as_first h =
      let st = searched (hidden q) (room_of work) in
      ap (λ (c : Conclusion). (decision_by c).outcome) (first_decides q (room_of work) (number_decides (count_of st) (how_of st) h))

-- A refused reading.
no_search : (x : Fault) → member (fault_number x) (0 ∷ 1 ∷ 20 ∷ []) ≡ false
no_search cut_short = refl
no_search wrong_mark = refl
no_search wrong_field = refl
no_search wrong_length = refl
no_search not_one_pattern = refl
no_search too_many_leaves = refl
no_search wrong_token = refl
no_search wrong_edition = refl
no_search stray_pattern = refl

-- For every reading whose question is good, and all buffers.
pub decided : (r : Reading) → AsksGood r → (work answer : List ℕ) → Decided r work answer (decision_of r work answer)
unfolding room_of
decided (refused x at) good work answer =
    let low = fault_above x in
    record {
      demand1 = demand_1 (refused x at) work answer;
      clash = λ z. absurd (omega arith);
      no_clash = λ z. absurd (omega arith);
      too_short = λ z. absurd (true_false (ap (λ (n : ℕ). member n (0 ∷ 1 ∷ 20 ∷ [])) z) (no_search x));
      good_number = λ q g. let z : ◌≡◌ {A = ℕ} 0 1 = cc in absurd (omega arith);
      as_clash = λ _. refl;
      not_decided = λ _. refl;
      search_told = no_search x;
      search_number = omega arith;
      count_within = omega arith;
    }
decided (asked q) good work answer =
    let at_most : room_of work ≤ most_room = omega arith in
    let fine = good q refl in
    decided_of q fine work answer at_most (concluded q (room_of work)) (concludes q fine (room_of work) at_most) (as_first q fine work answer)

-- For all sheets and buffers.
pub sheet_decided : (sheet work answer : List ℕ) → Decided (read_sheet sheet) work answer (decision sheet work answer)
unfolding decision
sheet_decided sheet = decided (read_sheet sheet) (sheet_good sheet)
