-- A kept catalogue checked again, by any right way to ask a pair.
--   rechecked_apart  : where nothing is listed, no label can be made by two of its rules, whatever was done to the catalogue before
--   rechecks         : with 0, the records written are exactly those of the pairs not answered 1, and `pairs` is how many there are
--   list_at_most     : the list of a catalogue has at most the bytes of 496 pairs
--   listed_likewise  : a way to ask that answers 1 wherever another does lists no pair that the other doesn't list
--   count_in_bytes   : by 01's search a pair's count has two bytes
-- Follows from the definition by induction on the rules, from `AsksRight`, and from every rule that stands being good.
use Prim.Native.Nat.{ℕ, zero, suc, ◌+◌, ◌*◌, ◌/◌, ◌≤◌, ◌<◌}
use native.Mathlib.Nat.{add-zero, add-suc, suc-add, add_comm, mul-zero, mul-suc, mul-le-mul_left, div-eq_of_lt, add-div_left, min-le_right}
use native.Mathlib.Numerals.{add-one}
use native.Mathlib.Omega.{arith}
use mathlib.Core.Path.{◌≡◌, refl, sym, ap, ap₂, ◌∙◌, subst}
use mathlib.Core.Logic.{⊎_elim}
use mathlib.Core.Bool.{cond}
use mathlib.Core.List.{List, [], ◌∷◌, ◌++◌, append_assoc, append-nil}
use mathlib.Core.List.Memᴰ
use mathlib.Core.List.{Memᴰ}
use lib.Dec.{ltb, eqb}
use lib.ListN.{length, take, drop, length-append}
use lib.Seq.{take-append_seam, drop-append_seam}
use Rattle.paper.specs.Numbers.{situation_bytes, most_room, catalogue_rules}
use Rattle.paper.specs.Question.{hidden}
use Rattle.paper.specs.Rule.{Rule, pair}
use Rattle.paper.specs.Outcome.{room_of}
use Rattle.paper_catalogue.specs.PairAsking.{PairAsking, record_by, pair_count, by_search}
use Rattle.paper_catalogue.specs.Catalogue.{Present, Form, no_catalogue, rules, form}
use Rattle.paper_catalogue.specs.Calls.{rule_at, Apart}
use Rattle.paper_catalogue.specs.Recheck.{pair_listed_by, listed_with_by, listed_from_by, Rechecked, rechecked_of, rechecking_by}
use Rattle.paper_catalogue.specs.Recheck.{pair_bytes, listed_from}
use Rattle.paper.proofs.base.Tests.{cond_by, by_bool, eqb_true, eqb_false, neq_eqb}
use Rattle.paper_laws.proofs.sheets.QuestionSearched.{count_in_room}
use Rattle.paper_catalogue.proofs.Form.{rules_at_most}
use Rattle.paper_catalogue.proofs.GoodRule.{GoodRule, present_good}
use Rattle.paper_catalogue.proofs.RightAsking.{AsksRight, search_right}
use Rattle.paper_catalogue.proofs.Apart.{TwoApart, Every, EachApart, each_apart}

-- no byte in two lists together, none in either
none_left : (a b : List ℕ) → length (a ++ b) ≡ 0 → length a ≡ 0
none_left a b e = omega (arith, length-append a b, e)

none_right : (a b : List ℕ) → length (a ++ b) ≡ 0 → length b ≡ 0
none_right a b e = omega (arith, length-append a b, e)

module _ (a : PairAsking) (right : AsksRight a) (work : List ℕ) where
  -- a pair that is not listed is answered 1
  not_listed_1 : (i : ℕ) (r : Rule) (j : ℕ) (s : Rule) → length (pair_listed_by a i r j s (room_of work)) ≡ 0
      → (a.asks r s (room_of work)).answer ≡ 1
  not_listed_1 i r j s =
      cond_by (λ (bytes : List ℕ). length bytes ≡ 0 → (a.asks r s (room_of work)).answer ≡ 1) (eqb (a.asks r s (room_of work)).answer 1)
      (λ h _. eqb_true (a.asks r s (room_of work)).answer 1 h)
      (λ h (e : length (record_by a i j (a.asks r s (room_of work))) ≡ 0). absurd (omega (arith, e)))

  none_with : (i : ℕ) (r : Present) (j : ℕ) (l : List Present) → GoodRule r.rule → ((t : Present) → Memᴰ t l → GoodRule t.rule)
      → length (listed_with_by a i r.rule j l (room_of work)) ≡ 0 → Every (TwoApart r) l
  none_with i r j [] g h e = tt
  none_with i r j (s ∷ l) g h e =
      let one = pair_listed_by a i r.rule j s.rule (room_of work) in
      let others = listed_with_by a i r.rule (suc j) l (room_of work) in (
        right.apart r.rule s.rule g (h s (Memᴰ.head refl)) work (not_listed_1 i r.rule j s.rule (none_left one others e)),
        none_with i r (suc j) l g (λ t d. h t (Memᴰ.tail d)) (none_right one others e),
      )

  none_from : (i : ℕ) (l : List Present) → ((t : Present) → Memᴰ t l → GoodRule t.rule)
      → length (listed_from_by a i l (room_of work)) ≡ 0 → EachApart l
  none_from i [] h e = tt
  none_from i (r ∷ l) h e =
      let its = listed_with_by a i r.rule (suc i) l (room_of work) in
      let others = listed_from_by a (suc i) l (room_of work) in (
        none_with i r (suc i) l (h r (Memᴰ.head refl)) (λ t d. h t (Memᴰ.tail d)) (none_left its others e),
        none_from (suc i) l (λ t d. h t (Memᴰ.tail d)) (none_right its others e),
      )

  module _ (catalogue list : List ℕ) where
    none_of : (f : Form) → form catalogue ≡ f → (rechecked_of a f work list).number ≡ 0 → (rechecked_of a f work list).written ≡ 0 → Apart catalogue
    none_of no_catalogue e = λ n w. absurd (omega (arith, n))
    none_of (rules l) e =
        let bytes = listed_from_by a 0 l (room_of work) in
        cond_by (λ (o : Rechecked). o.number ≡ 0 → o.written ≡ 0 → Apart catalogue) (ltb (length list) (length bytes))
        (λ h (n : 35 ≡ 0) w. absurd (omega (arith, n)))
        (λ h n w. each_apart catalogue l e (none_from 0 l (present_good catalogue e) w))

    -- "a kept catalogue's pairs are all checked again"
    pub rechecked_apart : (rechecking_by a catalogue work list).number ≡ 0 → (rechecking_by a catalogue work list).written ≡ 0 → Apart catalogue
    unfolding rechecking_by
    rechecked_apart = none_of (form catalogue) refl

-- The records in the bytes of a list, n bytes each.
abbrev pub records_within : ℕ → ℕ → List ℕ → List (List ℕ)
records_within n zero bytes = []
records_within n (suc k) bytes = take n bytes ∷ records_within n k (drop n bytes)

abbrev pub records_in : ℕ → List ℕ → List (List ℕ)
records_in n bytes = records_within n (length bytes / n) bytes

-- one behind the other
abbrev together : List (List ℕ) → List ℕ
together [] = []
together (x ∷ l) = x ++ together l

together_append : (k l : List (List ℕ)) → together (k ++ l) ≡ together k ++ together l
together_append [] l = refl
together_append (x ∷ k) l = ap (λ (b : List ℕ). x ++ b) (together_append k l) ∙ sym (append_assoc x (together k) (together l))

module _ (n : ℕ) where
  -- each has n bytes
  abbrev Sized : List (List ℕ) → Type 0
  Sized [] = Unit {0}
  Sized (x ∷ l) = (length x ≡ n) × Sized l

  sized_append : (k l : List (List ℕ)) → Sized k → Sized l → Sized (k ++ l)
  sized_append [] l g h = h
  sized_append (x ∷ k) l (e, g) h = (e, sized_append k l g h)

  length_together : (l : List (List ℕ)) → Sized l → length (together l) ≡ n * length l
  length_together [] h = sym (mul-zero n)
  length_together (x ∷ l) (e, h) =
      omega (arith, e, length-append x (together l), length_together l h, mul-suc n (length l))

  within_together : (l : List (List ℕ)) → Sized l → records_within n (length l) (together l) ≡ l
  within_together [] h = refl
  within_together (x ∷ l) (e, h) = rw (← e, take-append_seam x (together l), drop-append_seam x (together l), within_together l h)

  many_over : (m : ℕ) → 0 < n → n * m / n ≡ m
  many_over zero h = rw (mul-zero n) (div-eq_of_lt h)
  many_over (suc m) h =
      ap (λ (k : ℕ). k / n) (mul-suc n m ∙ add_comm (n * m) n) ∙ add-div_left (n * m) h ∙ rw (many_over m h) (add-one m)

  records_together : (l : List (List ℕ)) → 0 < n → Sized l → records_in n (together l) ≡ l
  records_together l h g = rw (length_together l g, many_over (length l) h) (within_together l g)

-- how many pairs so many rules have
abbrev pairs_among : ℕ → ℕ
pairs_among zero = 0
pairs_among (suc n) = n + pairs_among n

among_most : (n m : ℕ) → n ≤ m → pairs_among n ≤ pairs_among m
among_most zero m h = omega arith
among_most (suc n) zero h = absurd (omega arith)
among_most (suc n) (suc m) h = let k = among_most n m (omega arith) in omega arith

-- a record that stands for a pair that is not answered 1: a lower and a higher number of two rules of the list, whose first has the number `from`
pub record NotAnswered1 (a : PairAsking) (room from : ℕ) (l : List Present) (x : List ℕ) : Type 0 where
  pub lower : ℕ
  pub higher : ℕ
  pub below : lower < higher
  pub there : higher < length l
  pub not_1 : (a.asks (rule_at l lower) (rule_at l higher) room).answer ≡ 1 → ⊥
  pub its_record : x ≡ record_by a (from + lower) (from + higher) (a.asks (rule_at l lower) (rule_at l higher) room)

module _ (a : PairAsking) (room : ℕ) where
  -- the records of a list
  abbrev record_for : ℕ → Rule → ℕ → Rule → List ℕ
  record_for i r j s = record_by a i j (a.asks r s room)

  abbrev record_of : ℕ → Rule → ℕ → Rule → List (List ℕ)
  record_of i r j s = cond (eqb (a.asks r s room).answer 1) [] (record_for i r j s ∷ [])

  abbrev records_with : ℕ → Rule → ℕ → List Present → List (List ℕ)
  records_with i r j [] = []
  records_with i r j (s ∷ l) = record_of i r j s.rule ++ records_with i r (suc j) l

  abbrev records_from : ℕ → List Present → List (List ℕ)
  records_from i [] = []
  records_from i (r ∷ l) = records_with i r.rule (suc i) l ++ records_from (suc i) l

  one_listed : (i : ℕ) (r : Rule) (j : ℕ) (s : Rule) → pair_listed_by a i r j s room ≡ together (record_of i r j s)
  one_listed i r j s =
      by_bool (eqb (a.asks r s room).answer 1) (λ h. rw h) (λ h. rw (h, append-nil (record_for i r j s)))

  with_listed : (i : ℕ) (r : Rule) (j : ℕ) (l : List Present) → listed_with_by a i r j l room ≡ together (records_with i r j l)
  with_listed i r j [] = refl
  with_listed i r j (s ∷ l) =
      ap₂ ◌++◌ (one_listed i r j s.rule) (with_listed i r (suc j) l)
      ∙ sym (together_append (record_of i r j s.rule) (records_with i r (suc j) l))

  from_listed : (i : ℕ) (l : List Present) → listed_from_by a i l room ≡ together (records_from i l)
  from_listed i [] = refl
  from_listed i (r ∷ l) =
      ap₂ ◌++◌ (with_listed i r.rule (suc i) l) (from_listed (suc i) l)
      ∙ sym (together_append (records_with i r.rule (suc i) l) (records_from (suc i) l))

  -- How many there can be: one for each pair.
  few_one : (i : ℕ) (r : Rule) (j : ℕ) (s : Rule) → length (record_of i r j s) ≤ 1
  few_one i r j s =
      cond_by (λ (l : List (List ℕ)). length l ≤ 1) (eqb (a.asks r s room).answer 1) (λ _. omega arith) (λ _. omega arith)

  few_with : (i : ℕ) (r : Rule) (j : ℕ) (l : List Present) → length (records_with i r j l) ≤ length l
  few_with i r j [] = omega arith
  few_with i r j (s ∷ l) =
      omega (arith, few_one i r j s.rule, few_with i r (suc j) l, length-append (record_of i r j s.rule) (records_with i r (suc j) l))

  few_from : (i : ℕ) (l : List Present) → length (records_from i l) ≤ pairs_among (length l)
  few_from i [] = omega arith
  few_from i (r ∷ l) =
      omega
      (arith, few_with i r.rule (suc i) l, few_from (suc i) l, length-append (records_with i r.rule (suc i) l) (records_from (suc i) l))

  -- Which they are.
  mem_one : (i : ℕ) (r : Rule) (j : ℕ) (s : Rule) (x : List ℕ) → Memᴰ x (record_of i r j s)
      → ((a.asks r s room).answer ≡ 1 → ⊥) × (x ≡ record_for i r j s)
  mem_one i r j s x =
      cond_by (λ (l : List (List ℕ)). Memᴰ x l → ((a.asks r s room).answer ≡ 1 → ⊥) × (x ≡ record_for i r j s))
      (eqb (a.asks r s room).answer 1)
      (λ h d. absurd (Memᴰ.not-nil d))
      (λ h d. (eqb_false (a.asks r s room).answer 1 h, the_one d))
    where
      the_one : {y : List ℕ} → Memᴰ x (y ∷ []) → x ≡ y
      the_one (Memᴰ.head e) = e
      the_one (Memᴰ.tail d) = absurd (Memᴰ.not-nil d)

  one_mem : (i : ℕ) (r : Rule) (j : ℕ) (s : Rule) → ((a.asks r s room).answer ≡ 1 → ⊥) → Memᴰ (record_for i r j s) (record_of i r j s)
  one_mem i r j s n = rw (neq_eqb (a.asks r s room).answer 1 n) (Memᴰ.head refl)

  -- of one lower rule with others, whose first has the number `from`
  record With (i : ℕ) (r : Rule) (from : ℕ) (l : List Present) (x : List ℕ) : Type 0 where
    higher : ℕ
    there : higher < length l
    not_1 : (a.asks r (rule_at l higher) room).answer ≡ 1 → ⊥
    its_record : x ≡ record_for i r (from + higher) (rule_at l higher)

  mem_with : (i : ℕ) (r : Rule) (j : ℕ) (l : List Present) (x : List ℕ) → Memᴰ x (records_with i r j l) → With i r j l x
  mem_with i r j [] x d = absurd (Memᴰ.not-nil d)
  mem_with i r j (s ∷ l) x d =
      let first = record_of i r j s.rule in
      let others = records_with i r (suc j) l in
      ⊎_elim
      (λ (k : Memᴰ x first).
      let (n, e) = mem_one i r j s.rule x k in
      record { higher = 0; there = omega arith; not_1 = n; its_record = rw (add-zero j) e })
      (λ (k : Memᴰ x others).
      let w = mem_with i r (suc j) l x k in
      record { higher = suc w.higher; there = omega (arith, w.there); not_1 = w.not_1; its_record = rw (add-suc j w.higher, ← (suc-add j w.higher)) w.its_record })
      (Memᴰ.append_cases first d)

  with_mem : (i : ℕ) (r : Rule) (j : ℕ) (l : List Present) (k n : ℕ) → k < length l → n ≡ j + k
      → ((a.asks r (rule_at l k) room).answer ≡ 1 → ⊥) → Memᴰ (record_for i r n (rule_at l k)) (records_with i r j l)
  with_mem i r j [] k n h e not = absurd (omega arith)
  with_mem i r j (s ∷ l) zero n h e not =
      rw (e, add-zero j) (Memᴰ.append_left (records_with i r (suc j) l) (one_mem i r j s.rule not))
  with_mem i r j (s ∷ l) (suc k) n h e not =
      Memᴰ.append_right (record_of i r j s.rule) (with_mem i r (suc j) l k n (omega arith) (omega arith) not)

  mem_from : (i : ℕ) (l : List Present) (x : List ℕ) → Memᴰ x (records_from i l) → NotAnswered1 a room i l x
  mem_from i [] x d = absurd (Memᴰ.not-nil d)
  mem_from i (r ∷ l) x d =
      let its = records_with i r.rule (suc i) l in
      let others = records_from (suc i) l in
      ⊎_elim
      (λ (k : Memᴰ x its).
      let w = mem_with i r.rule (suc i) l x k in
      record {
        lower = 0;
        higher = suc w.higher;
        below = omega arith;
        there = omega (arith, w.there);
        not_1 = w.not_1;
        its_record = rw (add-zero i, add-suc i w.higher, ← (suc-add i w.higher)) w.its_record;
      })
      (λ (k : Memᴰ x others).
      let w = mem_from (suc i) l x k in
      record {
        lower = suc w.lower;
        higher = suc w.higher;
        below = omega (arith, w.below);
        there = omega (arith, w.there);
        not_1 = w.not_1;
        its_record = rw (add-suc i w.lower, add-suc i w.higher, ← (suc-add i w.lower), ← (suc-add i w.higher)) w.its_record;
      })
      (Memᴰ.append_cases its d)

  from_mem : (i : ℕ) (l : List Present) (low high n m : ℕ) → low < high → high < length l → n ≡ i + low → m ≡ i + high
      → ((a.asks (rule_at l low) (rule_at l high) room).answer ≡ 1 → ⊥)
      → Memᴰ (record_for n (rule_at l low) m (rule_at l high)) (records_from i l)
  from_mem i [] low high n m less h e f not = absurd (omega arith)
  from_mem i (r ∷ l) low zero n m less h e f not = absurd (omega arith)
  from_mem i (r ∷ l) zero (suc high) n m less h e f not =
      rw (e, add-zero i)
      (Memᴰ.append_left (records_from (suc i) l) (with_mem i r.rule (suc i) l high m (omega arith) (omega arith) not))
  from_mem i (r ∷ l) (suc low) (suc high) n m less h e f not =
      Memᴰ.append_right (records_with i r.rule (suc i) l)
      (from_mem (suc i) l low high n m (omega arith) (omega arith) (omega arith) (omega arith) not)

  -- Each has the bytes of a pair.
  module _ (right : AsksRight a) where
    sized_one : (i : ℕ) (r : Rule) (j : ℕ) (s : Rule) → Sized a.pair_bytes (record_of i r j s)
    sized_one i r j s =
        cond_by (Sized a.pair_bytes) (eqb (a.asks r s room).answer 1) (λ _. tt) (λ _. (right.one_length i j (a.asks r s room), tt))

    sized_with : (i : ℕ) (r : Rule) (j : ℕ) (l : List Present) → Sized a.pair_bytes (records_with i r j l)
    sized_with i r j [] = tt
    sized_with i r j (s ∷ l) =
        sized_append a.pair_bytes (record_of i r j s.rule) (records_with i r (suc j) l) (sized_one i r j s.rule) (sized_with i r (suc j) l)

    sized_from : (i : ℕ) (l : List Present) → Sized a.pair_bytes (records_from i l)
    sized_from i [] = tt
    sized_from i (r ∷ l) =
        sized_append a.pair_bytes (records_with i r.rule (suc i) l) (records_from (suc i) l) (sized_with i r.rule (suc i) l) (sized_from (suc i) l)

    some_bytes : 0 < a.pair_bytes
    some_bytes = omega (arith, right.one_length 0 0 (record { answer = 0; count = 0; search = 0 }))

    records_are : (l : List Present) → records_in a.pair_bytes (listed_from_by a 0 l room) ≡ records_from 0 l
    records_are l = rw (from_listed 0 l) (records_together a.pair_bytes (records_from 0 l) some_bytes (sized_from 0 l))

    -- "a catalogue of up to 32 rules": the 496 pairs of them
    pub list_at_most : (catalogue : List ℕ) {l : List Present} → form catalogue ≡ rules l → length (listed_from_by a 0 l room) ≤ a.pair_bytes * 496
    list_at_most catalogue {l} e =
        let few : length (records_from 0 l) ≤ 496 = omega (arith, few_from 0 l, among_most (length l) catalogue_rules (rules_at_most catalogue e)) in
        omega
        (arith, ap length (from_listed 0 l), length_together a.pair_bytes (records_from 0 l) (sized_from 0 l), mul-le-mul_left a.pair_bytes few)

-- by request K3's records
pub list_short : (room : ℕ) (catalogue : List ℕ) {l : List Present} → form catalogue ≡ rules l → length (listed_from 0 l room) ≤ pair_bytes * 496
list_short room catalogue {l} e = list_at_most by_search room search_right catalogue e

-- "a count is at most the room", and so at most 65,535
pub count_in_bytes : (r s : Rule) (work : List ℕ) → pair_count r s (room_of work) ≤ most_room
unfolding pair_count room_of
count_in_bytes r s work = omega (arith, count_in_room (hidden (pair r s)) work, min-le_right (length work / situation_bytes) most_room)

-- the records of a list that was written
abbrev pub records_written : PairAsking → Rechecked → List (List ℕ)
records_written a o = records_in a.pair_bytes (take o.written o.list)

-- What 0 says of the list.
pub record Rechecks (a : PairAsking) (catalogue work list : List ℕ) (o : Rechecked) : Type 0 where
  pub rules_present : List Present
  pub of_form : form catalogue ≡ rules rules_present
  pub listed_only : (x : List ℕ) → Memᴰ x (records_written a o) → NotAnswered1 a (room_of work) 0 rules_present x
  pub all_listed : (x : List ℕ) → NotAnswered1 a (room_of work) 0 rules_present x → Memᴰ x (records_written a o)
  pub pairs : o.pairs ≡ length (records_written a o)
  pub short : o.written ≤ a.pair_bytes * 496
  pub rest : drop o.written o.list ≡ drop o.written list

length_within : (n k : ℕ) (bytes : List ℕ) → length (records_within n k bytes) ≡ k
length_within n zero bytes = refl
length_within n (suc k) bytes = let h = length_within n k (drop n bytes) in omega arith

module _ (a : PairAsking) (right : AsksRight a) (catalogue work list : List ℕ) where
  rechecks_of : (f : Form) → form catalogue ≡ f → (rechecked_of a f work list).number ≡ 0
      → Rechecks a catalogue work list (rechecked_of a f work list)
  rechecks_of no_catalogue e = λ n. absurd (omega (arith, n))
  rechecks_of (rules l) e =
      let bytes = listed_from_by a 0 l (room_of work) in
      let behind = drop (length bytes) list in
      let front = take-append_seam bytes behind in
      let are = records_are a (room_of work) right l in
      cond_by (λ (o : Rechecked). o.number ≡ 0 → Rechecks a catalogue work list o) (ltb (length list) (length bytes))
      (λ h n. absurd (omega (arith, n)))
      (λ h n. record {
        rules_present = l;
        of_form = e;
        listed_only = λ x d. mem_from a (room_of work) 0 l x (rw (front, are) at d);
        all_listed = λ x w.
            rw (front, are, w.its_record)
            (from_mem a (room_of work) 0 l w.lower w.higher (0 + w.lower) (0 + w.higher) w.below w.there refl refl w.not_1);
        pairs = rw front (sym (length_within a.pair_bytes (length bytes / a.pair_bytes) bytes));
        short = list_at_most a (room_of work) right catalogue e;
        rest = drop-append_seam bytes behind;
      })

  pub rechecks : (rechecking_by a catalogue work list).number ≡ 0 → Rechecks a catalogue work list (rechecking_by a catalogue work list)
  unfolding rechecking_by
  rechecks = rechecks_of (form catalogue) refl

-- A way to ask that answers 1 wherever another does lists no pair that the other doesn't list: the two numbers in front are those of a pair of its.
module _ (a b : PairAsking) (likewise : (r s : Rule) (room : ℕ) → (a.asks r s room).answer ≡ 1 → (b.asks r s room).answer ≡ 1) where
  not_likewise : (room from : ℕ) (l : List Present) (x : List ℕ) → NotAnswered1 b room from l x
      → (y : List ℕ) × NotAnswered1 a room from l y × (take 2 y ≡ take 2 x)
  not_likewise room from l x n = (
    record_by a (from + n.lower) (from + n.higher) (a.asks (rule_at l n.lower) (rule_at l n.higher) room),
    record {
      lower = n.lower;
      higher = n.higher;
      below = n.below;
      there = n.there;
      not_1 = λ e. n.not_1 (likewise (rule_at l n.lower) (rule_at l n.higher) room e);
      its_record = refl;
    },
    sym (ap (take 2) n.its_record),
  )

  pub listed_likewise : AsksRight a → AsksRight b → (catalogue work list other : List ℕ)
      → (rechecking_by a catalogue work list).number ≡ 0 → (rechecking_by b catalogue work other).number ≡ 0
      → (x : List ℕ) → Memᴰ x (records_written b (rechecking_by b catalogue work other))
      → (y : List ℕ) × Memᴰ y (records_written a (rechecking_by a catalogue work list)) × (take 2 y ≡ take 2 x)
  listed_likewise right-a right-b catalogue work list other z w x d =
      let one = rechecks a right-a catalogue work list z in
      let two = rechecks b right-b catalogue work other w in
      let same : two.rules_present ≡ one.rules_present = cc (one.of_form, two.of_form) in
      let (y, n, e) = not_likewise (room_of work) 0 two.rules_present x (two.listed_only x d) in
      (y, one.all_listed y (subst (λ (l : List Present). NotAnswered1 a (room_of work) 0 l y) same n), e)
