-- Withdrawing a rule: what it tells and leaves, as a relation without a test (`Withdraws`), and what that says.
--   withdrawn_exactly : the number is 0 exactly if the catalogue is of its form and a rule has the number given
--   unchanged         : a refusal changes no byte of the catalogue
--   withdrawn_form    : then the catalogue is of its form, with the other rules in their order
--   withdrawn_length  : it has as many bytes as before
--   added_withdrawn   : a rule that was entered and is withdrawn again leaves the catalogue as it was, byte for byte
--   room_again        : "A withdrawn rule's room is used again": a record that is not longer than the withdrawn one has room
--   withdrawn_added   : the last rule, withdrawn and entered again, leaves the catalogue as it was
-- Follows from the definition, test by test, and from the laws of the form: behind the last record all bytes are zero.
use Prim.Native.Nat.{ℕ, zero, suc, ◌+◌, ◌-◌, ◌≤◌, ◌<◌}
use native.Mathlib.Nat.{zero-add, add-zero, add_assoc}
use native.Mathlib.Omega.{arith}
use mathlib.Core.Path.{◌≡◌, refl, sym, ap, ◌∙◌, subst}
use mathlib.Core.Bool.{true, false}
use mathlib.Core.List.{List, [], ◌∷◌, ◌++◌, append_assoc, append-nil}
use lib.Dec.{ltb, eqb}
use lib.ListN.{length, take, drop, replicate, length-append, length-take, length-drop, length-replicate, take-append-drop, drop_of_length-le}
use lib.Seq.{take_all, take_at, drop_at, drop-drop, take-add, take-append_seam, get_or-append_seam, get_or-take, drop-append-add, length-take-le}
use Rattle.paper.specs.Numbers.{catalogue_rules}
use Rattle.paper.specs.Outcome.{room_of}
use Rattle.paper_catalogue.specs.PairAsking.{PairAsking}
use Rattle.paper_catalogue.specs.Catalogue.{Present, Form, no_catalogue, rules, all_zero, form, used, with_record, is_full, adding_by}
use Rattle.paper_catalogue.specs.Catalogue.{Withdrawn, without_record, withdrawn_from, withdrawn_of, withdrawing}
use Rattle.paper_catalogue.specs.Calls.{behind_last, present_at, rule_at}
use Rattle.paper.proofs.base.Tests.{by_bool, both_true, both_false, ltb_true, ltb_false, le_ltb, lt_leb}
use Rattle.paper.proofs.base.Lists.{all_append}
use Rattle.paper_catalogue.proofs.Local.{rule_bounds, rule_whole, rule_cut, rule_before, rule_since}
use Rattle.paper_catalogue.proofs.Form.{zero_bytes, all_zero_bytes, zero_drop, offset_of, offset_next}
use Rattle.paper_catalogue.proofs.Form.{used_without, length_without, rules_at_most, used_inside, rest_zero, one_rule_less}
use Rattle.paper_catalogue.proofs.Form.{read_at, own_fields, own_strays, record_inside, form_without, rule_fits}
use Rattle.paper_catalogue.proofs.Adding.{Enters, enters, added_form}

-- The ways that withdrawing goes, by what it tells and leaves.
module _ (c : List ℕ) (i : ℕ) where
  pub data Withdraws : Withdrawn → Type 0 where
    no_form : form c ≡ no_catalogue → Withdraws (record { number = 34; catalogue = c })
    no_rule : (l : List Present) → form c ≡ rules l → length l ≤ i → Withdraws (record { number = 33; catalogue = c })
    one_less : (l : List Present) → form c ≡ rules l → i < length l
        → Withdraws (record { number = 0; catalogue = without_record (offset_of l i) (present_at l i).bytes c })

withdraws_none : (at : ℕ) (l : List Present) (i : ℕ) (c : List ℕ) → length l ≤ i → withdrawn_from at l i c ≡ record { number = 33; catalogue = c }
withdraws_none at [] i c h = refl
withdraws_none at (x ∷ l) zero c h = absurd (omega arith)
withdraws_none at (x ∷ l) (suc i) c h = withdraws_none (at + x.bytes) l i c (omega arith)

withdraws_one : (at : ℕ) (l : List Present) (i : ℕ) (c : List ℕ) → i < length l
    → withdrawn_from at l i c ≡ record { number = 0; catalogue = without_record (at + offset_of l i) (present_at l i).bytes c }
withdraws_one at [] i c h = absurd (omega arith)
withdraws_one at (x ∷ l) zero c h = rw (add-zero at)
withdraws_one at (x ∷ l) (suc i) c h = withdraws_one (at + x.bytes) l i c (omega arith) ∙ rw (add_assoc at x.bytes (offset_of l i))

module _ (c : List ℕ) (i : ℕ) where
  formed : (x : Form) → form c ≡ x → Withdraws c i (withdrawn_of x i c)
  formed no_catalogue e = no_form e
  formed (rules l) e =
      by_bool (ltb i (length l))
      (λ h. let there = ltb_true i (length l) h in rw (withdraws_one 0 l i c there, zero-add (offset_of l i)) (one_less l e there))
      (λ h. let far = ltb_false i (length l) h in rw (withdraws_none 0 l i c far) (no_rule l e far))

  pub withdraws : Withdraws c i (withdrawing c i)
  unfolding withdrawing
  withdraws = formed (form c) refl

  -- There is a rule to withdraw.
  pub record Leaves : Type 0 where
    pub rules_present : List Present
    pub of_form : form c ≡ rules rules_present
    pub there : i < length rules_present

  -- "33 if no rule has that number"
  withdrawn_by : (o : Withdrawn) → Withdraws c i o → o.number ≡ 0 → Leaves
  withdrawn_by o (no_form e) z = absurd (omega (arith, z))
  withdrawn_by o (no_rule l e far) z = absurd (omega (arith, z))
  withdrawn_by o (one_less l e there) z = record { rules_present = l; of_form = e; there = there }

  pub leaves : (x : Leaves)
      → withdrawing c i
      ≡ record { number = 0; catalogue = without_record (offset_of x.rules_present i) (present_at x.rules_present i).bytes c }
  unfolding withdrawing
  leaves x = rw x.of_form (withdraws_one 0 x.rules_present i c x.there ∙ rw (zero-add (offset_of x.rules_present i)))

  pub withdrawn_exactly : ((withdrawing c i).number ≡ 0 → Leaves) × (Leaves → (withdrawing c i).number ≡ 0)
  withdrawn_exactly = (withdrawn_by (withdrawing c i) withdraws, λ x. ap (λ (o : Withdrawn). o.number) (leaves x))

  -- A refusal changes no byte of the catalogue.
  unchanged_by : (o : Withdrawn) → Withdraws c i o → (o.number ≡ 0 → ⊥) → o.catalogue ≡ c
  unchanged_by o (no_form e) n = refl
  unchanged_by o (no_rule l e far) n = refl
  unchanged_by o (one_less l e there) n = absurd (n refl)

  pub unchanged : ((withdrawing c i).number ≡ 0 → ⊥) → (withdrawing c i).catalogue ≡ c
  unchanged = unchanged_by (withdrawing c i) withdraws

  -- "withdrawing closes the gap"
  pub withdrawn_form : (x : Leaves) → form (withdrawing c i).catalogue ≡ rules (take i x.rules_present ++ drop (suc i) x.rules_present)
  withdrawn_form x = rw (leaves x) (form_without c x.of_form i x.there)

  length_by : (o : Withdrawn) → Withdraws c i o → length o.catalogue ≡ length c
  length_by o (no_form e) = refl
  length_by o (no_rule l e far) = refl
  length_by o (one_less l e there) = length_without (offset_of l i) (present_at l i).bytes c (record_inside c e i there)

  pub withdrawn_length : length (withdrawing c i).catalogue ≡ length c
  withdrawn_length = length_by (withdrawing c i) withdraws

  -- "A withdrawn rule's room is used again."
  pub room_again : (x : Leaves) (bytes : List ℕ) → length bytes ≤ (present_at x.rules_present i).bytes
      → is_full (take i x.rules_present ++ drop (suc i) x.rules_present) bytes (withdrawing c i).catalogue ≡ false
  room_again x bytes h =
      let l = x.rules_present in
      let others = take i l ++ drop (suc i) l in
      both_false
      (lt_leb catalogue_rules (length others) (omega (arith, one_rule_less c x.of_form i x.there, rules_at_most c x.of_form)))
      (le_ltb (length (withdrawing c i).catalogue) (used others + length bytes)
      (omega (arith, withdrawn_length, used_without l i x.there, used_inside c x.of_form, h)))

-- Zero bytes as many as zero bytes are the same.
zero_same : (a b : List ℕ) → all_zero a ≡ true → all_zero b ≡ true → length a ≡ length b → a ≡ b
zero_same a b p q e = all_zero_bytes a p ∙ ap (λ (n : ℕ). replicate n 0) e ∙ sym (all_zero_bytes b q)

zero_append : (a b : List ℕ) → all_zero a ≡ true → all_zero b ≡ true → all_zero (a ++ b) ≡ true
zero_append a b p q = all_append (λ (n : ℕ). eqb n 0) a b ∙ both_true p q

-- Bytes put where zeros stood, and taken out again.
put_taken : (at : ℕ) (bytes c : List ℕ) → all_zero (drop at c) ≡ true → at + length bytes ≤ length c
    → without_record at (length bytes) (with_record at bytes c) ≡ c
put_taken at bytes c z h =
    let n = length bytes in
    let p = take at c in
    let d = drop (at + n) c in
    let freed : List ℕ = replicate n 0 in
    let long : length p ≡ at = length-take-le at c (omega arith) in
    let gone : all_zero d ≡ true = rw (← (drop-drop n at c)) (zero_drop n (drop at c) z) in
    let same : d ++ freed ≡ drop at c =
    zero_same (d ++ freed) (drop at c) (zero_append d freed gone (zero_bytes n)) z
    (rw (length-append d freed, length-drop (at + n) c, length-drop at c) (omega (arith, length-replicate {A = ℕ} n 0))) in
    rw (
      drop_at (p ++ bytes) d (at + n) (length-append p bytes ∙ ap (λ (k : ℕ). k + n) long),
      append_assoc p bytes d,
      take_at p (bytes ++ d) at long,
      append_assoc p d freed,
      same,
    )
    (take-append-drop at c)

-- Bytes behind which zeros stand, taken out and put back.
taken_put : (at n : ℕ) (c : List ℕ) → all_zero (drop (at + n) c) ≡ true → at + n ≤ length c
    → with_record at (take n (drop at c)) (without_record at n c) ≡ c
taken_put at n c z h =
    let p = take at c in
    let b = take n (drop at c) in
    let d = drop (at + n) c in
    let freed : List ℕ = replicate n 0 in
    let long : length p ≡ at = length-take-le at c (omega arith) in
    let size : length b ≡ n = length-take-le n (drop at c) (rw (length-drop at c) (omega arith)) in
    let same : drop n (d ++ freed) ≡ d =
    zero_same (drop n (d ++ freed)) d (zero_drop n (d ++ freed) (zero_append d freed z (zero_bytes n))) z
    (rw (length-drop n (d ++ freed), length-append d freed) (omega (arith, length-replicate {A = ℕ} n 0))) in
    let behind : drop (at + n) (p ++ (d ++ freed)) ≡ d =
    ap (λ (k : ℕ). drop (k + n) (p ++ (d ++ freed))) (sym long) ∙ drop-append-add p (d ++ freed) n ∙ same in
    rw (size, append_assoc p d freed, take_at p (d ++ freed) at long, behind, ← (take-add at n c))
    (take-append-drop (at + n) c)

-- Entered and withdrawn again: the catalogue is as it was, byte for byte. The number of the new rule is that of the rules before it.
pub added_withdrawn : (a : PairAsking) (c bytes work : List ℕ) (x : Enters a c bytes work)
    → withdrawing (adding_by a c bytes work).added.catalogue (length x.rules_present) ≡ record { number = 0; catalogue = c }
added_withdrawn a c bytes work x =
    let l = x.rules_present in
    let new : Present = record { rule = x.rule; bytes = x.own_bytes } in
    let d = (adding_by a c bytes work).added.catalogue in
    let all : x.own_bytes ≡ length bytes = (rule_whole bytes (rule_before bytes x.is_read)).1 in
    let last : Leaves d (length l) =
    record { rules_present = l ++ (new ∷ []); of_form = added_form a c bytes work x; there = rw (length-append l (new ∷ [])) (omega arith) } in
    leaves d (length l) last
    ∙ rw (
      take-append_seam l (new ∷ []),
      get_or-append_seam l new [],
      all,
      enters a c bytes work x,
      put_taken (used l) bytes c (rw (rest_zero c x.of_form) (zero_bytes (length c - used l))) (rule_fits c x.of_form bytes x.room),
    )

-- The last rule withdrawn and its bytes entered again, in a room in which each pair is answered 1: the catalogue is as it was.
module _ (a : PairAsking) (c work : List ℕ) {l : List Present} (e : form c ≡ rules l) (i : ℕ) (last : suc i ≡ length l)
    (answered : (k : ℕ) → k < i → (a.asks (rule_at l k) (rule_at l i) (room_of work)).answer ≡ 1) where
  abbrev its_bytes : List ℕ
  its_bytes = take (present_at l i).bytes (drop (offset_of l i) c)

  there : i < length l
  there = omega arith

  abbrev one_left : Leaves c i
  one_left = record { rules_present = l; of_form = e; there = there }

  others : take i l ++ drop (suc i) l ≡ take i l
  others = rw (drop_of_length-le l {i = suc i} (omega arith), append-nil (take i l))

  its_size : length its_bytes ≡ (present_at l i).bytes
  its_size = length-take-le (present_at l i).bytes (drop (offset_of l i) c) (rule_bounds (drop (offset_of l i) c) (read_at c e i there)).1

  abbrev enters_again : Enters a (withdrawing c i).catalogue its_bytes work
  enters_again =
      record {
        rules_present = take i l;
        of_form = withdrawn_form c i one_left ∙ ap rules others;
        rule = rule_at l i;
        own_bytes = (present_at l i).bytes;
        is_read = rule_since its_bytes (rule_cut (drop (offset_of l i) c) (read_at c e i there)) (own_strays c e i there);
        own_fields = own_fields c e i there;
        room = subst (λ (m : List Present). is_full m its_bytes (withdrawing c i).catalogue ≡ false) others
            (room_again c i one_left its_bytes (omega (arith, its_size)));
        answered = λ k h.
            let before : k < i = omega (arith, length-take i l, h) in
            rw (get_or-take i l k behind_last before, rule_at) (answered k before);
      }

  pub withdrawn_added :
      ((adding_by a (withdrawing c i).catalogue its_bytes work).added.number ≡ 0)
      × ((adding_by a (withdrawing c i).catalogue its_bytes work).added.catalogue ≡ c)
  withdrawn_added =
      let all : offset_of l i + (present_at l i).bytes ≡ used l =
      sym (offset_next l i there) ∙ ap used (take_all (suc i) l (omega arith)) in
      rw (enters a (withdrawing c i).catalogue its_bytes work enters_again, leaves c i one_left) (
        refl,
        taken_put (offset_of l i) (present_at l i).bytes c
            (rw (all, rest_zero c e) (zero_bytes (length c - used l))) (record_inside c e i there),
      )
