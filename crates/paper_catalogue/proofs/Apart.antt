-- "after any calls from an empty catalogue, no label can be made by two of its rules"
--   apart_after : where every kind of adding asks pairs rightly, Apart (after_calls asking (empty_catalogue n) calls)
--   apart_added : so by request K1's adding
-- "The catalogue stays of its form after every call."
-- Follows from what every call keeps: the catalogue is of its form, and each rule is apart from every rule behind it. A rule that is entered is
-- apart from those before it, since each of its pairs was answered 1 (`AsksRight`); withdrawing takes pairs away.
use Prim.Native.Nat.{ℕ, zero, suc, ◌<◌}
use native.Mathlib.Omega.{arith}
use mathlib.Core.Path.{◌≡◌, sym, subst}
use mathlib.Core.List.{List, [], ◌∷◌, ◌++◌}
use lib.Dec.{ltb, eqb}
use lib.ListN.{length, take, drop}
use Rattle.paper.specs.Rule.{Makes}
use Rattle.paper.specs.Numbers.{space}
use Rattle.paper.specs.Equation.{Same}
use Rattle.paper_catalogue.specs.PairAsking.{PairAsking, by_search}
use Rattle.paper_catalogue.specs.Catalogue.{Present, rules, form, adding_by, withdrawing}
use Rattle.paper_catalogue.specs.Calls.{Call, add, withdraw, after_call, after_calls, empty_catalogue, present_at, rule_at, Apart}
use Rattle.paper.proofs.base.Tests.{by_bool, ltb_true, ltb_false, eqb_true, eqb_false}
use Rattle.paper_catalogue.proofs.Form.{offset_of, form_empty, read_at, own_fields}
use Rattle.paper_catalogue.proofs.GoodRule.{rule_good, new_good}
use Rattle.paper_catalogue.proofs.RightAsking.{AsksRight, search_right}
use Rattle.paper_catalogue.proofs.Adding.{Enters, entered, refused_same, added_form}
use Rattle.paper_catalogue.proofs.Withdrawing.{Leaves, withdrawn_exactly, unchanged, withdrawn_form}

-- they make no labels that are the same
abbrev pub TwoApart : Present → Present → Type 0
TwoApart x y = (l m : List ℕ) → Same space l m → Makes x.rule l → Makes y.rule m → ⊥

-- of every rule
abbrev pub Every : (Present → Type 0) → List Present → Type 0
Every P [] = Unit {0}
Every P (x ∷ l) = P x × Every P l

-- each rule is apart from every rule behind it
abbrev pub EachApart : List Present → Type 0
EachApart [] = Unit {0}
EachApart (x ∷ l) = Every (TwoApart x) l × EachApart l

module _ (P : Present → Type 0) where
  every_at : (l : List Present) → Every P l → (i : ℕ) → i < length l → P (present_at l i)
  every_at [] h i k = absurd (omega arith)
  every_at (x ∷ l) (p, h) zero k = p
  every_at (x ∷ l) (p, h) (suc i) k = every_at l h i (omega arith)

  at_every : (l : List Present) → ((i : ℕ) → i < length l → P (present_at l i)) → Every P l
  at_every [] h = tt
  at_every (x ∷ l) h = (h 0 (omega arith), at_every l (λ i k. h (suc i) (omega arith)))

  every_with : (l : List Present) (x : Present) → Every P l → P x → Every P (l ++ (x ∷ []))
  every_with [] x h p = (p, tt)
  every_with (y ∷ l) x (q, h) p = (q, every_with l x h p)

  every_without : (l : List Present) (i : ℕ) → Every P l → Every P (take i l ++ drop (suc i) l)
  every_without [] zero h = tt
  every_without [] (suc i) h = tt
  every_without (x ∷ l) zero (p, h) = h
  every_without (x ∷ l) (suc i) (p, h) = (p, every_without l i h)

-- one rule more, apart from those before it; one rule less
apart_with : (l : List Present) (x : Present) → EachApart l → Every (λ (y : Present). TwoApart y x) l → EachApart (l ++ (x ∷ []))
apart_with [] x h e = (tt, tt)
apart_with (y ∷ l) x (p, h) (q, e) = (every_with (TwoApart y) l x p q, apart_with l x h e)

apart_without : (l : List Present) (i : ℕ) → EachApart l → EachApart (take i l ++ drop (suc i) l)
apart_without [] zero h = tt
apart_without [] (suc i) h = tt
apart_without (x ∷ l) zero (p, h) = h
apart_without (x ∷ l) (suc i) (p, h) = (every_without (TwoApart x) l i p, apart_without l i h)

apart_at : (l : List Present) → EachApart l → (i j : ℕ) → i < j → j < length l → TwoApart (present_at l i) (present_at l j)
apart_at [] h i j less k = absurd (omega arith)
apart_at (x ∷ l) (p, h) i zero less k = absurd (omega arith)
apart_at (x ∷ l) (p, h) zero (suc j) less k = every_at (TwoApart x) l p j (omega arith)
apart_at (x ∷ l) (p, h) (suc i) (suc j) less k = apart_at l h i j (omega arith) (omega arith)

at_apart : (l : List Present) → ((i j : ℕ) → i < j → j < length l → TwoApart (present_at l i) (present_at l j)) → EachApart l
at_apart [] h = tt
at_apart (x ∷ l) h = (
  at_every (TwoApart x) l (λ j k. h 0 (suc j) (omega arith) (omega arith)),
  at_apart l (λ i j less k. h (suc i) (suc j) (omega arith) (omega arith)),
)

-- "no label can be made by two of its rules", from each rule being apart from those behind it, and back
pub each_apart : (c : List ℕ) (l : List Present) → form c ≡ rules l → EachApart l → Apart c
each_apart c l e h =
    record {
      rules_present = l;
      of_form = e;
      apart = λ i j in-i in-j other w v same m k.
          by_bool (ltb i j)
          (λ less. apart_at l h i j (ltb_true i j less) in-j w v same m k)
          (λ more. apart_at l h j i (omega (arith, ltb_false i j more, other)) in-i v w (sym same) k m);
    }

apart_each : (c : List ℕ) (a : Apart c) → EachApart a.rules_present
apart_each c a = at_apart a.rules_present (λ i j less k. a.apart i j (omega arith) k (omega arith))

-- A rule that is entered is apart from each rule that stands.
pub new_apart : (a : PairAsking) → AsksRight a → (c bytes work : List ℕ) (x : Enters a c bytes work) (i : ℕ) → i < length x.rules_present
    → (l m : List ℕ) → Same space l m → Makes (rule_at x.rules_present i) l → Makes x.rule m → ⊥
new_apart a right c bytes work x i h =
    let l = x.rules_present in
    right.apart (rule_at l i) x.rule
    (rule_good (drop (offset_of l i) c) (read_at c x.of_form i h) (own_fields c x.of_form i h))
    (new_good bytes x.is_read x.own_fields) work (x.answered i h)

-- What a refusal leaves is as it was.
unchanged_apart : (c d : List ℕ) → d ≡ c → Apart c → Apart d
unchanged_apart c d e a = record { rules_present = a.rules_present; of_form = rw e a.of_form; apart = a.apart }

entered_apart : (b : PairAsking) → AsksRight b → (c bytes work : List ℕ) → Apart c → Enters b c bytes work
    → Apart (adding_by b c bytes work).added.catalogue
entered_apart b right c bytes work a x =
    let new : Present = record { rule = x.rule; bytes = x.own_bytes } in
    let same : a.rules_present ≡ x.rules_present = cc (a.of_form, x.of_form) in
    each_apart (adding_by b c bytes work).added.catalogue (x.rules_present ++ (new ∷ [])) (added_form b c bytes work x)
    (apart_with x.rules_present new (subst EachApart same (apart_each c a))
    (at_every (λ (y : Present). TwoApart y new) x.rules_present (new_apart b right c bytes work x)))

withdrawn_apart : (c : List ℕ) (i : ℕ) → Apart c → Leaves c i → Apart (withdrawing c i).catalogue
withdrawn_apart c i a x =
    let same : a.rules_present ≡ x.rules_present = cc (a.of_form, x.of_form) in
    each_apart (withdrawing c i).catalogue (take i x.rules_present ++ drop (suc i) x.rules_present) (withdrawn_form c i x)
    (apart_without x.rules_present i (subst EachApart same (apart_each c a)))

pub apart_empty : (n : ℕ) → Apart (empty_catalogue n)
apart_empty n = each_apart (empty_catalogue n) [] (form_empty n) tt

module _ {Kind : Type 0} (asking : Kind → PairAsking) (right : (k : Kind) → AsksRight (asking k)) where
  -- Every call keeps it.
  pub apart_call : (c : List ℕ) (call : Call Kind) → Apart c → Apart (after_call asking c call)
  apart_call c (add k bytes work) a =
      let o = (adding_by (asking k) c bytes work).added in
      by_bool (eqb o.number 0)
      (λ h. entered_apart (asking k) (right k) c bytes work a (entered (asking k) c bytes work (eqb_true o.number 0 h)))
      (λ h. unchanged_apart c o.catalogue (refused_same (asking k) c bytes work (eqb_false o.number 0 h)) a)
  apart_call c (withdraw i) a =
      by_bool (eqb (withdrawing c i).number 0)
      (λ h. withdrawn_apart c i a ((withdrawn_exactly c i).0 (eqb_true (withdrawing c i).number 0 h)))
      (λ h. unchanged_apart c (withdrawing c i).catalogue (unchanged c i (eqb_false (withdrawing c i).number 0 h)) a)

  pub apart_calls : (c : List ℕ) (calls : List (Call Kind)) → Apart c → Apart (after_calls asking c calls)
  apart_calls c [] a = a
  apart_calls c (call ∷ calls) a = apart_calls (after_call asking c call) calls (apart_call c call a)

  -- "after any calls from an empty catalogue, no label can be made by two of its rules"
  pub apart_after : (n : ℕ) (calls : List (Call Kind)) → Apart (after_calls asking (empty_catalogue n) calls)
  apart_after n calls = apart_calls (empty_catalogue n) calls (apart_empty n)

-- by request K1's adding
pub apart_added : (n : ℕ) (calls : List (Call (Unit {0}))) → Apart (after_calls (λ (k : Unit {0}). by_search) (empty_catalogue n) calls)
apart_added = apart_after (λ (k : Unit {0}). by_search) (λ k. search_right)
