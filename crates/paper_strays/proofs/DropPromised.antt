-- What is promised of taking stray patterns out: of every sheet, rule, catalogue and buffer.
--   drop_promised, rule_drop_promised, catalogue_drop_promised
--   apart_any_calls : after any calls from an empty catalogue, taking strays out among them, no label can be made by two of its rules
-- Follows from `Dropped`, and from the laws of bytes put into a buffer (`CarryPromised` of `paper_carry`).
use Prim.Native.Nat.{ℕ, ◌-◌, ◌<◌}
use native.Mathlib.Omega.{arith}
use mathlib.Core.Path.{◌≡◌, refl, sym, ap, ◌∙◌, subst}
use mathlib.Core.List.{List, [], ◌∷◌, ◌++◌}
use lib.ListN.{length, drop, replicate, length-append, length-replicate}
use Rattle.paper.specs.Question.{Question}
use Rattle.paper.specs.Sheet.{fault_number, Records, faulty, records, Reading, refused, asked, read_before}
use Rattle.paper.specs.Rule.{Rule, read_rule_before, read_rule, foreign_field}
use Rattle.paper.specs.Saying.{sheet_saying}
use Rattle.paper_catalogue.specs.PairAsking.{PairAsking}
use Rattle.paper_catalogue.specs.Catalogue.{Present, Form, no_catalogue, rules, form, form_before}
use Rattle.paper_catalogue.specs.Calls.{Call, empty_catalogue, Apart}
use Rattle.paper_strays.specs.Kept.{without_strays, rule_kept, rules_kept}
use Rattle.paper_strays.specs.Dropping.{dropping_of, dropping, rule_dropping_of, rule_dropping, dropped_of, catalogue_dropping}
use Rattle.paper_strays.specs.Dropping.{DroppedSheet, DroppedRule, DroppedCatalogue, AllApart, DropPromised, RuleDropPromised, CatalogueDropPromised}
use Rattle.paper_strays.specs.Dropping.{AnyCall, call, drop_strays, after_any, after_any_calls}
use Rattle.paper.proofs.base.Tests.{cond_by}
use Rattle.paper_laws.proofs.sheets.LastChecked.{asked_before, asked_free}
use Rattle.paper_catalogue.proofs.RightAsking.{AsksRight}
use Rattle.paper_catalogue.proofs.Apart.{apart_empty, apart_call}
use Rattle.paper_catalogue.proofs.Local.{rule_whole, rule_before, rule_unstray}
use Rattle.paper_catalogue.proofs.GoodRule.{before_good}
use Rattle.paper_carry.proofs.CarryPromised.{fault_between, fault_not_short, question_of, rule_of, rules_of, puts}
use Rattle.paper_strays.proofs.Dropped.{sheet_dropped, sheet_shorter, sheet_kept, rule_dropped, rule_shorter, rule_as_it_was}
use Rattle.paper_strays.proofs.Dropped.{rules_dropped, rules_shorter, was_before, rules_as_they_were}

promised_of : (sheet out : List ℕ) (r : Reading) → read_before sheet ≡ r → DropPromised sheet out (dropping_of r out)
promised_of sheet out (refused x at) e =
    let (low, high) = fault_between x in
    record {
      dropped = λ q h (z : fault_number x ≡ 0). absurd (omega arith);
      nothing_to_drop = λ q h (z : fault_number x ≡ 0). absurd (omega arith);
      unchanged = λ n. refl;
      rest = refl;
      fits = omega arith;
      same_length = refl;
      enough = λ h z. fault_not_short x z;
    }
promised_of sheet out (asked q) e =
    let bytes = sheet_saying (without_strays q) in
    let same : (p : Question) → read_before sheet ≡ asked p → q ≡ p = λ p h. ap (question_of q) (sym e ∙ h) in
    let p = puts (λ (l : List ℕ). l ≡ bytes) bytes out (length sheet) (sheet_shorter sheet q e) refl in
    record {
      dropped = λ x h z. rw (p.its z) (subst (λ (y : Question). DroppedSheet y bytes) (same x h) (sheet_dropped sheet q e));
      nothing_to_drop = λ x h z.
          let before = asked_before sheet x h in
          p.its z ∙ subst (λ (y : Question). sheet_saying (without_strays y) ≡ sheet) (sym (same x before)) (sheet_kept sheet x before (asked_free sheet x h));
      unchanged = p.unchanged;
      rest = p.rest;
      fits = p.fits;
      same_length = p.same_length;
      enough = p.enough;
    }

pub drop_promised : (sheet out : List ℕ) → DropPromised sheet out (dropping sheet out)
unfolding dropping
drop_promised sheet out = promised_of sheet out (read_before sheet) refl

rule_promised_of : (bytes out : List ℕ) (x : Records Rule) → read_rule_before bytes ≡ x → RuleDropPromised bytes out (rule_dropping_of x out)
rule_promised_of bytes out (faulty x at) e =
    let (low, high) = fault_between x in
    record {
      dropped = λ r n h (z : fault_number x ≡ 0). absurd (omega arith);
      nothing_to_drop = λ r n h (z : fault_number x ≡ 0). absurd (omega arith);
      unchanged = λ n. refl;
      rest = refl;
      fits = omega arith;
      same_length = refl;
      enough = λ h z. fault_not_short x z;
    }
rule_promised_of bytes out (records q next) e =
    let new = rule_kept q in
    let same : (p : Rule) (n : ℕ) → read_rule_before bytes ≡ records p n → q ≡ p = λ p n h. ap (rule_of q) (sym e ∙ h) in
    let (front, all) = rule_whole bytes e in
    cond_by (RuleDropPromised bytes out) (foreign_field q)
    (λ _. record {
      dropped = λ r n h (z : 31 ≡ 0). absurd (omega arith);
      nothing_to_drop = λ r n h (z : 31 ≡ 0). absurd (omega arith);
      unchanged = λ n. refl;
      rest = refl;
      fits = omega arith;
      same_length = refl;
      enough = λ h (z : 31 ≡ 41). omega arith;
    })
    (λ own.
    let p = puts (λ (l : List ℕ). l ≡ new) new out (length bytes) (omega (arith, all, rule_shorter bytes front)) refl in
    record {
      dropped = λ x n h z. rw (p.its z) (subst (λ (y : Rule). DroppedRule y new) (same x n h) (rule_dropped q (before_good bytes e own) own));
      nothing_to_drop = λ x n h z.
          let before = rule_before bytes h in
          p.its z ∙ rule_as_it_was bytes e own (rw (same x n before) (rule_unstray bytes h));
      unchanged = p.unchanged;
      rest = p.rest;
      fits = p.fits;
      same_length = p.same_length;
      enough = p.enough;
    })

pub rule_drop_promised : (bytes out : List ℕ) → RuleDropPromised bytes out (rule_dropping bytes out)
unfolding rule_dropping
rule_drop_promised bytes out = rule_promised_of bytes out (read_rule_before bytes) refl

-- The new rules make the labels that the old ones made: where no two made the same, no two make it.
dropped_apart : (c : List ℕ) (l : List Present) → DroppedCatalogue l c → AllApart l → Apart c
dropped_apart c l x before =
    let many = x.as_many in
    record {
      rules_present = x.new;
      of_form = x.of_form;
      apart = λ (i j : ℕ) (h : i < length x.new) (k : j < length x.new) other u w same a b.
          let low : i < length l = omega arith in
          let high : j < length l = omega arith in
          before i j low high other u w same ((x.same_labels i low u).1 a) ((x.same_labels j high w).1 b);
    }

catalogue_promised_of : (c : List ℕ) (f : Form) → form_before c ≡ f → CatalogueDropPromised c (dropped_of f c)
catalogue_promised_of c no_catalogue e =
    record {
      dropped = λ l h (z : ◌≡◌ {A = ℕ} 34 0). absurd (omega arith);
      nothing_to_drop = λ l h. refl;
      still_apart = λ l h b (z : ◌≡◌ {A = ℕ} 34 0). absurd (omega arith);
      same_length = refl;
      unchanged = λ n. refl;
    }
catalogue_promised_of c (rules l) e =
    let bytes = rules_kept l in
    let zeros : List ℕ = replicate (length c - length bytes) 0 in
    let same : (m : List Present) → form_before c ≡ rules m → l ≡ m = λ m h. ap (rules_of l) (sym e ∙ h) in
    let after = bytes ++ zeros in
    let its : (m : List Present) → form_before c ≡ rules m → DroppedCatalogue m after =
    λ m h. subst (λ (y : List Present). DroppedCatalogue y after) (same m h) (rules_dropped c e) in
    record {
      dropped = λ m h z. its m h;
      nothing_to_drop = λ m h.
          subst (λ (y : List Present). rules_kept y ++ replicate (length c - length (rules_kept y)) 0 ≡ c) (sym (same m (was_before c h)))
          (rules_as_they_were c h);
      still_apart = λ m h b z. dropped_apart after m (its m h) b;
      same_length = omega (arith, rules_shorter c e, length-append bytes zeros, length-replicate {A = ℕ} (length c - length bytes) 0);
      unchanged = λ n. absurd (n refl);
    }

pub catalogue_drop_promised : (c : List ℕ) → CatalogueDropPromised c (catalogue_dropping c)
unfolding catalogue_dropping
catalogue_drop_promised c = catalogue_promised_of c (form_before c) refl

-- "after any calls from an empty catalogue": a catalogue of today has no strays, so taking them out leaves it as it is.
module _ {Kind : Type 0} (asking : Kind → PairAsking) (right : (k : Kind) → AsksRight (asking k)) where
  apart_any : (c : List ℕ) (k : AnyCall Kind) → Apart c → Apart (after_any asking c k)
  apart_any c (call k) a = apart_call asking right c k a
  apart_any c drop_strays a = subst Apart (sym ((catalogue_drop_promised c).nothing_to_drop a.rules_present a.of_form)) a

  any_calls : (c : List ℕ) (calls : List (AnyCall Kind)) → Apart c → Apart (after_any_calls asking c calls)
  any_calls c [] a = a
  any_calls c (k ∷ calls) a = any_calls (after_any asking c k) calls (apart_any c k a)

  pub apart_any_calls : (n : ℕ) (calls : List (AnyCall Kind)) → Apart (after_any_calls asking (empty_catalogue n) calls)
  apart_any_calls n calls = any_calls (empty_catalogue n) calls (apart_empty n)
