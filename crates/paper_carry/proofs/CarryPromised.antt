-- What is promised of carrying over: of every sheet, every rule, every catalogue and every buffer.
--   promised           : CarryPromised sheet out (spelling sheet out)
--   rule_promised      : RulePromised rule out (rule_spelling rule out)
--   catalogue_promised : CataloguePromised catalogue (carrying_over catalogue)
--   carried_apart      : CarriedCatalogue l c → ApartBefore l → Apart c
--   fault_between      : the number of a fault is one of 11 to 44
--   fault_not_short    : and not 41
-- Follows from `Carried`, by what reading gives.
use Prim.Native.Nat.{ℕ, ◌≤◌, ◌<◌}
use native.Mathlib.Omega.{arith}
use native.Mathlib.Nat.{mul-le-mul_right}
use mathlib.Core.Path.{◌≡◌, refl, sym, ap, ◌∙◌, subst}
use mathlib.Core.List.{List, ◌++◌}
use lib.Dec.{ltb}
use lib.ListN.{length, take, drop, length-append, length-drop}
use lib.Seq.{take-append_seam, drop-append_seam}
use Rattle.paper.specs.Question.{Question}
use Rattle.paper.specs.Sheet.{Fault, cut_short, wrong_mark, wrong_field, wrong_length, not_one_pattern, too_many_leaves, wrong_token}
use Rattle.paper.specs.Sheet.{wrong_edition, stray_pattern, fault_number, Records, faulty, records, Reading, refused, asked, read_sheet}
use Rattle.paper.specs.Rule.{Rule, read_rule, foreign_field}
use Rattle.paper.specs.Saying.{sheet_saying}
use Rattle.paper_catalogue.specs.Catalogue.{Present, Form, no_catalogue, rules, form}
use Rattle.paper_catalogue.specs.Calls.{Apart}
use Rattle.paper.proofs.base.Tests.{cond_by, ltb_true, ltb_false}
use Rattle.paper_catalogue.proofs.Form.{rules_at_most}
use Rattle.paper_catalogue.proofs.Local.{rule_unstray}
use Rattle.paper_catalogue.proofs.GoodRule.{new_good}
use Rattle.paper_carry.specs.Opened.{spelt_open, rule_open}
use Rattle.paper_carry.specs.Spelling.{Spelling, put_into, spelling_of, spelling, rule_spelling_of, rule_spelling, rules_open}
use Rattle.paper_carry.specs.Spelling.{carried_of, carrying_over, longest_sheet, longest_rule, longest_rules}
use Rattle.paper_carry.specs.Spelling.{CarriedSheet, CarriedRule, CarriedCatalogue, ApartBefore, CarryPromised, RulePromised, CataloguePromised}
use Rattle.paper_carry.proofs.Carried.{sheet_carried, sheet_fits, sheet_same, rule_carried, rule_fits, rule_same, rules_carried, rules_fit}

-- a fault's number is between 11 and 44, and not that of a short buffer
pub fault_between : (x : Fault) → (11 ≤ fault_number x) × (fault_number x ≤ 44)
fault_between cut_short = (omega arith, omega arith)
fault_between wrong_mark = (omega arith, omega arith)
fault_between wrong_field = (omega arith, omega arith)
fault_between wrong_length = (omega arith, omega arith)
fault_between not_one_pattern = (omega arith, omega arith)
fault_between too_many_leaves = (omega arith, omega arith)
fault_between wrong_token = (omega arith, omega arith)
fault_between wrong_edition = (omega arith, omega arith)
fault_between stray_pattern = (omega arith, omega arith)

pub fault_not_short : (x : Fault) → fault_number x ≡ 41 → ⊥
fault_not_short cut_short h = omega arith
fault_not_short wrong_mark h = omega arith
fault_not_short wrong_field h = omega arith
fault_not_short wrong_length h = omega arith
fault_not_short not_one_pattern h = omega arith
fault_not_short too_many_leaves h = omega arith
fault_not_short wrong_token h = omega arith
fault_not_short wrong_edition h = omega arith
fault_not_short stray_pattern h = omega arith

-- what was read is one thing
abbrev pub question_of : Question → Reading → Question
question_of p (refused x at) = p
question_of p (asked q) = q

abbrev pub rule_of : Rule → Records Rule → Rule
rule_of p (faulty x at) = p
rule_of p (records r n) = r

abbrev pub rules_of : List Present → Form → List Present
rules_of m no_catalogue = m
rules_of m (rules l) = l

-- Bytes put into a buffer.
pub record Put (P : List ℕ → Type 0) (out : List ℕ) (most : ℕ) (s : Spelling) : Type 0 where
  pub its : s.number ≡ 0 → P (take s.written s.out)
  pub unchanged : (s.number ≡ 0 → ⊥) → s.out ≡ out
  pub rest : drop s.written s.out ≡ drop s.written out
  pub fits : s.written ≤ length out
  pub same_length : length s.out ≡ length out
  pub enough : most ≤ length out → s.number ≡ 41 → ⊥

pub length_kept : (bytes out : List ℕ) → length bytes ≤ length out → length (bytes ++ drop (length bytes) out) ≡ length out
length_kept bytes out room = omega (arith, length-append bytes (drop (length bytes) out), length-drop (length bytes) out)

pub puts : (P : List ℕ → Type 0) (bytes out : List ℕ) (most : ℕ) → length bytes ≤ most → P bytes → Put P out most (put_into bytes out)
puts P bytes out most fits p =
    cond_by (Put P out most) (ltb (length out) (length bytes))
    (λ t. record {
      its = λ (z : 41 ≡ 0). absurd (omega arith);
      unchanged = λ n. refl;
      rest = refl;
      fits = omega arith;
      same_length = refl;
      enough = λ (h : most ≤ length out) z. let short = ltb_true (length out) (length bytes) t in omega arith;
    })
    (λ t. record {
      its = λ z. rw (take-append_seam bytes (drop (length bytes) out)) p;
      unchanged = λ n. absurd (n refl);
      rest = drop-append_seam bytes (drop (length bytes) out);
      fits = ltb_false (length out) (length bytes) t;
      same_length = length_kept bytes out (ltb_false (length out) (length bytes) t);
      enough = λ h (z : 0 ≡ 41). omega arith;
    })

promised_of : (sheet out : List ℕ) (r : Reading) → read_sheet sheet ≡ r → CarryPromised sheet out (spelling_of r out)
promised_of sheet out (refused x at) e =
    let (low, high) = fault_between x in
    record {
      carried = λ q h (z : fault_number x ≡ 0). absurd (omega arith);
      nothing_to_add = λ q h none (z : fault_number x ≡ 0). absurd (omega arith);
      unchanged = λ n. refl;
      rest = refl;
      fits = omega arith;
      same_length = refl;
      enough = λ h z. fault_not_short x z;
    }
promised_of sheet out (asked q) e =
    let bytes = sheet_saying (spelt_open q) in
    let same : (p : Question) → read_sheet sheet ≡ asked p → q ≡ p = λ p h. ap (question_of q) (sym e ∙ h) in
    let p = puts (λ (l : List ℕ). l ≡ bytes) bytes out longest_sheet (sheet_fits sheet q e) refl in
    record {
      carried = λ x h z. rw (p.its z) (subst (λ (y : Question). CarriedSheet y bytes) (same x h) (sheet_carried sheet q e));
      nothing_to_add = λ x h none z.
          p.its z ∙ subst (λ (y : Question). sheet_saying (spelt_open y) ≡ sheet) (sym (same x h)) (sheet_same sheet x h none);
      unchanged = p.unchanged;
      rest = p.rest;
      fits = p.fits;
      same_length = p.same_length;
      enough = p.enough;
    }

pub promised : (sheet out : List ℕ) → CarryPromised sheet out (spelling sheet out)
unfolding spelling
promised sheet out = promised_of sheet out (read_sheet sheet) refl

rule_promised_of : (bytes out : List ℕ) (x : Records Rule) → read_rule bytes ≡ x → RulePromised bytes out (rule_spelling_of x out)
rule_promised_of bytes out (faulty x at) e =
    let (low, high) = fault_between x in
    record {
      carried = λ r n h (z : fault_number x ≡ 0). absurd (omega arith);
      nothing_to_add = λ r n h none (z : fault_number x ≡ 0). absurd (omega arith);
      unchanged = λ n. refl;
      rest = refl;
      fits = omega arith;
      same_length = refl;
      enough = λ h z. fault_not_short x z;
    }
rule_promised_of bytes out (records q m) e =
    let new = rule_open q in
    let same : (p : Rule) (n : ℕ) → read_rule bytes ≡ records p n → q ≡ p = λ p n h. ap (rule_of q) (sym e ∙ h) in
    cond_by (RulePromised bytes out) (foreign_field q)
    (λ t. record {
      carried = λ r n h (z : 31 ≡ 0). absurd (omega arith);
      nothing_to_add = λ r n h none (z : 31 ≡ 0). absurd (omega arith);
      unchanged = λ n. refl;
      rest = refl;
      fits = omega arith;
      same_length = refl;
      enough = λ h (z : 31 ≡ 41). omega arith;
    })
    (λ own.
    let good = new_good bytes e own in
    let p = puts (λ (l : List ℕ). l ≡ new) new out longest_rule (rule_fits q good) refl in
    record {
      carried = λ x n h z. rw (p.its z) (subst (λ (y : Rule). CarriedRule y new) (same x n h) (rule_carried q good own (rule_unstray bytes e)));
      nothing_to_add = λ x n h none z.
          p.its z ∙ subst (λ (y : Rule). rule_open y ≡ bytes) (sym (same x n h)) (rule_same bytes h none);
      unchanged = p.unchanged;
      rest = p.rest;
      fits = p.fits;
      same_length = p.same_length;
      enough = p.enough;
    })

pub rule_promised : (bytes out : List ℕ) → RulePromised bytes out (rule_spelling bytes out)
unfolding rule_spelling
rule_promised bytes out = rule_promised_of bytes out (read_rule bytes) refl

-- The rules carried over make the labels that they made: where no two made the same, no two make it.
pub carried_apart : (c : List ℕ) (l : List Present) → CarriedCatalogue l c → ApartBefore l → Apart c
carried_apart c l x before =
    let many = x.as_many in
    record {
      rules_present = x.new;
      of_form = x.of_form;
      apart = λ (i j : ℕ) (h : i < length x.new) (k : j < length x.new) other u w same a b.
          let low : i < length l = omega arith in
          let high : j < length l = omega arith in
          before i j low high other u w same ((x.same_labels i low u).1 a) ((x.same_labels j high w).1 b);
    }

catalogue_promised_of : (c : List ℕ) (f : Form) → form c ≡ f → CataloguePromised c (carried_of f c)
catalogue_promised_of c no_catalogue e =
    record {
      carried = λ l h (z : ◌≡◌ {A = ℕ} 34 0). absurd (omega arith);
      still_apart = λ l h b (z : ◌≡◌ {A = ℕ} 34 0). absurd (omega arith);
      same_length = refl;
      unchanged = λ n. refl;
      enough = λ h (z : ◌≡◌ {A = ℕ} 34 32). omega arith;
    }
catalogue_promised_of c (rules l) e =
    let bytes = rules_open l in
    let same : (m : List Present) → form c ≡ rules m → l ≡ m = λ m h. ap (rules_of l) (sym e ∙ h) in
    let after = bytes ++ drop (length bytes) c in
    let its : (m : List Present) → form c ≡ rules m → CarriedCatalogue m after =
    λ m h. subst (λ (y : List Present). CarriedCatalogue y after) (same m h) (rules_carried c e) in
    let fits : length bytes ≤ longest_rules =
    omega (arith, rules_fit c e, mul-le-mul_right longest_rule (rules_at_most c e)) in
    cond_by (CataloguePromised c) (ltb (length c) (length bytes))
    (λ t. record {
      carried = λ m h (z : ◌≡◌ {A = ℕ} 32 0). absurd (omega arith);
      still_apart = λ m h b (z : ◌≡◌ {A = ℕ} 32 0). absurd (omega arith);
      same_length = refl;
      unchanged = λ n. refl;
      enough = λ (h : longest_rules ≤ length c) z. let short = ltb_true (length c) (length bytes) t in omega arith;
    })
    (λ t. record {
      carried = λ m h z. its m h;
      still_apart = λ m h b z. carried_apart after m (its m h) b;
      same_length = length_kept bytes c (ltb_false (length c) (length bytes) t);
      unchanged = λ n. absurd (n refl);
      enough = λ h (z : ◌≡◌ {A = ℕ} 0 32). omega arith;
    })

pub catalogue_promised : (c : List ℕ) → CataloguePromised c (carrying_over c)
unfolding carrying_over
catalogue_promised c = catalogue_promised_of c (form c) refl
