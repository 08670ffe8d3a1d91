-- From what was read and what was written anew to the answer.
--   sheet_carried, rule_carried : what is told of a sheet and of a rule is what carrying them over is by the rules, and all that is promised of it
--   none_kept, too_full, all_put : of a catalogue; and_promised
-- Follows from the definitions by the tests that they make: the pattern is written out of all characters of the edition that was read.
use Prim.Native.Nat.{ℕ, ◌+◌, ◌≤◌, ◌<◌}
use native.Mathlib.Nat.{zero-add, mul-le-mul_right}
use native.Mathlib.Omega.{arith}
use mathlib.Core.Path.{◌≡◌, refl, sym, ap, ◌∙◌, subst}
use mathlib.Core.List.{List}
use lib.ListN.{length, take, drop}
use lib.Seq.{take_at}
use Rattle.paper.specs.Alphabet.{Alphabet, Edition, alphabet_of, edition_of}
use Rattle.paper.specs.Question.{Question}
use Rattle.paper.specs.Sheet.{Records, faulty, records, Reading, refused, asked, read_sheet}
use Rattle.paper.specs.Rule.{Rule, read_rule, foreign_field}
use Rattle.paper.specs.Saying.{sheet_saying}
use Rattle.paper_catalogue.specs.Catalogue.{Present, no_catalogue, rules, unfit, form, with_record}
use Rattle.paper.proofs.base.Tests.{lt_ltb, le_ltb}
use Rattle.paper_laws.proofs.sheets.Asked.{sheet_good}
use Rattle.paper_laws.proofs.sheets.LastChecked.{asked_before}
use Rattle.paper_catalogue.proofs.Local.{rule_before}
use Rattle.paper_catalogue.proofs.Form.{LaidOut, stands_by}
use Rattle.paper_carry.specs.Opened.{with_open, question_changed, rule_open}
use Rattle.paper_carry.specs.Spelling.{Spelling, put_into, spelling_of, spelling, rule_spelling_of, rule_spelling, rules_open, carrying_over, longest_rule, longest_rules}
use Rattle.paper_carry.specs.Spelling.{CarryPromised, RulePromised, CataloguePromised}
use Rattle.paper_carry.specs.Spelling as Spelling
use Rattle.paper_carry.proofs.CarryPromised.{promised, rule_promised, catalogue_promised}
use Rattle.paper_strays.proofs.Dropped.{before_laid}
use Rattle.base_put.specs.Counted.{Counted}
use Rattle.base_put.proofs.Counting.{counted_length, counted_in_front}
use Rattle.std.specs.Prelude.{Result, Ok, Err}
use Rattle.base_answers.specs.declared.Refusal.{Refusal}
use Rattle.base_editions.specs.Editions.{paper_edition}
use Rattle.base_editions.specs.declared.Edition as Code
use Rattle.base_editions.specs.declared.Edition.TheVariants.{First}
use Rattle.base_editions.proofs.Same.{same_edition}
use Rattle.read_sheet.specs.SheetRead.{bodies_of, sheet_of}
use Rattle.read_sheet.specs.declared.Sheet.{Sheet}
use Rattle.read_rule.specs.RuleRead.{rule_bodies, rule_of}
use Rattle.read_rule.specs.declared.Rule as Read
use Rattle.catalogue_bytes.specs.Moving.{put_at}
use Rattle.catalogue_bytes.proofs.Within.{is_put}
use Rattle.carry_records.specs.declared.Change.{Change}
use Rattle.carry_records.specs.declared.Change.TheVariants.{Open}
use Rattle.carry_put.specs.Putting.{rules_put}
use Rattle.carry_put.proofs.RulesPut.{rules_whole, new_short}
use Rattle.carry_anew.specs.Anew.{sheet_rewritten, SheetRead, rule_rewritten, RuleRead}
use Rattle.carry_open.specs.CarriedOver.{told_carried}
use Rattle.carry_open.specs.declared.CarryError.TheVariants.{Full, NoCatalogue}

-- Sheets. The edition of what was read: of a sheet that is refused the first.
abbrev pub edition_read : Result Sheet Refusal → Code.Edition
edition_read (Ok read) = read.edition
edition_read (Err r) = First

module _ (s out : List ℕ) where
  and_all : (t : Spelling) → t ≡ spelling s out → (t ≡ spelling s out) × CarryPromised s out t
  and_all t whole = (whole, subst (CarryPromised s out) (sym whole) (promised s out))

  module _ (read : Result Sheet Refusal) (e : read ≡ sheet_of (bodies_of s) (read_sheet s)) (edition : Code.Edition) (d : edition ≡ edition_read read) where
    abbrev its_change : Change
    its_change = Open edition

    -- the edition that was read is the question's
    its_edition : (q : Question) → read_sheet s ≡ asked q → paper_edition edition ≡ edition_of q.alphabet
    its_edition q k =
        let h : read ≡ sheet_of (bodies_of s) (asked q) = e ∙ ap (sheet_of (bodies_of s)) k in
        ap paper_edition (d ∙ ap edition_read h) ∙ same_edition (edition_of q.alphabet)

    sheet_read : SheetRead its_change s (read_sheet s) read
    sheet_read = record { is = e; before = λ q k. asked_before s q k; in_edition = its_edition }

    opened_by : (x : Reading) → read_sheet s ≡ x → sheet_rewritten its_change x out ≡ spelling_of x out
    opened_by (refused f at) k = refl
    opened_by (asked q) k =
        ap (λ (n : ℕ). put_into (sheet_saying (question_changed (with_open n) q)) out)
        (ap (λ (d : Edition). (alphabet_of d).characters) (its_edition q k) ∙ sym (ap (λ (a : Alphabet). a.characters) (sheet_good s q k).alphabet))

    pub sheet_carried : (t : Spelling) → ((x : Reading) → SheetRead its_change s x read → t ≡ sheet_rewritten its_change x out)
        → (t ≡ spelling s out) × CarryPromised s out t
    unfolding spelling
    sheet_carried t h = and_all t (h (read_sheet s) sheet_read ∙ opened_by (read_sheet s) refl)

-- Rules.
module _ (s out : List ℕ) where
  rule_and_all : (t : Spelling) → t ≡ rule_spelling s out → (t ≡ rule_spelling s out) × RulePromised s out t
  rule_and_all t whole = (whole, subst (RulePromised s out) (sym whole) (rule_promised s out))

  module _ (read : Result Read.Rule Refusal) (e : read ≡ rule_of (rule_bodies s) (read_rule s)) where
    rule_opened_by : (x : Records Rule) → rule_rewritten (Open First) x out ≡ rule_spelling_of x out
    unfolding rule_open
    rule_opened_by (faulty f at) = refl
    rule_opened_by (records r n) = refl

    pub rule_carried : (t : Spelling) → ((x : Records Rule) → RuleRead (Open First) s x read → t ≡ rule_rewritten (Open First) x out)
        → (t ≡ rule_spelling s out) × RulePromised s out t
    unfolding rule_spelling
    rule_carried t h =
        rule_and_all t (h (read_rule s) (record { is = e; before = λ r n k. rule_before s k; in_edition = refl }) ∙ rule_opened_by (read_rule s))

-- A catalogue.
pub and_promised : (c : List ℕ) (s : Spelling.CarriedOver) → s ≡ carrying_over c → (s ≡ carrying_over c) × CataloguePromised c s
and_promised c s e = (e, subst (CataloguePromised c) (sym e) (catalogue_promised c))

pub none_kept : (c : List ℕ) → form c ≡ no_catalogue → told_carried (Err NoCatalogue) c ≡ carrying_over c
unfolding carrying_over
none_kept c e = rw e

module _ (c : List ℕ) (l : List Present) (e : form c ≡ rules l) {before bytes : List ℕ} {n : ℕ} (k : ℕ) (many : k ≡ length l)
    (p : Counted before bytes 0 n (rules_put (Open First) k c)) where
  laid : LaidOut foreign_field c l
  laid = before_laid (stands_by unfit c e).0

  its_rules : Counted before bytes 0 n (rules_open l)
  unfolding rules_open rule_open
  its_rules = subst (Counted before bytes 0 n) (ap (λ (m : ℕ). rules_put (Open First) m c) many ∙ rules_whole (Open First) refl laid) p

  all_fit : length (rules_open l) ≤ longest_rules
  unfolding rules_open rule_open
  all_fit = omega (arith, new_short (Open First) refl laid, mul-le-mul_right longest_rule (stands_by unfit c e).1)

  its_length : n ≡ length (rules_open l)
  its_length = counted_length its_rules (omega (arith, all_fit))

  pub within : n ≤ longest_rules
  within = omega (arith, its_length, all_fit)

  pub too_full : length c < n → told_carried (Err Full) c ≡ carrying_over c
  unfolding carrying_over
  too_full h = rw (e, lt_ltb (length c) (length (rules_open l)) (omega (arith, its_length)))

  -- from bytes that have room for all of them
  module _ (room : length before ≡ longest_rules) where
    front_is : take n bytes ≡ rules_open l
    front_is =
        ap (take n) (counted_in_front its_rules (omega (arith, all_fit)) (omega (arith, room, all_fit)))
        ∙ take_at (rules_open l) (drop (length (rules_open l)) before) n (omega (arith, its_length))

    pub all_put : n ≤ length c → (part filled : List ℕ) → part ≡ take n bytes → filled ≡ put_at 0 part c → told_carried (Ok tt) filled ≡ carrying_over c
    unfolding carrying_over
    all_put h part filled i f =
        let all = rules_open l in
        let fits : 0 + length all ≤ length c = omega (arith, its_length) in
        let filled_is : filled ≡ with_record 0 all c = f ∙ ap (λ (s : List ℕ). put_at 0 s c) (i ∙ front_is) ∙ is_put 0 all c fits in
        rw (e, le_ltb (length c) (length all) (omega (arith, its_length)), filled_is, zero-add (length all))
