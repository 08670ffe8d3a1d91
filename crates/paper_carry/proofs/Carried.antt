-- What is written of a good sheet, of a good rule and of a catalogue's rules: it is read again, means what the old one meant, and is not longer than
-- is promised.
--   sheet_carried, sheet_fits, sheet_same : of a sheet
--   rule_carried, rule_fits, rule_same    : of a rule
--   rules_carried, rules_fit              : of a catalogue
-- Follows from `reads_back`, `rule_reads`, `same_solutions`, `same_labels` and the laws of the form of a catalogue.
use Prim.Native.Nat.{ℕ, zero, suc, ◌+◌, ◌-◌, ◌*◌, ◌≤◌, ◌<◌}
use native.Mathlib.Nat.{suc-mul}
use native.Mathlib.Omega.{arith}
use mathlib.Core.Path.{◌≡◌, refl, ap, ◌∙◌}
use mathlib.Core.Logic.{◌↔◌}
use mathlib.Core.Bool.{true, false}
use mathlib.Core.List.{List, [], ◌∷◌, ◌++◌}
use lib.Dec.{ltb}
use lib.ListN.{length, get_or, drop, length-append}
use lib.Seq.{drop-drop, take_all, length-take-le}
use Rattle.paper.specs.Numbers.{characters, fields}
use Rattle.paper.specs.Pattern.{Held, some_text, pattern}
use Rattle.paper.specs.Alphabet.{edition_1}
use Rattle.paper.specs.Equation.{Side, stands_in}
use Rattle.paper.specs.Question.{Question}
use Rattle.paper.specs.Sheet.{strays_of, records, asked, read_sheet, LE}
use Rattle.paper.specs.Rule.{Rule, Makes, rule_front, rule_strays, read_rule, foreign_field}
use Rattle.paper.specs.Saying.{patterns_saying, side_saying, sheet_saying}
use Rattle.paper_catalogue.specs.Catalogue.{Present, rules, unfit, form, all_zero, used}
use Rattle.paper.proofs.base.Tests.{by_bool, cond_by, true_false, ltb_true, ltb_false}
use Rattle.paper_laws.proofs.places.Judged.{range_takes}
use Rattle.paper_laws.proofs.sheets.Asked.{GoodHeld, sheet_good, good_space}
use Rattle.paper_laws.proofs.sheets.Strays.{free_stands}
use Rattle.paper_laws.proofs.sheets.LastChecked.{asked_before, asked_free}
use Rattle.paper_laws.proofs.saying.Saying.{ShortCode, Sayable, reads_back}
use Rattle.paper_laws.proofs.saying.Sayable.{sheet_sayable}
use Rattle.paper_catalogue.proofs.Local.{rule_bounds, rule_whole, rule_before, rule_unstray, rule_since}
use Rattle.paper_catalogue.proofs.Form.{LaidOut, zeros, rule, fit_own, fit_strays, is_fit, form_stands, rules_at_most, stands_form, zero_drop}
use Rattle.paper_catalogue.proofs.GoodRule.{GoodRule, rule_good}
use Rattle.paper_carry.specs.Opened.{written_out, spelt_held, with_open, opened, stands_asked, spelt_open, rule_saying, stands_ruled, held_open, rule_open, MadeBefore, NoneOpen}
use Rattle.paper_carry.specs.Spelling.{rules_open, longest_sheet, longest_rule, CarriedSheet, CarriedRule, CarriedCatalogue}
use Rattle.paper_carry.proofs.Opening.{opened_same}
use Rattle.paper_carry.proofs.Changed.{Stays, changed_free, changed_sayable, still_none, new_short, rule_changed, Written, rules_laid}
use Rattle.paper_carry.proofs.SameMeaning.{same_solutions, same_labels}
use Rattle.paper_carry.proofs.SaidBack.{said_back, rule_said_back}
use Rattle.paper_carry.proofs.Lengths.{sheet_length, rule_length, opened_longer}

-- the pattern written out is a good one, with a short code
out_good : (n : ℕ) → 0 < n → GoodHeld n (pattern (written_out n))
out_good n some = (range_takes n 0 (n - 1) (omega arith) (omega arith), omega arith)

pub open_stays : (n : ℕ) → 0 < n → Stays (with_open n) n
open_stays n some =
    record {
      good = λ b h g. cond_by (GoodHeld n) b (λ _. good_spelt h g) (λ _. g);
      short = λ b h k. cond_by ShortCode b (λ _. short_spelt h k) (λ _. k);
      none = refl;
    }
  where
    good_spelt : (h : Held) → GoodHeld n h → GoodHeld n (spelt_held n h)
    good_spelt some_text g = out_good n some
    good_spelt (pattern p) g = g

    short_spelt : (h : Held) → ShortCode h → ShortCode (spelt_held n h)
    short_spelt some_text k = omega arith
    short_spelt (pattern p) k = k

-- where every field with a pattern stood, every one does
open_free : (n : ℕ) (held : List Held) (side : Side) → length held ≡ fields → strays_of held side ≡ []
    → strays_of (opened n (λ (f : ℕ). stands_in f side) 0 held) side ≡ []
open_free n held side every free =
    changed_free (with_open n) held side every
    (λ f. by_bool (stands_in f side) (λ (s : stands_in f side ≡ true) e. s)
    (λ (s : stands_in f side ≡ false) e.
    by_bool (ltb f fields) (λ (k : ltb f fields ≡ true). free_stands held side free f (ltb_true f fields k) (rw s at e))
    (λ (k : ltb f fields ≡ false).
    let high = ltb_false f fields k in
    absurd (true_false (rw (s, get_or_high held f (omega (arith, every))) at e) refl))))
  where
    get_or_high : (l : List Held) (f : ℕ) → length l ≤ f → get_or l f some_text ≡ some_text
    get_or_high [] f h = refl
    get_or_high (x ∷ l) zero h = absurd (omega arith)
    get_or_high (x ∷ l) (suc f) h = get_or_high l f (omega arith)

-- Sheets.
module _ (s : List ℕ) (q : Question) (e : read_sheet s ≡ asked q) where
  new_sayable : Sayable (spelt_open q)
  new_sayable =
      let old = sheet_sayable s q e in
      let n = q.alphabet.characters in
      changed_sayable (with_open n) q (open_stays n (omega (arith, good_space old.good))) old

  pub sheet_carried : CarriedSheet q (sheet_saying (spelt_open q))
  sheet_carried =
      record {
        new = spelt_open q;
        asks = reads_back (spelt_open q) new_sayable
            (open_free q.alphabet.characters q.held (q.left ++ q.right) (sheet_good s q e).held.each_field (asked_free s q e));
        same_left = refl;
        same_right = refl;
        same_solutions = same_solutions q (sheet_good s q e);
      }

  pub sheet_fits : length (sheet_saying (spelt_open q)) ≤ longest_sheet
  sheet_fits = sheet_length (spelt_open q) new_sayable

  pub sheet_same : NoneOpen (stands_asked q) q.held → sheet_saying (spelt_open q) ≡ s
  sheet_same none =
      let same = opened_same q.alphabet.characters (stands_asked q) q.held none in
      ap sheet_saying (λ i. record { alphabet = q.alphabet; left = q.left; right = q.right; held = same i }) ∙ said_back s q (asked_before s q e)

-- Rules.
abbrev rule_stays : Stays (with_open characters) characters
rule_stays = open_stays characters (omega arith)

module _ (r : Rule) (good : GoodRule r) where
  pub rule_fits : length (rule_open r) ≤ longest_rule
  unfolding rule_open
  rule_fits =
      rule_length (held_open r) r.side (new_short (with_open characters) rule_stays r good) (still_none (with_open characters) rule_stays r good) good.short

  module _ (own : foreign_field r ≡ false) (free : rule_strays r ≡ []) where
    pub rule_carried : CarriedRule r (rule_open r)
    unfolding rule_open
    rule_carried =
        let x = rule_changed (with_open characters) rule_stays r good own in
        record {
          new = x.new;
          reads = rule_since (rule_saying (held_open r) r.side) x.reads
              (rw (x.its_side, x.its_held) (open_free characters r.fields.held r.side good.held.each_field free));
          own_fields = x.own_fields;
          same_side = x.its_side;
          same_labels = same_labels r x.new good x.its_side x.its_held;
        }

pub rule_same : (s : List ℕ) {r : Rule} {n : ℕ} → read_rule s ≡ records r n → NoneOpen (stands_ruled r) r.fields.held → rule_open r ≡ s
unfolding rule_open
rule_same s {r} {n} e none =
    let (front, all) = rule_whole s (rule_before s e) in
    ap (λ (l : List Held). rule_saying l r.side) (opened_same characters (stands_ruled r) r.fields.held none)
    ∙ rule_said_back s front ∙ take_all n s (omega (arith, all))

-- A catalogue: its rules one behind the other, then zeros.
abbrev LikeLabels : Rule → Rule → Type 0
LikeLabels r new = (w : List ℕ) → MadeBefore r w ↔ Makes new w

rule_written : (r : Rule) → GoodRule r → unfit r ≡ false → Written LikeLabels r (rule_open r)
rule_written r good fit =
    let c = rule_carried r good (fit_own r fit) (fit_strays r fit) in
    record {
      new = c.new;
      reads = rule_before (rule_open r) c.reads;
      fits = is_fit c.new c.own_fields (rule_unstray (rule_open r) c.reads);
      so = c.same_labels;
    }

-- nothing becomes shorter
rule_longer : (s : List ℕ) {r : Rule} {n : ℕ} → rule_front s ≡ records r n → n ≤ length (rule_open r)
unfolding rule_open
rule_longer s {r} {n} e =
    let (low, high) = rule_bounds s e in
    let was = ap length (rule_said_back s e) in
    let held = r.fields.held in
    omega (
      arith,
      was,
      length-take-le n s high,
      opened_longer edition_1 characters (stands_ruled r) held 0,
      length-append (patterns_saying edition_1 0 held) (side_saying edition_1 LE r.side),
      length-append (patterns_saying edition_1 0 (held_open r)) (side_saying edition_1 LE r.side),
    )

rules_longer : {s : List ℕ} {l : List Present} → LaidOut unfit s l → used l ≤ length (rules_open l)
unfolding rules_open
rules_longer (zeros z) = omega arith
rules_longer (rule {s = s} {r = r} {l = l} e own rest) =
    omega (arith, rules_longer rest, rule_longer s e, length-append (rule_open r) (rules_open l))

rules_length : {s : List ℕ} {l : List Present} → LaidOut unfit s l → length (rules_open l) ≤ length l * longest_rule
unfolding rules_open
rules_length (zeros z) = omega arith
rules_length (rule {s = s} {r = r} {l = l} e own rest) =
    omega (arith, rules_length rest, rule_fits r (rule_good s e (fit_own r own)), length-append (rule_open r) (rules_open l), suc-mul (length l) longest_rule)

module _ (c : List ℕ) {l : List Present} (e : form c ≡ rules l) where
  pub rules_fit : length (rules_open l) ≤ length l * longest_rule
  rules_fit = rules_length (form_stands c e)

  zero_behind : all_zero (drop (length (rules_open l)) c) ≡ true
  zero_behind = behind_zero (form_stands c e) (length (rules_open l)) (rules_longer (form_stands c e))
    where
      behind_zero : {s : List ℕ} {m : List Present} → LaidOut unfit s m → (k : ℕ) → used m ≤ k → all_zero (drop k s) ≡ true
      behind_zero (zeros {s = s} z) k h = zero_drop k s z
      behind_zero (rule {s = s} {n = n} {l = m} f own rest) k h =
          let (i, there) = split n k (used m) h in
          rw (there, ← (drop-drop i n s)) (behind_zero rest i (omega (arith, there)))
        where
          split : (n k u : ℕ) → n + u ≤ k → (i : ℕ) × (k ≡ n + i)
          split zero k u h = (k, omega arith)
          split (suc n) zero u h = absurd (omega arith)
          split (suc n) (suc k) u h = let (i, e) = split n k u (omega arith) in (i, omega (arith, e))

  pub rules_carried : CarriedCatalogue l (rules_open l ++ drop (length (rules_open l)) c)
  unfolding rules_open
  rules_carried =
      let x = rules_laid LikeLabels rule_open unfit rule_written fit_own (form_stands c e) (drop (length (rules_open l)) c) zero_behind in
      record {
        new = x.new;
        of_form = stands_form x.laid (omega (arith, x.as_many, rules_at_most c e));
        as_many = x.as_many;
        same_labels = x.so;
      }
