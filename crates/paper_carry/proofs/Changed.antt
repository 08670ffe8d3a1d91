-- A question and a rule whose fields are changed by whether they stand: the new one can be said, and what is said is read again; and a catalogue
-- whose rules are.
--   changed_sayable : Sayable q → Sayable (question_changed how q)
--   changed_free    : where only fields that stand have a pattern then, none is stray
--   rule_changed    : the rule's new bytes are read as a rule of the same side
--   rules_laid      : a catalogue's rules, each written anew, one behind the other, then zeros
-- Follows from the laws by which a sheet and a rule are read back, and from the form of a catalogue as a relation (`LaidOut`).
use Prim.Native.Nat.{ℕ, zero, suc, ◌+◌, ◌≤◌, ◌<◌}
use native.Mathlib.Nat.{zero-add}
use native.Mathlib.Omega.{arith}
use mathlib.Core.Path.{◌≡◌, refl, sym, ap, ◌∙◌}
use mathlib.Core.Bool.{Bool, true, false}
use mathlib.Core.List.{List, [], ◌∷◌, ◌++◌, append_assoc}
use lib.Dec.{ltb}
use lib.ListN.{length, get_or, drop}
use lib.Seq.{drop_at}
use Rattle.paper.specs.Lists.{any, each}
use Rattle.paper.specs.Numbers.{characters, fields, rule_fields}
use Rattle.paper.specs.Pattern.{Held, some_text}
use Rattle.paper.specs.Equation.{Side, stands_in}
use Rattle.paper.specs.Question.{Question}
use Rattle.paper.specs.Sheet.{has_pattern, strays_of, records}
use Rattle.paper.specs.Rule.{Rule, rule_holds, read_rule_before, foreign_token, foreign_field}
use Rattle.paper_catalogue.specs.Catalogue.{Present, unfit, all_zero}
use Rattle.paper_catalogue.specs.Calls.{rule_at}
use Rattle.paper.proofs.base.Tests.{by_bool, le_ltb, or_right_false}
use Rattle.paper_laws.proofs.sheets.Asked.{GoodHeld, GoodFields, GoodSide}
use Rattle.paper_laws.proofs.sheets.Strays.{stray_free}
use Rattle.paper_laws.proofs.saying.Saying.{ShortCode, Sayable}
use Rattle.paper_catalogue.proofs.Local.{rule_whole, rule_in_front}
use Rattle.paper_catalogue.proofs.Form.{LaidOut, zeros, rule}
use Rattle.paper_catalogue.proofs.GoodRule.{GoodRule, rule_good, own_field, own_in_range}
use Rattle.paper_carry.specs.Opened.{changed, stands_asked, question_changed, rule_saying, stands_ruled, held_changed}
use Rattle.paper_carry.proofs.Opening.{changed_length, changed_at, changed_by, changed_still}
use Rattle.paper_carry.proofs.SaidBack.{rule_top}
use Rattle.paper_carry.proofs.RuleRead.{rule_reads}

-- what a change leaves as it was, of an alphabet of n characters: good patterns are good, short codes short, and a field without a pattern that
-- doesn't stand has none
pub record Stays (how : Bool → Held → Held) (n : ℕ) : Type 0 where
  pub good : (b : Bool) (h : Held) → GoodHeld n h → GoodHeld n (how b h)
  pub short : (b : Bool) (h : Held) → ShortCode h → ShortCode (how b h)
  pub none : how false some_text ≡ some_text

-- Only fields that stand have a pattern then.
pub changed_free : (how : Bool → Held → Held) (held : List Held) (side : Side) → length held ≡ fields
    → ((f : ℕ) → has_pattern (how (stands_in f side) (get_or held f some_text)) ≡ true → stands_in f side ≡ true)
    → strays_of (changed how (λ (f : ℕ). stands_in f side) 0 held) side ≡ []
changed_free how held side every h =
    stray_free (changed how (λ (f : ℕ). stands_in f side) 0 held) side
    (λ f k e.
    let its : get_or (changed how (λ (f : ℕ). stands_in f side) 0 held) f some_text ≡ how (stands_in f side) (get_or held f some_text) =
    changed_at how (λ (f : ℕ). stands_in f side) held 0 f (omega (arith, every)) ∙ ap (λ (k : ℕ). how (stands_in k side) (get_or held f some_text)) (zero-add f) in
    h f (ap has_pattern (sym its) ∙ e))

-- A sheet.
pub changed_sayable : (how : Bool → Held → Held) (q : Question) → Stays how q.alphabet.characters → Sayable q → Sayable (question_changed how q)
changed_sayable how q stays old =
    record {
      good = record {
        alphabet = old.good.alphabet;
        left = old.good.left;
        right = old.good.right;
        held = record {
          each_field = changed_length how (stands_asked q) q.held 0 ∙ old.good.held.each_field;
          good = changed_by how (stands_asked q) (GoodHeld q.alphabet.characters) stays.good q.held 0 old.good.held.good;
        };
      };
      codes = changed_by how (stands_asked q) ShortCode stays.short q.held 0 old.codes;
    }

-- A rule.
pub record RuleChanged (r : Rule) (held : List Held) : Type 0 where
  pub new : Rule
  pub reads : read_rule_before (rule_saying held r.side) ≡ records new (length (rule_saying held r.side))
  pub own_fields : foreign_field new ≡ false
  pub its_side : new.side ≡ r.side
  pub its_held : new.fields.held ≡ held

module _ (how : Bool → Held → Held) (stays : Stays how characters) (r : Rule) (good : GoodRule r) where
  own_stands : (f : ℕ) → rule_fields ≤ f → stands_ruled r f ≡ false
  own_stands f h = by_bool (stands_ruled r f) (λ k. let l = own_field r good f k in absurd (omega arith)) (λ k. k)

  pub still_none : (f : ℕ) → rule_fields ≤ f → get_or (held_changed how r) f some_text ≡ some_text
  still_none f h =
      changed_still how (stands_ruled r) r.fields.held 0 f
      (ap (λ (b : Bool). how b some_text) (ap (stands_ruled r) (zero-add f) ∙ own_stands f h) ∙ stays.none) (good.not_own f h)

  new_fields : GoodFields characters (held_changed how r)
  new_fields =
      record {
        each_field = changed_length how (stands_ruled r) r.fields.held 0 ∙ good.held.each_field;
        good = changed_by how (stands_ruled r) (GoodHeld characters) stays.good r.fields.held 0 good.held.good;
      }

  pub new_short : (f : ℕ) → ShortCode (get_or (held_changed how r) f some_text)
  new_short = changed_by how (stands_ruled r) ShortCode stays.short r.fields.held 0 good.codes

  good_side : GoodSide characters r.side
  good_side = record { tokens = λ t d. own_in_range t (good.tokens t d); short = good.short }

  pub rule_changed : foreign_field r ≡ false → RuleChanged r (held_changed how r)
  unfolding foreign_field
  rule_changed own =
      let held = held_changed how r in
      let read = rule_reads held r.side new_fields new_short good_side in
      let new = read.new in
      let (front, all) = rule_whole (rule_saying held r.side) read.reads in
      let none : (f : ℕ) → rule_fields ≤ f → rule_holds new f ≡ some_text =
      λ f h. ap (λ (l : List Held). get_or l f some_text) read.its_held ∙ still_none f h in
      let low = rule_top (rule_saying held r.side) front rule_fields none in
      record {
        new = new;
        reads = read.reads;
        own_fields =
            rw (le_ltb rule_fields new.fields.above low, read.its_side)
            (or_right_false (ltb rule_fields r.fields.above) (any foreign_token r.side) own);
        its_side = read.its_side;
        its_held = read.its_held;
      }

-- A catalogue: each of its rules written anew, and of the old rule and the new one is so what is to be.
pub record Written (P : Rule → Rule → Type 0) (r : Rule) (bytes : List ℕ) : Type 0 where
  pub new : Rule
  pub reads : read_rule_before bytes ≡ records new (length bytes)
  pub fits : unfit new ≡ false
  pub so : P r new

pub record Laid (P : Rule → Rule → Type 0) (l : List Present) (t : List ℕ) : Type 0 where
  pub new : List Present
  pub laid : LaidOut unfit t new
  pub as_many : length new ≡ length l
  pub so : (i : ℕ) → i < length l → P (rule_at l i) (rule_at new i)

module _ (P : Rule → Rule → Type 0) (write : Rule → List ℕ) (u : Rule → Bool)
    (one : (r : Rule) → GoodRule r → u r ≡ false → Written P r (write r)) (own_of_lem : (r : Rule) → u r ≡ false → foreign_field r ≡ false) where
  abbrev all_written : List Present → List ℕ
  all_written l = each (λ (p : Present). write p.rule) l

  pub rules_laid : {s : List ℕ} {l : List Present} → LaidOut u s l → (zs : List ℕ) → all_zero zs ≡ true → Laid P l (all_written l ++ zs)
  rules_laid (zeros z) zs h =
      record { new = []; laid = zeros {s = zs} h; as_many = refl; so = λ (i : ℕ) (k : i < 0). absurd (omega arith) }
  rules_laid (rule {s = s} {r = r} {n = n} {l = l} e fit rest) zs h =
      let c = one r (rule_good s e (own_of_lem r fit)) fit in
      let bytes = write r in
      let more = rules_laid rest zs h in
      let behind = all_written l ++ zs in
      record {
        new = record { rule = c.new; bytes = length bytes } ∷ more.new;
        laid =
            rw (append_assoc bytes (all_written l) zs)
            (rule {l = more.new} (rule_in_front bytes c.reads behind) c.fits (rw (drop_at bytes behind (length bytes) refl) more.laid));
        as_many = ap suc more.as_many;
        so = λ i k. by_number r l c.new (length bytes) more.new n c.so more.so i k;
      }
    where
      by_number : (r : Rule) (l : List Present) (x : Rule) (m : ℕ) (y : List Present) (n : ℕ) → P r x
          → ((i : ℕ) → i < length l → P (rule_at l i) (rule_at y i)) → (i : ℕ) → i < suc (length l)
          → P (rule_at (record { rule = r; bytes = n } ∷ l) i) (rule_at (record { rule = x; bytes = m } ∷ y) i)
      by_number r l x m y n a b zero k = a
      by_number r l x m y n a b (suc i) k = b i (omega arith)
