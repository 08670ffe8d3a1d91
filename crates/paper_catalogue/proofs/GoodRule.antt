-- Good rules: what every rule has that was read and names no foreign field.
--   rule_good     : rule_front s ≡ records r n → foreign_field r ≡ false → GoodRule r
--   before_good   : read_rule_before s ≡ records r n → foreign_field r ≡ false → GoodRule r
--   new_good      : read_rule s ≡ records r n → foreign_field r ≡ false → GoodRule r
--   present_good : form catalogue ≡ rules l → each rule of l is good
--   own_field     : a field that stands in a good rule's side is one of its own
--   pair_sayable  : GoodRule r → GoodRule s → Sayable (pair r s)
--   pair_asks     : GoodRule r → GoodRule s → AsksGood (asked (pair r s))
-- Its tokens are 01's characters and its own fields, its side has at most 24 of them, a pattern has at most 63 leaves and 192 bytes of code, and
-- the fields that are not its own are open.
-- Follows from the checks on the records, as for a good question (`Asked`), from the test for 31, and from the form as a relation (`LaidOut`).
use Prim.Native.Nat.{ℕ, zero, suc, ◌+◌, ◌≤◌, ◌<◌}
use native.Mathlib.Omega.{arith}
use mathlib.Core.Path.{◌≡◌, refl, sym, ◌∙◌, subst}
use mathlib.Core.Bool.{Bool, true, false}
use mathlib.Core.List.Memᴰ
use mathlib.Core.List.{List, [], ◌∷◌, ◌++◌, Memᴰ}
use lib.Dec.{ltb}
use lib.ListN.{length, get_or, take, drop, length-append, length-take, length-map}
use lib.Seq.{get_or-set_other}
use Rattle.paper.specs.Lists.{any}
use Rattle.paper.specs.Numbers.{characters, fields, rule_fields, sheet_side}
use Rattle.paper.proofs.base.Tests.{cond_by, true_false, or_left_false, or_right_false, ltb_false, leb_false, eqb_true}
use Rattle.paper.proofs.base.Lists.{mem_cons_by, any_true, any_false, mem_map}
use Rattle.paper.specs.Pattern.{Held, some_text, pattern}
use Rattle.paper.specs.Equation.{Token, chr, fld, Side, is_field, stands_in}
use Rattle.paper.specs.Alphabet.{edition_1, code}
use Rattle.paper.specs.Sheet.{Checked, fault, read, FieldPattern, byte_at, body, body_codes, LE, RU, marked, marked_side}
use Rattle.paper.specs.Sheet.{Records, faulty, records, Fields, open_fields, with_pattern, read_patterns, asked}
use Rattle.paper.specs.Rule.{Rule, rule_holds, with_side, side_read, rule_front, read_rule_before, read_rule, foreign_token, foreign_field, moved_up, pair}
use Rattle.paper_catalogue.specs.Catalogue.{Present, rules, form}
use Rattle.paper_laws.proofs.sheets.Asked.{InRange, GoodSide, GoodHeld, GoodFields, GoodQuestion, AsksGood, Found, PatternRead, set_by, open_by}
use Rattle.paper_laws.proofs.sheets.Asked.{fields_with, opens_good, Listed, patterns_by, marked_good}
use Rattle.paper_laws.proofs.saying.Code.{judged_code}
use Rattle.paper_laws.proofs.saying.Saying.{ShortCode, Sayable}
use Rattle.paper_catalogue.proofs.Local.{rule_whole, rule_before}
use Rattle.paper_catalogue.proofs.Form.{LaidOut, zeros, rule, fit_own, form_stands}

-- "its own fields, numbered 0 to 3"
abbrev pub OwnToken : Token → Type 0
OwnToken (chr c) = c < characters
OwnToken (fld f) = f < rule_fields

pub record GoodRule (r : Rule) : Type 0 where
  pub tokens : (t : Token) → Memᴰ t r.side → OwnToken t
  pub short : length r.side ≤ sheet_side
  pub held : GoodFields characters r.fields.held
  pub codes : (f : ℕ) → ShortCode (rule_holds r f)
  pub not_own : (f : ℕ) → rule_fields ≤ f → rule_holds r f ≡ some_text

-- The patterns' records: besides what a good question has, each code is short, and above the last pattern's field every field is open.
record GoodPatterns (fs : Fields) : Type 0 where
  held : GoodFields characters fs.held
  codes : (f : ℕ) → ShortCode (get_or fs.held f some_text)
  above : (f : ℕ) → fs.above ≤ f → get_or fs.held f some_text ≡ some_text

short_code : (s : List ℕ) (at least : ℕ) (fp : FieldPattern) → PatternRead edition_1 s at least fp → ShortCode (pattern fp.its)
short_code s at least fp h =
    let n = byte_at s (at + 3) in
    rw (judged_code (body_codes edition_1 s (at + 4) n) h.its_bytes, length-map (body s (at + 4) n) (code edition_1), length-take n (drop (at + 4) s)) (omega (arith, h.short))

one_pattern : (s : List ℕ) (at : ℕ) (fs : Fields) (fp : FieldPattern) → GoodPatterns fs → PatternRead edition_1 s at fs.above fp
    → GoodPatterns (with_pattern fs at fp)
one_pattern s at fs fp h g =
    record {
      held = fields_with edition_1 s at fs fp h.held g;
      codes = set_by ShortCode fs.held fp.field (pattern fp.its) (short_code s at fs.above fp g) h.codes;
      above = λ f k.
          let rises = g.rises in
          get_or-set_other fs.held fp.field f (pattern fp.its) some_text (λ (e : f ≡ fp.field). omega arith) ∙ h.above f (omega arith);
    }

no_pattern_yet : GoodPatterns open_fields
no_pattern_yet =
    record { held = opens_good characters; codes = open_by ShortCode tt fields; above = λ f k. open_by (λ (x : Held). x ≡ some_text) refl fields f }

-- A rule that was read, whatever fields it names.
record RuleRead (r : Rule) : Type 0 where
  side : GoodSide characters r.side
  patterns : GoodPatterns r.fields

with_side_read : (fs : Fields) (x : Checked Side) → GoodPatterns fs → Found (GoodSide characters) x → Listed RuleRead (with_side fs x)
with_side_read fs (fault x at) h g = tt
with_side_read fs (read side next) h g = record { side = g; patterns = h }

side_behind : (s : List ℕ) (x : Records Fields) → Listed GoodPatterns x → Listed RuleRead (side_read s x)
side_behind s (faulty x at) h = tt
side_behind s (records fs at) h = with_side_read fs (marked_side edition_1 LE s at) h (marked_good edition_1 LE s at)

rule_read : (s : List ℕ) → Listed RuleRead (rule_front s)
unfolding rule_front
rule_read s =
    cond_by (Listed RuleRead) (ltb (length s) 2) (λ _. tt)
    (λ _. cond_by (Listed RuleRead) (marked RU s 0)
    (λ _. side_behind s (read_patterns edition_1 (suc (length s)) s 2 open_fields)
    (patterns_by edition_1 GoodPatterns one_pattern (suc (length s)) s 2 open_fields no_pattern_yet))
    (λ _. tt))

own_token : (t : Token) → InRange characters t → foreign_token t ≡ false → OwnToken t
own_token (chr c) h e = h
own_token (fld f) h e = leb_false rule_fields f e

read_good : (r : Rule) → RuleRead r → foreign_field r ≡ false → GoodRule r
unfolding foreign_field
read_good r h own =
    let above = r.fields.above in
    let last = ltb_false rule_fields above (or_left_false (ltb rule_fields above) (any foreign_token r.side) own) in
    let tokens = or_right_false (ltb rule_fields above) (any foreign_token r.side) own in
    record {
      tokens = λ t d. own_token t (h.side.tokens t d) (any_false foreign_token r.side tokens d);
      short = h.side.short;
      held = h.patterns.held;
      codes = h.patterns.codes;
      not_own = λ f k. h.patterns.above f (omega arith);
    }

-- The rule at the front of the bytes, and a rule by itself.
pub rule_good : (s : List ℕ) {r : Rule} {n : ℕ} → rule_front s ≡ records r n → foreign_field r ≡ false → GoodRule r
rule_good s {r} e own = read_good r (subst (Listed RuleRead) e (rule_read s)) own

pub before_good : (s : List ℕ) {r : Rule} {n : ℕ} → read_rule_before s ≡ records r n → foreign_field r ≡ false → GoodRule r
before_good s e own = rule_good s (rule_whole s e).0 own

pub new_good : (s : List ℕ) {r : Rule} {n : ℕ} → read_rule s ≡ records r n → foreign_field r ≡ false → GoodRule r
new_good s e own = before_good s (rule_before s e) own

-- Each rule that stands in a catalogue is good.
pub stands_good : {u : Rule → Bool} → ((r : Rule) → u r ≡ false → foreign_field r ≡ false) → {s : List ℕ} {l : List Present} → LaidOut u s l → (t : Present) → Memᴰ t l → GoodRule t.rule
stands_good own_of_lem (zeros z) t d = absurd (Memᴰ.not-nil d)
stands_good own_of_lem (rule {s = s} {r = r} e fit h) t d =
    mem_cons_by (λ (p : Present). GoodRule p.rule) (rule_good s e (own_of_lem r fit)) (λ p i. stands_good own_of_lem h p i) t d

pub present_good : (catalogue : List ℕ) {l : List Present} → form catalogue ≡ rules l → (t : Present) → Memᴰ t l → GoodRule t.rule
present_good catalogue e = stands_good fit_own (form_stands catalogue e)

-- A field that stands in its side is its own.
pub own_field : (r : Rule) → GoodRule r → (f : ℕ) → stands_in f r.side ≡ true → f < rule_fields
own_field r good f e =
    let (t, d, k) = any_true (is_field f) r.side e in below t k (good.tokens t d)
  where
    below : (t : Token) → is_field f t ≡ true → OwnToken t → f < rule_fields
    below (chr c) k h = absurd (true_false k refl)
    below (fld g) k h = rw (eqb_true f g k) h

-- Pairs.
pub own_in_range : (t : Token) → OwnToken t → InRange characters t
own_in_range (chr c) h = h
own_in_range (fld f) h = omega arith

moved_in_range : (t : Token) → OwnToken t → InRange characters (moved_up t)
moved_in_range (chr c) h = h
moved_in_range (fld f) h = omega arith

-- what is so of all that the fields may hold, where the first fields are taken, and where others are put behind them
module _ (P : Held → Type 0) where
  take_by : P some_text → (n : ℕ) (held : List Held) → ((f : ℕ) → P (get_or held f some_text)) → (f : ℕ) → P (get_or (take n held) f some_text)
  take_by g zero held h f = g
  take_by g (suc n) [] h f = g
  take_by g (suc n) (x ∷ held) h zero = h zero
  take_by g (suc n) (x ∷ held) h (suc f) = take_by g n held (λ k. h (suc k)) f

  append_by : (l m : List Held) → ((f : ℕ) → P (get_or l f some_text)) → ((f : ℕ) → P (get_or m f some_text)) → (f : ℕ) → P (get_or (l ++ m) f some_text)
  append_by [] m h k f = k f
  append_by (x ∷ l) m h k zero = h zero
  append_by (x ∷ l) m h k (suc f) = append_by l m (λ i. h (suc i)) k f

pub own_held : (r : Rule) → GoodRule r → length (take rule_fields r.fields.held) ≡ rule_fields
own_held r good = rw (length-take rule_fields r.fields.held, good.held.each_field)

module _ (r s : Rule) (good-r : GoodRule r) (good-s : GoodRule s) where
  pair_held : (P : Held → Type 0) → P some_text → ((f : ℕ) → P (rule_holds r f)) → ((f : ℕ) → P (rule_holds s f))
      → (f : ℕ) → P (get_or (pair r s).held f some_text)
  unfolding pair
  pair_held P g h k =
      append_by P (take rule_fields r.fields.held) (take rule_fields s.fields.held)
      (take_by P g rule_fields r.fields.held h) (take_by P g rule_fields s.fields.held k)

  pub pair_sayable : Sayable (pair r s)
  unfolding pair
  pair_sayable =
      let sum = length-append (take rule_fields r.fields.held) (take rule_fields s.fields.held) in
      let four-r = own_held r good-r in
      let four-s = own_held s good-s in
      record {
        good = record {
          alphabet = refl;
          left = record { tokens = λ t d. own_in_range t (good-r.tokens t d); short = good-r.short };
          right = record {
            tokens = λ t d. let (u, i, e) = mem_map moved_up s.side d in subst (InRange characters) (sym e) (moved_in_range u (good-s.tokens u i));
            short = rw (length-map s.side moved_up) good-s.short;
          };
          held = record { each_field = omega arith; good = pair_held (GoodHeld characters) tt good-r.held.good good-s.held.good };
        };
        codes = pair_held ShortCode tt good-r.codes good-s.codes;
      }

  pub pair_asks : AsksGood (asked (pair r s))
  pair_asks q e = let same : pair r s ≡ q = cc in subst GoodQuestion same pair_sayable.good
