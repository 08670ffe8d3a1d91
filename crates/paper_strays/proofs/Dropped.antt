-- What is written without stray patterns: it is read by the rule of today, every answer about it stays as it was, it is no longer than it was, and it
-- is the same bytes where there was none.
--   sheet_dropped, sheet_shorter, sheet_kept         : of a sheet
--   rule_dropped, rule_shorter, rule_as_it_was       : of a rule
--   rules_dropped, rules_shorter, rules_as_they_were : of a catalogue
-- Follows from the laws of a change by which fields stand (`Changed` of `paper_carry`), and from the answers that go by the standing fields alone.
use Prim.Native.Nat.{ℕ, zero, suc, ◌+◌, ◌-◌, ◌≤◌, ◌<◌}
use native.Mathlib.Nat.{zero-add}
use native.Mathlib.Omega.{arith}
use mathlib.Core.Path.{◌≡◌, refl, sym, ap, ◌∙◌, subst}
use mathlib.Core.Logic.{◌↔◌}
use mathlib.Core.Bool.{Bool, true, false, cond}
use mathlib.Core.List.{List, [], ◌∷◌, ◌++◌, map}
use lib.Dec.{ltb}
use lib.ListN.{length, get_or, take, drop, replicate, length-append, take-append-drop}
use lib.Seq.{take_all, take-add, length-take-le}
use Rattle.paper.specs.Lists.{each}
use Rattle.paper.specs.Numbers.{characters, fields}
use Rattle.paper.specs.Pattern.{Held, some_text, pattern, Holds}
use Rattle.paper.specs.Alphabet.{Edition, edition_1, edition_of}
use Rattle.paper.specs.Places.{PlaceSet}
use Rattle.paper.specs.Search.{State}
use Rattle.paper.specs.Situation.{Situation, Move}
use Rattle.paper.specs.Equation.{Side, stands_in}
use Rattle.paper.specs.Question.{Question, held_by, hidden}
use Rattle.paper.specs.Sheet.{has_pattern, strays, strays_of, records, asked, read_before, LE, RI}
use Rattle.paper.specs.Rule.{Rule, rule_holds, rule_strays, Makes, moved_up, pair, rule_front, read_rule_before, read_rule, foreign_field}
use Rattle.paper.specs.Saying.{pattern_saying, patterns_saying, side_saying, edition_laid, edition_byte, sheet_saying}
use Rattle.paper.specs.Outcome.{searched, count_of, how_of}
use Rattle.paper_decide.specs.Deciding.{Conclusion, concluded}
use Rattle.paper_catalogue.specs.PairAsking.{pair_number, pair_answer, pair_count, by_search}
use Rattle.paper_catalogue.specs.Catalogue.{Present, rules, unfit, form, form_before, used}
use Rattle.paper_catalogue_decide.specs.DecidedPairs.{pair_decided, by_deciding}
use Rattle.paper_carry.specs.Opened.{changed, stands_asked, rule_saying, stands_ruled}
use Rattle.paper_strays.specs.Kept.{if_it_stands, without_strays, held_kept, rule_kept, rules_kept}
use Rattle.paper_strays.specs.Dropping.{DroppedSheet, DroppedRule, DroppedCatalogue}
use Rattle.paper.proofs.base.Tests.{by_bool, cond_by, true_false, ltb_true, ltb_false}
use Rattle.paper_laws.proofs.sheets.Asked.{GoodHeld, GoodQuestion, fields_known, before_good}
use Rattle.paper_laws.proofs.sheets.Strays.{free_stands}
use Rattle.paper_laws.proofs.sheets.SameAnswers.{hidden_agree, outcome_same}
use Rattle.paper_laws.proofs.equations.SameHeld.{with_held, searched_same}
use Rattle.paper_laws.proofs.saying.SaidParts.{said_parts}
use Rattle.paper_laws.proofs.saying.Saying.{ShortCode, Sayable, reads_back}
use Rattle.paper_laws.proofs.saying.Sayable.{before_sayable}
use Rattle.paper_catalogue.proofs.Local.{rule_bounds, rule_whole, rule_since}
use Rattle.paper_catalogue.proofs.Form.{LaidOut, zeros, rule, fit_own, fit_strays, is_fit, stands_by, stands_form, zero_bytes, inside, rest}
use Rattle.paper_catalogue.proofs.GoodRule.{GoodRule, rule_good, own_field, pair_sayable}
use Rattle.paper_catalogue.proofs.GoodRule as Rules
use Rattle.paper_catalogue.proofs.Pair.{held_present, held_new, by_rule}
use Rattle.paper_carry.proofs.Opening.{changed_at, changed_same}
use Rattle.paper_carry.proofs.Changed.{Stays, changed_free, changed_sayable, rule_changed, Written, Laid, rules_laid}
use Rattle.paper_carry.proofs.SaidBack.{said_back, rule_said_back}
use Rattle.paper_strays.proofs.SameDecision.{conclusion_same, decision_same}
use Rattle.paper_strays.proofs.SameEngine.{engine_same, needs_same}

pub kept_stays : (n : ℕ) → Stays if_it_stands n
kept_stays n =
    record {
      good = λ b h g. cond_by (GoodHeld n) b (λ _. g) (λ _. tt);
      short = λ b h k. cond_by ShortCode b (λ _. k) (λ _. tt);
      none = refl;
    }

-- only fields that stand have a pattern then
kept_free : (held : List Held) (side : Side) → length held ≡ fields → strays_of (changed if_it_stands (λ (f : ℕ). stands_in f side) 0 held) side ≡ []
kept_free held side every =
    changed_free if_it_stands held side every
    (λ f. by_bool (stands_in f side) (λ (s : stands_in f side ≡ true) e. s)
    (λ (s : stands_in f side ≡ false) e. absurd (true_false (rw s at e) refl)))

-- a field that stands holds what it held
kept_at : (held : List Held) (side : Side) (f : ℕ) → f < length held → stands_in f side ≡ true
    → get_or (changed if_it_stands (λ (f : ℕ). stands_in f side) 0 held) f some_text ≡ get_or held f some_text
kept_at held side f k e =
    changed_at if_it_stands (λ (f : ℕ). stands_in f side) held 0 f k
    ∙ ap (λ (n : ℕ). if_it_stands (stands_in n side) (get_or held f some_text)) (zero-add f) ∙ ap (λ (b : Bool). if_it_stands b (get_or held f some_text)) e

-- where every field with a pattern stands, nothing changes
kept_same : (held : List Held) (side : Side) → length held ≡ fields → strays_of held side ≡ [] → changed if_it_stands (λ (f : ℕ). stands_in f side) 0 held ≡ held
kept_same held side every free =
    changed_same if_it_stands (λ (f : ℕ). stands_in f side) held
    (λ f. by_bool (stands_in f side) (λ (s : stands_in f side ≡ true). rw s)
    (λ (s : stands_in f side ≡ false). rw s (sym (none f (get_or held f some_text) refl s))))
  where
    past : (l : List Held) (f : ℕ) → length l ≤ f → get_or l f some_text ≡ some_text
    past [] f h = refl
    past (x ∷ l) zero h = absurd (omega arith)
    past (x ∷ l) (suc f) h = past l f (omega arith)

    open_held : (h : Held) → (has_pattern h ≡ true → ⊥) → h ≡ some_text
    open_held some_text n = refl
    open_held (pattern p) n = absurd (n refl)

    none : (f : ℕ) (h : Held) → get_or held f some_text ≡ h → stands_in f side ≡ false → h ≡ some_text
    none f h e s =
        by_bool (ltb f fields)
        (λ (k : ltb f fields ≡ true).
        open_held h (λ p. true_false (free_stands held side free f (ltb_true f fields k) (ap has_pattern e ∙ p)) s))
        (λ (k : ltb f fields ≡ false). sym e ∙ past held f (omega (arith, every, ltb_false f fields k)))

-- nothing becomes longer
field_shorter : (e : Edition) (f : ℕ) (b : Bool) (h : Held) → length (pattern_saying e f (if_it_stands b h)) ≤ length (pattern_saying e f h)
field_shorter e f true h = omega arith
field_shorter e f false h = omega arith

patterns_shorter : (e : Edition) (stands : ℕ → Bool) (held : List Held) (f : ℕ)
    → length (patterns_saying e f (changed if_it_stands stands f held)) ≤ length (patterns_saying e f held)
patterns_shorter e stands [] f = omega arith
patterns_shorter e stands (h ∷ held) f =
    let x = if_it_stands (stands f) h in
    omega (
      arith,
      patterns_shorter e stands held (suc f),
      field_shorter e f (stands f) h,
      length-append (pattern_saying e f h) (patterns_saying e (suc f) held),
      length-append (pattern_saying e f x) (patterns_saying e (suc f) (changed if_it_stands stands (suc f) held)),
    )

-- Sheets.
module _ (s : List ℕ) (q : Question) (e : read_before s ≡ asked q) where
  old_sayable : Sayable q
  old_sayable = before_sayable s q e

  good : GoodQuestion q
  good = old_sayable.good

  every : length q.held ≡ fields
  every = good.held.each_field

  agree : (f : ℕ) → stands_in f (q.left ++ q.right) ≡ true → held_by q f ≡ get_or (without_strays q).held f some_text
  agree f k = sym (kept_at q.held (q.left ++ q.right) f (omega (arith, every, fields_known q good f k)) k)

  pub sheet_dropped : DroppedSheet q (sheet_saying (without_strays q))
  sheet_dropped =
      let held = (without_strays q).held in
      record {
        new = without_strays q;
        asks = reads_back (without_strays q) (changed_sayable if_it_stands q (kept_stays q.alphabet.characters) old_sayable)
            (kept_free q.held (q.left ++ q.right) every);
        same_outcome = outcome_same q good held agree;
        same_decision = decision_same q good held agree;
        same_engine = engine_same q good held agree;
        same_needs = needs_same q good held agree;
      }

  pub sheet_shorter : length (sheet_saying (without_strays q)) ≤ length s
  sheet_shorter =
      let ed = edition_of q.alphabet in
      let front = edition_laid (edition_byte ed) in
      let sides = side_saying ed LE q.left ++ side_saying ed RI q.right in
      let old = patterns_saying ed 0 q.held in
      let new = patterns_saying ed 0 (without_strays q).held in
      omega (
        arith,
        patterns_shorter ed (stands_asked q) q.held 0,
        ap length (said_back s q e),
        ap length (said_parts q),
        ap length (said_parts (without_strays q)),
        length-append front (old ++ sides),
        length-append front (new ++ sides),
        length-append old sides,
        length-append new sides,
      )

  pub sheet_kept : strays q ≡ [] → sheet_saying (without_strays q) ≡ s
  sheet_kept free =
      let same = kept_same q.held (q.left ++ q.right) every free in
      ap sheet_saying (λ i. record { alphabet = q.alphabet; left = q.left; right = q.right; held = same i }) ∙ said_back s q e

-- Rules: the old one and the new one, whose fields that stand hold the same.
pub record Kept (r new : Rule) : Type 0 where
  pub good_old : GoodRule r
  pub good_new : GoodRule new
  pub side : new.side ≡ r.side
  pub holds : (f : ℕ) → stands_in f r.side ≡ true → rule_holds r f ≡ rule_holds new f

kept_labels : {r new : Rule} → Kept r new → (l : List ℕ) → Makes r l ↔ Makes new l
kept_labels {r} {new} k l = (there, back)
  where
    there : Makes r l → Makes new l
    there m =
        record {
          texts = m.texts;
          over = λ f e. m.over f (rw k.side at e);
          holds = λ f e. let s : stands_in f r.side ≡ true = rw k.side at e in subst (λ (h : Held). Holds h (m.texts f)) (k.holds f s) (m.holds f s);
          made = rw k.side m.made;
        }

    back : Makes new l → Makes r l
    back m =
        record {
          texts = m.texts;
          over = λ f e. m.over f (rw k.side e);
          holds = λ f e. subst (λ (h : Held). Holds h (m.texts f)) (sym (k.holds f e)) (m.holds f (rw k.side e));
          made = rw k.side at m.made;
        }

module _ (r : Rule) (good : GoodRule r) (own : foreign_field r ≡ false) where
  its_free : strays_of (held_kept r) r.side ≡ []
  its_free = kept_free r.fields.held r.side good.held.each_field

  rule_written : Written Kept r (rule_kept r)
  unfolding rule_kept
  rule_written =
      let x = rule_changed if_it_stands (kept_stays characters) r good own in
      let free : rule_strays x.new ≡ [] = rw (x.its_side, x.its_held) its_free in
      record {
        new = x.new;
        reads = x.reads;
        fits = is_fit x.new x.own_fields free;
        so = record {
          good_old = good;
          good_new = Rules.before_good (rule_saying (held_kept r) r.side) x.reads x.own_fields;
          side = x.its_side;
          holds = λ f e.
              sym (ap (λ (l : List Held). get_or l f some_text) x.its_held
              ∙ kept_at r.fields.held r.side f (omega (arith, good.held.each_field, own_field r good f e)) e);
        };
      }

  pub rule_dropped : DroppedRule r (rule_kept r)
  rule_dropped =
      let w = rule_written in
      record {
        new = w.new;
        reads = rule_since (rule_kept r) w.reads (fit_strays w.new w.fits);
        own_fields = fit_own w.new w.fits;
        same_side = w.so.side;
        same_labels = kept_labels w.so;
      }

pub rule_shorter : (s : List ℕ) {r : Rule} {n : ℕ} → rule_front s ≡ records r n → length (rule_kept r) ≤ n
unfolding rule_kept
rule_shorter s {r} {n} e =
    let (low, high) = rule_bounds s e in
    let held = r.fields.held in
    omega (
      arith,
      ap length (rule_said_back s e),
      length-take-le n s high,
      patterns_shorter edition_1 (stands_ruled r) held 0,
      length-append (patterns_saying edition_1 0 held) (side_saying edition_1 LE r.side),
      length-append (patterns_saying edition_1 0 (held_kept r)) (side_saying edition_1 LE r.side),
    )

rule_there : (s : List ℕ) {r : Rule} {n : ℕ} → rule_front s ≡ records r n → foreign_field r ≡ false → rule_strays r ≡ [] → rule_kept r ≡ take n s
unfolding rule_kept
rule_there s {r} e own free =
    let every = (rule_good s e own).held.each_field in
    ap (λ (l : List Held). rule_saying l r.side) (kept_same r.fields.held r.side every free) ∙ rule_said_back s e

pub rule_as_it_was : (s : List ℕ) {r : Rule} {n : ℕ} → read_rule_before s ≡ records r n → foreign_field r ≡ false → rule_strays r ≡ [] → rule_kept r ≡ s
rule_as_it_was s {r} {n} e own free =
    let (front, all) = rule_whole s e in rule_there s front own free ∙ take_all n s (omega (arith, all))

-- Pairs of them.
module _ {r x s y : Rule} (k : Kept r x) (m : Kept s y) where
  pairs_agree : (f : ℕ) → stands_in f ((pair r s).left ++ (pair r s).right) ≡ true → held_by (pair r s) f ≡ get_or (pair x y).held f some_text
  pairs_agree =
      by_rule r s k.good_old m.good_old (λ (f : ℕ). held_by (pair r s) f ≡ held_by (pair x y) f)
      (λ f e i. held_present r s k.good_old m.good_old f i ∙ k.holds f e ∙ sym (held_present x y k.good_new m.good_new f i))
      (λ f e i. held_new r s k.good_old m.good_old f i ∙ m.holds f e ∙ sym (held_new x y k.good_new m.good_new f i))

  as_held : pair x y ≡ with_held (pair r s) (pair x y).held
  unfolding pair
  as_held = λ i. record { alphabet = (pair r s).alphabet; left = k.side i; right = map moved_up (m.side i); held = (pair x y).held }

  good_pair : GoodQuestion (pair r s)
  good_pair = (pair_sayable r s k.good_old m.good_old).good

  searched_alike : (room : ℕ) → searched (hidden (pair x y)) room ≡ searched (hidden (pair r s)) room
  searched_alike room =
      let held = (pair x y).held in
      ap (λ (q : Question). searched (hidden q) room) as_held
      ∙ searched_same (hidden (pair r s)) (hidden (with_held (pair r s) held)).held (hidden_agree (pair r s) good_pair held pairs_agree) room

  pub same_pair : (room : ℕ) → by_search.asks x y room ≡ by_search.asks r s room
  unfolding pair_answer pair_count
  same_pair room =
      ap (λ (st : State (Situation PlaceSet) Move). record { answer = pair_number (how_of st); count = count_of st; search = 1 }) (searched_alike room)

  pub same_decided : (room : ℕ) → by_deciding.asks x y room ≡ by_deciding.asks r s room
  unfolding pair_decided
  same_decided room =
      ap (λ (c : Conclusion). record { answer = pair_number c.end; count = c.count; search = c.search })
      (ap (λ (q : Question). concluded q room) as_held ∙ conclusion_same (pair r s) good_pair (pair x y).held pairs_agree room)

-- A catalogue.
pub rules_short : {s : List ℕ} {l : List Present} → LaidOut foreign_field s l → length (rules_kept l) ≤ used l
unfolding rules_kept
rules_short (zeros z) = omega arith
rules_short (rule {s = s} {r = r} {l = l} e own more) =
    omega (arith, rules_short more, rule_shorter s e, length-append (rule_kept r) (rules_kept l))

-- a catalogue of today was one
pub before_laid : {s : List ℕ} {l : List Present} → LaidOut unfit s l → LaidOut foreign_field s l
before_laid (zeros z) = zeros z
before_laid (rule {r = r} {l = l} e fit more) = rule {l = l} e (fit_own r fit) (before_laid more)

rules_there : {s : List ℕ} {l : List Present} → LaidOut unfit s l → rules_kept l ≡ take (used l) s
unfolding rules_kept
rules_there (zeros z) = refl
rules_there (rule {s = s} {r = r} {n = n} {l = l} e fit more) =
    ap (λ (t : List ℕ). t ++ rules_kept l) (rule_there s e (fit_own r fit) (fit_strays r fit))
    ∙ ap (λ (t : List ℕ). take n s ++ t) (rules_there more) ∙ sym (take-add n (used l) s)

module _ (c : List ℕ) {l : List Present} where
  pub rules_shorter : form_before c ≡ rules l → length (rules_kept l) ≤ length c
  rules_shorter e = let h = (stands_by foreign_field c e).0 in omega (arith, rules_short h, inside h)

  pub rules_dropped : form_before c ≡ rules l → DroppedCatalogue l (rules_kept l ++ replicate (length c - length (rules_kept l)) 0)
  unfolding rules_kept
  rules_dropped e =
      let (h, few) = stands_by foreign_field c e in
      let n = length c - length (rules_kept l) in
      let x = rules_laid Kept rule_kept foreign_field rule_written (λ r own. own) h (replicate n 0) (zero_bytes n) in
      record {
        new = x.new;
        of_form = stands_form x.laid (omega (arith, x.as_many, few));
        as_many = x.as_many;
        same_labels = λ i k. kept_labels (x.so i k);
        same_pairs = λ i j k m. same_pair (x.so i k) (x.so j m);
        same_decided = λ i j k m. same_decided (x.so i k) (x.so j m);
      }

  -- where no rule has a stray
  pub was_before : form c ≡ rules l → form_before c ≡ rules l
  was_before e = let (h, few) = stands_by unfit c e in stands_form (before_laid h) few

  pub rules_as_they_were : form c ≡ rules l → rules_kept l ++ replicate (length c - length (rules_kept l)) 0 ≡ c
  rules_as_they_were e =
      let h = (stands_by unfit c e).0 in
      let there = rules_there h in
      let size : length (rules_kept l) ≡ used l = ap length there ∙ length-take-le (used l) c (inside h) in
      ap (λ (n : ℕ). rules_kept l ++ replicate (length c - n) 0) size ∙ ap (λ (t : List ℕ). rules_kept l ++ t) (sym (rest h))
      ∙ ap (λ (t : List ℕ). t ++ drop (used l) c) there ∙ take-append-drop (used l) c
