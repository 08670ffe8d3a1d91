-- The form of a catalogue: what it says of the bytes that it has rules, and that adding and withdrawing keep it. Where `form c ≡ rules l`:
--   rules_at_most   : length l ≤ catalogue_rules
--   used_inside     : used l ≤ length c
--   rest_zero       : drop (used l) c ≡ replicate (length c - used l) 0
--   read_at         : the rule with the number i is read where the records before it end (`offset_of l i`); own_fields, own-strays: it names no foreign field
--                     and has no stray pattern
--   form_with       : a rule's bytes put behind the last record are one rule more, the last
--   form_without    : without the record with the number i the other rules stand, in their order
--   form_empty      : zero bytes are an empty catalogue
--   length_with, length_without : no byte more, no byte less
-- Follows from `LaidOut`, the form as a relation, whichever rules are unfit, by induction, since reading is local.
use Prim.Native.Nat.{ℕ, zero, suc, ◌+◌, ◌-◌, ◌≤◌, ◌<◌}
use native.Mathlib.Nat.{zero-add, add_assoc, sub-zero}
use native.Mathlib.Omega.{arith}
use mathlib.Core.Path.{◌≡◌, refl, sym, ap, ◌∙◌, subst}
use mathlib.Core.Bool.{Bool, true, false}
use mathlib.Core.List.{List, [], ◌∷◌, ◌++◌, append_assoc}
use lib.Dec.{leb, ltb, eqb}
use lib.ListN.{length, take, drop, replicate, length-append, length-take, length-drop, length-replicate}
use lib.Seq.{take_at, drop_at, drop-drop, take-add, length-take-le, take-append-le, drop-append-le}
use Rattle.paper.specs.Lists.{all}
use Rattle.paper.specs.Numbers.{catalogue_rules}
use Rattle.paper.specs.Sheet.{Records, faulty, records}
use Rattle.paper.specs.Rule.{Rule, rule_front, rule_strays, read_rule_before, read_rule, foreign_field}
use Rattle.paper_catalogue.specs.Catalogue.{Present, Form, no_catalogue, rules, rule_behind, rule_stands, unfit, all_zero, form_within, form_by, form, used}
use Rattle.paper_catalogue.specs.Catalogue.{is_full, with_record, without_record}
use Rattle.paper_catalogue.specs.Calls.{present_at}
use Rattle.paper.proofs.base.Tests.{cond_by, and_left, and_right, both_true, eqb_true, leb_false, ltb_false, or_left_false, or_right_false}
use Rattle.paper.proofs.base.Lists.{cons_eq, all_append}
use Rattle.paper_catalogue.proofs.Local.{rule_local, rule_bounds, rule_not_zero, rule_whole, rule_in_front, rule_before, rule_unstray}

-- The rules stand one behind the other from the start of the bytes, then zero bytes.
pub data LaidOut (unfit : Rule → Bool) : List ℕ → List Present → Type 0 where
  zeros : {s : List ℕ} → all_zero s ≡ true → LaidOut unfit s []
  rule : {s : List ℕ} {r : Rule} {n : ℕ} {l : List Present} → rule_front s ≡ records r n → unfit r ≡ false → LaidOut unfit (drop n s) l
      → LaidOut unfit s (record { rule = r; bytes = n } ∷ l)

-- The form is that relation, for up to so many rules.
abbrev IsForm : (Rule → Bool) → ℕ → List ℕ → Form → Type 0
IsForm u k s no_catalogue = Unit {0}
IsForm u k s (rules l) = LaidOut u s l × (length l ≤ k)

first_form : (u : Rule → Bool) (k : ℕ) (s : List ℕ) (r : Rule) (n : ℕ) (f : Form) → rule_front s ≡ records r n → u r ≡ false
    → IsForm u k (drop n s) f → IsForm u (suc k) s (rule_behind (record { rule = r; bytes = n }) f)
first_form u k s r n no_catalogue e own h = tt
first_form u k s r n (rules l) e own (h, few) = (rule e own h, omega arith)

front_form : (u : Rule → Bool) (k : ℕ) (s : List ℕ) (go_on : ℕ → Form) (x : Records Rule) → rule_front s ≡ x → ((n : ℕ) → IsForm u k (drop n s) (go_on n))
    → IsForm u (suc k) s (rule_stands u x go_on)
front_form u k s go_on (faulty x at) e h = tt
front_form u k s go_on (records r n) e h =
    cond_by (IsForm u (suc k) s) (u r) (λ _. tt) (λ own. first_form u k s r n (go_on n) e own (h n))

within_form : (u : Rule → Bool) (k : ℕ) (s : List ℕ) → IsForm u k s (form_within u k s)
within_form u zero s = cond_by (IsForm u zero s) (all_zero s) (λ z. (zeros z, omega arith)) (λ _. tt)
within_form u (suc k) s =
    cond_by (IsForm u (suc k) s) (all_zero s) (λ z. (zeros z, omega arith))
    (λ _. front_form u k s (λ (n : ℕ). form_within u k (drop n s)) (rule_front s) refl (λ n. within_form u k (drop n s)))

stands_within : {u : Rule → Bool} (k : ℕ) {s : List ℕ} {l : List Present} → LaidOut u s l → length l ≤ k → form_within u k s ≡ rules l
stands_within zero (zeros z) h = rw z
stands_within (suc k) (zeros z) h = rw z
stands_within zero (rule e own r) h = absurd (omega arith)
stands_within (suc k) (rule {s = s} e own r) h = rw (rule_not_zero s e, e, own, stands_within k r (omega arith))

-- Zero bytes.
pub zero_bytes : (n : ℕ) → all_zero (replicate n 0) ≡ true
zero_bytes zero = refl
zero_bytes (suc n) = zero_bytes n

pub all_zero_bytes : (s : List ℕ) → all_zero s ≡ true → s ≡ replicate (length s) 0
all_zero_bytes [] e = refl
all_zero_bytes (b ∷ s) e =
    cons_eq (eqb_true b 0 (and_left (eqb b 0) (all_zero s) e)) (all_zero_bytes s (and_right (eqb b 0) (all_zero s) e))

pub zero_drop : (n : ℕ) (s : List ℕ) → all_zero s ≡ true → all_zero (drop n s) ≡ true
zero_drop zero s e = e
zero_drop (suc n) [] e = refl
zero_drop (suc n) (b ∷ s) e = zero_drop n s (and_right (eqb b 0) (all_zero s) e)

-- Behind the first n bytes, which stay.
with_behind : (n at : ℕ) (bytes s : List ℕ) → with_record (n + at) bytes s ≡ take n s ++ with_record at bytes (drop n s)
with_behind n at bytes s =
    rw (
      take-add n at s,
      append_assoc (take n s) (take at (drop n s)) bytes,
      append_assoc (take n s) (take at (drop n s) ++ bytes),
      drop-drop (at + length bytes) n s,
      add_assoc n at (length bytes),
    )

without_behind : (n at m : ℕ) (s : List ℕ) → without_record (n + at) m s ≡ take n s ++ without_record at m (drop n s)
without_behind n at m s =
    rw (take-add n at s, append_assoc (take n s) (take at (drop n s)), append_assoc (take n s), drop-drop (at + m) n s, add_assoc n at m)

-- A rule that stands first in s stands first in what has the same first bytes.
same_first : {u : Rule → Bool} (s t behind : List ℕ) (r : Rule) (n : ℕ) (l : List Present) → rule_front s ≡ records r n → u r ≡ false
    → t ≡ take n s ++ behind → LaidOut u behind l → LaidOut u t (record { rule = r; bytes = n } ∷ l)
same_first s t behind r n l e own p h =
    let (low, high) = rule_bounds s e in
    let long : length (take n s) ≡ n = length-take-le n s high in
    rw p (rule {l = l} (rule_local s e (take n s ++ behind) (take_at (take n s) behind n long)) own (rw (drop_at (take n s) behind n long) h))

-- "a rule's number is its place in that order": the offset at which the record with the number i stands
abbrev pub offset_of : List Present → ℕ → ℕ
offset_of l i = used (take i l)

pub offset_next : (l : List Present) (i : ℕ) → i < length l → offset_of l (suc i) ≡ offset_of l i + (present_at l i).bytes
offset_next [] i h = absurd (omega arith)
offset_next (x ∷ l) zero h = omega arith
offset_next (x ∷ l) (suc i) h = let e = offset_next l i (omega arith) in omega arith

-- the bytes of the other records, and its own
pub used_without : (l : List Present) (i : ℕ) → i < length l → used (take i l ++ drop (suc i) l) + (present_at l i).bytes ≡ used l
used_without [] i h = absurd (omega arith)
used_without (x ∷ l) zero h = omega arith
used_without (x ∷ l) (suc i) h = let e = used_without l i (omega arith) in omega arith

-- The records are within the bytes, and zeros stand behind them.
pub inside : {u : Rule → Bool} {s : List ℕ} {l : List Present} → LaidOut u s l → used l ≤ length s
inside (zeros z) = omega arith
inside (rule {s = s} {n = n} e own r) =
    let (low, high) = rule_bounds s e in
    let h = inside r in
    omega (arith, length-drop n s)

pub rest : {u : Rule → Bool} {s : List ℕ} {l : List Present} → LaidOut u s l → drop (used l) s ≡ replicate (length s - used l) 0
rest (zeros {s = s} z) = all_zero_bytes s z ∙ ap (λ (k : ℕ). replicate k 0) (sym (sub-zero (length s)))
rest (rule {s = s} {n = n} {l = l} e own r) =
    let k : length (drop n s) - used l ≡ length s - (n + used l) = rw (length-drop n s) (omega arith) in
    sym (drop-drop (used l) n s) ∙ rest r ∙ ap (λ (k : ℕ). replicate k 0) k

-- Every rule is read where the records before it end.
pub at_offset : {u : Rule → Bool} {s : List ℕ} {l : List Present} → LaidOut u s l → (i : ℕ) → i < length l
    → (rule_front (drop (offset_of l i) s) ≡ records (present_at l i).rule (present_at l i).bytes)
    × (u (present_at l i).rule ≡ false)
at_offset (zeros z) i h = absurd (omega arith)
at_offset (rule e own r) zero h = (e, own)
at_offset (rule {s = s} {n = n} {l = l} e own r) (suc i) h =
    let (f, mine) = at_offset r i (omega arith) in (rw (← (drop-drop (offset_of l i) n s)) f, mine)

-- One rule more.
with_last : {u : Rule → Bool} {s : List ℕ} {l : List Present} → LaidOut u s l → (bytes : List ℕ) {r : Rule} {n : ℕ} → read_rule_before bytes ≡ records r n
    → u r ≡ false → LaidOut u (with_record (used l) bytes s) (l ++ (record { rule = r; bytes = n } ∷ []))
with_last (zeros {s = s} z) bytes {r} {n} e own =
    let (f, all) = rule_whole bytes e in
    let behind = drop (length bytes) s in
    rw (zero-add (length bytes))
    (rule {l = []} (rule_in_front bytes e behind) own (rw (drop_at bytes behind n (sym all)) (zeros (zero_drop (length bytes) s z))))
with_last (rule {s = s} {r = q} {n = m} {l = l} f mine h) bytes {r} {n} e own =
    same_first s _ (with_record (used l) bytes (drop m s)) q m _ f mine (with_behind m (used l) bytes s) (with_last h bytes e own)

-- One rule less: the records behind it come to where it stood, and zeros behind the last change nothing.
zeros_behind : {u : Rule → Bool} {s : List ℕ} {l : List Present} → LaidOut u s l → (m : ℕ) → LaidOut u (s ++ replicate m 0) l
zeros_behind (zeros {s = s} z) m =
    zeros {s = s ++ replicate m 0} (rw (all_append (λ (b : ℕ). eqb b 0) s (replicate m 0)) (both_true z (zero_bytes m)))
zeros_behind (rule {s = s} {r = r} {n = n} {l = l} e own h) m =
    let (low, high) = rule_bounds s e in
    rule {l = l} (rule_local s e (s ++ replicate m 0) (take-append-le n s (replicate m 0) high)) own
    (rw (drop-append-le n s (replicate m 0) high) (zeros_behind h m))

without_one : {u : Rule → Bool} {s : List ℕ} {l : List Present} → LaidOut u s l → (i : ℕ) → i < length l
    → LaidOut u (without_record (offset_of l i) (present_at l i).bytes s) (take i l ++ drop (suc i) l)
without_one (zeros z) i h = absurd (omega arith)
without_one (rule {s = s} {n = n} e own r) zero h = rw (zero-add n) (zeros_behind r n)
without_one (rule {s = s} {r = q} {n = n} {l = l} e own r) (suc i) h =
    let m = (present_at l i).bytes in
    same_first s _ (without_record (offset_of l i) m (drop n s)) q n _ e own (without_behind n (offset_of l i) m s) (without_one r i (omega arith))

-- No byte more, no byte less.
pub length_with : (at : ℕ) (bytes s : List ℕ) → at + length bytes ≤ length s → length (with_record at bytes s) ≡ length s
length_with at bytes s h =
    let behind = drop (at + length bytes) s in
    rw (length-append (take at s ++ bytes) behind, length-append (take at s) bytes, length-take at s, length-drop (at + length bytes) s)
    (omega arith)

pub length_without : (at n : ℕ) (s : List ℕ) → at + n ≤ length s → length (without_record at n s) ≡ length s
length_without at n s h =
    let freed : List ℕ = replicate n 0 in
    rw (length-append (take at s ++ drop (at + n) s) freed, length-append (take at s) (drop (at + n) s), length-take at s, length-drop (at + n) s)
    (omega (arith, length-replicate {A = ℕ} n 0))

-- an empty catalogue
pub form_empty : (n : ℕ) → form (replicate n 0) ≡ rules []
unfolding form_by
form_empty n = stands_within catalogue_rules {s = replicate n 0} (zeros (zero_bytes n)) (omega arith)

pub stands_form : {u : Rule → Bool} {c : List ℕ} {l : List Present} → LaidOut u c l → length l ≤ catalogue_rules → form_by u c ≡ rules l
unfolding form_by
stands_form h few = stands_within catalogue_rules h few

pub stands_by : (u : Rule → Bool) (c : List ℕ) {l : List Present} → form_by u c ≡ rules l → LaidOut u c l × (length l ≤ catalogue_rules)
unfolding form_by
stands_by u c e = subst (IsForm u catalogue_rules c) e (within_form u catalogue_rules c)

-- In a catalogue of today no rule names a foreign field, and none has a stray pattern.
pub fit_own : (r : Rule) → unfit r ≡ false → foreign_field r ≡ false
fit_own r h = or_left_false (foreign_field r) (ltb 0 (length (rule_strays r))) h

pub fit_strays : (r : Rule) → unfit r ≡ false → rule_strays r ≡ []
fit_strays r h = none (rule_strays r) (ltb_false 0 (length (rule_strays r)) (or_right_false (foreign_field r) (ltb 0 (length (rule_strays r))) h))
  where
    none : (l : List ℕ) → length l ≤ 0 → l ≡ []
    none [] h = refl
    none (x ∷ l) h = absurd (omega arith)

pub is_fit : (r : Rule) → foreign_field r ≡ false → rule_strays r ≡ [] → unfit r ≡ false
is_fit r own none = rw (own, none)

-- A catalogue of the form.
module _ (c : List ℕ) {l : List Present} (e : form c ≡ rules l) where
  pub form_stands : LaidOut unfit c l
  form_stands = (stands_by unfit c e).0

  pub rules_at_most : length l ≤ catalogue_rules
  rules_at_most = (stands_by unfit c e).1

  pub used_inside : used l ≤ length c
  used_inside = inside form_stands

  pub rest_zero : drop (used l) c ≡ replicate (length c - used l) 0
  rest_zero = rest form_stands

  -- Every rule was read, and is not unfit.
  module _ (i : ℕ) (h : i < length l) where
    pub read_at : rule_front (drop (offset_of l i) c) ≡ records (present_at l i).rule (present_at l i).bytes
    read_at = (at_offset form_stands i h).0

    pub own_fields : foreign_field (present_at l i).rule ≡ false
    own_fields = fit_own (present_at l i).rule (at_offset form_stands i h).1

    pub own_strays : rule_strays (present_at l i).rule ≡ []
    own_strays = fit_strays (present_at l i).rule (at_offset form_stands i h).1

    pub record_inside : offset_of l i + (present_at l i).bytes ≤ length c
    record_inside = let (low, high) = rule_bounds (drop (offset_of l i) c) read_at in omega (arith, length-drop (offset_of l i) c, low, high)

    pub one_rule_less : suc (length (take i l ++ drop (suc i) l)) ≡ length l
    one_rule_less = rw (length-append (take i l) (drop (suc i) l), length-take i l, length-drop (suc i) l) (omega arith)

    pub form_without : form (without_record (offset_of l i) (present_at l i).bytes c) ≡ rules (take i l ++ drop (suc i) l)
    form_without = stands_form (without_one form_stands i h) (omega (arith, one_rule_less, rules_at_most))

  module _ (bytes : List ℕ) (room : is_full l bytes c ≡ false) where
    pub rule_fits : used l + length bytes ≤ length c
    rule_fits =
        ltb_false (length c) (used l + length bytes)
        (or_right_false (leb catalogue_rules (length l)) (ltb (length c) (used l + length bytes)) room)

    pub fewer_rules : length l < catalogue_rules
    fewer_rules = leb_false catalogue_rules (length l) (or_left_false (leb catalogue_rules (length l)) (ltb (length c) (used l + length bytes)) room)

    pub form_with : {r : Rule} {n : ℕ} → read_rule bytes ≡ records r n → foreign_field r ≡ false
        → form (with_record (used l) bytes c) ≡ rules (l ++ (record { rule = r; bytes = n } ∷ []))
    form_with {r} {n} f own =
        stands_form (with_last form_stands bytes (rule_before bytes f) (is_fit r own (rule_unstray bytes f)))
        (rw (length-append l (record { rule = r; bytes = n } ∷ [])) (omega (arith, fewer_rules)))
