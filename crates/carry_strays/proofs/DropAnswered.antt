-- From what was read by the old rule and what was written anew to the answer.
--   sheet_dropped, rule_dropped : what is told of a sheet and of a rule is what taking strays out of them is by the rules, and all that is promised of it
--   none_kept, all_dropped : of a catalogue; and_promised
-- Follows from the definitions by the tests that they make. The bytes that are copied into a catalogue are its new records and zeros, as many as the
-- old ones had, and behind these it had zeros.
use Prim.Native.Nat.{ℕ, ◌+◌, ◌-◌, ◌≤◌}
use native.Mathlib.Nat.{zero-add, mul-le-mul_right}
use native.Mathlib.Omega.{arith}
use mathlib.Core.Path.{◌≡◌, refl, sym, ap, ◌∙◌, subst}
use mathlib.Core.List.{List, ◌++◌, append_assoc}
use lib.ListN.{length, take, drop, replicate, length-append, length-replicate, replicate-append-replicate}
use lib.Seq.{take_at, drop_at}
use Rattle.paper.specs.Sheet.{Records, faulty, records, Reading, refused, asked, read_before}
use Rattle.paper.specs.Rule.{Rule, read_rule_before, foreign_field}
use Rattle.paper_catalogue.specs.Catalogue.{Present, no_catalogue, rules, form_before, used}
use Rattle.paper_catalogue.proofs.Form.{LaidOut, stands_by, inside, rest}
use Rattle.paper_carry.specs.Spelling.{Spelling, CarriedOver, longest_rule, longest_rules}
use Rattle.paper_strays.specs.Kept.{rule_kept, rules_kept}
use Rattle.paper_strays.specs.Dropping.{dropping_of, dropping, rule_dropping_of, rule_dropping, catalogue_dropping}
use Rattle.paper_strays.specs.Dropping.{DropPromised, RuleDropPromised, CatalogueDropPromised}
use Rattle.paper_strays.proofs.Dropped.{rules_short}
use Rattle.paper_strays.proofs.DropPromised.{drop_promised, rule_drop_promised, catalogue_drop_promised}
use Rattle.base_put.specs.Counted.{Counted}
use Rattle.base_put.proofs.Counting.{counted_in_front}
use Rattle.read_sheet.specs.SheetRead.{bodies_of, sheet_of}
use Rattle.read_sheet.specs.declared.Sheet.{Sheet}
use Rattle.std.specs.Prelude.{Result, Ok, Err}
use Rattle.base_answers.specs.declared.Refusal.{Refusal}
use Rattle.read_rule.specs.RuleRead.{rule_bodies, rule_of}
use Rattle.read_rule.specs.declared.Rule as Read
use Rattle.catalogue_bytes.specs.Moving.{put_at}
use Rattle.catalogue_bytes.proofs.Within.{is_put}
use Rattle.carry_records.specs.declared.Change.TheVariants.{Drop}
use Rattle.carry_put.specs.Putting.{rules_put}
use Rattle.carry_put.proofs.RulesPut.{used_short, rules_whole}
use Rattle.carry_anew.specs.Anew.{sheet_rewritten, SheetRead, rule_rewritten, RuleRead}
use Rattle.carry_strays.specs.StraysDropped.{told_dropped}
use Rattle.carry_strays.specs.declared.NoCatalogue.{NoCatalogue}

-- Sheets.
module _ (s out : List ℕ) where
  and_all : (t : Spelling) → t ≡ dropping s out → (t ≡ dropping s out) × DropPromised s out t
  and_all t whole = (whole, subst (DropPromised s out) (sym whole) (drop_promised s out))

  module _ (read : Result Sheet Refusal) (e : read ≡ sheet_of (bodies_of s) (read_before s)) where
    dropped_by : (x : Reading) → sheet_rewritten Drop x out ≡ dropping_of x out
    dropped_by (refused f at) = refl
    dropped_by (asked q) = refl

    pub sheet_dropped : (t : Spelling) → ((x : Reading) → SheetRead Drop s x read → t ≡ sheet_rewritten Drop x out)
        → (t ≡ dropping s out) × DropPromised s out t
    unfolding dropping
    sheet_dropped t h =
        and_all t (h (read_before s) (record { is = e; before = λ q k. k; in_edition = λ q k. tt }) ∙ dropped_by (read_before s))

-- Rules.
module _ (s out : List ℕ) where
  rule_and_all : (t : Spelling) → t ≡ rule_dropping s out → (t ≡ rule_dropping s out) × RuleDropPromised s out t
  rule_and_all t whole = (whole, subst (RuleDropPromised s out) (sym whole) (rule_drop_promised s out))

  module _ (read : Result Read.Rule Refusal) (e : read ≡ rule_of (rule_bodies s) (read_rule_before s)) where
    rule_dropped_by : (x : Records Rule) → rule_rewritten Drop x out ≡ rule_dropping_of x out
    unfolding rule_kept
    rule_dropped_by (faulty f at) = refl
    rule_dropped_by (records r n) = refl

    pub rule_dropped : (t : Spelling) → ((x : Records Rule) → RuleRead Drop s x read → t ≡ rule_rewritten Drop x out)
        → (t ≡ rule_dropping s out) × RuleDropPromised s out t
    unfolding rule_dropping
    rule_dropped t h =
        rule_and_all t (h (read_rule_before s) (record { is = e; before = λ r n k. k; in_edition = tt }) ∙ rule_dropped_by (read_rule_before s))

-- A catalogue.
pub and_promised : (c : List ℕ) (d : CarriedOver) → d ≡ catalogue_dropping c → (d ≡ catalogue_dropping c) × CatalogueDropPromised c d
and_promised c d e = (e, subst (CatalogueDropPromised c) (sym e) (catalogue_drop_promised c))

pub none_kept : (c : List ℕ) → form_before c ≡ no_catalogue → (e : NoCatalogue) → told_dropped (Err e) c ≡ catalogue_dropping c
unfolding catalogue_dropping
none_kept c e x = rw e

-- Bytes before zeros, as far as an offset behind them; and all that is behind it zero too.
module _ (all : List ℕ) (u : ℕ) (short : length all ≤ u) where
  with_zeros : length (all ++ replicate (u - length all) 0) ≡ u
  with_zeros = let n = u - length all in omega (arith, length-append all (replicate n 0), length-replicate {A = ℕ} n 0)

  more_zeros : (n : ℕ) → u ≤ n → (all ++ replicate (u - length all) 0) ++ replicate (n - u) 0 ≡ all ++ replicate (n - length all) 0
  more_zeros n h =
      let sum : (u - length all) + (n - u) ≡ n - length all = omega arith in
      append_assoc all (replicate (u - length all) 0) (replicate (n - u) 0)
      ∙ ap (λ (z : List ℕ). all ++ z) (replicate-append-replicate {A = ℕ} (u - length all) (n - u) 0 ∙ ap (λ (k : ℕ). replicate k 0) sum)

  before_zeros : (room : ℕ) → u ≤ room → take u (all ++ drop (length all) (replicate room 0)) ≡ all ++ replicate (u - length all) 0
  before_zeros room h =
      let n = room - length all in
      let sum : length all + n ≡ room = omega arith in
      let left : drop (length all) (replicate {A = ℕ} room 0) ≡ replicate n 0 =
      ap (λ (k : ℕ). drop (length all) (replicate {A = ℕ} k 0)) (sym sum) ∙ ap (drop (length all)) (sym (replicate-append-replicate {A = ℕ} (length all) n 0))
      ∙ drop_at (replicate (length all) 0) (replicate n 0) (length all) (length-replicate {A = ℕ} (length all) 0) in
      ap (λ (z : List ℕ). take u (all ++ z)) left ∙ ap (take u) (sym (more_zeros room h))
      ∙ take_at (all ++ replicate (u - length all) 0) (replicate (room - u) 0) u with_zeros

module _ (c : List ℕ) (l : List Present) (e : form_before c ≡ rules l) where
  laid : LaidOut foreign_field c l
  laid = (stands_by foreign_field c e).0

  pub within : used l ≤ longest_rules
  within = omega (arith, used_short laid, mul-le-mul_right longest_rule (stands_by foreign_field c e).1)

  module _ {before bytes : List ℕ} {n : ℕ} (zero : before ≡ replicate longest_rules 0) (k : ℕ) (many : k ≡ length l) (p : Counted before bytes 0 n (rules_put Drop k c)) where
    its_rules : Counted (replicate longest_rules 0) bytes 0 n (rules_kept l)
    unfolding rules_kept rule_kept
    its_rules =
        subst (λ (d : List ℕ). Counted d bytes 0 n (rules_kept l)) zero
        (subst (Counted before bytes 0 n) (ap (λ (m : ℕ). rules_put Drop m c) many ∙ rules_whole Drop tt laid) p)

    abbrev kept : List ℕ
    kept = rules_kept l

    fewer : length kept ≤ used l
    fewer = rules_short laid

    -- the new records, and as many zeros behind them as bytes are freed
    abbrev new : List ℕ
    new = kept ++ replicate (used l - length kept) 0

    front_is : take (used l) bytes ≡ new
    front_is =
        let room = length-replicate {A = ℕ} longest_rules 0 in
        ap (take (used l)) (counted_in_front its_rules (omega (arith, fewer, within)) (omega (arith, fewer, within, room)))
        ∙ before_zeros kept (used l) fewer longest_rules within

    pub all_dropped : (part filled : List ℕ) → part ≡ take (used l) bytes → filled ≡ put_at 0 part c → told_dropped (Ok tt) filled ≡ catalogue_dropping c
    unfolding catalogue_dropping
    all_dropped part filled i f =
        let low = inside laid in
        let its : length new ≡ used l = with_zeros kept (used l) fewer in
        let fits : 0 + length new ≤ length c = omega (arith, its) in
        let behind : drop (0 + length new) c ≡ replicate (length c - used l) 0 = ap (λ (m : ℕ). drop m c) (zero-add (length new) ∙ its) ∙ rest laid in
        rw (e, f ∙ ap (λ (s : List ℕ). put_at 0 s c) (i ∙ front_is) ∙ is_put 0 new c fits, behind, more_zeros kept (used l) fewer (length c) low)
