-- What the checks on a record that is to be written find, by the tests that they pass: each way out is the case of the definition that is left.
-- Follows from the definitions `record_laid` and `side_record_laid`.
use Prim.Native.Nat.{ℕ, ◌+◌, ◌≤◌, ◌<◌}
use native.Mathlib.Omega.{arith}
use mathlib.Core.Path.{◌≡◌, ap, ◌∙◌}
use mathlib.Core.List.{List, [], ◌∷◌, ◌++◌}
use lib.ListN.{length, take, length-map}
use lib.Seq.{length-take-le}
use Rattle.paper.specs.Lists.{leading}
use Rattle.paper.specs.Numbers.{fields, pattern_bytes, sheet_side}
use Rattle.paper.specs.Pattern.{Pattern}
use Rattle.paper.specs.Alphabet.{Edition, code, codes}
use Rattle.paper.specs.Written.{judged, judge}
use Rattle.paper.specs.Written as Written
use Rattle.paper.specs.Sheet.{cut_short, wrong_field, wrong_length, not_one_pattern, too_many_leaves, wrong_token, Mark, is_token}
use Rattle.paper.specs.Saying.{mark_bytes}
use Rattle.paper.proofs.base.Tests.{le_leb, lt_leb, le_ltb, lt_ltb}
use Rattle.paper.specs.Saying.{pattern_laid, side_laid}
use Rattle.paper_write.specs.Laying.{judged_laid, record_laid, side_record_laid}
use Rattle.base_answers.specs.declared.Refusal.{Refusal}
use Rattle.std.proofs.Common.{Result, Ok, Err}
use Rattle.base_answers.specs.declared.Fault.TheVariants.{CutShort, WrongField, WrongLength, NotOnePattern, TooManyLeaves, WrongToken}
use Rattle.base_put.specs.Counted.{put_from, Counted}
use Rattle.read_fields.proofs.Verdicts as Verdicts
use Rattle.read_fields.proofs.Verdicts.{told_not_one, told_too_many}
use Rattle.read_side.proofs.SideBytes.{fewer_lead, all_lead}
use Rattle.write_records.specs.RecordPut.{Lays, refused, put}

abbrev good : ℕ → Result ℕ Refusal
good n = Ok n

its_judgement : (ed : Edition) (f n : ℕ) (patterns : List ℕ) → f < fields → n ≤ pattern_bytes → n ≤ length patterns
    → record_laid ed f n patterns ≡ judged_laid (judge (codes ed (take n patterns))) f n (take n patterns)
unfolding record_laid
its_judgement ed f n patterns known short there = rw (lt_leb fields f known, le_ltb pattern_bytes n short, le_ltb (length patterns) n there)

module _ {d e : List ℕ} {at : ℕ} (ed : Edition) (f n : ℕ) (patterns : List ℕ) (r : Result ℕ Refusal) where
  pub field_refused : fields ≤ f → r ≡ Err (record { fault = WrongField; place = 2 }) → Lays d e at r (record_laid ed f n patterns)
  unfolding record_laid
  field_refused h p = rw (le_leb fields f h) (refused wrong_field 2 p)

  module _ (known : f < fields) where
    pub length_refused : pattern_bytes < n → r ≡ Err (record { fault = WrongLength; place = 3 }) → Lays d e at r (record_laid ed f n patterns)
    unfolding record_laid
    length_refused h p = rw (lt_leb fields f known, lt_ltb pattern_bytes n h) (refused wrong_length 3 p)

    module _ (short : n ≤ pattern_bytes) where
      pub cut_refused : length patterns < n → r ≡ Err (record { fault = CutShort; place = 4 + length patterns })
          → Lays d e at r (record_laid ed f n patterns)
      unfolding record_laid
      cut_refused h p = rw (lt_leb fields f known, le_ltb pattern_bytes n short, lt_ltb (length patterns) n h) (refused cut_short (4 + length patterns) p)

      module _ (there : n ≤ length patterns) where
        not_one_refused : (i : ℕ) → judge (codes ed (take n patterns)) ≡ Written.not_one_pattern i → r ≡ Err (record { fault = NotOnePattern; place = 4 + i })
            → Lays d e at r (record_laid ed f n patterns)
        not_one_refused i j p = rw (its_judgement ed f n patterns known short there, j) (refused not_one_pattern (4 + i) p)

        too_many_refused : (i : ℕ) → judge (codes ed (take n patterns)) ≡ Written.too_many_leaves i → r ≡ Err (record { fault = TooManyLeaves; place = 4 + i })
            → Lays d e at r (record_laid ed f n patterns)
        too_many_refused i j p = rw (its_judgement ed f n patterns known short there, j) (refused too_many_leaves (4 + i) p)

        pub judged_refused : (x : Refusal) → Verdicts.Refused x (judge (codes ed (take n patterns))) → r ≡ Err (record { fault = x.fault; place = 4 + x.place })
            → Lays d e at r (record_laid ed f n patterns)
        judged_refused x (told_not_one j k) p = not_one_refused x.place j (rw k at p)
        judged_refused x (told_too_many j k) p = too_many_refused x.place j (rw k at p)

        pub pattern_put : (p : Pattern) → judge (codes ed (take n patterns)) ≡ judged p → {end : ℕ} → Counted d e at end (pattern_laid f n (take n patterns))
            → r ≡ Ok (4 + n) → Lays d e at r (record_laid ed f n patterns)
        pattern_put p j c q =
            let sum : 4 + n ≡ length (pattern_laid f n (take n patterns)) = omega (arith, length-take-le n patterns there) in
            rw (its_judgement ed f n patterns known short there, j) (put (pattern_laid f n (take n patterns)) (q ∙ ap good sum) c.bytes)

module _ {d e : List ℕ} {at : ℕ} (ed : Edition) (m : Mark) (tokens : List ℕ) (r : Result ℕ Refusal) where
  pub side_refused : sheet_side < length tokens → r ≡ Err (record { fault = WrongLength; place = 2 }) → Lays d e at r (side_record_laid ed m tokens)
  unfolding side_record_laid
  side_refused h p = rw (lt_ltb sheet_side (length tokens) h) (refused wrong_length 2 p)

  module _ (short : length tokens ≤ sheet_side) where
    pub token_refused : leading is_token (codes ed tokens) < length tokens → r ≡ Err (record { fault = WrongToken; place = 3 + leading is_token (codes ed tokens) })
        → Lays d e at r (side_record_laid ed m tokens)
    unfolding side_record_laid
    token_refused h p = rw (le_ltb sheet_side (length tokens) short, fewer_lead is_token (codes ed tokens) (omega (arith, length-map tokens (code ed)))) (refused wrong_token (3 + leading is_token (codes ed tokens)) p)

    pub side_put : length tokens ≤ leading is_token (codes ed tokens) → (mark : List ℕ) → mark ≡ mark_bytes m → {end : ℕ}
        → Counted d e at end ((mark ++ (length tokens ∷ [])) ++ tokens)
        → r ≡ Ok (3 + length tokens) → Lays d e at r (side_record_laid ed m tokens)
    unfolding side_record_laid
    side_put h mark same c q =
        let sum : 3 + length tokens ≡ length (side_laid m tokens) = omega arith in
        rw (le_ltb sheet_side (length tokens) short, all_lead is_token (codes ed tokens) (omega (arith, length-map tokens (code ed))))
        (put (side_laid m tokens) (q ∙ ap good sum) (c.bytes ∙ ap (λ (l : List ℕ). put_from d at ((l ++ (length tokens ∷ [])) ++ tokens)) same))
