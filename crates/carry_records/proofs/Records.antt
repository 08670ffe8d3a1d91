-- Records put field by field.
--   record_within : a record that stands at the offset is within the bytes
--   Going         : how far the fields are put; the start, one more, the end
-- By the tests of `record_at`, and by `from_field`.
use Prim.Native.Nat.{ℕ, suc, ◌+◌, ◌≤◌}
use native.Mathlib.Nat.{add-zero}
use native.Mathlib.Numerals.{add-one}
use native.Mathlib.Omega.{arith}
use mathlib.Core.Path.{◌≡◌, refl, sym, ap, ◌∙◌, subst}
use mathlib.Core.List.{List, [], ◌++◌, append_assoc}
use lib.Dec.{ltb, eqb}
use lib.ListN.{length, get_or, drop}
use Rattle.paper.specs.Numbers.{fields}
use Rattle.paper.specs.Sheet.{bytes_left}
use Rattle.paper.proofs.base.Tests.{cond_by, ltb_false}
use Rattle.base_put.specs.Counted.{Counted}
use Rattle.base_put.proofs.Counting.{counted_none, counted_then}
use Rattle.base_question.specs.declared.Body.{Body}
use Rattle.carry_records.specs.Changing.{record_length, field_put, bytes_of, from_field, changed_from}
use Rattle.carry_records.specs.declared.Change.{Change}

abbrev Inside : List ℕ → ℕ → ℕ → Type 0
Inside s at n = (n ≡ 0 → ⊥) → at + n ≤ length s

pub record_within : (s : List ℕ) (at n : ℕ) → Inside s at (record_length s at n)
unfolding record_length
record_within s at n =
    cond_by (Inside s at) (eqb n 0) (λ _ z. absurd (z refl))
    (λ _. cond_by (Inside s at) (ltb (bytes_left s at) (4 + n)) (λ _ z. absurd (z refl))
    (λ there z. omega (arith, ltb_false (bytes_left s at) (4 + n) there)))

-- the fields before f are put, and what is put for the others comes behind
pub record Going (change : Change) (before out : List ℕ) (at end : ℕ) (s : List ℕ) (from next f : ℕ) (bodies : List Body) (counts : List ℕ) : Type 0 where
  pub put : List ℕ
  pub counted : Counted before out at end put
  pub left : (n : ℕ) → n + f ≡ fields → put ++ from_field change n s next f bodies counts ≡ changed_from change s from bodies counts

pub going_start : (change : Change) (out : List ℕ) (at : ℕ) (s : List ℕ) (from : ℕ) (bodies : List Body) (counts : List ℕ) → Going change out out at at s from from 0 bodies counts
unfolding changed_from
going_start change out at s from bodies counts =
    record {
      put = [];
      counted = counted_none;
      left = λ n k. ap (λ (m : ℕ). from_field change m s from 0 bodies counts) (sym (add-zero n) ∙ k);
    }

module _ {change : Change} {before out : List ℕ} {at end : ℕ} {s : List ℕ} {from next f : ℕ} {bodies : List Body} {counts : List ℕ} (g : Going change before out at end s from next f bodies counts) where
  pub going_on : (after : List ℕ) (behind further : ℕ) → Counted out after end behind (field_put change s next f (bytes_of bodies f) (get_or counts f 0))
      → further ≡ next + record_length s next (bytes_of bodies f) → Going change before after at behind s from further (f + 1) bodies counts
  going_on after behind further c h =
      let one = field_put change s next f (bytes_of bodies f) (get_or counts f 0) in
      record {
        put = g.put ++ one;
        counted = counted_then g.counted c;
        left = λ n k.
            rw (h, add-one f) (append_assoc g.put one (from_field change n s (next + record_length s next (bytes_of bodies f)) (suc f) bodies counts) ∙ g.left (suc n) (omega arith));
      }

  pub going_ends : f ≡ fields → (after : List ℕ) (behind : ℕ) → Counted out after end behind (drop next s)
      → Counted before after at behind (changed_from change s from bodies counts)
  going_ends h after behind c =
      subst (Counted before after at behind) (g.left 0 (omega arith)) (counted_then g.counted c)
