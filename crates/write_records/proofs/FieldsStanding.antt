-- A field stands in a side if its token in the edition is among the side's bytes.
--   field_among : stands_in f (map token (codes ed bytes)) ≡ member (codes_from ed + f) bytes
--   stands_left, stands_right, no_field : what the tests of both sides come to
-- Follows from what a byte and its code are (`Editions`): a byte with the code of a field's token is the byte that says it.
use Prim.Native.Nat.{ℕ, ◌+◌, ◌-◌, ◌≤◌, ◌<◌}
use native.Mathlib.Omega.{arith}
use mathlib.Core.Path.{◌≡◌, refl, sym, ap, ap₂, ◌∙◌}
use mathlib.Core.Bool.{Bool, true, false, ◌&&◌, ◌||◌}
use mathlib.Core.List.{List, [], ◌∷◌, map}
use lib.Dec.{ltb, eqb}
use Rattle.paper.specs.Lists.{member}
use Rattle.paper.specs.Numbers.{fields, most_characters, field_token}
use Rattle.paper.specs.Equation.{is_field, stands_in}
use Rattle.paper.specs.Alphabet.{Edition, edition_1, edition_2, codes_from, code, codes}
use Rattle.paper.specs.Sheet.{token}
use Rattle.paper.proofs.base.Tests.{by_bool, le_ltb, lt_ltb, eqb_true, eqb_false, eqb_same, neq_eqb}
use Rattle.paper.proofs.base.Lists.{any_append}
use Rattle.paper_laws.proofs.sheets.Editions.{most_of, code_sign, Byte, of_character, of_sign, of_none, byte_by}
use Rattle.paper_write.specs.Laying.{both_sides}

-- a byte holds every field's token
pub tokens_below : (ed : Edition) → codes_from ed + fields ≤ 256
tokens_below edition_1 = omega arith
tokens_below edition_2 = omega arith

module _ (ed : Edition) (f : ℕ) (known : f < fields) where
  other_byte : {b c : ℕ} → Byte ed b c → (codes_from ed + f ≡ b → ⊥) → is_field f (token c) ≡ false
  other_byte (of_character {b = b} h) other = rw (lt_ltb b most_characters (omega (arith, most_of ed)))
  other_byte (of_sign {f = g} h) other =
      let same : field_token + g - field_token ≡ g = omega arith in
      rw (le_ltb (field_token + g) most_characters (omega arith), same)
      (neq_eqb f g (λ (e : f ≡ g). other (ap (λ (n : ℕ). codes_from ed + n) e)))
  other_byte of_none other = neq_eqb f 63 (λ (e : f ≡ 63). omega arith)

  its_byte : is_field f (token (code ed (codes_from ed + f))) ≡ true
  its_byte =
      let same : field_token + f - field_token ≡ f = omega arith in
      rw (code_sign ed f known, le_ltb (field_token + f) most_characters (omega arith), same) (eqb_same f)

  one_byte : (b : ℕ) → is_field f (token (code ed b)) ≡ eqb (codes_from ed + f) b
  one_byte b =
      by_bool (eqb (codes_from ed + f) b)
      (λ (e : eqb (codes_from ed + f) b ≡ true). ap (λ (n : ℕ). is_field f (token (code ed n))) (sym (eqb_true (codes_from ed + f) b e)) ∙ its_byte ∙ sym e)
      (λ (e : eqb (codes_from ed + f) b ≡ false). other_byte (byte_by ed b) (eqb_false (codes_from ed + f) b e) ∙ sym e)

  field_among : (bytes : List ℕ) → stands_in f (map token (codes ed bytes)) ≡ member (codes_from ed + f) bytes
  field_among [] = refl
  field_among (b ∷ bytes) = ap₂ ◌||◌ (one_byte b) (field_among bytes)

  module _ (left right : List ℕ) (from : ℕ) (is : from ≡ codes_from ed) where
    in_either : stands_in f (both_sides ed left right) ≡ (member (from + f) left || member (from + f) right)
    in_either =
        any_append (is_field f) (map token (codes ed left)) (map token (codes ed right)) ∙ ap₂ ◌||◌ (field_among left) (field_among right)
        ∙ ap (λ (n : ℕ). member (n + f) left || member (n + f) right) (sym is)

    pub stands_left : member (from + f) left ≡ true → true ≡ (ltb f fields && stands_in f (both_sides ed left right))
    stands_left e = rw (lt_ltb f fields known, in_either, e)

    pub stands_right : member (from + f) left ≡ false → {r : Bool} → r ≡ member (from + f) right
        → r ≡ (ltb f fields && stands_in f (both_sides ed left right))
    stands_right e h = rw (lt_ltb f fields known, in_either, e) h

pub no_field : (ed : Edition) (f : ℕ) (left right : List ℕ) → fields ≤ f → false ≡ (ltb f fields && stands_in f (both_sides ed left right))
no_field ed f left right h = rw (le_ltb f fields h)
