-- Whether a byte is a token of the edition, by the byte itself; and the bytes of a side one by one.
--   character_token, before_none, by_field : a character, a byte before the fields' tokens, a byte from the first of these on
--   tokens_all                             : of all bytes of a side
-- Follows from the laws of a byte's code.
use Prim.Native.Nat.{ℕ, ◌+◌, ◌-◌, ◌≤◌, ◌<◌}
use native.Mathlib.Omega.{arith}
use mathlib.Core.Path.{◌≡◌, refl, ap, ◌∙◌}
use mathlib.Core.Bool.{Bool, true, false, ◌&&◌}
use mathlib.Core.List.{List, [], ◌∷◌}
use Rattle.std.specs.List.{list_all}
use lib.Dec.{leb, ltb}
use Rattle.paper.specs.Numbers.{most_characters, fields, field_token}
use Rattle.paper.specs.Alphabet.{Edition, alphabet_of, codes_from, code}
use Rattle.paper.specs.Sheet.{is_token}
use Rattle.paper.proofs.base.Tests.{by_bool, ltb_true, ltb_false, lt_ltb, le_ltb, le_leb, left_true}
use Rattle.paper_laws.proofs.sheets.Editions.{most_of, code_character}
use Rattle.paper_fronts.specs.FixedFronts.{are_tokens}
use Rattle.base_editions.proofs.Codes.{before_codes, among_codes, behind_codes}

field_is_token : (k : ℕ) → k < fields → is_token (field_token + k) ≡ true
field_is_token k h =
    rw (le_ltb (field_token + k) most_characters (omega arith), le_leb field_token (field_token + k) (omega arith), lt_ltb (field_token + k) (field_token + fields) (omega arith))

module _ (e : Edition) (b : ℕ) where
  pub character_token : b < (alphabet_of e).characters → is_token (code e b) ≡ true
  character_token h =
      ap is_token (code_character e b h)
      ∙ left_true (ltb b most_characters) (leb field_token b && ltb b (field_token + fields)) (lt_ltb b most_characters (omega (arith, most_of e, h)))

  module _ (h : (alphabet_of e).characters ≤ b) where
    pub before_none : b < codes_from e → is_token (code e b) ≡ false
    before_none k = ap is_token (before_codes e b h k)

    pub by_field : codes_from e ≤ b → is_token (code e b) ≡ ltb (b - codes_from e) fields
    by_field k =
        by_bool (ltb (b - codes_from e) fields)
        (λ l. let low = ltb_true (b - codes_from e) fields l in rw l (ap is_token (among_codes e b h k low) ∙ field_is_token (b - codes_from e) low))
        (λ l. rw l (ap is_token (behind_codes e b h k (ltb_false (b - codes_from e) fields l))))

pub tokens_all : (e : Edition) (bytes : List ℕ) → list_all (λ (b : ℕ). is_token (code e b)) bytes ≡ are_tokens e bytes
tokens_all e [] = refl
tokens_all e (b ∷ bytes) = ap (λ (t : Bool). is_token (code e b) && t) (tokens_all e bytes)
