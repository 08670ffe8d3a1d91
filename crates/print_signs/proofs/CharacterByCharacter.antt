-- A text is printed character by character.
--   values_more      : one character more
--   values_length    : at most two values for each character
--   character_length : of one character, one or two
-- By cases on the edition.
use Prim.Native.Nat.{ℕ, ◌+◌, ◌*◌, ◌≤◌, ◌<◌}
use native.Mathlib.Numerals.{add-one}
use native.Mathlib.Omega.{arith}
use mathlib.Core.Path.{◌≡◌, refl, sym, ap, ◌∙◌}
use mathlib.Core.List.{List, [], ◌∷◌, ◌++◌, append_assoc, append-nil}
use lib.Dec.{eqb}
use lib.ListN.{length, get_or, take}
use lib.Seq.{take-suc}
use Rattle.paper.specs.Alphabet.{Edition, edition_1, edition_2}
use Rattle.paper.proofs.base.Tests.{cond_by}
use Rattle.paper_spell.specs.FullAscii.{no_shift, shift_of, value_of, spelt_by, spelt}
use Rattle.paper_spell.proofs.Texts.{spelt_length}
use Rattle.paper_print.specs.TextLines.{printed_values}
use Rattle.print_signs.specs.PrintedCharacter.{shift_printed, values_of_character}

spelt_append : (t u : List ℕ) → spelt (t ++ u) ≡ spelt t ++ spelt u
spelt_append [] u = refl
spelt_append (c ∷ t) u =
    ap (λ (l : List ℕ). spelt_by (shift_of c) (value_of c) ++ l) (spelt_append t u) ∙ sym (append_assoc (spelt_by (shift_of c) (value_of c)) (spelt t) (spelt u))

-- one character behind a text
values_behind : (e : Edition) (t : List ℕ) (c : ℕ) → printed_values e (t ++ (c ∷ [])) ≡ printed_values e t ++ values_of_character e c
unfolding values_of_character
values_behind edition_1 t c = refl
values_behind edition_2 t c = spelt_append t (c ∷ []) ∙ ap (λ (l : List ℕ). spelt t ++ l) (append-nil (spelt_by (shift_of c) (value_of c)))

module _ (e : Edition) where
  pub values_more : (text : List ℕ) (i : ℕ) → i < length text
      → printed_values e (take (i + 1) text) ≡ printed_values e (take i text) ++ values_of_character e (get_or text i 0)
  values_more text i h = rw (add-one, take-suc text i 0) (values_behind e (take i text) (get_or text i 0))

  pub character_length : (c : ℕ) → length (values_of_character e c) ≤ 2
  unfolding values_of_character
  character_length c =
      cond_by (λ (l : List ℕ). length l ≤ 2) (eqb (shift_printed e c) no_shift) (λ _. omega arith) (λ _. omega arith)

pub values_length : (e : Edition) (text : List ℕ) → length (printed_values e text) ≤ 2 * length text
values_length edition_1 text = omega arith
values_length edition_2 text = (spelt_length text).1
