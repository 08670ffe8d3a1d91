-- A text byte by byte.
--   text_all       : is every byte a character?
--   shifts_counted : how many have a shift sign
--   spelt_next     : one more character spelt
--   spelt_shifts   : how long the spelling is
-- Follows from the laws of lists.
use Prim.Native.Nat.{ℕ, ◌+◌, ◌<◌}
use native.Mathlib.Numerals.{add-one}
use native.Mathlib.Omega.{arith}
use mathlib.Core.Path.{◌≡◌, refl, sym, ap, ◌∙◌}
use mathlib.Core.Bool.{Bool, cond, ◌&&◌}
use mathlib.Core.List.{List, [], ◌∷◌, ◌++◌, append_assoc, append-nil}
use lib.Dec.{eqb, ltb}
use lib.ListN.{length, take, get_or, length-append}
use Rattle.std.specs.List.{filter, list_all}
use Rattle.std.specs.Option.{is_some}
use lib.Seq.{take-suc}
use Rattle.paper.proofs.base.Tests.{by_bool}
use Rattle.paper_spell.specs.FullAscii.{ascii, no_shift, shift_of, value_of, spelt_by, spelt, is_text}
use Rattle.spell_table.specs.Entries.{shift_sign}
use Rattle.spell_text.specs.SpeltNumbers.{shifts_in}

pub text_all : (text : List ℕ) → list_all (λ (c : ℕ). ltb c ascii) text ≡ is_text text
text_all [] = refl
text_all (c ∷ text) = ap (λ (b : Bool). ltb c ascii && b) (text_all text)

-- the characters that have a shift sign
abbrev pub has_shift : ℕ → Bool
has_shift c = is_some (shift_sign (shift_of c))

pub shifts_counted : (text : List ℕ) → length (filter has_shift text) ≡ shifts_in text
shifts_counted [] = refl
shifts_counted (c ∷ text) =
    by_bool (eqb (shift_of c) no_shift) (λ e. rw e (omega (arith, shifts_counted text))) (λ e. rw e (omega (arith, shifts_counted text)))

spelt_append : (t u : List ℕ) → spelt (t ++ u) ≡ spelt t ++ spelt u
spelt_append [] u = refl
spelt_append (c ∷ t) u = rw (spelt_append t u) (sym (append_assoc (spelt_by (shift_of c) (value_of c)) (spelt t) (spelt u)))

pub spelt_next : (text : List ℕ) (i : ℕ) → i < length text
    → spelt (take (i + 1) text) ≡ spelt (take i text) ++ spelt_by (shift_of (get_or text i 0)) (value_of (get_or text i 0))
spelt_next text i h =
    let its = spelt_by (shift_of (get_or text i 0)) (value_of (get_or text i 0)) in
    rw (add-one i, take-suc text i 0 h) (spelt_append (take i text) (get_or text i 0 ∷ []) ∙ ap (λ (l : List ℕ). spelt (take i text) ++ l) (append-nil its))

spelt_by_length : (s v : ℕ) → length (spelt_by s v) ≡ 1 + cond (eqb s no_shift) 0 1
spelt_by_length s v = by_bool (eqb s no_shift) (λ e. rw e) (λ e. rw e)

pub spelt_shifts : (text : List ℕ) → length (spelt text) ≡ length text + shifts_in text
spelt_shifts [] = refl
spelt_shifts (c ∷ text) =
    rw (length-append (spelt_by (shift_of c) (value_of c)) (spelt text))
    (omega (arith, spelt_by_length (shift_of c) (value_of c), spelt_shifts text))
