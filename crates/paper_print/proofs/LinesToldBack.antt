-- From the line that is printed of a text, the text is told back; so no two different texts have the same line.
--   line_told_back : told_back e (text_line e f t) ≡ text t, for the characters of the edition
--   lines_unlike   : text_line e f t ≡ text_line e g u → t ≡ u
-- Follows from `Texts` of `paper_spell`, and from one test of the 43 signs that is computed.
use Prim.Native.Nat.{ℕ, zero, suc, ◌+◌, ◌/◌, ◌%◌, ◌<◌}
use native.Mathlib.Omega.{arith}
use mathlib.Core.Path.{◌≡◌, refl, sym, ap, ◌∙◌}
use mathlib.Core.Bool.{Bool, true, false, not, ◌&&◌}
use mathlib.Core.List.{List, [], ◌∷◌, ◌++◌, map, append_assoc}
use lib.Dec.{ltb, eqb}
use Rattle.paper.specs.Lists.{upto, all}
use Rattle.paper.specs.Numbers.{characters}
use Rattle.paper.specs.Alphabet.{Edition, edition_1, edition_2}
use Rattle.paper.specs.Printed.{sign, digits, decimal, blank_sign, newline}
use Rattle.paper.proofs.base.Tests.{by_bool, and_left, and_right, not_is_true, eqb_true, neq_eqb, ltb_true}
use Rattle.paper.proofs.base.Lists.{cons_eq, all_true, upto_mem}
use Rattle.paper_spell.specs.FullAscii.{are_values, text}
use Rattle.paper_spell.proofs.Texts.{read_spelt_text, spelt_values}
use Rattle.paper_print.specs.TextLines.{printed_values, text_line}
use Rattle.paper_print.specs.ToldBack.{is_text_in, sign_value, behind_blank, before_newline, text_of_values, told_back}

-- The test: each sign has its value, and none is the end of a line.
abbrev sign_right : ℕ → Bool
sign_right v = eqb (sign_value (sign v)) v && not (eqb (sign v) newline)

signs_right : all sign_right (upto characters) ≡ true
signs_right = refl

module _ (v : ℕ) (h : v < characters) where
  its_test : sign_right v ≡ true
  its_test = all_true sign_right (upto characters) signs_right (upto_mem characters h)

  own_value : sign_value (sign v) ≡ v
  own_value = eqb_true (sign_value (sign v)) v (and_left _ _ its_test)

  no_end : eqb (sign v) newline ≡ false
  no_end = not_is_true (and_right (eqb (sign_value (sign v)) v) (not (eqb (sign v) newline)) its_test)

-- the values of a line's signs
values_back : (l : List ℕ) → are_values l ≡ true → map sign_value (before_newline (map sign l ++ (newline ∷ []))) ≡ l
values_back [] e = refl
values_back (v ∷ l) e =
    let small = ltb_true v characters (and_left (ltb v characters) (are_values l) e) in
    rw (no_end v small) (cons_eq (own_value v small) (values_back l (and_right (ltb v characters) (are_values l) e)))

-- no digit is a space
behind_digit : (n : ℕ) (l : List ℕ) → behind_blank ((48 + n) ∷ l) ≡ behind_blank l
behind_digit n l = rw (neq_eqb (48 + n) blank_sign (λ (z : 48 + n ≡ blank_sign). omega arith))

behind_digits : (k n : ℕ) (l : List ℕ) → behind_blank (digits k n ++ l) ≡ behind_blank l
behind_digits zero n l = refl
behind_digits (suc k) n l =
    by_bool (ltb n 10) (λ e. rw e (behind_digit (n % 10) l))
    (λ e. rw (e, append_assoc (digits k (n / 10)) ((48 + n % 10) ∷ []) l) (behind_digits k (n / 10) ((48 + n % 10) ∷ l) ∙ behind_digit (n % 10) l))

-- what stands behind the field number and its space
behind_field : (f : ℕ) (l : List ℕ) → behind_blank (decimal f ++ (blank_sign ∷ l) ++ (newline ∷ [])) ≡ l ++ (newline ∷ [])
behind_field f l = rw (append_assoc (decimal f) (blank_sign ∷ l) (newline ∷ [])) (behind_digits 20 f (blank_sign ∷ (l ++ (newline ∷ []))))

-- a text is printed in values of Code 39, and they give it back
printed_small : (e : Edition) (t : List ℕ) → is_text_in e t ≡ true → are_values (printed_values e t) ≡ true
printed_small edition_1 t h = h
printed_small edition_2 t h = spelt_values t h

values_told : (e : Edition) (t : List ℕ) → is_text_in e t ≡ true → text_of_values e (printed_values e t) ≡ text t
values_told edition_1 t h = refl
values_told edition_2 t h = read_spelt_text t h

module _ (e : Edition) where
  pub line_told_back : (f : ℕ) (t : List ℕ) → is_text_in e t ≡ true → told_back e (text_line e f t) ≡ text t
  unfolding told_back
  line_told_back f t h =
      rw (behind_field f (map sign (printed_values e t)), values_back (printed_values e t) (printed_small e t h)) (values_told e t h)

  pub lines_unlike : (f g : ℕ) (t u : List ℕ) → is_text_in e t ≡ true → is_text_in e u ≡ true → text_line e f t ≡ text_line e g u → t ≡ u
  lines_unlike f g t u h k same =
      let alike : text t ≡ text u = sym (line_told_back f t h) ∙ ap (told_back e) same ∙ line_told_back g u k in cc
