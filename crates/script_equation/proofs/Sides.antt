-- The term of a side by inner codes is the term of the side.
--   no_tokens, some_tokens : by whether the side has tokens
--   side_alike             : side_spelt e (side_code own) (field_code + h) ≡ side_term e own h, of a good side
--   equation_alike         : and so the equation
-- By induction on the side: the code of a character is below that of every field.
use Prim.Native.Nat.{ℕ, ◌+◌, ◌<◌}
use native.Mathlib.Omega.{arith}
use mathlib.Core.Path.{◌≡◌, refl, sym, ap, ap₂, ◌∙◌}
use mathlib.Core.Bool.{Bool, true, false}
use mathlib.Core.List.{List, [], ◌∷◌, ◌++◌, append_assoc, Memᴰ}
use lib.ListN.{length}
use Rattle.paper.specs.Numbers.{hidden_left, hidden_right}
use Rattle.paper.specs.Alphabet.{Edition, alphabet_of}
use Rattle.paper.specs.Equation.{Token, chr, fld, Side}
use Rattle.paper.specs.Printed.{blank_sign}
use Rattle.paper.proofs.base.Tests.{lt_ltb, le_ltb}
use Rattle.paper_laws.proofs.sheets.Asked.{InRange}
use Rattle.paper_laws.proofs.sheets.Editions.{most_of}
use Rattle.paper_script.specs.Bytes.{bytes}
use Rattle.paper_script.specs.Script.{digit, arguments_of, side_term, equation}
use Rattle.base_codes.specs.Inner.{field_code, side_code}
use Rattle.script_equation.specs.Arguments.{digit_of, argument, arguments_from, all_arguments, constant, side_spelt, equation_spelt}

pub no_tokens : (e : Edition) (l : List ℕ) (h : ℕ) → length l ≡ 0 → side_spelt e l h ≡ constant h
no_tokens e [] h i = refl
no_tokens e (t ∷ l) h i = absurd (omega (arith, i))

pub some_tokens : (e : Edition) (l : List ℕ) (h : ℕ) → (length l ≡ 0 → ⊥)
    → side_spelt e l h ≡ bytes "(str.++" ++ all_arguments e l ++ (blank_sign ∷ constant h) ++ bytes ")"
some_tokens e [] h n = absurd (n refl)
some_tokens e (t ∷ l) h n = refl

digit_alike : (f : ℕ) → digit_of (field_code + f) ≡ digit f
digit_alike f = omega arith

abbrev Good : Edition → Side → Type 0
Good e side = (t : Token) → Memᴰ t side → InRange (alphabet_of e).characters t

small : (e : Edition) (c : ℕ) → c < (alphabet_of e).characters → c < field_code
small e c h = omega (arith, most_of e)

arguments_alike : (e : Edition) (literal : Bool) (side : Side) → Good e side → arguments_from e literal (side_code side) ≡ arguments_of e literal side
unfolding argument
arguments_alike e false [] g = refl
arguments_alike e true [] g = refl
arguments_alike e false (chr c ∷ side) g =
    rw (lt_ltb c field_code (small e c (g (chr c) (Memᴰ.head refl))), arguments_alike e true side (λ t d. g t (Memᴰ.tail d)))
arguments_alike e true (chr c ∷ side) g =
    rw (lt_ltb c field_code (small e c (g (chr c) (Memᴰ.head refl))), arguments_alike e true side (λ t d. g t (Memᴰ.tail d)))
arguments_alike e false (fld f ∷ side) g =
    rw (le_ltb (field_code + f) field_code (omega arith), digit_alike f, arguments_alike e false side (λ t d. g t (Memᴰ.tail d)))
arguments_alike e true (fld f ∷ side) g =
    rw (le_ltb (field_code + f) field_code (omega arith), digit_alike f, arguments_alike e false side (λ t d. g t (Memᴰ.tail d)))

-- the hidden field and the closing parenthesis
hidden_alike : (l : List ℕ) (h : ℕ) → l ++ (blank_sign ∷ constant (field_code + h)) ++ bytes ")" ≡ l ++ bytes " f" ++ (digit h ∷ bytes ")")
hidden_alike l h =
    append_assoc l (blank_sign ∷ constant (field_code + h)) (bytes ")")
    ∙ ap (λ (d : ℕ). l ++ (blank_sign ∷ 102 ∷ d ∷ bytes ")")) (digit_alike h)
    ∙ sym (append_assoc l (bytes " f") (digit h ∷ bytes ")"))

pub side_alike : (e : Edition) (own : Side) (h : ℕ) → Good e own → side_spelt e (side_code own) (field_code + h) ≡ side_term e own h
unfolding all_arguments
side_alike e [] h g = ap (λ (d : ℕ). 102 ∷ d ∷ []) (digit_alike h)
side_alike e (t ∷ own) h g =
    ap (λ (l : List ℕ). bytes "(str.++" ++ l ++ (blank_sign ∷ constant (field_code + h)) ++ bytes ")") (arguments_alike e false (t ∷ own) g)
    ∙ hidden_alike (bytes "(str.++" ++ arguments_of e false (t ∷ own)) h

pub equation_alike : (e : Edition) (l r : Side) → Good e l → Good e r → equation_spelt e (side_code l) (side_code r) ≡ equation e l r
unfolding equation_spelt equation
equation_alike e l r g k =
    ap₂ (λ (a b : List ℕ). bytes "(assert (= " ++ a ++ (blank_sign ∷ b) ++ bytes "))\n(check-sat)\n") (side_alike e l hidden_left g)
    (side_alike e r hidden_right k)
