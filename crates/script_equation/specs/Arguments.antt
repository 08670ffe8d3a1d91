-- The term of a side by inner codes, for all bytes: of a good side's codes it is `side_term` of the side (`Sides` of the proofs).
use Rattle.std.specs.Prelude.{ℕ, ◌+◌, Bool, false, cond, List, [], ◌∷◌, ◌++◌}
use Rattle.paper.specs.Printed.{blank_sign}
use Rattle.paper.specs.Alphabet.{Edition}
use Rattle.paper_script.specs.Bytes.{bytes}
use Rattle.paper_script.specs.Script.{character, digit}
use Rattle.paper.specs.Numbers.{hidden_left, hidden_right}
use Rattle.base_codes.specs.Inner.{field_code, is_char, field_of}

abbrev pub digit_of : ℕ → ℕ
digit_of t = digit (field_of t)

-- a token, where a literal is open or not
unfoldable pub argument : Edition → Bool → ℕ → List ℕ
argument e literal t =
    cond (is_char t) (cond literal [] (bytes " \"") ++ character e t) (cond literal (bytes "\" f") (bytes " f") ++ (digit_of t ∷ []))

abbrev pub arguments_from : Edition → Bool → List ℕ → List ℕ
arguments_from e literal [] = cond literal (bytes "\"") []
arguments_from e literal (t ∷ side) = argument e literal t ++ arguments_from e (is_char t) side

unfoldable pub all_arguments : Edition → List ℕ → List ℕ
all_arguments e side = arguments_from e false side

abbrev pub constant : ℕ → List ℕ
constant t = 102 ∷ digit_of t ∷ []

abbrev pub side_spelt : Edition → List ℕ → ℕ → List ℕ
side_spelt e [] hidden = constant hidden
side_spelt e (t ∷ side) hidden = bytes "(str.++" ++ all_arguments e (t ∷ side) ++ (blank_sign ∷ constant hidden) ++ bytes ")"

-- the equation of two sides and the check command
unfoldable pub equation_spelt : Edition → List ℕ → List ℕ → List ℕ
equation_spelt e left right =
    bytes "(assert (= " ++ side_spelt e left (field_code + hidden_left) ++ (blank_sign ∷ side_spelt e right (field_code + hidden_right))
    ++ bytes "))\n(check-sat)\n"
