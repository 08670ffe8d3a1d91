-- A text told back from the line that was printed of it, in either edition: its signs' values, which behind `ED` spell it.
use Rattle.std.specs.Prelude.{ℕ, Bool, cond, not, List, [], ◌∷◌, map, ltb, eqb}
use Rattle.paper.specs.Lists.{all, leading}
use Rattle.paper.specs.Alphabet.{Edition, edition_1, edition_2, alphabet_of}
use Rattle.paper.specs.Printed.{signs, blank_sign, newline}
use Rattle.paper_spell.specs.FullAscii.{ReadBack, text, read_back}

-- every byte is a character of the edition
abbrev pub is_text_in : Edition → List ℕ → Bool
is_text_in e t = all (λ (c : ℕ). ltb c (alphabet_of e).characters) t

-- the value of a sign: how many of the 43 stand before it
abbrev pub sign_value : ℕ → ℕ
sign_value b = leading (λ (s : ℕ). not (eqb s b)) signs

-- what stands behind the field number and its space, and before the end of the line
abbrev pub behind_blank : List ℕ → List ℕ
behind_blank [] = []
behind_blank (b ∷ line) = cond (eqb b blank_sign) line (behind_blank line)

abbrev pub before_newline : List ℕ → List ℕ
before_newline [] = []
before_newline (b ∷ line) = cond (eqb b newline) [] (b ∷ before_newline line)

abbrev pub text_of_values : Edition → List ℕ → ReadBack
text_of_values edition_1 values = text values
text_of_values edition_2 values = read_back values

unfoldable pub told_back : Edition → List ℕ → ReadBack
told_back e line = text_of_values e (map sign_value (before_newline (behind_blank line)))
