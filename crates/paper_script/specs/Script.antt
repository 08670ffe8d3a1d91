-- The script of a question (request K4), as bytes: "an SMT-LIB 2.6 script in the Unicode Strings theory: a string constant for each field that
-- stands in a side, hidden ones too, one equation, one membership for each field, and the check command".
use Rattle.std.specs.Prelude.{ℕ, suc, ◌+◌, ◌-◌, ◌/◌, ◌%◌, Bool, true, false, cond, not, ◌&&◌, List, [], ◌∷◌, ◌++◌, leb, ltb, eqb}
use Rattle.paper.specs.Lists.{from, upto, keep, each}
use Rattle.paper.specs.Numbers.{hidden_left, hidden_right, set_fields}
use Rattle.paper.specs.Pattern.{char, range, Pattern, leaf, empty, then, either, many, Held, some_text, pattern}
use Rattle.paper.specs.Equation.{chr, fld, Side, stands_in}
use Rattle.paper.specs.Alphabet.{Edition, edition_1, edition_2, alphabet_of, edition_of}
use Rattle.paper.specs.Question.{Question, held_by, hidden}
use Rattle.paper.specs.Printed.{sign, blank_sign}
use Rattle.paper_script.specs.Bytes.{bytes}
use Rattle.paper_script.specs.Escapes.{backslash}
use Rattle.paper_script.specs.Lexemes.{quotation_mark}

-- the code point that a solver sees for a character: its sign, and in the second edition, which is ASCII by value, itself
abbrev pub point : Edition → ℕ → ℕ
point edition_1 c = sign c
point edition_2 c = c

-- a hexadecimal digit, and the number of a code point, below 256, without zeros in front
abbrev pub hexadecimal_digit : ℕ → ℕ
hexadecimal_digit d = cond (ltb d 10) (48 + d) (87 + d)

abbrev pub hexadecimal : ℕ → List ℕ
hexadecimal c = cond (ltb c 16) (hexadecimal_digit c ∷ []) (hexadecimal_digit (c / 16) ∷ hexadecimal_digit (c % 16) ∷ [])

unfoldable pub escaped : ℕ → List ℕ
escaped c = bytes "\\u{" ++ hexadecimal c ++ bytes "}"

-- What can stand plainly in a literal: printable ASCII, without the backslash, for `\`, `u`, `{41}` side by side would be another character.
abbrev pub is_plain : ℕ → Bool
is_plain c = leb 32 c && leb c 126 && not (eqb c backslash)

-- A character in a literal. In the first edition it is its sign, for none of the 43 is one that SMT-LIB treats specially. In the second the script
-- "doubles a quotation mark and writes what can't stand plainly as its code (the backslash too ..)" (request K10).
unfoldable pub character : Edition → ℕ → List ℕ
character edition_1 c = sign c ∷ []
character edition_2 c = cond (eqb c quotation_mark) (quotation_mark ∷ quotation_mark ∷ []) (cond (is_plain c) (c ∷ []) (escaped c))

-- the expression of one character
unfoldable pub one_character : Edition → ℕ → List ℕ
one_character e c = bytes "(str.to_re \"" ++ character e c ++ bytes "\")"

abbrev pub next_character : Edition → ℕ → List ℕ
next_character e c = blank_sign ∷ one_character e c

-- "Value order is not ASCII order, so a range is written as a choice of single characters"; "in the second edition a range may be `re.range`, since
-- value order is ASCII order there" (request K10).
abbrev pub several : Edition → ℕ → ℕ → List ℕ
several edition_1 lo hi = bytes "(re.union" ++ each (next_character edition_1) (from lo (suc hi - lo)) ++ bytes ")"
several edition_2 lo hi = bytes "(re.range \"" ++ character edition_2 lo ++ bytes "\" \"" ++ character edition_2 hi ++ bytes "\")"

-- One character is no range.
unfoldable pub range_expression : Edition → ℕ → ℕ → List ℕ
range_expression e lo hi = cond (leb hi lo) (one_character e lo) (several e lo hi)

-- two expressions under an operator, and one
abbrev pub two : List ℕ → List ℕ → List ℕ → List ℕ
two op a b = op ++ a ++ (blank_sign ∷ b) ++ bytes ")"

abbrev pub any_number : List ℕ → List ℕ
any_number a = bytes "(re.* " ++ a ++ bytes ")"

-- the expression of a pattern
abbrev pub expression : Edition → Pattern → List ℕ
expression e (leaf (char c)) = one_character e c
expression e (leaf (range lo hi)) = range_expression e lo hi
expression e empty = bytes "(str.to_re \"\")"
expression e (then a b) = two (bytes "(re.++ ") (expression e a) (expression e b)
expression e (either a b) = two (bytes "(re.union ") (expression e a) (expression e b)
expression e (many a) = any_number (expression e a)

-- "An open field must be held to the 43 characters", behind `ED` to those of its edition: one of them or more (request K5)
abbrev pub one_character_of_all : Edition → Pattern
one_character_of_all e = leaf (range 0 ((alphabet_of e).characters - 1))

abbrev pub some_characters : Edition → Pattern
some_characters e = then (one_character_of_all e) (many (one_character_of_all e))

abbrev pub expression_of : Edition → Held → List ℕ
expression_of e some_text = expression e (some_characters e)
expression_of e (pattern p) = expression e p

-- the constant of a field: f0, f1, ..
abbrev pub digit : ℕ → ℕ
digit f = 48 + f

abbrev pub name : ℕ → List ℕ
name f = bytes "f" ++ (digit f ∷ [])

-- a comment that says which field it is, the constant, its membership
unfoldable pub field_lines : Edition → ℕ → Held → List ℕ
field_lines e f h =
    bytes "; field " ++ (digit f ∷ bytes "\n(declare-const f") ++ (digit f ∷ bytes " String)\n(assert (str.in_re f")
    ++ (digit f ∷ bytes " ") ++ expression_of e h ++ bytes "))\n"

-- The tokens of a side as arguments: a space before each, and characters that stand together are one literal. The test says whether one is open.
abbrev pub arguments_of : Edition → Bool → Side → List ℕ
arguments_of e false [] = []
arguments_of e true [] = bytes "\""
arguments_of e false (chr c ∷ side) = bytes " \"" ++ character e c ++ arguments_of e true side
arguments_of e true (chr c ∷ side) = character e c ++ arguments_of e true side
arguments_of e false (fld f ∷ side) = bytes " f" ++ (digit f ∷ arguments_of e false side)
arguments_of e true (fld f ∷ side) = bytes "\" f" ++ (digit f ∷ arguments_of e false side)

-- a side and its hidden field; alone it is no sum
abbrev pub side_term : Edition → Side → ℕ → List ℕ
side_term e [] hidden-field = name hidden-field
side_term e (t ∷ side) hidden-field =
    bytes "(str.++" ++ arguments_of e false (t ∷ side) ++ bytes " f" ++ (digit hidden-field ∷ bytes ")")

abbrev pub heading : List ℕ
heading =
    bytes "; Do two label rules clash? sat: they do. unsat: they don't.\n"
    ++ bytes "; Fields 8 and 9 are the spaces at the end of the left and the right label.\n"
    ++ bytes "(set-logic QF_S)\n"

-- the fields that stand in a side, the hidden ones too, by rising number
unfoldable pub all_standing : Question → List ℕ
all_standing q = keep (λ (f : ℕ). stands_in f (q.left ++ q.right)) (upto set_fields)

unfoldable pub equation : Edition → Side → Side → List ℕ
equation e left right =
    bytes "(assert (= " ++ side_term e left hidden_left ++ (blank_sign ∷ side_term e right hidden_right) ++ bytes "))\n(check-sat)\n"

-- by the edition of the question's alphabet
unfoldable pub script : Question → List ℕ
script q =
    let e = edition_of q.alphabet in
    heading ++ each (λ (f : ℕ). field_lines e f (held_by (hidden q) f)) (all_standing (hidden q)) ++ equation e q.left q.right

-- so many bytes are enough for the script of every good sheet, in either edition
abbrev pub longest_script : ℕ
longest_script = 280000
