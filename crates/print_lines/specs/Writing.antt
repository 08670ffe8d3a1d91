-- What the writers put into a lent buffer: the parts of what is printed, in the order in which they are put.
use Rattle.std.specs.Prelude.{ℕ, ◌+◌, ◌*◌, ◌-◌, ◌≤◌, min, ◌≡◌, List, [], ◌∷◌, ◌++◌, length, get_or, Option, Some, None}
use Rattle.std.proofs.lemmas.List.Edits.{sets}
use Rattle.base_answers.specs.declared.Numbers.{Numbers}
use Rattle.paper.specs.Alphabet.{Edition}
use Rattle.paper.specs.Printed.{digits, blank_sign}
use Rattle.paper_print.specs.TextLines.{text_line, value_lines}
use Rattle.paper_print.specs.ClashProgram.{first_line}
use Rattle.paper_print.specs.DecideProgram.{decided_line}

-- The bytes l were put into d from `at` on, which is now e; `end` is the place behind them.
pub record Puts (d e : List ℕ) (at end : ℕ) (l : List ℕ) : Type 0 where
  pub bytes : e ≡ sets d at l
  pub behind : end ≡ at + length l

-- The definition's `digits`, its first lines and each of its other lines, shut: open, the 20 digits of a number are written out wherever it stands.
unfoldable pub in_digits : ℕ → ℕ → List ℕ
in_digits k n = digits k n

abbrev pub most_digits : ℕ
most_digits = 20

abbrev pub in_decimal : ℕ → List ℕ
in_decimal n = in_digits most_digits n

-- "answer, count and place in decimal, one space between"
unfoldable pub numbers_line : ℕ → ℕ → ℕ → List ℕ
numbers_line number count place = first_line number count place

-- the same and the number of the search
unfoldable pub numbers_line_decided : ℕ → ℕ → ℕ → ℕ → List ℕ
numbers_line_decided number count place search = decided_line number count place search

-- the first line, with the number of the search if one is told
abbrev pub first_line_of : Numbers → Option ℕ → List ℕ
first_line_of told None = numbers_line told.number told.count told.place
first_line_of told (Some search) = numbers_line_decided told.number told.count told.place search

-- three numbers, one space between and a sign behind: how both lines begin
abbrev pub three_numbers : ℕ → ℕ → ℕ → ℕ → List ℕ
three_numbers number count place sign =
    (in_decimal number ++ (blank_sign ∷ [])) ++ (in_decimal count ++ (blank_sign ∷ [])) ++ (in_decimal place ++ (sign ∷ []))

-- "field number, a space, the text as characters"
unfoldable pub value_line : Edition → ℕ → List ℕ → List ℕ
value_line e f text = text_line e f text

-- `VA`, field byte, length in two bytes
abbrev pub head_size : ℕ
head_size = 5

-- how long the text of the record at `from` is: as the record tells, but not past the end
abbrev pub text_length : List ℕ → ℕ → ℕ
text_length s from = min (get_or s (from + 3) 0 + 256 * get_or s (from + 4) 0) (length s - (from + head_size))

-- "a line for each `VA`" was put, none longer than two of its records: behind `ED` a character may be two signs
pub record PutsLines (k : Edition) (d e : List ℕ) (at end : ℕ) (records : List ℕ) : Type 0 where
  pub within : end ≤ at + 2 * length records
  pub lines : (n : ℕ) → length records ≤ n → Puts d e at end (value_lines k n records)
