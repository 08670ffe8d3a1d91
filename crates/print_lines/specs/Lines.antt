-- The lines of an answer in a lent buffer: what they are, how much room they need, and what becomes of the buffer.
use Rattle.std.specs.Prelude.{ℕ, ◌+◌, ◌*◌, ◌≤◌, ◌≡◌, cond, List, ◌++◌, leb, length, take, drop, Option, Some, None}
use Rattle.paper.specs.Alphabet.{Edition}
use Rattle.paper_print.specs.TextLines.{value_lines}
use Rattle.base_answers.specs.declared.Numbers.{Numbers}
use Rattle.print_lines.specs.Writing.{most_digits, numbers_line, numbers_line_decided, first_line_of}

-- three numbers of at most 20 digits, a sign behind each
abbrev pub longest_first_line : ℕ
longest_first_line = 3 * (most_digits + 1)

-- four
abbrev pub longest_decided_line : ℕ
longest_decided_line = 4 * (most_digits + 1)

-- with the number of the search or without
abbrev pub longest_line : Option ℕ → ℕ
longest_line None = longest_first_line
longest_line (Some search) = longest_decided_line

-- the bytes in front of the buffer, the rest unchanged
abbrev pub lines_in_front : List ℕ → List ℕ → List ℕ
lines_in_front bytes buffer = bytes ++ drop (length bytes) buffer

-- The lines l stand in front of the buffer, and n is their length. The third part follows from the other two; with it a caller may take
-- the part that they stand in.
pub record Prints (l before after : List ℕ) (n : ℕ) : Type 0 where
  pub bytes : after ≡ lines_in_front l before
  pub many : n ≡ length l
  pub within : n ≤ length after

-- a first line, and the lines of so many bytes of an answer buffer
abbrev pub lines_behind : Edition → List ℕ → ℕ → List ℕ → List ℕ
lines_behind e first written answer = first ++ value_lines e written (take written answer)

-- the lines of an answer's numbers and its buffer
abbrev pub lines_of : Edition → Numbers → List ℕ → List ℕ
lines_of e told answer = lines_behind e (numbers_line told.number told.count told.place) told.written answer

-- the same and the number of the search that decided
abbrev pub decided_lines_of : Edition → Numbers → ℕ → List ℕ → List ℕ
decided_lines_of e told search answer =
    lines_behind e (numbers_line_decided told.number told.count told.place search) told.written answer

-- both: with the number of the search if one is told
abbrev pub lines_with : Edition → Numbers → Option ℕ → List ℕ → List ℕ
lines_with e told search answer = lines_behind e (first_line_of told search) told.written answer

-- how many bytes the lines are, if they have room, and the buffer afterwards
pub record Put : Type 0 where
  pub said : Option ℕ
  pub out : List ℕ

abbrev pub put_as : Option ℕ → List ℕ → Put
put_as said out = record { said = said; out = out }

-- the room that is always enough behind a longest first line: no other line is longer than two of its records
abbrev pub room_for : ℕ → List ℕ → ℕ
room_for longest answer = longest + 2 * length answer

-- where there is room, these lines; else nothing is changed
abbrev pub put_where_room : ℕ → List ℕ → List ℕ → List ℕ → Put
put_where_room longest lines answer out =
    cond (leb (room_for longest answer) (length out)) (put_as (Some (length lines)) (lines_in_front lines out)) (put_as None out)

unfoldable pub put_with : Edition → Numbers → Option ℕ → List ℕ → List ℕ → Put
put_with e told search answer out = put_where_room (longest_line search) (lines_with e told search answer) answer out

unfoldable pub put_lines : Edition → Numbers → List ℕ → List ℕ → Put
put_lines e told answer out = put_where_room longest_first_line (lines_of e told answer) answer out

unfoldable pub put_decided : Edition → Numbers → ℕ → List ℕ → List ℕ → Put
put_decided e told search answer out = put_where_room longest_decided_line (decided_lines_of e told search answer) answer out
