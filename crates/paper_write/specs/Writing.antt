-- Writing the sheet that says given sides and patterns (request K8), in the edition that is given (request K10): from what is given and any buffer to the number, the place, the bytes written and
-- the buffer afterwards; and what is promised of it.
use Rattle.std.specs.Prelude.{ℕ, zero, suc, ◌≤◌, ◌≡◌, List, [], ◌∷◌, map, length, take, drop}
use Rattle.paper.specs.Alphabet.{Edition, alphabet_of, codes}
use Rattle.paper.specs.Question.{Question, held_by}
use Rattle.paper.specs.Sheet.{Fault, fault_number, token, Reading, refused, asked, read_sheet}
use Rattle.paper_carry.specs.Spelling.{Spelling, spelling_told, put_into, longest_sheet}
use Rattle.paper.specs.Saying.{ToSay, sheet_laid, edition_byte, held_code}

-- "Refusals: those of reading, by what is wrong, in the order the written sheet would meet them, then 41 if the buffer is too short."
abbrev pub writing_of : Reading → List ℕ → List ℕ → Spelling
writing_of (refused x at) sheet out = spelling_told (fault_number x) at 0 out
writing_of (asked q) sheet out = put_into sheet out

unfoldable pub writing : ToSay → List ℕ → Spelling
writing t out = writing_of (read_sheet (sheet_laid t)) (sheet_laid t) out

-- the bytes of the field's pattern, none where it has no pattern
abbrev pub field_bytes : List ℕ → List ℕ → ℕ → List ℕ
field_bytes [] patterns f = []
field_bytes (n ∷ lengths) patterns zero = take n patterns
field_bytes (n ∷ lengths) patterns (suc f) = field_bytes lengths (drop n patterns) f

-- "Reading what it wrote gives the same question": in the edition that was given, the same sides, and the same patterns byte for byte; since request K13
-- there is none of a field that doesn't stand. What bytes of a side say is said by their codes in that edition.
pub record Says (t : ToSay) (bytes : List ℕ) : Type 0 where
  pub edition : Edition
  pub same_edition : edition_byte edition ≡ t.edition
  pub question : Question
  pub asks : read_sheet bytes ≡ asked question
  pub same_alphabet : question.alphabet ≡ alphabet_of edition
  pub same_left : question.left ≡ map token (codes edition t.left)
  pub same_right : question.right ≡ map token (codes edition t.right)
  pub same_patterns : (f : ℕ) → held_code edition (held_by question f) ≡ field_bytes t.lengths t.patterns f

-- What is promised: of everything given and every buffer.
pub record WritePromised (t : ToSay) (out : List ℕ) (s : Spelling) : Type 0 where
  pub says : s.number ≡ 0 → Says t (take s.written s.out)
  pub behind : drop s.written s.out ≡ drop s.written out
  pub refuses : (x : Fault) (at : ℕ) → read_sheet (sheet_laid t) ≡ refused x at → (s.number ≡ fault_number x) × (s.place ≡ at)
  pub unchanged : (s.number ≡ 0 → ⊥) → s.out ≡ out
  pub enough : longest_sheet ≤ length out → s.number ≡ 41 → ⊥
