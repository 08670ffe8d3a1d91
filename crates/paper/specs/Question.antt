-- A question: its alphabet, the two sides, and what each field may hold; the texts that solve it; and the question that is searched for it, which
-- has a hidden field at the end of each side (request K3). Its acceptor has 01's place sets and fields, and its alphabet's characters.
use Rattle.std.specs.Prelude.{ℕ, ◌≡◌, true, List, [], ◌∷◌, ◌++◌, map, get_or}
use Rattle.paper.specs.Lists.{upto}
use Rattle.paper.specs.Numbers.{fields, hidden_left, hidden_right, set_fields}
use Rattle.paper.specs.Alphabet.{Alphabet}
use Rattle.paper.specs.Pattern.{char, leaf, many, Held, some_text, pattern, Holds}
use Rattle.paper.specs.Places as Places
use Rattle.paper.specs.Equation.{fld, Side, stands_in, Texts, label, Same, Over, Solves}
use Rattle.paper.specs.Situation.{Acceptor}

pub record Question : Type 0 where
  pub alphabet : Alphabet
  pub left : Side
  pub right : Side
  -- by field number
  pub held : List Held

-- what the field may hold
abbrev pub held_by : Question → ℕ → Held
held_by q f = get_or q.held f some_text

-- The meaning of a question: the texts that solve it. They are over its characters, each is one that its field may hold, and they make both sides
-- the same label, which is "equal after trailing spaces are dropped".
pub record Solution (q : Question) (texts : Texts) : Type 0 where
  pub same_label : Same q.alphabet.space (label texts q.left) (label texts q.right)
  pub over : (f : ℕ) → stands_in f (q.left ++ q.right) ≡ true → Over q.alphabet.characters (texts f)
  pub holds : (f : ℕ) → stands_in f (q.left ++ q.right) ≡ true → Holds (held_by q f) (texts f)

-- "one hidden field, of any number of spaces", where x is the space: in Code 39 the pattern 68 38
abbrev pub any_spaces : ℕ → Held
any_spaces x = pattern (many (leaf (char x)))

-- "Each side is to be read as if one hidden field .. stood at its end: field 8 on the left and 9 on the right"
abbrev pub hidden : Question → Question
hidden q =
    record {
      alphabet = q.alphabet;
      left = q.left ++ (fld hidden_left ∷ []);
      right = q.right ++ (fld hidden_right ∷ []);
      held = map (held_by q) (upto fields) ++ (any_spaces q.alphabet.space ∷ any_spaces q.alphabet.space ∷ []);
    }

-- The word equation of a question, which the search decides: both sides are one list of characters.
abbrev pub Equated : Question → Texts → Type 0
Equated q texts = Solves q.alphabet.characters (λ (f : ℕ). Holds (held_by q f)) q.left q.right texts

-- The place sets of 01 read the fields' texts. The set of a field that is gone is the empty one.
unfoldable pub acceptor : Question → Acceptor Places.PlaceSet
acceptor q =
    record {
      characters = q.alphabet.characters;
      fields = set_fields;
      first_set = λ (f : ℕ). Places.first_set;
      set_after = λ (f : ℕ). Places.set_after (held_by q f);
      may_end = λ (f : ℕ). Places.may_end (held_by q f);
      is_empty = Places.is_empty;
      same_set = Places.same_set;
      gone = [];
    }
