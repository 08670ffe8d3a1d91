-- A rule of a catalogue (request K1): its record, read by 01's checks; the labels it makes; and two rules as a question.
use Rattle.std.specs.Prelude.{ℕ, suc, ◌+◌, ◌≡◌, Bool, true, false, cond, ◌||◌, List, [], ◌∷◌, map, ◌++◌, leb, ltb, length, get_or, take}
use Rattle.paper.specs.Lists.{any}
use Rattle.paper.specs.Numbers.{characters, rule_fields}
use Rattle.paper.specs.Pattern.{Held, some_text, Holds}
use Rattle.paper.specs.Equation.{Token, chr, fld, Side, stands_in, Texts, label, Over}
use Rattle.paper.specs.Alphabet.{code_39, edition_1}
use Rattle.paper.specs.Question.{Question}
use Rattle.paper.specs.Sheet.{Checked, fault, read, cut_short, wrong_mark, stray_pattern, LE, RU, marked, marked_side, Records, faulty, records, Fields, open_fields, read_patterns, strays_of}

pub record Rule : Type 0 where
  pub side : Side
  -- what its fields may hold, and one above the last field that has a pattern
  pub fields : Fields

-- what the field may hold
abbrev pub rule_holds : Rule → ℕ → Held
rule_holds r f = get_or r.fields.held f some_text

-- "A rule makes a label": texts for its fields, each fitting its pattern, put into its side.
pub record Makes (r : Rule) (l : List ℕ) : Type 0 where
  pub texts : Texts
  pub over : (f : ℕ) → stands_in f r.side ≡ true → Over characters (texts f)
  pub holds : (f : ℕ) → stands_in f r.side ≡ true → Holds (rule_holds r f) (texts f)
  pub made : label texts r.side ≡ l

-- "the mark `RU`, the `PA` records of its own fields .. and one `LE`, its end as `RI` is a sheet's; 01's checks read it, offsets from `RU`":
-- the rule at the front of the bytes. "A rule never has `ED`" (request K10).
abbrev pub with_side : Fields → Checked Side → Records Rule
with_side fs (fault x at) = faulty x at
with_side fs (read side next) = records (record { side = side; fields = fs }) next

abbrev pub side_read : List ℕ → Records Fields → Records Rule
side_read s (faulty x at) = faulty x at
side_read s (records fs at) = with_side fs (marked_side edition_1 LE s at)

unfoldable pub rule_front : List ℕ → Records Rule
rule_front s =
    cond (ltb (length s) 2) (faulty cut_short (length s))
    (cond (marked RU s 0) (side_read s (read_patterns edition_1 (suc (length s)) s 2 open_fields)) (faulty wrong_mark 0))

-- a rule by itself: behind it any byte left gives 12, as behind `RI`
abbrev pub rule_end : List ℕ → Records Rule → Records Rule
rule_end s (faulty x at) = faulty x at
rule_end s (records r next) = cond (ltb next (length s)) (faulty wrong_mark next) (records r next)

-- by the rule before request K13
unfoldable pub read_rule_before : List ℕ → Records Rule
read_rule_before s = rule_end s (rule_front s)

-- "22 .. In a rule it comes between 17 and 31, its place from `RU`", behind the 12 for bytes behind it
abbrev pub rule_strays : Rule → List ℕ
rule_strays r = strays_of r.fields.held r.side

abbrev pub rule_at_stray : Rule → ℕ → List ℕ → Records Rule
rule_at_stray r next [] = records r next
rule_at_stray r next (f ∷ fs) = faulty stray_pattern (get_or r.fields.marks f 0)

abbrev pub rule_checked : Records Rule → Records Rule
rule_checked (faulty x at) = faulty x at
rule_checked (records r next) = rule_at_stray r next (rule_strays r)

unfoldable pub read_rule : List ℕ → Records Rule
read_rule s = rule_checked (read_rule_before s)

-- "31 for a field above 3": a pattern's field byte or a token of the side names one. Field numbers rise, so the last pattern's is the highest.
abbrev pub foreign_token : Token → Bool
foreign_token (chr c) = false
foreign_token (fld f) = leb rule_fields f

unfoldable pub foreign_field : Rule → Bool
foreign_field r = ltb rule_fields r.fields.above || any foreign_token r.side

-- "In a pair the present rule is the left side, the new one the right, with its fields as 4 to 7."
abbrev pub moved_up : Token → Token
moved_up (chr c) = chr c
moved_up (fld f) = fld (rule_fields + f)

unfoldable pub pair : Rule → Rule → Question
pair present new =
    record {
      alphabet = code_39;
      left = present.side;
      right = map moved_up new.side;
      held = take rule_fields present.fields.held ++ take rule_fields new.fields.held;
    }
