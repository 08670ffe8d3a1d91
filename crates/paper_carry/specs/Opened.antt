-- Old sheets and rules carried over (request K5): "Sheets and catalogue rules that relied on the old meaning must carry 68 65 0 42 written out".
-- From what was read to what is written: the same, with 68 65 0 42 for each standing field without a pattern, behind `ED` "196 193 0 127" (request
-- K10). And the old meaning.
use Rattle.std.specs.Prelude.{ℕ, suc, ◌-◌, ◌≡◌, Bool, true, cond, List, [], ◌∷◌, ◌++◌, get_or}
use Rattle.paper.specs.Numbers.{characters}
use Rattle.paper.specs.Pattern.{range, Pattern, leaf, many, Held, some_text, pattern, Fits}
use Rattle.paper.specs.Alphabet.{edition_1}
use Rattle.paper.specs.Equation.{Side, stands_in, Texts, label, Same, Over}
use Rattle.paper.specs.Question.{Question, held_by}
use Rattle.paper.specs.Sheet.{LE, RU}
use Rattle.paper.specs.Rule.{Rule, rule_holds}
use Rattle.paper.specs.Saying.{mark_bytes, patterns_saying, side_saying}

-- Any number of the n characters that there are: 68 65 0 42, and 196 193 0 127 for the 128 of the second edition.
abbrev pub written_out : ℕ → Pattern
written_out n = many (leaf (range 0 (n - 1)))

-- what a standing field holds then
abbrev pub spelt_held : ℕ → Held → Held
spelt_held n some_text = pattern (written_out n)
spelt_held n (pattern p) = pattern p

-- what the fields from f on hold, each changed by whether it stands
abbrev pub changed : (Bool → Held → Held) → (ℕ → Bool) → ℕ → List Held → List Held
changed how stands f [] = []
changed how stands f (h ∷ held) = how (stands f) h ∷ changed how stands (suc f) held

-- "adds it for an old sheet's standing fields without a pattern"
abbrev pub with_open : ℕ → Bool → Held → Held
with_open n stands h = cond stands (spelt_held n h) h

abbrev pub opened : ℕ → (ℕ → Bool) → ℕ → List Held → List Held
opened n stands f held = changed (with_open n) stands f held

-- of a sheet: the question, in the characters that it has
abbrev pub stands_asked : Question → ℕ → Bool
stands_asked q f = stands_in f (q.left ++ q.right)

abbrev pub question_changed : (Bool → Held → Held) → Question → Question
question_changed how q = record { alphabet = q.alphabet; left = q.left; right = q.right; held = changed how (stands_asked q) 0 q.held }

-- with the pattern written out
abbrev pub spelt_open : Question → Question
spelt_open q = question_changed (with_open q.alphabet.characters) q

-- of a rule: "the mark `RU`, the `PA` records of its own fields .. and one `LE`"; "a rule never has `ED`"
abbrev pub rule_saying : List Held → Side → List ℕ
rule_saying held side = mark_bytes RU ++ patterns_saying edition_1 0 held ++ side_saying edition_1 LE side

abbrev pub stands_ruled : Rule → ℕ → Bool
stands_ruled r f = stands_in f r.side

abbrev pub held_changed : (Bool → Held → Held) → Rule → List Held
held_changed how r = changed how (stands_ruled r) 0 r.fields.held

abbrev pub held_open : Rule → List Held
held_open r = held_changed (with_open characters) r

unfoldable pub rule_open : Rule → List ℕ
rule_open r = rule_saying (held_open r) r.side

-- The old meaning of a field without a pattern: "any text, the empty one included".
abbrev pub HeldBefore : Held → List ℕ → Type 0
HeldBefore some_text w = Unit {0}
HeldBefore (pattern p) w = Fits p w

-- texts that solved a sheet's question
pub record SolutionBefore (q : Question) (texts : Texts) : Type 0 where
  pub same_label : Same q.alphabet.space (label texts q.left) (label texts q.right)
  pub over : (f : ℕ) → stands_asked q f ≡ true → Over q.alphabet.characters (texts f)
  pub holds : (f : ℕ) → stands_asked q f ≡ true → HeldBefore (held_by q f) (texts f)

-- a label that a rule made
pub record MadeBefore (r : Rule) (l : List ℕ) : Type 0 where
  pub texts : Texts
  pub over : (f : ℕ) → stands_ruled r f ≡ true → Over characters (texts f)
  pub holds : (f : ℕ) → stands_ruled r f ≡ true → HeldBefore (rule_holds r f) (texts f)
  pub made : label texts r.side ≡ l

-- every standing field has a pattern: there is nothing to write out
abbrev pub NoneOpen : (ℕ → Bool) → List Held → Type 0
NoneOpen stands held = (f : ℕ) → stands f ≡ true → get_or held f some_text ≡ some_text → ⊥
