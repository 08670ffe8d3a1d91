-- The script of a good question means the question.
--   means : GoodQuestion q → Means q (read_script (script q))
-- What is read is, for each field that stands, its constant and its membership, which has the same texts (`SameTexts`), then the equation of both
-- sides, token by token (`ReadBack`), and the check command. Follows from the script's lexemes (`LexedScript`), command by command.
use Prim.Native.Nat.{ℕ, zero, suc, ◌≤◌, ◌<◌}
use native.Mathlib.Omega.{arith}
use mathlib.Core.Path.{◌≡◌, refl}
use mathlib.Core.List.{List, [], ◌∷◌, ◌++◌, map}
use lib.ListN.{length}
use Rattle.paper.specs.Numbers.{hidden_left, hidden_right}
use Rattle.paper.specs.Pattern.{Held}
use Rattle.paper.specs.Equation.{fld, Side}
use Rattle.paper.specs.Alphabet.{Edition, edition_of}
use Rattle.paper.specs.Question.{Question, held_by, hidden}
use Rattle.paper_laws.proofs.sheets.Asked.{GoodQuestion}
use Rattle.paper_script.specs.Bytes.{bytes}
use Rattle.paper_script.specs.Lexemes.{Lexeme, opening, closing, word}
use Rattle.paper_script.specs.Reader.{Command, declare_const, in_re, equal, check_sat, understood, read_command}
use Rattle.paper_script.specs.Reader.{commands, read_commands, read_script}
use Rattle.paper_script.specs.Script.{name, all_standing, script}
use Rattle.paper_script.specs.Means.{said, Says, sides, field, Means}
use Rattle.paper_script.proofs.Tree.{tree_of}
use Rattle.paper_script.proofs.SameTexts.{same_texts}
use Rattle.paper_script.proofs.Lexed.{before_held}
use Rattle.paper_script.proofs.LexedScript.{before_term, before_end, equation_lexemes, before_fields, script_lexemes, held_good, script_lexed}
use Rattle.paper_script.proofs.ReadBack.{held_longer, held_read, term_longer, term_read}

-- A membership.
member_read : (e : Edition) (w : List ℕ) (h : Held) (n : ℕ) (rest : List Lexeme) → length (before_held e h (closing ∷ closing ∷ rest)) ≤ n
    → read_command n (opening ∷ word (bytes "assert") ∷ opening ∷ word (bytes "str.in_re") ∷ word w ∷ before_held e h (closing ∷ closing ∷ rest))
    ≡ understood (in_re w (tree_of e h)) rest
member_read e w h n rest k = rw (held_read e h n (closing ∷ closing ∷ rest) k)

-- The equation.
abbrev with_field : Side → ℕ → Side
with_field side f = side ++ (fld f ∷ [])

equation_read : (e : Edition) (left right : Side) (n : ℕ) → length (equation_lexemes e left right) ≤ n
    → read_command n (equation_lexemes e left right)
    ≡ understood (equal (map (said e) (with_field left hidden_left)) (map (said e) (with_field right hidden_right)))
    (opening ∷ word (bytes "check-sat") ∷ closing ∷ [])
equation_read e left right n k =
    let behind = before_term e right hidden_right before_end in
    rw (
      term_read e left hidden_left n behind (omega arith),
      term_read e right hidden_right n before_end (omega (arith, term_longer e left hidden_left behind)),
    )

check_read : (n : ℕ) → 1 < n → read_commands n (opening ∷ word (bytes "check-sat") ∷ closing ∷ []) ≡ commands (check_sat ∷ [])
check_read zero h = absurd (omega arith)
check_read (suc zero) h = absurd (omega arith)
check_read (suc (suc n)) h = refl

-- What reading the fields' lines and the equation gives: commands that say the question.
record Told (e : Edition) (q : Question) (fs : List ℕ) (n : ℕ) (l : List Lexeme) : Type 0 where
  cs : List Command
  are : read_commands n l ≡ commands cs
  say : Says e q fs cs

module _ (q : Question) (good : GoodQuestion q) where
  abbrev edition : Edition
  edition = edition_of q.alphabet

  abbrev held : ℕ → Held
  held = held_by (hidden q)

  abbrev end : List Lexeme
  end = equation_lexemes edition q.left q.right

  end_told : (n : ℕ) → length end < n → Told edition (hidden q) [] n end
  end_told zero h = absurd (omega arith)
  end_told (suc n) h =
      record {
        cs = equal (map (said edition) (hidden q).left) (map (said edition) (hidden q).right) ∷ check_sat ∷ [];
        are = rw (equation_read edition q.left q.right (suc n) (omega arith), check_read n (omega arith));
        say = sides;
      }

  fields_told : (fs : List ℕ) (n : ℕ) → length (before_fields edition held fs end) < n
      → Told edition (hidden q) fs n (before_fields edition held fs end)
  fields_told [] n h = end_told n h
  fields_told (f ∷ fs) zero h = absurd (omega arith)
  fields_told (f ∷ fs) (suc zero) h = absurd (omega arith)
  fields_told (f ∷ fs) (suc (suc n)) h =
      let rest = before_fields edition held fs end in
      let behind = held_longer edition (held f) (closing ∷ closing ∷ rest) in
      let others = fields_told fs n (omega arith) in
      record {
        cs = declare_const (name f) ∷ in_re (name f) (tree_of edition (held f)) ∷ others.cs;
        are = rw (member_read edition (name f) (held f) (suc n) rest (omega arith), others.are);
        say = field (same_texts edition (held f) (held_good q good f)) others.say;
      }

  pub means : Means q (read_script (script q))
  unfolding read_script
  means =
      let all_of = fields_told (all_standing (hidden q)) (length (script_lexemes edition q)) (omega arith) in
      record {
        said_so = all_of.cs;
        is_read = rw (script_lexed q good, all_of.are);
        says = all_of.say;
      }
