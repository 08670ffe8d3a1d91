-- What it is that a script means a question (request K4): "It must mean the same question: a reader in our tests gives back the sheet's sides, and
-- its memberships have the same texts." And what it is that texts satisfy a script.
use Rattle.std.specs.Prelude.{ℕ, ◌≡◌, List, [], ◌∷◌, map}
use Rattle.paper.specs.Lists.{each}
use Rattle.paper.specs.Pattern.{Held, Holds}
use Rattle.paper.specs.Equation.{Token, chr, fld, Over}
use Rattle.paper.specs.Question.{Question, held_by, hidden}
use Rattle.paper.specs.Alphabet.{Edition, alphabet_of, edition_of}
use Rattle.paper_script.specs.Language.{Expression, Matches}
use Rattle.paper_script.specs.Bytes.{bytes}
use Rattle.paper_script.specs.Reader.{Item, code_point, constant, Command, set_logic, declare_const, in_re, equal, check_sat}
use Rattle.paper_script.specs.Reader.{Script, no_script, commands}
use Rattle.paper_script.specs.Script.{point, name, all_standing}

-- a token as a solver sees it: the code point of a character, the constant of a field
abbrev pub said : Edition → Token → Item
said e (chr c) = code_point (point e c)
said e (fld f) = constant (name f)

-- The expression has the same texts as what a field may hold: the code points of each text over the edition's characters that it may hold, and no
-- others.
pub record SameTexts (e : Edition) (x : Expression) (h : Held) : Type 0 where
  pub every : (w : List ℕ) → Over (alphabet_of e).characters w → Holds h w → Matches x (map (point e) w)
  pub no_other : (v : List ℕ) → Matches x v → (w : List ℕ) × (v ≡ map (point e) w) × Over (alphabet_of e).characters w × Holds h w

-- The commands say the question: each of the fields is declared once, with one membership; then the equation of both sides, token by token, and
-- the check command.
pub data Says (e : Edition) (q : Question) : List ℕ → List Command → Type 0 where
  sides : Says e q [] (equal (map (said e) q.left) (map (said e) q.right) ∷ check_sat ∷ [])
  field : {f : ℕ} {fs : List ℕ} {x : Expression} {l : List Command} → SameTexts e x (held_by q f) → Says e q fs l
      → Says e q (f ∷ fs) (declare_const (name f) ∷ in_re (name f) x ∷ l)

-- what was read says the question with its hidden fields, by the code points of its edition
pub record Means (q : Question) (s : Script) : Type 0 where
  pub said_so : List Command
  pub is_read : s ≡ commands (set_logic (bytes "QF_S") ∷ said_so)
  pub says : Says (edition_of q.alphabet) (hidden q) (all_standing (hidden q)) said_so

-- Texts of code points for the constants, by name, satisfy a script if they make each membership and the equation true.
abbrev pub Assignment : Type 0
Assignment = List ℕ → List ℕ

abbrev pub text_of : Assignment → Item → List ℕ
text_of texts (code_point c) = c ∷ []
text_of texts (constant n) = texts n

abbrev pub True : Assignment → Command → Type 0
True texts (set_logic n) = Unit {0}
True texts (declare_const n) = Unit {0}
True texts (in_re n e) = Matches e (texts n)
True texts (equal s t) = each (text_of texts) s ≡ each (text_of texts) t
True texts check_sat = Unit {0}

abbrev pub Satisfied : Assignment → List Command → Type 0
Satisfied texts [] = Unit {0}
Satisfied texts (c ∷ l) = True texts c × Satisfied texts l

-- no texts satisfy what is no script
abbrev pub Satisfies : Assignment → Script → Type 0
Satisfies texts no_script = ⊥
Satisfies texts (commands l) = Satisfied texts l
