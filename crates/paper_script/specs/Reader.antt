-- A reader of scripts: from bytes to commands. It reads what SMT-LIB 2.6 calls `set-logic`, `declare-const` of a String, `assert` and `check-sat`,
-- in any layout; of terms, text literals, constants and `str.++`; of expressions `str.to_re`, `re.range`, `re.++`, `re.union` and `re.*`. The
-- operators `re.++` and `re.union` are left-associative: with more than two arguments, (op A B C) is (op (op A B) C).
use Rattle.std.specs.Prelude.{ℕ, zero, suc, Bool, true, false, cond, List, [], ◌∷◌, ◌++◌, map, eqb, length}
use Prim.Native.String.{String}
use Rattle.paper.specs.Lists.{same_by}
use Rattle.paper_script.specs.Language.{Expression, to_re, span, concat, union, star}
use Rattle.paper_script.specs.Bytes.{bytes}
use Rattle.paper_script.specs.Lexemes.{Lexeme, opening, closing, word, text, unknown, between, lexemes}

-- what a term of strings joins: code points and constants, by name
pub data Item : Type 0 where
  code_point : ℕ → Item
  constant : List ℕ → Item

pub data Command : Type 0 where
  set_logic : List ℕ → Command
  declare_const : List ℕ → Command
  -- (assert (str.in_re NAME E))
  in_re : List ℕ → Expression → Command
  -- (assert (= S T))
  equal : List Item → List Item → Command
  check_sat : Command

-- something was understood, and these lexemes are left; or not
pub data Understood (A : Type 0) : Type 0 where
  garbled : Understood A
  understood : A → List Lexeme → Understood A

module _ {A B : Type 0} where
  abbrev pub and_then : Understood A → (A → List Lexeme → Understood B) → Understood B
  and_then garbled go_on = garbled
  and_then (understood x rest) go_on = go_on x rest

abbrev pub is : List ℕ → String → Bool
is w t = same_by eqb w (bytes t)

abbrev pub is_closing : Lexeme → Bool
is_closing opening = false
is_closing closing = true
is_closing (word w) = false
is_closing (text w) = false
is_closing unknown = false

-- one lexeme of each kind
abbrev pub open_parenthesis : List Lexeme → Understood (Unit {0})
open_parenthesis [] = garbled
open_parenthesis (opening ∷ rest) = understood tt rest
open_parenthesis (closing ∷ rest) = garbled
open_parenthesis (word w ∷ rest) = garbled
open_parenthesis (text w ∷ rest) = garbled
open_parenthesis (unknown ∷ rest) = garbled

abbrev pub a_word : List Lexeme → Understood (List ℕ)
a_word [] = garbled
a_word (opening ∷ rest) = garbled
a_word (closing ∷ rest) = garbled
a_word (word w ∷ rest) = understood w rest
a_word (text w ∷ rest) = garbled
a_word (unknown ∷ rest) = garbled

abbrev pub a_text : List Lexeme → Understood (List ℕ)
a_text [] = garbled
a_text (opening ∷ rest) = garbled
a_text (closing ∷ rest) = garbled
a_text (word w ∷ rest) = garbled
a_text (text w ∷ rest) = understood w rest
a_text (unknown ∷ rest) = garbled

-- x, if the next lexeme is a closing parenthesis
module _ {A : Type 0} where
  abbrev pub closed : A → List Lexeme → Understood A
  closed x [] = garbled
  closed x (l ∷ rest) = cond (is_closing l) (understood x rest) garbled

-- Expressions.
abbrev pub further : (List Lexeme → Understood Expression) → (Expression → Expression → Expression) → ℕ → Expression → List Lexeme
    → Understood Expression
further argument op zero a rest = garbled
further argument op (suc n) a [] = garbled
further argument op (suc n) a (l ∷ rest) =
    let go_on = and_then (argument (l ∷ rest)) (λ (b : Expression) (more : List Lexeme). further argument op n (op a b) more) in
    cond (is_closing l) (understood a rest) go_on

-- two arguments or more, and the closing parenthesis
abbrev pub arguments : (List Lexeme → Understood Expression) → (Expression → Expression → Expression) → ℕ → List Lexeme → Understood Expression
arguments argument op n s =
    and_then (argument s) (λ (a : Expression) (rest : List Lexeme).
    and_then (argument rest) (λ (b : Expression) (more : List Lexeme). further argument op n (op a b) more))

-- two texts, and the closing parenthesis
abbrev pub ends : List Lexeme → Understood Expression
ends s =
    and_then (a_text s) (λ (lo : List ℕ) (rest : List Lexeme).
    and_then (a_text rest) (λ (hi : List ℕ) (more : List Lexeme). closed (span lo hi) more))

-- by the word behind the opening parenthesis
abbrev pub applied : ℕ → (List Lexeme → Understood Expression) → List ℕ → List Lexeme → Understood Expression
applied n argument w s =
    cond (is w "str.to_re") (and_then (a_text s) (λ (t : List ℕ) (rest : List Lexeme). closed (to_re t) rest))
    (cond (is w "re.*") (and_then (argument s) (λ (a : Expression) (rest : List Lexeme). closed (star a) rest))
    (cond (is w "re.++") (arguments argument concat n s)
    (cond (is w "re.union") (arguments argument union n s)
    (cond (is w "re.range") (ends s)
    garbled))))

-- Every call reads a lexeme, so as many turns as there are lexemes are enough.
abbrev pub read_expression : ℕ → List Lexeme → Understood Expression
read_expression zero s = garbled
read_expression (suc n) s =
    and_then (open_parenthesis s) (λ (_ : Unit {0}) (behind : List Lexeme).
    and_then (a_word behind) (applied n (λ (rest : List Lexeme). read_expression n rest)))

-- Terms of strings: a literal, a constant, or two or more of them joined.
abbrev pub read_item : List Lexeme → Understood (List Item)
read_item [] = garbled
read_item (opening ∷ rest) = garbled
read_item (closing ∷ rest) = garbled
read_item (word w ∷ rest) = understood (constant w ∷ []) rest
read_item (text w ∷ rest) = understood (map code_point w) rest
read_item (unknown ∷ rest) = garbled

abbrev pub further_items : ℕ → List Item → List Lexeme → Understood (List Item)
further_items zero t rest = garbled
further_items (suc n) t [] = garbled
further_items (suc n) t (l ∷ rest) =
    let go_on = and_then (read_item (l ∷ rest)) (λ (u : List Item) (more : List Lexeme). further_items n (t ++ u) more) in
    cond (is_closing l) (understood t rest) go_on

abbrev pub joined_items : ℕ → List ℕ → List Lexeme → Understood (List Item)
joined_items n w s =
    cond (is w "str.++")
    (and_then (read_item s) (λ (t : List Item) (rest : List Lexeme).
    and_then (read_item rest) (λ (u : List Item) (more : List Lexeme). further_items n (t ++ u) more)))
    garbled

abbrev pub read_term : ℕ → List Lexeme → Understood (List Item)
read_term n [] = garbled
read_term n (opening ∷ rest) = and_then (a_word rest) (joined_items n)
read_term n (closing ∷ rest) = garbled
read_term n (word w ∷ rest) = understood (constant w ∷ []) rest
read_term n (text w ∷ rest) = understood (map code_point w) rest
read_term n (unknown ∷ rest) = garbled

-- Commands: behind the opening parenthesis, by the first word.
abbrev pub read_declared : List Lexeme → Understood Command
read_declared s =
    and_then (a_word s) (λ (name : List ℕ) (rest : List Lexeme).
    and_then (a_word rest) (λ (sort : List ℕ) (more : List Lexeme). cond (is sort "String") (closed (declare_const name) more) garbled))

abbrev pub read_equal : ℕ → List Lexeme → Understood Command
read_equal n s =
    and_then (read_term n s) (λ (l : List Item) (rest : List Lexeme).
    and_then (read_term n rest) (λ (r : List Item) (more : List Lexeme). closed (equal l r) more))

abbrev pub read_in_re : ℕ → List Lexeme → Understood Command
read_in_re n s =
    and_then (a_word s) (λ (name : List ℕ) (rest : List Lexeme).
    and_then (read_expression n rest) (λ (e : Expression) (more : List Lexeme). closed (in_re name e) more))

abbrev pub read_asserted : ℕ → List Lexeme → Understood Command
read_asserted n s =
    and_then (open_parenthesis s) (λ (_ : Unit {0}) (behind : List Lexeme).
    and_then (a_word behind) (λ (w : List ℕ) (rest : List Lexeme).
    and_then (cond (is w "=") (read_equal n rest) (cond (is w "str.in_re") (read_in_re n rest) garbled))
    (λ (c : Command) (more : List Lexeme). closed c more)))

abbrev pub read_command : ℕ → List Lexeme → Understood Command
read_command n s =
    and_then (open_parenthesis s) (λ (_ : Unit {0}) (behind : List Lexeme).
    and_then (a_word behind) (λ (w : List ℕ) (rest : List Lexeme).
    cond (is w "set-logic") (and_then (a_word rest) (λ (name : List ℕ) (more : List Lexeme). closed (set_logic name) more))
    (cond (is w "declare-const") (read_declared rest)
    (cond (is w "assert") (read_asserted n rest)
    (cond (is w "check-sat") (closed check_sat rest)
    garbled)))))

-- what reading a script gives
pub data Script : Type 0 where
  no_script : Script
  commands : List Command → Script

abbrev pub with_command : Command → Script → Script
with_command c no_script = no_script
with_command c (commands l) = commands (c ∷ l)

abbrev pub and_the_rest : (List Lexeme → Script) → Understood Command → Script
and_the_rest go_on garbled = no_script
and_the_rest go_on (understood c rest) = with_command c (go_on rest)

abbrev pub read_commands : ℕ → List Lexeme → Script
read_commands zero s = no_script
read_commands (suc n) [] = commands []
read_commands (suc n) (l ∷ rest) = and_the_rest (λ (more : List Lexeme). read_commands n more) (read_command (suc n) (l ∷ rest))

unfoldable pub read_script : List ℕ → Script
read_script s = let l = lexemes between s in read_commands (suc (length l)) l
