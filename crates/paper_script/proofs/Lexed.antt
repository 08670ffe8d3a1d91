-- The lexemes of an expression. It is said by what stands before the lexemes that follow, so that none of the laws puts lists behind each other.
--   pattern_lexed : leaves_take characters p → lexemes between (expression e p ++ s) ≡ before e p (lexemes between s)
--   held_lexed    : GoodHeld characters h → lexemes between (expression_of e h ++ s) ≡ before_held e h (lexemes between s)
-- Concrete bytes compute. Follows by induction on the pattern, and from the literal of one character (`Literal`).
use Prim.Native.Nat.{ℕ, zero, suc, ◌-◌, ◌≤◌, ◌<◌}
use native.Mathlib.Omega.{arith}
use mathlib.Core.Path.{◌≡◌, refl, ap, ◌∙◌}
use mathlib.Core.List.{List, [], ◌∷◌, ◌++◌, append_assoc, Memᴰ}
use Rattle.paper.specs.Lists.{from, each}
use Rattle.paper.specs.Pattern.{char, range, Pattern, leaf, empty, then, either, many, Held, some_text, pattern}
use Rattle.paper.specs.Taken.{leaves_take}
use Rattle.paper.specs.Alphabet.{Edition, edition_1, edition_2, alphabet_of}
use Rattle.paper.specs.Printed.{blank_sign}
use Rattle.paper.proofs.base.Tests.{both_true, le_leb, lt_leb, eqb_same}
use Rattle.paper.proofs.base.Lists.{cons_eq, mem_from}
use Rattle.paper_laws.proofs.sheets.Asked.{GoodHeld}
use Rattle.paper_script.specs.Bytes.{bytes}
use Rattle.paper_script.specs.Lexemes.{Lexeme, opening, closing, word, text, between, in_text, lexemes}
use Rattle.paper_script.specs.Script.{point, character, one_character, next_character, several, range_expression, expression, some_characters, expression_of}
use Rattle.paper_script.proofs.Literal.{text_lexed}
use Rattle.paper_script.proofs.SameTexts.{range_rises, all_taken}

-- One character.
abbrev pub before_character : Edition → ℕ → List Lexeme → List Lexeme
before_character e c rest = opening ∷ word (bytes "str.to_re") ∷ text (point e c ∷ []) ∷ closing ∷ rest

character_lexed : (e : Edition) (c : ℕ) (s : List ℕ) → c < (alphabet_of e).characters
    → lexemes between (one_character e c ++ s) ≡ before_character e c (lexemes between s)
unfolding one_character
character_lexed e c s h =
    cons_eq refl (cons_eq refl
    (ap (lexemes (in_text [])) (append_assoc (character e c) (bytes "\")") s) ∙ text_lexed e c 41 s h refl))

-- Characters one behind the other, and a range from lo to hi: `more` characters behind the first.
abbrev pub before_characters : Edition → List ℕ → List Lexeme → List Lexeme
before_characters e [] rest = rest
before_characters e (c ∷ l) rest = before_character e c (before_characters e l rest)

abbrev pub before_several : Edition → ℕ → ℕ → ℕ → List Lexeme → List Lexeme
before_several edition_1 lo hi more rest =
    opening ∷ word (bytes "re.union") ∷ before_characters edition_1 (from lo (suc more)) (closing ∷ rest)
before_several edition_2 lo hi more rest =
    opening ∷ word (bytes "re.range") ∷ text (point edition_2 lo ∷ []) ∷ text (point edition_2 hi ∷ []) ∷ closing ∷ rest

abbrev pub before_range : Edition → ℕ → ℕ → ℕ → List Lexeme → List Lexeme
before_range e lo hi zero rest = before_character e lo rest
before_range e lo hi (suc more) rest = before_several e lo hi (suc more) rest

characters_lexed : (e : Edition) (l : List ℕ) (s : List ℕ) → ((c : ℕ) → Memᴰ c l → c < (alphabet_of e).characters)
    → lexemes between (each (next_character e) l ++ s) ≡ before_characters e l (lexemes between s)
characters_lexed e [] s h = refl
characters_lexed e (c ∷ l) s h =
    let others = each (next_character e) l in
    ap (lexemes between) (append_assoc (one_character e c) others s) ∙ character_lexed e c (others ++ s) (h c (Memᴰ.head refl))
    ∙ ap (before_character e c) (characters_lexed e l s (λ a d. h a (Memᴰ.tail d)))

union_lexed : (e : Edition) (c : ℕ) (l : List ℕ) (s : List ℕ) → ((a : ℕ) → Memᴰ a (c ∷ l) → a < (alphabet_of e).characters)
    → lexemes between ((bytes "(re.union" ++ each (next_character e) (c ∷ l) ++ bytes ")") ++ s)
    ≡ opening ∷ word (bytes "re.union") ∷ before_characters e (c ∷ l) (closing ∷ lexemes between s)
union_lexed e c l s h =
    let all_of = one_character e c ++ each (next_character e) l in
    cons_eq refl (cons_eq refl (ap (lexemes between) (append_assoc all_of (bytes ")") s) ∙ characters_lexed e (c ∷ l) (bytes ")" ++ s) h))

-- both ends of a range as literals
ends_behind : (a b s : List ℕ) → (((a ++ bytes "\" \"") ++ b) ++ bytes "\")") ++ s ≡ a ++ (bytes "\" \"" ++ (b ++ (bytes "\")" ++ s)))
ends_behind a b s =
    append_assoc ((a ++ bytes "\" \"") ++ b) (bytes "\")") s
    ∙ append_assoc (a ++ bytes "\" \"") b (bytes "\")" ++ s)
    ∙ append_assoc a (bytes "\" \"") (b ++ (bytes "\")" ++ s))

several_lexed : (e : Edition) (lo hi more : ℕ) → hi - lo ≡ suc more → hi < (alphabet_of e).characters → (s : List ℕ)
    → lexemes between (several e lo hi ++ s) ≡ before_several e lo hi (suc more) (lexemes between s)
several_lexed edition_1 lo hi more i h s =
    let count : suc hi - lo ≡ suc (suc more) = omega arith in
    rw count
    (union_lexed edition_1 lo (from (suc lo) (suc more)) s (λ c d. let its = mem_from lo (suc (suc more)) d in omega arith))
several_lexed edition_2 lo hi more i h s =
    let high = character edition_2 hi in
    cons_eq refl (cons_eq refl
    (ap (lexemes (in_text [])) (ends_behind (character edition_2 lo) high s)
    ∙ text_lexed edition_2 lo 32 (bytes "\"" ++ (high ++ (bytes "\")" ++ s))) (omega arith) refl
    ∙ cons_eq refl (text_lexed edition_2 hi 41 s h refl)))

range_lexed : (e : Edition) (lo hi more : ℕ) → hi - lo ≡ more → lo ≤ hi → hi < (alphabet_of e).characters → (s : List ℕ)
    → lexemes between (range_expression e lo hi ++ s) ≡ before_range e lo hi more (lexemes between s)
unfolding range_expression
range_lexed e lo hi zero i h k s = rw (le_leb hi lo (omega arith)) (character_lexed e lo s (omega arith))
range_lexed e lo hi (suc more) i h k s = rw (lt_leb hi lo (omega arith)) (several_lexed e lo hi more i k s)

-- A pattern.
abbrev pub before : Edition → Pattern → List Lexeme → List Lexeme
before e (leaf (char c)) rest = before_character e c rest
before e (leaf (range lo hi)) rest = before_range e lo hi (hi - lo) rest
before e empty rest = opening ∷ word (bytes "str.to_re") ∷ text [] ∷ closing ∷ rest
before e (then a b) rest = opening ∷ word (bytes "re.++") ∷ before e a (before e b (closing ∷ rest))
before e (either a b) rest = opening ∷ word (bytes "re.union") ∷ before e a (before e b (closing ∷ rest))
before e (many a) rest = opening ∷ word (bytes "re.*") ∷ before e a (closing ∷ rest)

-- what stands behind the first of two expressions, and behind the second
two_behind : (a b s : List ℕ) → ((a ++ (blank_sign ∷ b)) ++ bytes ")") ++ s ≡ a ++ (blank_sign ∷ b ++ (bytes ")" ++ s))
two_behind a b s =
    append_assoc (a ++ (blank_sign ∷ b)) (bytes ")") s ∙ append_assoc a (blank_sign ∷ b) (bytes ")" ++ s)

module _ (e : Edition) where
  two_lexed : (a b : Pattern) (s : List ℕ)
      → ((t : List ℕ) → lexemes between (expression e a ++ t) ≡ before e a (lexemes between t))
      → ((t : List ℕ) → lexemes between (expression e b ++ t) ≡ before e b (lexemes between t))
      → lexemes between (((expression e a ++ (blank_sign ∷ expression e b)) ++ bytes ")") ++ s)
      ≡ before e a (before e b (closing ∷ lexemes between s))
  two_lexed a b s h k =
      ap (lexemes between) (two_behind (expression e a) (expression e b) s) ∙ h (blank_sign ∷ expression e b ++ (bytes ")" ++ s))
      ∙ ap (before e a) (k (bytes ")" ++ s))

  pub pattern_lexed : (p : Pattern) → leaves_take (alphabet_of e).characters p → (s : List ℕ)
      → lexemes between (expression e p ++ s) ≡ before e p (lexemes between s)
  pattern_lexed (leaf (char c)) h s = character_lexed e c s (h.character c (eqb_same c))
  pattern_lexed (leaf (range lo hi)) h s =
      let rises = range_rises lo hi h in
      let high = h.character hi (both_true (le_leb lo hi rises) (le_leb hi hi (omega arith))) in
      range_lexed e lo hi (hi - lo) refl rises high s
  pattern_lexed empty h s = refl
  pattern_lexed (then a b) h s = cons_eq refl (cons_eq refl (two_lexed a b s (pattern_lexed a h.0) (pattern_lexed b h.1)))
  pattern_lexed (either a b) h s = cons_eq refl (cons_eq refl (two_lexed a b s (pattern_lexed a h.0) (pattern_lexed b h.1)))
  pattern_lexed (many a) h s =
      cons_eq refl (cons_eq refl (ap (lexemes between) (append_assoc (expression e a) (bytes ")") s) ∙ pattern_lexed a h (bytes ")" ++ s)))

  abbrev pub before_held : Held → List Lexeme → List Lexeme
  before_held some_text rest = before e (some_characters e) rest
  before_held (pattern p) rest = before e p rest

  pub held_lexed : (h : Held) → GoodHeld (alphabet_of e).characters h → (s : List ℕ)
      → lexemes between (expression_of e h ++ s) ≡ before_held h (lexemes between s)
  held_lexed some_text k s = pattern_lexed (some_characters e) (all_taken e, all_taken e) s
  held_lexed (pattern p) k s = pattern_lexed p k.0 s
