-- Reading gives back the expression of a pattern, and a side with its hidden field, token by token.
--   expression_read : length (before e p rest) ≤ n → read_expression n (before e p rest) ≡ understood (tree e p) rest
--   held_read       : the same of what a field may hold
--   term_read       : length (before_term e side f rest) ≤ n
--     → read_term n (before_term e side f rest) ≡ understood (map (said e) (side ++ (fld f ∷ []))) rest
--   held_longer, term_longer : each of them has lexemes before those that follow
-- As many turns as there are lexemes are enough. Follows by induction on the pattern, on the characters of a range and on the tokens of the side.
use Prim.Native.Nat.{ℕ, zero, suc, ◌+◌, ◌-◌, ◌≤◌, ◌<◌}
use native.Mathlib.Omega.{arith}
use mathlib.Core.Path.{◌≡◌, refl, sym, ap, ◌∙◌}
use mathlib.Core.Bool.{Bool, true, false}
use mathlib.Core.List.{List, [], ◌∷◌, ◌++◌, map, append_assoc, append-nil}
use lib.ListN.{length}
use Rattle.paper.specs.Lists.{from, each}
use Rattle.paper.specs.Pattern.{char, range, Pattern, leaf, empty, then, either, many, Held, some_text, pattern}
use Rattle.paper.specs.Equation.{Token, chr, fld, Side}
use Rattle.paper.specs.Alphabet.{Edition, edition_1, edition_2}
use Rattle.paper.proofs.base.Lists.{cons_eq, map_append}
use Rattle.paper_script.specs.Language.{Expression, concat, union}
use Rattle.paper_script.specs.Bytes.{bytes}
use Rattle.paper_script.specs.Lexemes.{Lexeme, closing}
use Rattle.paper_script.specs.Reader.{Item, code_point, constant, Understood, understood, further, arguments, read_expression}
use Rattle.paper_script.specs.Reader.{read_item, further_items, joined_items, read_term}
use Rattle.paper_script.specs.Script.{point, name, some_characters}
use Rattle.paper_script.specs.Means.{said}
use Rattle.paper_script.proofs.Tree.{alone, unions, several_tree, range_tree, tree, tree_of}
use Rattle.paper_script.proofs.Lexed.{before_character, before_characters, before_several, before_range, before, before_held}
use Rattle.paper_script.proofs.LexedScript.{Piece, literal, named, lexeme_of, pieces, before_pieces, before_term}

-- Arguments, whatever reads one.
module _ (argument : List Lexeme → Understood Expression) where
  further_closed : (op : Expression → Expression → Expression) (n : ℕ) (a : Expression) (rest : List Lexeme) → 0 < n
      → further argument op n a (closing ∷ rest) ≡ understood a rest
  further_closed op zero a rest h = absurd (omega arith)
  further_closed op (suc n) a rest h = refl

  two_arguments : (op : Expression → Expression → Expression) (n : ℕ) (a b : Expression) (s more rest : List Lexeme) → 0 < n
      → argument s ≡ understood a more → argument more ≡ understood b (closing ∷ rest) → arguments argument op n s ≡ understood (op a b) rest
  two_arguments op n a b s more rest h i j = rw (i, j) (further_closed op n (op a b) rest h)

  module _ (e : Edition) (reads : (c : ℕ) (rest : List Lexeme) → argument (before_character e c rest) ≡ understood (alone e c) rest) where
    further_characters : (n : ℕ) (x : Expression) (l : List ℕ) (rest : List Lexeme) → length l < n
        → further argument union n x (before_characters e l (closing ∷ rest)) ≡ understood (unions e x l) rest
    further_characters n x [] rest h = further_closed union n x rest h
    further_characters zero x (c ∷ l) rest h = absurd (omega arith)
    further_characters (suc n) x (c ∷ l) rest h =
        rw (reads c (before_characters e l (closing ∷ rest))) (further_characters n (union x (alone e c)) l rest (omega arith))

    characters_read : (n a b : ℕ) (l : List ℕ) (rest : List Lexeme) → length l < n
        → arguments argument union n (before_characters e (a ∷ b ∷ l) (closing ∷ rest)) ≡ understood (unions e (alone e a) (b ∷ l)) rest
    characters_read n a b l rest h =
        rw (reads a (before_characters e (b ∷ l) (closing ∷ rest)), reads b (before_characters e l (closing ∷ rest)))
        (further_characters n (union (alone e a) (alone e b)) l rest h)

-- There are more lexemes than follow.
characters_longer : (e : Edition) (l : List ℕ) (rest : List Lexeme) → length l + length rest ≤ length (before_characters e l rest)
characters_longer e [] rest = omega arith
characters_longer e (c ∷ l) rest = omega (arith, characters_longer e l rest)

several_longer : (e : Edition) (lo hi more : ℕ) (rest : List Lexeme) → length rest ≤ length (before_several e lo hi more rest)
several_longer edition_1 lo hi more rest = omega (arith, characters_longer edition_1 (from lo (suc more)) (closing ∷ rest))
several_longer edition_2 lo hi more rest = omega arith

range_longer : (e : Edition) (lo hi more : ℕ) (rest : List Lexeme) → length rest ≤ length (before_range e lo hi more rest)
range_longer e lo hi zero rest = omega arith
range_longer e lo hi (suc more) rest = several_longer e lo hi (suc more) rest

longer : (e : Edition) (p : Pattern) (rest : List Lexeme) → length rest ≤ length (before e p rest)
longer e (leaf (char c)) rest = omega arith
longer e (leaf (range lo hi)) rest = range_longer e lo hi (hi - lo) rest
longer e empty rest = omega arith
longer e (then a b) rest = omega (arith, longer e a (before e b (closing ∷ rest)), longer e b (closing ∷ rest))
longer e (either a b) rest = omega (arith, longer e a (before e b (closing ∷ rest)), longer e b (closing ∷ rest))
longer e (many a) rest = omega (arith, longer e a (closing ∷ rest))

-- A character, a range.
character_read : (e : Edition) (n c : ℕ) (rest : List Lexeme) → 0 < n → read_expression n (before_character e c rest) ≡ understood (alone e c) rest
character_read e zero c rest h = absurd (omega arith)
character_read e (suc n) c rest h = refl

several_read : (e : Edition) (lo hi more n : ℕ) (rest : List Lexeme) → length (before_several e lo hi (suc more) rest) ≤ n
    → read_expression n (before_several e lo hi (suc more) rest) ≡ understood (several_tree e lo hi (suc more)) rest
several_read edition_1 lo hi more zero rest h = absurd (omega arith)
several_read edition_1 lo hi more (suc n) rest h =
    let l = from (suc (suc lo)) more in
    let many-of = characters_longer edition_1 l (closing ∷ rest) in
    characters_read (read_expression n) edition_1 (λ c s. character_read edition_1 n c s (omega arith)) n lo (suc lo) l rest (omega arith)
several_read edition_2 lo hi more zero rest h = absurd (omega arith)
several_read edition_2 lo hi more (suc n) rest h = refl

range_read : (e : Edition) (lo hi more n : ℕ) (rest : List Lexeme) → length (before_range e lo hi more rest) ≤ n
    → read_expression n (before_range e lo hi more rest) ≡ understood (range_tree e lo hi more) rest
range_read e lo hi zero n rest h = character_read e n lo rest (omega arith)
range_read e lo hi (suc more) n rest h = several_read e lo hi more n rest h

-- A pattern.
module _ (e : Edition) where
  -- two patterns under an operator, where each is read
  abbrev ReadBy : ℕ → Pattern → Type 0
  ReadBy n p = (rest : List Lexeme) → length (before e p rest) ≤ n → read_expression n (before e p rest) ≡ understood (tree e p) rest

  two_read : (op : Expression → Expression → Expression) (a b : Pattern) (n : ℕ) (rest : List Lexeme) → ReadBy n a → ReadBy n b
      → length (before e a (before e b (closing ∷ rest))) ≤ n
      → arguments (read_expression n) op n (before e a (before e b (closing ∷ rest))) ≡ understood (op (tree e a) (tree e b)) rest
  two_read op a b n rest reads-a reads-b h =
      let second = before e b (closing ∷ rest) in
      let behind-a = longer e a second in
      let behind-b = longer e b (closing ∷ rest) in
      two_arguments (read_expression n) op n (tree e a) (tree e b) (before e a second) second rest (omega arith)
      (reads-a second h) (reads-b (closing ∷ rest) (omega arith))

  pub expression_read : (p : Pattern) (n : ℕ) (rest : List Lexeme) → length (before e p rest) ≤ n
      → read_expression n (before e p rest) ≡ understood (tree e p) rest
  expression_read (leaf (char c)) n rest h = character_read e n c rest (omega arith)
  expression_read (leaf (range lo hi)) n rest h = range_read e lo hi (hi - lo) n rest h
  expression_read empty zero rest h = absurd (omega arith)
  expression_read empty (suc n) rest h = refl
  expression_read (then a b) zero rest h = absurd (omega arith)
  expression_read (then a b) (suc n) rest h = two_read concat a b n rest (expression_read a n) (expression_read b n) (omega arith)
  expression_read (either a b) zero rest h = absurd (omega arith)
  expression_read (either a b) (suc n) rest h = two_read union a b n rest (expression_read a n) (expression_read b n) (omega arith)
  expression_read (many a) zero rest h = absurd (omega arith)
  expression_read (many a) (suc n) rest h = rw (expression_read a n (closing ∷ rest) (omega arith))

  pub held_longer : (h : Held) (rest : List Lexeme) → length rest ≤ length (before_held e h rest)
  held_longer some_text rest = longer e (some_characters e) rest
  held_longer (pattern p) rest = longer e p rest

  pub held_read : (h : Held) (n : ℕ) (rest : List Lexeme) → length (before_held e h rest) ≤ n
      → read_expression n (before_held e h rest) ≡ understood (tree_of e h) rest
  held_read some_text n rest k = expression_read (some_characters e) n rest k
  held_read (pattern p) n rest k = expression_read p n rest k

-- Terms: the literals and constants of a side.
abbrev items_of : Piece → List Item
items_of (literal w) = map code_point w
items_of (named n) = constant n ∷ []

further_pieces : (n : ℕ) (t : List Item) (l : List Piece) (rest : List Lexeme) → length l < n
    → further_items n t (before_pieces l (closing ∷ rest)) ≡ understood (t ++ each items_of l) rest
further_pieces zero t l rest h = absurd (omega arith)
further_pieces (suc n) t [] rest h = ap (λ (u : List Item). understood u rest) (sym (append-nil t))
further_pieces (suc n) t (literal w ∷ l) rest h =
    further_pieces n (t ++ map code_point w) l rest (omega arith)
    ∙ ap (λ (u : List Item). understood u rest) (append_assoc t (map code_point w) (each items_of l))
further_pieces (suc n) t (named c ∷ l) rest h =
    further_pieces n (t ++ (constant c ∷ [])) l rest (omega arith)
    ∙ ap (λ (u : List Item). understood u rest) (append_assoc t (constant c ∷ []) (each items_of l))

item_read : (x : Piece) (s : List Lexeme) → read_item (lexeme_of x ∷ s) ≡ understood (items_of x) s
item_read (literal w) s = refl
item_read (named n) s = refl

joined_pieces : (n : ℕ) (l : List Piece) (rest : List Lexeme) → 2 ≤ length l → length l ≤ n
    → joined_items n (bytes "str.++") (before_pieces l (closing ∷ rest)) ≡ understood (each items_of l) rest
joined_pieces n [] rest h k = absurd (omega arith)
joined_pieces n (x ∷ []) rest h k = absurd (omega arith)
joined_pieces n (x ∷ y ∷ l) rest h k =
    rw (item_read x (before_pieces (y ∷ l) (closing ∷ rest)), item_read y (before_pieces l (closing ∷ rest)))
    (further_pieces n (items_of x ++ items_of y) l rest (omega arith)
    ∙ ap (λ (u : List Item). understood u rest) (append_assoc (items_of x) (items_of y) (each items_of l)))

-- they say the side, behind what the open literal has begun with
abbrev begun_with : Bool → List ℕ → List Item
begun_with false w = []
begun_with true w = map code_point w

pieces_said : (e : Edition) (is_open : Bool) (w : List ℕ) (side : Side)
    → each items_of (pieces e is_open w side) ≡ begun_with is_open w ++ map (said e) side
pieces_said e false w [] = refl
pieces_said e true w [] = refl
pieces_said e false w (chr c ∷ side) = pieces_said e true (point e c ∷ []) side
pieces_said e true w (chr c ∷ side) =
    pieces_said e true (w ++ (point e c ∷ [])) side
    ∙ ap (λ (u : List Item). u ++ map (said e) side) (map_append code_point w (point e c ∷ []))
    ∙ append_assoc (map code_point w) (code_point (point e c) ∷ []) (map (said e) side)
pieces_said e false w (fld f ∷ side) = cons_eq refl (pieces_said e false [] side)
pieces_said e true w (fld f ∷ side) = ap (λ (u : List Item). map code_point w ++ (constant (name f) ∷ u)) (pieces_said e false [] side)

-- with the hidden field there is one, and one more where a literal is open
abbrev at_least : Bool → ℕ
at_least false = 1
at_least true = 2

some_pieces : (e : Edition) (is_open : Bool) (w : List ℕ) (side : Side) (f : ℕ) → at_least is_open ≤ length (pieces e is_open w (side ++ (fld f ∷ [])))
some_pieces e false w [] f = omega arith
some_pieces e true w [] f = omega arith
some_pieces e false w (chr c ∷ side) f = omega (arith, some_pieces e true (point e c ∷ []) side f)
some_pieces e true w (chr c ∷ side) f = some_pieces e true (w ++ (point e c ∷ [])) side f
some_pieces e false w (fld g ∷ side) f = omega arith
some_pieces e true w (fld g ∷ side) f = omega arith

two_pieces : (e : Edition) (t : Token) (side : Side) (f : ℕ) → 2 ≤ length (pieces e false [] ((t ∷ side) ++ (fld f ∷ [])))
two_pieces e (chr c) side f = some_pieces e true (point e c ∷ []) side f
two_pieces e (fld g) side f = omega (arith, some_pieces e false [] side f)

pieces_longer : (l : List Piece) (rest : List Lexeme) → length (before_pieces l rest) ≡ length l + length rest
pieces_longer [] rest = omega arith
pieces_longer (x ∷ l) rest = omega (arith, pieces_longer l rest)

pub term_longer : (e : Edition) (side : Side) (f : ℕ) (rest : List Lexeme) → length rest ≤ length (before_term e side f rest)
term_longer e [] f rest = omega arith
term_longer e (t ∷ side) f rest = omega (arith, pieces_longer (pieces e false [] ((t ∷ side) ++ (fld f ∷ []))) (closing ∷ rest))

pub term_read : (e : Edition) (side : Side) (f n : ℕ) (rest : List Lexeme) → length (before_term e side f rest) ≤ n
    → read_term n (before_term e side f rest) ≡ understood (map (said e) (side ++ (fld f ∷ []))) rest
term_read e [] f n rest h = refl
term_read e (t ∷ side) f n rest h =
    let l = pieces e false [] ((t ∷ side) ++ (fld f ∷ [])) in
    joined_pieces n l rest (two_pieces e t side f) (omega (arith, pieces_longer l (closing ∷ rest)))
    ∙ ap (λ (u : List Item). understood u rest) (pieces_said e false [] ((t ∷ side) ++ (fld f ∷ [])))
