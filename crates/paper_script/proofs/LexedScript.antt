-- The lexemes of a question's script: a field's lines, a side as a term, the equation, all of it. As in `Lexed`, each part is said by what stands
-- before the lexemes that follow.
--   field_lexed    : f < set_fields → GoodHeld characters h → lexemes between (field_lines e f h ++ s) ≡ before_field e f h (lexemes between s)
--   term_lexed     : a side with its hidden field, where a byte follows that ends a word
--   equation_lexed : both sides and the check command
--   script_lexed   : GoodQuestion q → lexemes between (script q) ≡ script_lexemes q
-- Follows by induction on the fields that stand and on the tokens of the sides. A literal of several characters is one lexeme, so a side is first
-- taken apart into literals and constants (`pieces`). A digit ends no word and no comment; a literal that is open has begun with bytes that mean
-- the code points so far (`Literal.StandsFor`).
use Prim.Native.Nat.{ℕ, ◌<◌}
use native.Mathlib.Omega.{arith}
use mathlib.Core.Path.{◌≡◌, refl, ap, ◌∙◌, subst}
use mathlib.Core.Bool.{Bool, true, false, not}
use mathlib.Core.List.{List, [], ◌∷◌, ◌++◌, append_assoc, Memᴰ}
use Rattle.paper.specs.Lists.{upto, all, each}
use Rattle.paper.specs.Numbers.{hidden_left, hidden_right, set_fields}
use Rattle.paper.specs.Pattern.{Held}
use Rattle.paper.specs.Equation.{Token, chr, fld, Side, stands_in}
use Rattle.paper.specs.Alphabet.{Alphabet, Edition, alphabet_of, edition_of}
use Rattle.paper.specs.Question.{Question, held_by, hidden}
use Rattle.paper.specs.Printed.{blank_sign}
use Rattle.paper.proofs.base.Tests.{not_is_true}
use Rattle.paper.proofs.base.Lists.{all_true, cons_eq, mem_keep, mem_upto, upto_mem}
use Rattle.paper_laws.proofs.sheets.Asked.{InRange, GoodHeld, GoodSide, GoodQuestion}
use Rattle.paper_laws.proofs.sheets.Hidden.{hidden_searchable}
use Rattle.paper_script.specs.Bytes.{bytes}
use Rattle.paper_script.specs.Lexemes.{Lexeme, opening, closing, word, text, Within, between, in_word, in_text, ends_line, ends_word, lexemes}
use Rattle.paper_script.specs.Script.{point, character, digit, name, expression_of, field_lines, arguments_of, side_term, heading, all_standing, equation, script}
use Rattle.paper_script.proofs.Literal.{raw, StandsFor, nothing_stands, one_more, whole_meant, character_lexed}
use Rattle.paper_script.proofs.Lexed.{before_held, held_lexed}

-- A digit ends no word and no comment: they are looked through one by one.
no_end : (ends : ℕ → Bool) → all (λ (f : ℕ). not (ends (digit f))) (upto set_fields) ≡ true → (f : ℕ) → f < set_fields → ends (digit f) ≡ false
no_end ends h f k = not_is_true (all_true (λ (g : ℕ). not (ends (digit g))) (upto set_fields) h (upto_mem set_fields k))

digit_in_word : (f : ℕ) → f < set_fields → ends_word (digit f) ≡ false
digit_in_word = no_end ends_word refl

digit_in_comment : (f : ℕ) → f < set_fields → ends_line (digit f) ≡ false
digit_in_comment = no_end ends_line refl

-- A field's lines.
abbrev declared : List ℕ → List Lexeme → List Lexeme
declared n rest =
    opening ∷ word (bytes "declare-const") ∷ word n ∷ word (bytes "String") ∷ closing
    ∷ opening ∷ word (bytes "assert") ∷ opening ∷ word (bytes "str.in_re") ∷ word n ∷ rest

abbrev pub before_field : Edition → ℕ → Held → List Lexeme → List Lexeme
before_field e f h rest = declared (name f) (before_held e h (closing ∷ closing ∷ rest))

lines_lexed : (d : ℕ) (e s : List ℕ) → ends_line d ≡ false → ends_word d ≡ false
    → lexemes between ((bytes "; field " ++ (d ∷ bytes "\n(declare-const f") ++ (d ∷ bytes " String)\n(assert (str.in_re f")
    ++ (d ∷ bytes " ") ++ e ++ bytes "))\n") ++ s)
    ≡ declared (bytes "f" ++ (d ∷ [])) (lexemes between ((e ++ bytes "))\n") ++ s))
lines_lexed d e s i j = rw (i, j, j)

pub field_lexed : (e : Edition) (f : ℕ) (h : Held) (s : List ℕ) → f < set_fields → GoodHeld (alphabet_of e).characters h
    → lexemes between (field_lines e f h ++ s) ≡ before_field e f h (lexemes between s)
unfolding field_lines
field_lexed e f h s k good =
    let its = expression_of e h in
    lines_lexed (digit f) its s (digit_in_comment f k) (digit_in_word f k)
    ∙ ap (declared (name f)) (ap (lexemes between) (append_assoc its (bytes "))\n") s) ∙ held_lexed e h good (bytes "))\n" ++ s))

-- A side with its hidden field: literals and constants one behind the other. The test says whether a literal is open, which means w so far.
pub data Piece : Type 0 where
  literal : List ℕ → Piece
  named : List ℕ → Piece

abbrev pub lexeme_of : Piece → Lexeme
lexeme_of (literal w) = text w
lexeme_of (named n) = word n

abbrev pub pieces : Edition → Bool → List ℕ → Side → List Piece
pieces e false w [] = []
pieces e true w [] = literal w ∷ []
pieces e false w (chr c ∷ side) = pieces e true (point e c ∷ []) side
pieces e true w (chr c ∷ side) = pieces e true (w ++ (point e c ∷ [])) side
pieces e false w (fld f ∷ side) = named (name f) ∷ pieces e false [] side
pieces e true w (fld f ∷ side) = literal w ∷ named (name f) ∷ pieces e false [] side

abbrev pub before_pieces : List Piece → List Lexeme → List Lexeme
before_pieces [] rest = rest
before_pieces (x ∷ l) rest = lexeme_of x ∷ before_pieces l rest

abbrev standing : Bool → List ℕ → Within
standing false w = between
standing true w = in_text w

-- the hidden field, the end of the term, and what stands behind it
abbrev last : ℕ → List ℕ → List ℕ
last f s = bytes " f" ++ (digit f ∷ bytes ")" ++ s)

-- a space ends a word
word_ends : (e : Edition) (w : List ℕ) (side : Side) (f : ℕ) (s : List ℕ)
    → lexemes (in_word w) (arguments_of e false side ++ last f s) ≡ word w ∷ lexemes between (arguments_of e false side ++ last f s)
word_ends e w [] f s = refl
word_ends e w (chr c ∷ side) f s = refl
word_ends e w (fld g ∷ side) f s = refl

digit_read : (w : List ℕ) (f : ℕ) (s : List ℕ) → f < set_fields → lexemes (in_word w) (digit f ∷ s) ≡ lexemes (in_word (w ++ (digit f ∷ []))) s
digit_read w f s h = rw (digit_in_word f h)

-- its tokens are the edition's characters and fields
abbrev Known : Edition → Side → Type 0
Known e side = (t : Token) → Memᴰ t side → InRange (alphabet_of e).characters t

field_known : (n f : ℕ) → InRange n (fld f) → f < set_fields
field_known n f h = omega arith

arguments_lexed : (e : Edition) (is_open : Bool) (v w : List ℕ) (side : Side) (f : ℕ) (s : List ℕ) → StandsFor v w → Known e side → f < set_fields
    → lexemes (standing is_open v) (arguments_of e is_open side ++ last f s)
    ≡ before_pieces (pieces e is_open w (side ++ (fld f ∷ []))) (closing ∷ lexemes between s)
arguments_lexed e false v w [] f s m k h = digit_read (bytes "f") f (bytes ")" ++ s) h
arguments_lexed e true v w [] f s m k h = cons_eq (ap text (whole_meant v w m)) (digit_read (bytes "f") f (bytes ")" ++ s) h)
arguments_lexed e false v w (chr c ∷ side) f s m k h =
    let below = k (chr c) (Memᴰ.head refl) in
    let others = arguments_of e true side in
    ap (lexemes (in_text [])) (append_assoc (character e c) others (last f s))
    ∙ character_lexed e [] c (others ++ last f s) below
    ∙ arguments_lexed e true (raw e c) (point e c ∷ []) side f s (one_more [] [] e c nothing_stands below) (λ t d. k t (Memᴰ.tail d)) h
arguments_lexed e true v w (chr c ∷ side) f s m k h =
    let below = k (chr c) (Memᴰ.head refl) in
    let others = arguments_of e true side in
    ap (lexemes (in_text v)) (append_assoc (character e c) others (last f s))
    ∙ character_lexed e v c (others ++ last f s) below
    ∙ arguments_lexed e true (v ++ raw e c) (w ++ (point e c ∷ [])) side f s (one_more v w e c m below) (λ t d. k t (Memᴰ.tail d)) h
arguments_lexed e false v w (fld g ∷ side) f s m k h =
    digit_read (bytes "f") g (arguments_of e false side ++ last f s) (field_known (alphabet_of e).characters g (k (fld g) (Memᴰ.head refl)))
    ∙ word_ends e (name g) side f s ∙ cons_eq refl (arguments_lexed e false [] [] side f s nothing_stands (λ t d. k t (Memᴰ.tail d)) h)
arguments_lexed e true v w (fld g ∷ side) f s m k h =
    cons_eq (ap text (whole_meant v w m))
    (digit_read (bytes "f") g (arguments_of e false side ++ last f s) (field_known (alphabet_of e).characters g (k (fld g) (Memᴰ.head refl)))
    ∙ word_ends e (name g) side f s ∙ cons_eq refl (arguments_lexed e false [] [] side f s nothing_stands (λ t d. k t (Memᴰ.tail d)) h))

-- a side as a term
abbrev pub before_term : Edition → Side → ℕ → List Lexeme → List Lexeme
before_term e [] f rest = word (name f) ∷ rest
before_term e (t ∷ side) f rest =
    opening ∷ word (bytes "str.++") ∷ before_pieces (pieces e false [] ((t ∷ side) ++ (fld f ∷ []))) (closing ∷ rest)

last_behind : (a : List ℕ) (f : ℕ) (s : List ℕ) → ((a ++ bytes " f") ++ (digit f ∷ bytes ")")) ++ s ≡ a ++ last f s
last_behind a f s = append_assoc (a ++ bytes " f") (digit f ∷ bytes ")") s ∙ append_assoc a (bytes " f") (digit f ∷ bytes ")" ++ s)

term_lexed : (e : Edition) (side : Side) (f b : ℕ) (s : List ℕ) → Known e side → f < set_fields → ends_word b ≡ true
    → lexemes between (side_term e side f ++ (b ∷ s)) ≡ before_term e side f (lexemes between (b ∷ s))
term_lexed e [] f b s k h i = digit_read (bytes "f") f (b ∷ s) h ∙ rw i
term_lexed e (t ∷ side) f b s k h i =
    cons_eq refl
    (ap (lexemes (in_word (bytes "str.++"))) (last_behind (arguments_of e false (t ∷ side)) f (b ∷ s))
    ∙ word_ends e (bytes "str.++") (t ∷ side) f (b ∷ s)
    ∙ cons_eq refl (arguments_lexed e false [] [] (t ∷ side) f (b ∷ s) nothing_stands k h))

-- The equation of both sides and the check command.
abbrev pub before_end : List Lexeme
before_end = closing ∷ closing ∷ opening ∷ word (bytes "check-sat") ∷ closing ∷ []

abbrev pub equation_lexemes : Edition → Side → Side → List Lexeme
equation_lexemes e left right =
    opening ∷ word (bytes "assert") ∷ opening ∷ word (bytes "=") ∷ before_term e left hidden_left (before_term e right hidden_right before_end)

equation_lexed : (e : Edition) (left right : Side) → Known e left → Known e right
    → lexemes between (equation e left right) ≡ equation_lexemes e left right
unfolding equation
equation_lexed e left right h k =
    let l = side_term e left hidden_left in
    let r = side_term e right hidden_right in
    let end = bytes "))\n(check-sat)\n" in
    ap (λ (rest : List Lexeme). opening ∷ word (bytes "assert") ∷ opening ∷ word (bytes "=") ∷ rest)
    (ap (lexemes between) (append_assoc l (blank_sign ∷ r) end)
    ∙ term_lexed e left hidden_left blank_sign (r ++ end) h (omega arith) refl
    ∙ ap (before_term e left hidden_left) (term_lexed e right hidden_right 41 (bytes ")\n(check-sat)\n") k (omega arith) refl))

-- The script.
abbrev pub before_fields : Edition → (ℕ → Held) → List ℕ → List Lexeme → List Lexeme
before_fields e held [] rest = rest
before_fields e held (f ∷ fs) rest = before_field e f (held f) (before_fields e held fs rest)

module _ (e : Edition) (held : ℕ → Held) (good : (f : ℕ) → GoodHeld (alphabet_of e).characters (held f)) where
  fields_lexed : (fs s : List ℕ) → ((f : ℕ) → Memᴰ f fs → f < set_fields)
      → lexemes between (each (λ (f : ℕ). field_lines e f (held f)) fs ++ s) ≡ before_fields e held fs (lexemes between s)
  fields_lexed [] s h = refl
  fields_lexed (f ∷ fs) s h =
      let others = each (λ (g : ℕ). field_lines e g (held g)) fs in
      ap (lexemes between) (append_assoc (field_lines e f (held f)) others s)
      ∙ field_lexed e f (held f) (others ++ s) (h f (Memᴰ.head refl)) (good f)
      ∙ ap (before_field e f (held f)) (fields_lexed fs s (λ g d. h g (Memᴰ.tail d)))

pub standing_known : (q : Question) (f : ℕ) → Memᴰ f (all_standing q) → f < set_fields
unfolding all_standing
standing_known q f d = mem_upto set_fields (mem_keep (λ (g : ℕ). stands_in g (q.left ++ q.right)) (upto set_fields) d).0

abbrev pub script_lexemes : Edition → Question → List Lexeme
script_lexemes e q =
    opening ∷ word (bytes "set-logic") ∷ word (bytes "QF_S") ∷ closing
    ∷ before_fields e (held_by (hidden q)) (all_standing (hidden q)) (equation_lexemes e q.left q.right)

heading_lexed : (s : List ℕ)
    → lexemes between (heading ++ s) ≡ opening ∷ word (bytes "set-logic") ∷ word (bytes "QF_S") ∷ closing ∷ lexemes between s
heading_lexed s = refl

-- by the characters of the question's edition
module _ (q : Question) (g : GoodQuestion q) where
  abbrev edition : Edition
  edition = edition_of q.alphabet

  pub held_good : (f : ℕ) → GoodHeld (alphabet_of edition).characters (held_by (hidden q) f)
  held_good f = subst (λ (a : Alphabet). GoodHeld a.characters (held_by (hidden q) f)) g.alphabet ((hidden_searchable q g).held f)

  side_known : (side : Side) → GoodSide q.alphabet.characters side → Known edition side
  side_known side h t d = subst (λ (a : Alphabet). InRange a.characters t) g.alphabet (h.tokens t d)

  pub script_lexed : lexemes between (script q) ≡ script_lexemes edition q
  unfolding script
  script_lexed =
      let e = edition in
      let standing = all_standing (hidden q) in
      let lines = each (λ (f : ℕ). field_lines e f (held_by (hidden q) f)) standing in
      let end = equation e q.left q.right in
      ap (lexemes between) (append_assoc heading lines end)
      ∙ heading_lexed (lines ++ end)
      ∙ ap (λ (rest : List Lexeme). opening ∷ word (bytes "set-logic") ∷ word (bytes "QF_S") ∷ closing ∷ rest)
      (fields_lexed e (held_by (hidden q)) held_good standing end (standing_known (hidden q))
      ∙ ap (before_fields e (held_by (hidden q)) standing)
      (equation_lexed e q.left q.right (side_known q.left g.left) (side_known q.right g.right)))
