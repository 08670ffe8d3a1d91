-- How long the script of a question is, in either edition.
--   expression_length : leaves_take characters p → 4 * length (expression e p) + 48 ≤ 710 * (length (pattern_code p) + 1)
--   script_length     : Sayable q → length (script q) ≤ longest_script
--   script_fits       : read_sheet s ≡ asked q → length (script q) ≤ longest_script
--   held_own, held_hidden : what a field of the question with hidden fields may hold
-- A choice of all the characters of the first edition has most bytes for its three bytes of code; in the second a range has at most 28, and a
-- character in a literal at most 6. Follows by induction on the pattern and on the side.
use Prim.Native.Nat.{ℕ, suc, ◌+◌, ◌*◌, ◌-◌, ◌≤◌, ◌<◌}
use native.Mathlib.Omega.{arith}
use mathlib.Core.Path.{◌≡◌, refl, ap, ◌∙◌, subst}
use mathlib.Core.Bool.{Bool, true, false, cond}
use mathlib.Core.List.{List, [], ◌∷◌, ◌++◌, map, Memᴰ}
use lib.Dec.{leb, ltb, eqb}
use lib.ListN.{length, length-append, length-map, get_or-append}
use Rattle.paper.specs.Lists.{from, upto, keep, each}
use Rattle.paper.specs.Numbers.{fields, hidden_left, hidden_right, set_fields}
use Rattle.paper.specs.Pattern.{char, range, Pattern, leaf, empty, then, either, many, Held, some_text, pattern}
use Rattle.paper.specs.Taken.{LeafTakes, leaves_take}
use Rattle.paper.specs.Equation.{chr, fld, Side, stands_in}
use Rattle.paper.specs.Alphabet.{Alphabet, Edition, edition_1, edition_2, alphabet_of, edition_of}
use Rattle.paper.specs.Question.{Question, held_by, any_spaces, hidden}
use Rattle.paper.specs.Printed.{blank_sign}
use Rattle.paper.specs.Sheet.{asked, read_sheet}
use Rattle.paper.specs.Saying.{pattern_code}
use Rattle.paper.proofs.base.Tests.{by_bool, cond_by, both_true, leb_false, le_leb, ltb_true, ltb_false, eqb_true, eqb_false}
use Rattle.paper.proofs.base.Lists.{length_from, mem_upto}
use Rattle.paper.proofs.base.Listed.{get_or_map_upto}
use Rattle.paper_laws.proofs.sheets.Asked.{GoodHeld}
use Rattle.paper_laws.proofs.saying.Saying.{ShortCode, Sayable}
use Rattle.paper_script.specs.Bytes.{bytes}
use Rattle.paper_script.specs.Lexemes.{quotation_mark}
use Rattle.paper_script.specs.Script.{hexadecimal, escaped, is_plain, character, one_character, next_character, several, range_expression}
use Rattle.paper_script.specs.Script.{expression, some_characters, expression_of, digit, field_lines}
use Rattle.paper_script.specs.Script.{arguments_of, side_term, heading, all_standing, equation, script, longest_script}
use Rattle.paper_laws.proofs.saying.Sayable.{sheet_sayable}
use Rattle.paper_script.proofs.SameTexts.{all_taken}

-- A character, in a literal and as an expression.
hexadecimal_length : (c : ℕ) → length (hexadecimal c) ≤ 2
hexadecimal_length c = cond_by (λ (s : List ℕ). length s ≤ 2) (ltb c 16) (λ _. omega arith) (λ _. omega arith)

escaped_length : (c : ℕ) → length (escaped c) ≤ 6
unfolding escaped
escaped_length c = omega (arith, length-append (hexadecimal c) (bytes "}"), hexadecimal_length c)

character_length : (e : Edition) (c : ℕ) → length (character e c) ≤ 6
unfolding character
character_length edition_1 c = omega arith
character_length edition_2 c =
    cond_by (λ (s : List ℕ). length s ≤ 6) (eqb c quotation_mark) (λ _. omega arith)
    (λ _. cond_by (λ (s : List ℕ). length s ≤ 6) (is_plain c) (λ _. omega arith) (λ _. escaped_length c))

one_length : (e : Edition) (c : ℕ) → length (one_character e c) ≤ 20
unfolding one_character
one_length e c = omega (arith, length-append (character e c) (bytes "\")"), character_length e c)

-- a sign is one byte, and a choice of all the characters is the longest
sign_length : (c : ℕ) → length (one_character edition_1 c) ≡ 15
unfolding one_character character
sign_length c = refl

signs_length : (l : List ℕ) → length (each (next_character edition_1) l) ≡ 16 * length l
signs_length [] = refl
signs_length (c ∷ l) =
    omega (arith, length-append (one_character edition_1 c) (each (next_character edition_1) l), sign_length c, signs_length l)

several_length : (e : Edition) (lo hi : ℕ) → lo < hi → hi < (alphabet_of e).characters → length (several e lo hi) ≤ 698
several_length edition_1 lo hi h k =
    let l = from lo (suc hi - lo) in
    omega (arith, length-append (each (next_character edition_1) l) (bytes ")"), signs_length l, length_from lo (suc hi - lo))
several_length edition_2 lo hi h k =
    let low = character edition_2 lo in
    let high = character edition_2 hi in
    omega (
      arith,
      length-append ((low ++ bytes "\" \"") ++ high) (bytes "\")"),
      length-append (low ++ bytes "\" \"") high,
      length-append low (bytes "\" \""),
      character_length edition_2 lo,
      character_length edition_2 hi,
    )

range_length : (e : Edition) (lo hi : ℕ) → LeafTakes (alphabet_of e).characters (range lo hi) → length (range_expression e lo hi) ≤ 698
unfolding range_expression
range_length e lo hi h =
    cond_by (λ (s : List ℕ). length s ≤ 698) (leb hi lo)
    (λ _. omega (arith, one_length e lo))
    (λ i.
    let rises = leb_false hi lo i in
    several_length e lo hi rises (h.character hi (both_true (le_leb lo hi (omega arith)) (le_leb hi hi (omega arith)))))

-- A pattern, by the length of its code.
abbrev Bounded : Edition → Pattern → Type 0
Bounded e p = 4 * length (expression e p) + 48 ≤ 710 * (length (pattern_code p) + 1)

two_length : (a b : List ℕ) → length ((a ++ (blank_sign ∷ b)) ++ bytes ")") ≡ length a + length b + 2
two_length a b = omega (arith, length-append (a ++ (blank_sign ∷ b)) (bytes ")"), length-append a (blank_sign ∷ b))

module _ (e : Edition) where
  two_bounded : (a b : Pattern) → Bounded e a → Bounded e b
      → 4 * (10 + length ((expression e a ++ (blank_sign ∷ expression e b)) ++ bytes ")")) + 48 ≤ 710 * (1 + length (pattern_code a ++ pattern_code b) + 1)
  two_bounded a b h k = omega (arith, two_length (expression e a) (expression e b), length-append (pattern_code a) (pattern_code b))

  pub expression_length : (p : Pattern) → leaves_take (alphabet_of e).characters p
      → 4 * length (expression e p) + 48 ≤ 710 * (length (pattern_code p) + 1)
  expression_length (leaf (char c)) h = omega (arith, one_length e c)
  expression_length (leaf (range lo hi)) h = omega (arith, range_length e lo hi h)
  expression_length empty h = omega arith
  expression_length (then a b) h =
      omega (arith, two_bounded a b (expression_length a h.0) (expression_length b h.1))
  expression_length (either a b) h =
      omega (arith, two_bounded a b (expression_length a h.0) (expression_length b h.1))
  expression_length (many a) h = omega (arith, length-append (expression e a) (bytes ")"), expression_length a h)

  -- What a field may hold, and its lines.
  held_length : (h : Held) → GoodHeld (alphabet_of e).characters h → ShortCode h → length (expression_of e h) ≤ 34245
  held_length some_text good short = omega (arith, expression_length (some_characters e) (all_taken e, all_taken e))
  held_length (pattern p) good short = omega (arith, expression_length p good.0)

  lines_length : (f : ℕ) (h : Held) → length (field_lines e f h) ≡ 61 + length (expression_of e h)
  unfolding field_lines
  lines_length f h = omega (arith, length-append (expression_of e h) (bytes "))\n"))

  -- a hidden field's lines are short
  spaces_length : (x : ℕ) → length (expression_of e (any_spaces x)) ≤ 27
  spaces_length x = omega (arith, length-append (one_character e x) (bytes ")"), one_length e x)

abbrev most : ℕ → ℕ
most f = cond (ltb f fields) 34306 88

module _ (q : Question) where
  pub held_own : (f : ℕ) → f < fields → held_by (hidden q) f ≡ held_by q f
  held_own f h =
      get_or-append (map (held_by q) (upto fields)) (any_spaces q.alphabet.space ∷ any_spaces q.alphabet.space ∷ []) some_text f
      (rw (length-map (upto fields) (held_by q)) h)
      ∙ get_or_map_upto (held_by q) some_text fields f h

  pub held_hidden : (f : ℕ) → fields ≤ f → f < set_fields → held_by (hidden q) f ≡ any_spaces q.alphabet.space
  held_hidden f h k =
      by_bool (eqb f hidden_left)
      (λ e. ap (held_by (hidden q)) (eqb_true f hidden_left e))
      (λ (e : eqb f hidden_left ≡ false).
      let other = eqb_false f hidden_left e in
      let it : f ≡ hidden_right = omega arith in
      ap (held_by (hidden q)) it)

  abbrev edition : Edition
  edition = edition_of q.alphabet

  field_length : Sayable q → (f : ℕ) → f < set_fields → length (field_lines edition f (held_by (hidden q) f)) ≤ most f
  field_length h f k =
      let space = q.alphabet.space in
      let good = subst (λ (a : Alphabet). GoodHeld a.characters (held_by q f)) h.good.alphabet (h.good.held.good f) in
      cond_by (λ (n : ℕ). length (field_lines edition f (held_by (hidden q) f)) ≤ n) (ltb f fields)
      (λ e. rw (held_own f (ltb_true f fields e))
      (omega (arith, lines_length edition f (held_by q f), held_length edition (held_by q f) good (h.codes f))))
      (λ e. rw (held_hidden f (ltb_false f fields e) k) (omega (arith, lines_length edition f (any_spaces space), spaces_length edition space)))

-- The lines of the fields that stand: not more than those of all of them.
abbrev total : List ℕ → ℕ
total [] = 0
total (f ∷ fs) = most f + total fs

kept_length : (lines : ℕ → List ℕ) (stands : ℕ → Bool) (fs : List ℕ) → ((f : ℕ) → Memᴰ f fs → length (lines f) ≤ most f)
    → length (each lines (keep stands fs)) ≤ total fs
kept_length lines stands [] h = omega arith
kept_length lines stands (f ∷ fs) h =
    let others = kept_length lines stands fs (λ g d. h g (Memᴰ.tail d)) in
    by_bool (stands f)
    (λ e. rw e (omega (arith, length-append (lines f) (each lines (keep stands fs)), h f (Memᴰ.head refl), others)))
    (λ e. rw e (omega (arith, others)))

-- A side: nine bytes for each token, and one where a literal is open.
abbrev mark : Bool → ℕ
mark false = 0
mark true = 1

module _ (e : Edition) where
  arguments_length : (is_open : Bool) (side : Side) → length (arguments_of e is_open side) ≤ 9 * length side + mark is_open
  arguments_length false [] = omega arith
  arguments_length true [] = omega arith
  arguments_length false (chr c ∷ side) =
      omega (arith, length-append (character e c) (arguments_of e true side), character_length e c, arguments_length true side)
  arguments_length true (chr c ∷ side) =
      omega (arith, length-append (character e c) (arguments_of e true side), character_length e c, arguments_length true side)
  arguments_length false (fld f ∷ side) = omega (arith, arguments_length false side)
  arguments_length true (fld f ∷ side) = omega (arith, arguments_length false side)

  term_length : (side : Side) (f : ℕ) → length (side_term e side f) ≤ 9 * length side + 11
  term_length [] f = omega arith
  term_length (t ∷ side) f =
      let a = arguments_of e false (t ∷ side) in
      omega (arith, length-append (a ++ bytes " f") (digit f ∷ bytes ")"), length-append a (bytes " f"), arguments_length false (t ∷ side))

  equation_length : (left right : Side) → length (equation e left right) ≤ 9 * length left + 9 * length right + 49
  unfolding equation
  equation_length left right =
      let l = side_term e left hidden_left in
      let r = side_term e right hidden_right in
      omega (
        arith,
        length-append (l ++ (blank_sign ∷ r)) (bytes "))\n(check-sat)\n"),
        length-append l (blank_sign ∷ r),
        term_length left hidden_left,
        term_length right hidden_right,
      )

heading_length : length heading ≡ 154
heading_length = refl

pub script_length : (q : Question) → Sayable q → length (script q) ≤ longest_script
unfolding script all_standing
script_length q h =
    let e = edition_of q.alphabet in
    let lines : ℕ → List ℕ = λ (f : ℕ). field_lines e f (held_by (hidden q) f) in
    let standing = all_standing (hidden q) in
    let end = equation e q.left q.right in
    omega (
      arith,
      length-append (heading ++ each lines standing) end,
      length-append heading (each lines standing),
      heading_length,
      kept_length lines (λ (f : ℕ). stands_in f ((hidden q).left ++ (hidden q).right)) (upto set_fields)
          (λ f d. field_length q h f (mem_upto set_fields d)),
      equation_length e q.left q.right,
      h.good.left.short,
      h.good.right.short,
    )

pub script_fits : (s : List ℕ) (q : Question) → read_sheet s ≡ asked q → length (script q) ≤ longest_script
script_fits s q e = script_length q (sheet_sayable s q e)
