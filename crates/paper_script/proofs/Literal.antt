-- A character in a literal: what the lexer makes of its bytes, and what these mean.
--   character_lexed : c < characters → lexemes (in_text w) (character e c ++ s) ≡ lexemes (in_text (w ++ raw e c)) s
--   raw_meant       : c < characters → meaning (raw e c ++ s) ≡ point e c ∷ meaning s
--   StandsFor v w  : bytes of a literal that mean these code points, whatever follows; laws for none, for one character more, for the end
--   text_lexed      : the literal of one character, where a byte follows that is no quotation mark
-- `raw` is what stands in the literal when a doubled quotation mark is one. Follows from tests of every character of the edition, which the checker
-- computes, and from the laws of the lexer on bytes that stand plainly and of the reader of escapes on hexadecimal digits.
use Prim.Native.Nat.{ℕ, ◌+◌, ◌≤◌, ◌<◌}
use native.Mathlib.Omega.{arith}
use mathlib.Core.Path.{◌≡◌, refl, sym, ap, ◌∙◌}
use mathlib.Core.Bool.{Bool, true, false, cond, not, ◌&&◌, ◌||◌}
use mathlib.Core.List.{List, [], ◌∷◌, ◌++◌, append_assoc, append-nil}
use lib.Dec.{leb, eqb}
use lib.ListN.{length, length-append}
use Rattle.paper.specs.Lists.{upto, all}
use Rattle.paper.specs.Alphabet.{Edition, edition_1, edition_2, alphabet_of}
use Rattle.paper.specs.Printed.{sign}
use Rattle.paper.proofs.base.Tests.{by_bool, not_is_true, and_left, and_right, leb_true, lt_ltb, eqb_true}
use Rattle.paper.proofs.base.Lists.{cons_eq, all_true, upto_mem}
use Rattle.paper_script.specs.Bytes.{bytes}
use Rattle.paper_script.specs.Escapes.{backslash, is_hexadecimal, number_of, in_braces, may_end, meaning_from, meaning}
use Rattle.paper_script.specs.Lexemes.{quotation_mark, is_printable, text, between, in_text, lexemes}
use Rattle.paper_script.specs.Script.{point, hexadecimal, escaped, is_plain, character}

-- what is so of every character of the edition is so of each
each_character : (n : ℕ) (p : ℕ → Bool) → all p (upto n) ≡ true → (c : ℕ) → c < n → p c ≡ true
each_character n p h c k = all_true p (upto n) h (upto_mem n k)

-- The bytes of a character, where a doubled quotation mark is one.
abbrev written : ℕ → List ℕ
written c = cond (is_plain c) (c ∷ []) (escaped c)

abbrev pub raw : Edition → ℕ → List ℕ
raw edition_1 c = sign c ∷ []
raw edition_2 c = cond (eqb c quotation_mark) (quotation_mark ∷ []) (written c)

-- The lexer: bytes that stand plainly go on with the literal.
abbrev stands_plainly : ℕ → Bool
stands_plainly b = not (eqb b quotation_mark) && is_printable b

plainly_lexed : (w l s : List ℕ) → all stands_plainly l ≡ true → lexemes (in_text w) (l ++ s) ≡ lexemes (in_text (w ++ l)) s
plainly_lexed w [] s h = ap (λ (v : List ℕ). lexemes (in_text v) s) (sym (append-nil w))
plainly_lexed w (b ∷ l) s h =
    let its = and_left (stands_plainly b) (all stands_plainly l) h in
    let no_mark : eqb b quotation_mark ≡ false = not_is_true (and_left (not (eqb b quotation_mark)) (is_printable b) its) in
    let printable = and_right (not (eqb b quotation_mark)) (is_printable b) its in
    rw (no_mark, printable)
    (plainly_lexed (w ++ (b ∷ [])) l s (and_right (stands_plainly b) (all stands_plainly l) h)
    ∙ ap (λ (v : List ℕ). lexemes (in_text v) s) (append_assoc w (b ∷ []) l))

sign_plainly : (c : ℕ) → c < (alphabet_of edition_1).characters → all stands_plainly (sign c ∷ []) ≡ true
sign_plainly = each_character (alphabet_of edition_1).characters (λ (c : ℕ). all stands_plainly (sign c ∷ [])) refl

written_plainly : (c : ℕ) → c < (alphabet_of edition_2).characters → eqb c quotation_mark || all stands_plainly (written c) ≡ true
unfolding escaped
written_plainly =
    each_character (alphabet_of edition_2).characters (λ (c : ℕ). eqb c quotation_mark || all stands_plainly (written c)) refl

pub character_lexed : (e : Edition) (w : List ℕ) (c : ℕ) (s : List ℕ) → c < (alphabet_of e).characters
    → lexemes (in_text w) (character e c ++ s) ≡ lexemes (in_text (w ++ raw e c)) s
unfolding character
character_lexed edition_1 w c s h = plainly_lexed w (sign c ∷ []) s (sign_plainly c h)
character_lexed edition_2 w c s h =
    by_bool (eqb c quotation_mark)
    (λ e. rw e)
    (λ e. let its : all stands_plainly (written c) ≡ true = rw e at (written_plainly c h) in rw e (plainly_lexed w (written c) s its))

-- The reader of escapes: a byte that is no backslash is itself; digits in braces are a code point.
itself_meant : (b : ℕ) (s : List ℕ) → eqb b backslash ≡ false → meaning (b ∷ s) ≡ b ∷ meaning s
itself_meant b s h = rw h

digits_meant : (w digits s : List ℕ) → all is_hexadecimal digits ≡ true → length w + length digits ≤ 5
    → meaning_from (in_braces w) (digits ++ s) ≡ meaning_from (in_braces (w ++ digits)) s
digits_meant w [] s h k = ap (λ (v : List ℕ). meaning_from (in_braces v) s) (sym (append-nil w))
digits_meant w (b ∷ digits) s h k =
    let its = and_left (is_hexadecimal b) (all is_hexadecimal digits) h in
    let others = and_right (is_hexadecimal b) (all is_hexadecimal digits) h in
    rw (its, lt_ltb (length w) 5 (omega arith))
    (digits_meant (w ++ (b ∷ [])) digits s others (omega (arith, length-append w (b ∷ [])))
    ∙ ap (λ (v : List ℕ). meaning_from (in_braces v) s) (append_assoc w (b ∷ []) digits))

braces_meant : (digits s : List ℕ) → may_end digits ≡ true → meaning_from (in_braces digits) (bytes "}" ++ s) ≡ number_of digits ∷ meaning s
braces_meant digits s h = rw h

-- of the digits of a code: they are hexadecimal, from one to five, and its number
abbrev well_escaped : ℕ → List ℕ → Bool
well_escaped c digits = all is_hexadecimal digits && leb (length digits) 5 && may_end digits && eqb (number_of digits) c

escape_meant : (c : ℕ) (digits s : List ℕ) → well_escaped c digits ≡ true → meaning ((bytes "\\u{" ++ digits ++ bytes "}") ++ s) ≡ c ∷ meaning s
escape_meant c digits s h =
    let all_of = all is_hexadecimal digits in
    let short = leb (length digits) 5 in
    let first_three = and_left (all_of && short && may_end digits) (eqb (number_of digits) c) h in
    let first_two = and_left (all_of && short) (may_end digits) first_three in
    let most = leb_true (length digits) 5 (and_right all_of short first_two) in
    ap (meaning_from (in_braces [])) (append_assoc digits (bytes "}") s)
    ∙ digits_meant [] digits (bytes "}" ++ s) (and_left all_of short first_two) (omega arith)
    ∙ braces_meant digits s (and_right (all_of && short) (may_end digits) first_three)
    ∙ cons_eq (eqb_true (number_of digits) c (and_right (all_of && short && may_end digits) (eqb (number_of digits) c) h)) refl

-- a character is one that stands for itself, or its code is well escaped
sign_itself : (c : ℕ) → c < (alphabet_of edition_1).characters → not (eqb (sign c) backslash) ≡ true
sign_itself = each_character (alphabet_of edition_1).characters (λ (c : ℕ). not (eqb (sign c) backslash)) refl

abbrev well_written : ℕ → Bool
well_written c = cond (is_plain c) (not (eqb c backslash)) (well_escaped c (hexadecimal c))

is_well_written : (c : ℕ) → c < (alphabet_of edition_2).characters → well_written c ≡ true
is_well_written = each_character (alphabet_of edition_2).characters well_written refl

written_meant : (c : ℕ) (s : List ℕ) → well_written c ≡ true → meaning (written c ++ s) ≡ c ∷ meaning s
unfolding escaped
written_meant c s h =
    by_bool (is_plain c)
    (λ e. let its : not (eqb c backslash) ≡ true = rw e at h in rw e (itself_meant c s (not_is_true its)))
    (λ e. let its : well_escaped c (hexadecimal c) ≡ true = rw e at h in rw e (escape_meant c (hexadecimal c) s its))

pub raw_meant : (e : Edition) (c : ℕ) (s : List ℕ) → c < (alphabet_of e).characters → meaning (raw e c ++ s) ≡ point e c ∷ meaning s
raw_meant edition_1 c s h = itself_meant (sign c) s (not_is_true (sign_itself c h))
raw_meant edition_2 c s h =
    by_bool (eqb c quotation_mark)
    (λ e. rw (eqb_true c quotation_mark e))
    (λ e. rw e (written_meant c s (is_well_written c h)))

-- Bytes of a literal and the code points that they mean.
abbrev pub StandsFor : List ℕ → List ℕ → Type 0
StandsFor v w = (s : List ℕ) → meaning (v ++ s) ≡ w ++ meaning s

pub nothing_stands : StandsFor [] []
nothing_stands s = refl

pub one_more : (v w : List ℕ) (e : Edition) (c : ℕ) → StandsFor v w → c < (alphabet_of e).characters
    → StandsFor (v ++ raw e c) (w ++ (point e c ∷ []))
one_more v w e c h k s =
    ap meaning (append_assoc v (raw e c) s) ∙ h (raw e c ++ s) ∙ ap (λ (u : List ℕ). w ++ u) (raw_meant e c s k)
    ∙ sym (append_assoc w (point e c ∷ []) (meaning s))

pub whole_meant : (v w : List ℕ) → StandsFor v w → meaning v ≡ w
whole_meant v w h = ap meaning (sym (append-nil v)) ∙ h [] ∙ append-nil w

-- A literal of one character.
pub text_lexed : (e : Edition) (c b : ℕ) (s : List ℕ) → c < (alphabet_of e).characters → eqb b quotation_mark ≡ false
    → lexemes (in_text []) (character e c ++ (quotation_mark ∷ b ∷ s)) ≡ text (point e c ∷ []) ∷ lexemes between (b ∷ s)
text_lexed e c b s h k =
    character_lexed e [] c (quotation_mark ∷ b ∷ s) h
    ∙ rw k (cons_eq (ap text (whole_meant (raw e c) (point e c ∷ []) (one_more [] [] e c nothing_stands h))) refl)
