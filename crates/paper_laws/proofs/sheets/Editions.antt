-- The editions (request K10): a byte and its code.
--   code_character : a character's code is its value
--   code_sign      : the bytes from 64 on, behind `ED` from 192 on, have the codes from 192 on
--   code_below     : a code below 128 is a character of the edition
--   said_again     : the byte that says a code has it
--   byte_again     : a byte whose code is not 255 is the byte that says it
--   known_edition  : an edition is that of its alphabet
-- By cases on the edition.
use Prim.Native.Nat.{ℕ, ◌+◌, ◌-◌, ◌≤◌, ◌<◌}
use native.Mathlib.Omega.{arith}
use mathlib.Core.Path.{◌≡◌, refl, ap, ◌∙◌}
use mathlib.Core.Bool.{true, false, cond, ◌&&◌}
use mathlib.Core.List.{List, [], ◌∷◌}
use lib.Dec.{leb, ltb}
use Rattle.paper.specs.Numbers.{fields, most_characters, field_token, not_a_code}
use Rattle.paper.specs.Alphabet.{Edition, edition_1, edition_2, alphabet_of, edition_of, codes_from, code, codes, byte_of, bytes_of}
use Rattle.paper.proofs.base.Tests.{cond_true, cond_false, cond_by, and_left, and_right, both_true, le_leb, le_ltb, lt_ltb, leb_true, ltb_true}
use Rattle.paper.proofs.base.Lists.{cons_eq}

pub known_edition : (e : Edition) → edition_of (alphabet_of e) ≡ e
known_edition edition_1 = refl
known_edition edition_2 = refl

pub most_of : (e : Edition) → (alphabet_of e).characters ≤ most_characters
most_of edition_1 = omega arith
most_of edition_2 = omega arith

-- the space is a character
pub space_of : (e : Edition) → (alphabet_of e).space < (alphabet_of e).characters
space_of edition_1 = omega arith
space_of edition_2 = omega arith

-- no character is one of the bytes that stand for codes
pub characters_before : (e : Edition) → (alphabet_of e).characters ≤ codes_from e
characters_before edition_1 = omega arith
characters_before edition_2 = omega arith

module _ (e : Edition) where
  abbrev characters : ℕ
  characters = (alphabet_of e).characters

  -- what a byte that is no character says
  abbrev sign_or_none : ℕ → ℕ
  sign_or_none b = cond (leb (codes_from e) b && ltb b (codes_from e + fields)) (field_token + (b - codes_from e)) not_a_code

  pub code_character : (c : ℕ) → c < characters → code e c ≡ c
  unfolding code
  code_character c h = cond_true (ltb c characters) c (sign_or_none c) (lt_ltb c characters h)

  pub code_sign : (f : ℕ) → f < fields → code e (codes_from e + f) ≡ field_token + f
  unfolding code
  code_sign f h =
      let from = codes_from e in
      let b = from + f in
      let before = characters_before e in
      let same : b - from ≡ f = omega arith in
      cond_false (ltb b characters) b (sign_or_none b) (le_ltb b characters (omega arith))
      ∙ cond_true (leb from b && ltb b (from + fields)) (field_token + (b - from)) not_a_code (both_true (le_leb from b (omega arith)) (lt_ltb b (from + fields) (omega arith)))
      ∙ ap (λ (n : ℕ). field_token + n) same

  -- a character is told by its code alone
  pub code_below : (b : ℕ) → code e b < most_characters → code e b < characters
  unfolding code
  code_below b =
      cond_by (λ (c : ℕ). c < most_characters → c < characters) (ltb b characters)
      (λ h _. ltb_true b characters h)
      (λ _. cond_by (λ (c : ℕ). c < most_characters → c < characters) (leb (codes_from e) b && ltb b (codes_from e + fields))
      (λ _ k. absurd (omega arith))
      (λ _ k. absurd (omega arith)))

  -- a code that a byte of the edition has
  pub data Said : ℕ → Type 0 where
    character : {c : ℕ} → c < characters → Said c
    sign : {c : ℕ} → field_token ≤ c → c < field_token + fields → Said c

  pub said_below : {c : ℕ} → Said c → c < not_a_code
  said_below (character h) = omega (arith, most_of e)
  said_below (sign h k) = omega arith

  pub said_again : (c : ℕ) → Said c → code e (byte_of e c) ≡ c
  unfolding byte_of
  said_again c (character h) = rw (lt_ltb c field_token (omega (arith, most_of e))) (code_character c h)
  said_again c (sign h k) =
      let same : field_token + (c - field_token) ≡ c = omega arith in
      ap (code e) (cond_false (ltb c field_token) c (codes_from e + (c - field_token)) (le_ltb c field_token h))
      ∙ code_sign (c - field_token) (omega arith)
      ∙ same

  -- a byte that has one is the byte that says it
  pub data Byte : ℕ → ℕ → Type 0 where
    of_character : {b : ℕ} → b < characters → Byte b b
    of_sign : {f : ℕ} → f < fields → Byte (codes_from e + f) (field_token + f)
    of_none : {b : ℕ} → Byte b not_a_code

  pub byte_by : (b : ℕ) → Byte b (code e b)
  unfolding code
  byte_by b =
      cond_by (Byte b) (ltb b characters) (λ h. of_character (ltb_true b characters h))
      (λ _. cond_by (Byte b) (leb (codes_from e) b && ltb b (codes_from e + fields))
      (λ h.
      let low = leb_true (codes_from e) b (and_left (leb (codes_from e) b) (ltb b (codes_from e + fields)) h) in
      let high = ltb_true b (codes_from e + fields) (and_right (leb (codes_from e) b) (ltb b (codes_from e + fields)) h) in
      let b-is : codes_from e + (b - codes_from e) ≡ b = omega arith in
      rw b-is at (of_sign {f = b - codes_from e} (omega arith)))
      (λ _. of_none))

  again_by : {b c : ℕ} → Byte b c → (c < not_a_code) → byte_of e c ≡ b
  unfolding byte_of
  again_by (of_character {b = b} h) k = rw (lt_ltb b field_token (omega (arith, most_of e)))
  again_by (of_sign {f = f} h) k =
      let same : field_token + f - field_token ≡ f = omega arith in
      rw (le_ltb (field_token + f) field_token (omega arith), same)
  again_by of_none k = absurd (omega arith)

  pub byte_again : (b : ℕ) → code e b < not_a_code → byte_of e (code e b) ≡ b
  byte_again b = again_by (byte_by b)

  -- of lists
  pub data AllSaid : List ℕ → Type 0 where
    none_said : AllSaid []
    more_said : {c : ℕ} {cs : List ℕ} → Said c → AllSaid cs → AllSaid (c ∷ cs)

  pub codes_again : (cs : List ℕ) → AllSaid cs → codes e (bytes_of e cs) ≡ cs
  codes_again [] none_said = refl
  codes_again (c ∷ cs) (more_said h k) = cons_eq (said_again c h) (codes_again cs k)
