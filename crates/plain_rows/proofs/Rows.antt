-- Rows of tokens in front:
--   laid_more, laid_rows : a part of each field's tables, stored one field after the other, in front of the rows of a character and of an end
--   token_front                     : the token with an inner code, by its rows, is the token in front of `front_of`
--   token_row                       : its row is there
--   get_or_either                     : what stands in a list, whatever would stand behind its end
-- Follows from the laws of `set`, `take` and `map`, and from the tests on the code.
use Prim.Native.Nat.{ℕ, zero, suc, ◌+◌, ◌≤◌, ◌<◌}
use native.Mathlib.Numerals.{add-one}
use native.Mathlib.Omega.{arith}
use mathlib.Core.Path.{◌≡◌, refl, sym, ap, ◌∙◌}
use mathlib.Core.Bool.{true, false}
use mathlib.Core.List.{List, [], ◌∷◌, ◌++◌, map, append_assoc}
use lib.Dec.{ltb}
use lib.ListN.{length, get_or, take, drop, set, length-map, get_or-map, get_or-append, get_or-eq_default}
use lib.Seq.{take-suc, drop-cons, set_at, length-take-le, get_or-append-add}
use Rattle.paper.specs.Numbers.{fields, set_fields}
use Rattle.paper.proofs.base.Lists.{map_append}
use Rattle.paper.proofs.base.Tests.{by_bool, ltb_true, ltb_false}
use Rattle.base_places.specs.declared.PlaceTables.{PlaceTables}
use Rattle.base_codes.specs.Inner.{field_of, is_char}
use Rattle.plain_rows.specs.Fronts.{Front, no_tables, one_place, front_of}
use Rattle.plain_rows.specs.declared.Token.{Token}
use Rattle.search_tables.specs.Tables.{follow_of, taking_of, last_of}
use Rattle.plain_rows.specs.Rows.{character_row, end_row, rows, rows_of, token_of, front_by}

-- tables that are not there
abbrev none : PlaceTables
none = record { follow = []; taking = []; last = 0 }

module _ {A : Type 0} (part : PlaceTables → A) (own : List PlaceTables) (d : List A) where
  abbrev parts : List A
  parts = map part own

  -- the fields below f have theirs, the rows from f on are those of d
  pub record Laid (now : List A) (f : ℕ) : Type 0 where
    pub all : length own ≡ fields
    pub at_most : f ≤ fields
    pub long : length d ≡ rows
    pub is : now ≡ take f parts ++ drop f d

  module _ (now : List A) (f : ℕ) (t : Laid now f) where
    pub laid_more : f < fields → Laid (set now f (part (get_or own f none))) (f + 1)
    laid_more h =
        let x = part (get_or own f none) in
        let many : f < length parts = omega (arith, t.all, length-map own part) in
        let there : get_or parts f (part none) ≡ x = get_or-map part own f none in
        record {
          all = t.all;
          at_most = omega arith;
          long = t.long;
          is =
              ap (λ (l : List A). set l f x) (t.is ∙ ap (λ (l : List A). take f parts ++ l) (drop-cons d f x (omega (arith, t.long))))
              ∙ set_at (take f parts) (get_or d f x) (drop (suc f) d) x f (length-take-le f parts (omega arith))
              ∙ rw (add-one f, take-suc parts f (part none) many, there) (sym (append_assoc (take f parts) (x ∷ []) (drop (suc f) d)));
        }

-- behind the fields' parts those of the hidden ones, of a character and of an end
pub laid_rows : {A : Type 0} (part : PlaceTables → A) (own : List PlaceTables) (hidden : PlaceTables)
    → map part own ++ (part hidden ∷ part hidden ∷ part one_place ∷ part no_tables ∷ []) ≡ map part (rows_of (own ++ (hidden ∷ hidden ∷ [])))
laid_rows part own hidden =
    sym (map_append part own (hidden ∷ hidden ∷ one_place ∷ no_tables ∷ []))
    ∙ ap (map part) (sym (append_assoc own (hidden ∷ hidden ∷ []) (one_place ∷ no_tables ∷ [])))

-- a number in a list, whatever it would be behind its end
pub get_or_either : {A : Type 0} (l : List A) (n : ℕ) (d e : A) → n < length l → get_or l n d ≡ get_or l n e
get_or_either [] n d e h = absurd (omega arith)
get_or_either (x ∷ l) zero d e h = refl
get_or_either (x ∷ l) (suc n) d e h = get_or_either l n d e (omega arith)

-- What the token with an inner code is.
module _ (n b : ℕ) where
  abbrev character : Token
  character = record { row = character_row; lo = b; hi = suc b }

  abbrev field : Token
  field = record { row = field_of b; lo = 0; hi = n }

  abbrev end : Token
  end = record { row = end_row; lo = 0; hi = n }

  pub token_character : is_char b ≡ true → token_of n b ≡ character
  unfolding token_of
  token_character h = rw h

  pub token_field : is_char b ≡ false → ltb (field_of b) set_fields ≡ true → token_of n b ≡ field
  unfolding token_of
  token_field h k = rw (h, k)

  pub token_end : is_char b ≡ false → ltb (field_of b) set_fields ≡ false → token_of n b ≡ end
  unfolding token_of
  token_end h k = rw (h, k)

  pub token_row : (token_of n b).row < rows
  token_row =
      by_bool (is_char b) (λ h. rw (token_character h) (omega arith))
      (λ h. by_bool (ltb (field_of b) set_fields)
      (λ k. rw (token_field h k) (omega (arith, ltb_true (field_of b) set_fields k)))
      (λ k. rw (token_end h k) (omega arith)))

-- A token by its rows.
module _ (each : List PlaceTables) (all : length each ≡ set_fields) where
  abbrev by_rows : Token → Front
  by_rows t = front_by (map follow_of (rows_of each)) (map taking_of (rows_of each)) (map last_of (rows_of each)) t

  -- the tables of a row
  row_at : (t : Token) (of : PlaceTables) → get_or (rows_of each) t.row none ≡ of → by_rows t ≡ record { of = of; lo = t.lo; hi = t.hi }
  row_at t of e =
      let l = rows_of each in
      (λ i.
      record {
        of =
            record {
              follow = get_or-map follow_of l t.row none i;
              taking = get_or-map taking_of l t.row none i;
              last = get_or-map last_of l t.row none i;
            };
        lo = t.lo;
        hi = t.hi;
      })
      ∙ ap (λ (x : PlaceTables). record { of = x; lo = t.lo; hi = t.hi }) e

  behind : (n : ℕ) → get_or (rows_of each) (set_fields + n) none ≡ get_or (one_place ∷ no_tables ∷ []) n none
  behind n = ap (λ (k : ℕ). get_or (rows_of each) (k + n) none) (sym all) ∙ get_or-append-add each (one_place ∷ no_tables ∷ []) n none

  pub token_front : (n b : ℕ) → by_rows (token_of n b) ≡ front_of n each b
  token_front n b =
      by_bool (is_char b) (λ h. rw (token_character n b h, h) (row_at (character n b) one_place (behind 0)))
      (λ h. by_bool (ltb (field_of b) set_fields)
      (λ k.
      let there : field_of b < length each = omega (arith, ltb_true (field_of b) set_fields k) in
      rw (token_field n b h k, h)
      (row_at (field n b) (get_or each (field_of b) no_tables)
      (get_or-append each (one_place ∷ no_tables ∷ []) none (field_of b) there ∙ get_or_either each (field_of b) none no_tables there)))
      (λ k.
      rw (token_end n b h k, h, get_or-eq_default each no_tables {n = field_of b} (omega (arith, ltb_false (field_of b) set_fields k)))
      (row_at (end n b) no_tables (behind 1))))
