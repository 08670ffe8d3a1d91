-- `bits_of` tells of a good question of the paper how many bits it has.
--   bits_told : bits_coded (question_of q bodies) ≡ bits_of q
-- Follows by induction on a side, from how many places a field has (`places_told`): the hidden field has one leaf and the start.
use Prim.Native.Nat.{ℕ, ◌+◌, ◌-◌, ◌*◌, ◌≤◌, ◌<◌}
use native.Mathlib.Omega.{arith}
use mathlib.Core.Path.{◌≡◌, refl, sym, ap, ap₂, ◌∙◌}
use mathlib.Core.List.{List, [], ◌∷◌, ◌++◌, map, Memᴰ}
use lib.ListN.{get_or, length-map, get_or-append}
use Rattle.paper.specs.Lists.{upto}
use Rattle.paper.specs.Numbers.{most_characters, fields, hidden_left, hidden_right}
use Rattle.paper.specs.Pattern.{Held, some_text}
use Rattle.paper.specs.Equation.{Token, chr, fld, Side}
use Rattle.paper.specs.Question.{Question, held_by, any_spaces, hidden}
use Rattle.paper.proofs.base.Tests.{le_leb, lt_ltb, le_ltb}
use Rattle.paper.proofs.base.Lists.{length_from}
use Rattle.paper.proofs.base.Listed.{get_or_map_upto}
use Rattle.paper_laws.proofs.sheets.Asked.{InRange, GoodQuestion, good_most, good_space}
use Rattle.paper_plain.specs.Standing.{places_of, standings}
use Rattle.paper_plain.specs.Engine.{bits_of}
use Rattle.base_places.specs.Masks.{within}
use Rattle.base_places.specs.WorkedOut.{worked_out}
use Rattle.base_places.specs.declared.PlaceTables.{PlaceTables}
use Rattle.base_codes.specs.Inner.{field_code, token_code, side_code}
use Rattle.base_question.specs.Asked.{field_tables, question_of}
use Rattle.base_question.specs.declared.Body.{Body}
use Rattle.base_question.proofs.SidesBack.{side_back}
use Rattle.plain_count.specs.StandingsCoded.{no_tables, places_by, all_places, token_adds, standings_coded, bits_coded}
use Rattle.plain_count.proofs.PlacesTold.{places_told}

-- a side with its hidden field, by how many places the fields have
module _ (n : ℕ) (most : n ≤ most_characters) (held : ℕ → Held) (places : List ℕ) (known : (f : ℕ) → f < fields → get_or places f 0 ≡ places_of (held f)) where
  token_told : (t : Token) (side : Side) → InRange n t → standings held (t ∷ side) ≡ token_adds places (token_code t) + standings held side
  token_told (chr c) side h = rw (lt_ltb c field_code (omega arith))
  token_told (fld f) side h =
      let code : token_code (fld f) - field_code ≡ f = omega arith in
      rw (le_ltb (token_code (fld f)) field_code (omega arith), code, known f h)

  side_told : (g : ℕ) (side : Side) → places_of (held g) ≡ 2 → ((t : Token) → Memᴰ t side → InRange n t)
      → standings held (side ++ (fld g ∷ [])) ≡ standings_coded places (side_code side)
  side_told g [] two h = omega (arith, two)
  side_told g (t ∷ side) two h =
      token_told t (side ++ (fld g ∷ [])) (h t (Memᴰ.head refl))
      ∙ ap (λ (k : ℕ). token_adds places (token_code t) + k) (side_told g side two (λ u d. h u (Memᴰ.tail d)))

-- as many characters as a table has room for
within_all : (n : ℕ) → n ≤ most_characters → within n ≡ n
unfolding within
within_all n h = rw (le_leb n most_characters h)

module _ (q : Question) (good : GoodQuestion q) where
  abbrev characters : ℕ
  characters = q.alphabet.characters

  some : 0 < characters
  some = omega (arith, good_space good)

  abbrev own : List Held
  own = map (held_by q) (upto fields)

  -- what a field of the sheet may hold
  held_own : (f : ℕ) → f < fields → held_by (hidden q) f ≡ held_by q f
  held_own f h =
      get_or-append own (any_spaces q.alphabet.space ∷ any_spaces q.alphabet.space ∷ []) some_text f
      (omega (arith, length-map (upto fields) (held_by q), length_from 0 fields))
      ∙ get_or_map_upto (held_by q) some_text fields f h

  counted : (f : ℕ) → f < fields → get_or (all_places characters (field_tables q)) f 0 ≡ places_of (held_by (hidden q) f)
  unfolding all_places
  counted f h =
      get_or_map_upto (λ (g : ℕ). places_by characters (get_or (field_tables q) g no_tables).taking) 0 fields f h
      ∙ ap (λ (t : PlaceTables). places_by characters t.taking) (get_or_map_upto (λ (g : ℕ). worked_out (held_by q g)) no_tables fields f h)
      ∙ places_told characters (good_most good) some (held_by q f) (good.held.good f)
      ∙ ap places_of (sym (held_own f h))

  pub bits_told : (bodies : List Body) → bits_coded (question_of q bodies) ≡ bits_of q
  unfolding bits_coded bits_of
  bits_told bodies =
      let its-places = all_places characters (field_tables q) in
      let told = side_told characters (good_most good) (held_by (hidden q)) its-places counted in
      rw (within_all characters (good_most good))
      (ap₂ ◌*◌
      (ap (standings_coded its-places) (side_back characters (good_most good) q.left good.left) ∙ sym (told hidden_left q.left refl good.left.tokens))
      (ap (standings_coded its-places) (side_back characters (good_most good) q.right good.right) ∙ sym (told hidden_right q.right refl good.right.tokens)))
