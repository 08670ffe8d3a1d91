-- What is made of the struct of a good question is the question in which each field that stands twice holds one text:
--   texts_read : texts_coded s asked ≡ question_of (with_texts asked q) bodies
-- and the patterns stand where they stood. Follows from `text_read`, field by field, and from how often each
-- field stands.
use Prim.Native.Nat.{ℕ, ◌+◌, ◌<◌}
use native.Mathlib.Omega.{arith}
use mathlib.Core.Path.{◌≡◌, refl, sym, ap, ap₂, ◌∙◌}
use mathlib.Core.Bool.{Bool, true, false, cond}
use mathlib.Core.List.Memᴰ
use mathlib.Core.List.{List, [], ◌∷◌, ◌++◌, map, Memᴰ}
use mathlib.Core.Logic.{⊎_elim}
use lib.Dec.{ltb}
use lib.ListN.{length, get_or}
use Rattle.paper.specs.Lists.{upto, only, keep}
use Rattle.paper.specs.Numbers.{most_characters, fields}
use Rattle.paper.specs.Pattern.{Held, some_text, pattern}
use Rattle.paper.specs.Equation.{Token, Side, is_field}
use Rattle.paper.specs.Question.{Question, held_by}
use Rattle.paper.proofs.base.Tests.{le_leb}
use Rattle.paper.proofs.base.Lists.{cons_eq, map_append, mem_upto}
use Rattle.paper.proofs.base.Listed.{get_or_map_upto}
use Rattle.paper_laws.proofs.sheets.Asked.{GoodHeld, GoodQuestion, good_most}
use Rattle.paper_laws.proofs.sheets.Hidden.{in_range_has_set}
use Rattle.paper_decide.specs.Letters.{one_if, times}
use Rattle.paper_decide.specs.OneText.{text_held, with_texts}
use Rattle.base_places.specs.Masks.{within}
use Rattle.base_places.specs.WorkedOut.{worked_out}
use Rattle.base_places.specs.declared.PlaceTables.{PlaceTables}
use Rattle.base_places.proofs.Masks.{Few}
use Rattle.base_codes.specs.Inner.{token_code, side_code, padded}
use Rattle.base_question.specs.Asked.{question_of}
use Rattle.base_question.specs.Standings as Standings
use Rattle.base_question.specs.declared.Body.{Body}
use Rattle.base_question.specs.declared.Question as Code
use Rattle.base_question.proofs.HowOften.{standings_are}
use Rattle.base_question.proofs.SidesBack.{side_back}
use Rattle.decide_texts.specs.TextsCoded.{no_tables, tables_at, text_tables, tables_then, texts_coded}
use Rattle.decide_texts.proofs.FieldsChanged.{with_fields}
use Rattle.decide_texts.proofs.TextRead.{through, text_read}

few_leaves : (n : ℕ) (h : Held) → GoodHeld n h → Few h
few_leaves n some_text g = g
few_leaves n (pattern p) g = g.1

map_same : (h k : ℕ → PlaceTables) (l : List ℕ) → ((f : ℕ) → Memᴰ f l → h f ≡ k f) → map h l ≡ map k l
map_same h k [] e = refl
map_same h k (f ∷ l) e = cons_eq (e f (Memᴰ.head refl)) (map_same h k l (λ g d. e g (Memᴰ.tail d)))

-- how often a field stands, counted either way
one_counted : (b : Bool) (t : Token) (side : Side) → length (only b t ++ side) ≡ one_if b + length side
one_counted true t side = omega arith
one_counted false t side = omega arith

times_same : (f : ℕ) (side : Side) → Standings.times f side ≡ times f side
times_same f [] = refl
times_same f (t ∷ side) = one_counted (is_field f t) t (keep (is_field f) side) ∙ ap (λ (m : ℕ). one_if (is_field f t) + m) (times_same f side)

module _ (q : Question) (g : GoodQuestion q) (bodies : List Body) (asked : ℕ) where
  abbrev many : ℕ
  many = q.alphabet.characters

  abbrev sides : Side
  sides = q.left ++ q.right

  standings_read : (f : ℕ) → f < fields → get_or (Standings.standing_times (padded (side_code q.left)) (padded (side_code q.right))) f 0 ≡ times f sides
  standings_read f k =
      standings_are sides
      (λ t d.
      ⊎_elim (λ (j : Memᴰ t q.left). in_range_has_set many (good_most g) t (g.left.tokens t j))
      (λ (j : Memᴰ t q.right). in_range_has_set many (good_most g) t (g.right.tokens t j)) (Memᴰ.append_cases q.left d))
      (padded (side_code q.left)) (padded (side_code q.right))
      (ap₂ ◌++◌ (side_back many (good_most g) q.left g.left) (side_back many (good_most g) q.right g.right)
      ∙ sym (map_append token_code q.left q.right))
      f (omega arith)
      ∙ times_same f sides

  its_text : (f : ℕ) → worked_out (text_held (upto many) asked (held_by q f)) ≡ text_tables (within many) asked (worked_out (held_by q f))
  unfolding within
  its_text f =
      rw (le_leb many most_characters (good_most g)) (text_read (held_by q f) (few_leaves many (held_by q f) (g.held.good f)) many (good_most g) asked)

  -- what the field f holds then
  field_then : (f : ℕ) → f < fields → tables_then (question_of q bodies) asked f ≡ worked_out (held_by (with_texts asked q) f)
  unfolding with_texts
  field_then f k =
      let its : tables_at (question_of q bodies) f ≡ worked_out (held_by q f) = get_or_map_upto (λ (f : ℕ). worked_out (held_by q f)) no_tables fields f k in
      let twice = ltb 1 (times f sides) in
      let one = text_held (upto many) asked (held_by q f) in
      rw (standings_read f k, its, sym (its_text f))
      (sym (through twice one (held_by q f))
      ∙ ap worked_out
      (sym (get_or_map_upto (λ (f : ℕ). cond (ltb 1 (times f sides)) (text_held (upto many) asked (held_by q f)) (held_by q f)) some_text fields f k)))

  pub texts_read : (s : Code.Question) → s ≡ question_of q bodies → texts_coded s asked ≡ question_of (with_texts asked q) bodies
  unfolding texts_coded with_texts
  texts_read s is =
      let others = with_texts asked q in
      ap (λ (x : Code.Question). texts_coded x asked) is
      ∙ ap (with_fields (question_of q bodies))
      (map_same (tables_then (question_of q bodies) asked) (λ (f : ℕ). worked_out (held_by others f)) (upto fields)
      (λ f d. field_then f (mem_upto fields d)))
