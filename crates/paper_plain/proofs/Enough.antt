-- How many bits a plain question needs at most: of every good one enough_bytes have them.
--   bits_enough : GoodQuestion q → plain q.left q.right ≡ true → bits_of q ≤ 8 * enough_bytes
-- A side of 24 tokens with k fields, each of 63 leaves at most, has 63 k + 27 standings at most, the hidden field's two and the end's one among
-- them. Two plain sides have at most 8 fields together, and of the nine ways to share them four and four need most.
use Prim.Native.Nat.{ℕ, suc, ◌+◌, ◌*◌, ◌-◌, ◌≤◌}
use native.Mathlib.Omega.{arith}
use native.Mathlib.Nat.{mul-le-mul}
use mathlib.Core.Path.{◌≡◌, refl}
use mathlib.Core.Bool.{true}
use mathlib.Core.List.{List, [], ◌∷◌, ◌++◌, Memᴰ}
use lib.Dec.{eqb, leb}
use lib.ListN.{length}
use Rattle.paper.specs.Lists.{upto}
use Rattle.paper.specs.Numbers.{fields, hidden_left, hidden_right, most_leaves, sheet_side}
use Rattle.paper.specs.Pattern.{Held, some_text, pattern}
use Rattle.paper.specs.Equation.{chr, fld, Side, stands_in}
use Rattle.paper.specs.Plain.{each_once, plain}
use Rattle.paper.specs.Question.{Question, held_by, hidden}
use Rattle.paper.proofs.base.Tests.{true_false, left_true, right_true, leb_true, eq_eqb}
use Rattle.paper.proofs.base.Lists.{all_true, upto_mem, length_from, NoDup, none, more, pigeonhole}
use Rattle.paper_laws.proofs.plain.Tails.{once_rest, front_once}
use Rattle.paper_laws.proofs.sheets.Asked.{GoodHeld, GoodQuestion, fields_known}
use Rattle.paper_laws.proofs.sheets.Hidden.{hidden_searchable}
use Rattle.paper_plain.specs.Standing.{places_of, standings}
use Rattle.paper_plain.specs.Engine.{bits_of}
use Rattle.paper_plain.specs.EnginePromised.{enough_bytes}

-- the fields of a side, in their order
abbrev fields_of : Side → List ℕ
fields_of [] = []
fields_of (chr a ∷ side) = fields_of side
fields_of (fld f ∷ side) = f ∷ fields_of side

fields_stand : {f : ℕ} (side : Side) → Memᴰ f (fields_of side) → stands_in f side ≡ true
fields_stand (chr a ∷ side) d = fields_stand side d
fields_stand {f} (fld g ∷ side) (Memᴰ.head e) = left_true (eqb f g) (stands_in f side) (eq_eqb f g e)
fields_stand {f} (fld g ∷ side) (Memᴰ.tail d) = right_true (eqb f g) (stands_in f side) (fields_stand side d)
fields_stand {f = f} [] d = elim d [ ]

fields_differ : (side : Side) → each_once side ≡ true → NoDup (fields_of side)
fields_differ [] e = none
fields_differ (chr a ∷ side) e = fields_differ side e
fields_differ (fld f ∷ side) e =
    more (λ d. true_false (fields_stand side d) (front_once f side e)) (fields_differ side (once_rest (fld f) side e))

fields_in_both : (l r : Side) → length (fields_of (l ++ r)) ≡ length (fields_of l) + length (fields_of r)
fields_in_both [] r = omega arith
fields_in_both (chr a ∷ l) r = fields_in_both l r
fields_in_both (fld f ∷ l) r = omega (arith, fields_in_both l r)

good_places : (n : ℕ) (h : Held) → GoodHeld n h → places_of h ≤ suc most_leaves
good_places n some_text g = omega arith
good_places n (pattern p) g = omega (arith, g.1)

module _ (n : ℕ) (held : ℕ → Held) (good : (f : ℕ) → GoodHeld n (held f)) where
  standings_most : (side : Side) (f : ℕ) → places_of (held f) ≡ 2
      → standings held (side ++ (fld f ∷ [])) ≤ most_leaves * length (fields_of side) + length side + 3
  standings_most [] f e = omega (arith, e)
  standings_most (chr a ∷ side) f e = omega (arith, standings_most side f e)
  standings_most (fld g ∷ side) f e = omega (arith, standings_most side f e, good_places n (held g) (good g))

-- the most standings of a side with k fields
abbrev most_standings : ℕ → ℕ
most_standings k = most_leaves * k + (sheet_side + 3)

abbrev shared : ℕ → ℕ
shared k = most_standings k * most_standings (fields - k)

-- each of the nine ways to share the fields
every_share : (k : ℕ) → k ≤ fields → shared k ≤ 8 * enough_bytes
every_share k h =
    leb_true (shared k) (8 * enough_bytes)
    (all_true (λ (i : ℕ). leb (shared i) (8 * enough_bytes)) {x = k} (upto (suc fields)) refl (upto_mem (suc fields) (omega arith)))

module _ (q : Question) (g : GoodQuestion q) where
  few_fields : plain q.left q.right ≡ true → length (fields_of q.left) + length (fields_of q.right) ≤ fields
  few_fields once =
      let h : length (fields_of (q.left ++ q.right)) ≤ length (upto fields) =
      pigeonhole (upto fields) (fields_differ (q.left ++ q.right) once)
      (λ f d. upto_mem fields (fields_known q g f (fields_stand (q.left ++ q.right) d))) in
      omega (arith, h, length_from 0 fields, fields_in_both q.left q.right)

  pub bits_enough : plain q.left q.right ≡ true → bits_of q ≤ 8 * enough_bytes
  unfolding bits_of
  bits_enough once =
      let good = (hidden_searchable q g).held in
      let a = length (fields_of q.left) in
      let b = length (fields_of q.right) in
      let few : a + b ≤ fields = few_fields once in
      let l : standings (held_by (hidden q)) (hidden q).left ≤ most_standings a =
      omega (arith, standings_most q.alphabet.characters (held_by (hidden q)) good q.left hidden_left refl, g.left.short) in
      let r : standings (held_by (hidden q)) (hidden q).right ≤ most_standings (fields - a) =
      omega (arith, standings_most q.alphabet.characters (held_by (hidden q)) good q.right hidden_right refl, g.right.short) in
      let product = mul-le-mul l r in
      omega (arith, product, every_share a (omega arith))
