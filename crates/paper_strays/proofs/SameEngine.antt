-- What a field that doesn't stand may hold changes no answer of the small engine (request K13).
--   engine_same, needs_same : of a good question, if each field that stands may hold the same
-- Its bits count places of standing fields; and it says whether both sides spell one label, each standing apart, which is by the standing fields alone.
use Prim.Native.Nat.{ℕ, ◌+◌, ◌*◌}
use mathlib.Core.Path.{◌≡◌, refl, sym, ap, ap₂, ◌∙◌, subst}
use mathlib.Core.Bool.{Bool, true, false, not}
use mathlib.Core.List.{List, [], ◌∷◌, ◌++◌}
use lib.Dec.{eqb}
use lib.ListN.{get_or}
use Rattle.paper.specs.Pattern.{Held, some_text, Holds}
use Rattle.paper.specs.Equation.{chr, fld, Side, is_field, stands_in}
use Rattle.paper.specs.Question.{Question, held_by, hidden}
use Rattle.paper.specs.Sheet.{asked}
use Rattle.paper_plain.specs.Apart.{Spells, nothing, character, field, SpellAlike}
use Rattle.paper_plain.specs.Standing.{places_of, standings}
use Rattle.paper_plain.specs.Engine.{bits_of, clashes_apart, engine_of, needs_of}
use Rattle.paper.proofs.base.Tests.{left_true, right_true, eqb_same}
use Rattle.paper.proofs.base.Lists.{any_append}
use Rattle.paper_laws.proofs.sheets.Asked.{GoodQuestion}
use Rattle.paper_laws.proofs.sheets.SameAnswers.{hidden_agree}
use Rattle.paper_laws.proofs.equations.SameHeld.{with_held}
use Rattle.paper_plain.proofs.Solved.{apart_alike, alike_apart}

-- by what the fields of a side may hold
module _ (a b : ℕ → Held) where
  abbrev Alike : Side → Type 0
  Alike side = (f : ℕ) → stands_in f side ≡ true → a f ≡ b f

  behind : (t : ℕ) (side : Side) → Alike (fld t ∷ side) → Alike side
  behind t side h f e = h f (right_true (eqb f t) (stands_in f side) e)

  front : (t : ℕ) (side : Side) → Alike (fld t ∷ side) → a t ≡ b t
  front t side h = h t (left_true (eqb t t) (stands_in t side) (eqb_same t))

  counted_same : (side : Side) → Alike side → standings a side ≡ standings b side
  counted_same [] h = refl
  counted_same (chr c ∷ side) h = ap (λ (n : ℕ). 1 + n) (counted_same side h)
  counted_same (fld t ∷ side) h =
      ap₂ ◌+◌ (ap places_of (front t side h)) (counted_same side (behind t side h))

  spells_same : (side : Side) → Alike side → (w : List ℕ) → Spells a side w → Spells b side w
  spells_same [] h w nothing = nothing
  spells_same (chr c ∷ side) h w (character s) = character (spells_same side h _ s)
  spells_same (fld t ∷ side) h w (field u v e holds s) =
      field u v e (subst (λ (x : Held). Holds x u) (front t side h) holds) (spells_same side (behind t side h) v s)

  in_left : (l r : Side) → Alike (l ++ r) → Alike l
  in_left l r h f e = h f (any_append (is_field f) l r ∙ left_true (stands_in f l) (stands_in f r) e)

  in_right : (l r : Side) → Alike (l ++ r) → Alike r
  in_right l r h f e = h f (any_append (is_field f) l r ∙ right_true (stands_in f l) (stands_in f r) e)

  alike_same : (n : ℕ) (l r : Side) → Alike (l ++ r) → SpellAlike a n l r → SpellAlike b n l r
  alike_same n l r h x =
      let left = in_left l r h in
      let right = in_right l r h in
      record { spelt = x.spelt; over = x.over; left = spells_same l left x.spelt x.left; right = spells_same r right x.spelt x.right }

-- one of two tests follows from the other, and back
both_ways : (s t : Bool) → (s ≡ true → t ≡ true) → (t ≡ true → s ≡ true) → s ≡ t
both_ways true t h k = sym (h refl)
both_ways false true h k = k refl
both_ways false false h k = refl

module _ (q : Question) (g : GoodQuestion q) (held : List Held)
    (agree : (f : ℕ) → stands_in f (q.left ++ q.right) ≡ true → held_by q f ≡ get_or held f some_text) where
  abbrev other : Question
  other = with_held q held

  abbrev l : Side
  l = (hidden q).left

  abbrev r : Side
  r = (hidden q).right

  its_agree : Alike (held_by (hidden q)) (held_by (hidden other)) (l ++ r)
  its_agree = hidden_agree q g held agree

  back_agree : Alike (held_by (hidden other)) (held_by (hidden q)) (l ++ r)
  back_agree f e = sym (its_agree f e)

  pub bits_same : bits_of other ≡ bits_of q
  unfolding bits_of
  bits_same =
      let a = held_by (hidden other) in
      let b = held_by (hidden q) in
      ap₂ ◌*◌ (counted_same a b l (in_left a b l r back_agree)) (counted_same a b r (in_right a b l r back_agree))

  pub clashes_same : clashes_apart other ≡ clashes_apart q
  clashes_same =
      both_ways (clashes_apart other) (clashes_apart q)
      (λ e. alike_apart q (alike_same (held_by (hidden other)) (held_by (hidden q)) q.alphabet.characters l r back_agree (apart_alike other e)))
      (λ e. alike_apart other (alike_same (held_by (hidden q)) (held_by (hidden other)) q.alphabet.characters l r its_agree (apart_alike q e)))

  pub engine_same : (bits : List ℕ) → engine_of (asked other) bits ≡ engine_of (asked q) bits
  engine_same bits = rw (bits_same, clashes_same)

  pub needs_same : needs_of (asked other) ≡ needs_of (asked q)
  needs_same = rw bits_same
