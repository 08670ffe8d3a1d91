-- The test of situations is equality, where the acceptor's test of sets is. Follows from the same law of lists.
use mathlib.Core.Path.{◌≡◌, refl, ap}
use mathlib.Core.Bool.{true, ◌&&◌}
use Rattle.paper.specs.Lists.{same_by}
use Rattle.paper.proofs.base.Tests.{and_left, and_right, both_true, true_false, eqb_true, eqb_same}
use Rattle.paper.proofs.base.Lists.{same_by_equal, same_by_same}
use Rattle.paper.specs.Equation.{Token, chr, fld}
use Rattle.paper.specs.Situation.{Acceptor, Situation, same_token, same_situation}

pub token_equal : (x y : Token) → same_token x y ≡ true → x ≡ y
token_equal (chr a) (chr b) e = ap chr (eqb_true a b e)
token_equal (chr a) (fld g) e = absurd (true_false e refl)
token_equal (fld f) (chr b) e = absurd (true_false e refl)
token_equal (fld f) (fld g) e = ap fld (eqb_true f g e)

pub token_same : (x : Token) → same_token x x ≡ true
token_same (chr a) = eqb_same a
token_same (fld f) = eqb_same f

module _ {P : Type 0} (A : Acceptor P) where
  pub situation_equal : ((p q : P) → A.same_set p q ≡ true → p ≡ q) → (s t : Situation P) → same_situation A s t ≡ true → s ≡ t
  situation_equal h s t e =
      let l = same_by same_token s.left t.left in
      let r = same_by same_token s.right t.right in
      let p = same_by A.same_set s.sets t.sets in
      let rest : r && p ≡ true = and_right l (r && p) e in
      λ i.
      record {
        left = same_by_equal same_token token_equal s.left t.left (and_left l (r && p) e) i;
        right = same_by_equal same_token token_equal s.right t.right (and_left r p rest) i;
        sets = same_by_equal A.same_set h s.sets t.sets (and_right r p rest) i;
      }

  pub situation_same : ((p : P) → A.same_set p p ≡ true) → (s : Situation P) → same_situation A s s ≡ true
  situation_same h s =
      both_true (same_by_same same_token token_same s.left)
      (both_true (same_by_same same_token token_same s.right) (same_by_same A.same_set h s.sets))
