-- The children as the code offers them: of a situation s that stands for k, with what is worked out of the fronts. Follows from the
-- definition of the children.
use Prim.Native.Nat.{ℕ}
use mathlib.Core.Path.{◌≡◌, refl, sym, ap, ◌∙◌}
use mathlib.Core.List.{List, [], ◌∷◌, ◌++◌}
use lib.ListN.{get_or}
use Rattle.base_codes.specs.Inner.{left_struck, right_struck, front, padded}
use Rattle.search_fronts.specs.Fronts.{Front, front_from}
use Rattle.base_codes.specs.Coded.{Coded, denoted, as_struct, Short}
use Rattle.search_children.specs.Children.{Tables, left_strike, right_strike, as_child, puts_of, children_coded}
use Rattle.base_codes.specs.declared.Situation.{Situation}
use Rattle.search_run.specs.Run.{Running, offer_slots}
use Rattle.base_codes.proofs.Denoted.{denoted_laid}
use Rattle.search_run.proofs.search.Offers.{offers_append}

-- the first byte of a side is the token in front
front_padded : (side : List ℕ) → get_or (padded side) 0 0 ≡ front side
front_padded [] = refl
front_padded (b ∷ side) = refl

module _ {k : Coded} (h : Short k) {s : Situation} (e : s ≡ as_struct k) where
  -- what the struct holds
  pub denoted_is : denoted s ≡ k
  denoted_is = ap denoted e ∙ denoted_laid k h

  pub children_offered : (T : Tables) (room p : ℕ) (R : Running) (l r : Front)
      → l ≡ front_from T.follow T.taking s.sets (get_or s.left 0 0)
      → r ≡ front_from T.follow T.taking s.sets (get_or s.right 0 0)
      → offer_slots room p (offer_slots room p (offer_slots room p R (as_child left_struck (left_strike T.last k)))
      (as_child right_struck (right_strike T.last k))) (puts_of T.characters k l r)
      ≡ offer_slots room p R (children_coded T k)
  unfolding children_coded
  children_offered T room p R l r el er =
      let worked : ℕ → Front = λ t. front_from T.follow T.taking k.sets t in
      let one = as_child left_struck (left_strike T.last k) in
      let two = as_child right_struck (right_strike T.last k) in
      let three = puts_of T.characters k (worked (front k.left)) (worked (front k.right)) in
      let el' : l ≡ worked (front k.left) = el ∙ (λ i. front_from T.follow T.taking (e i).sets (get_or (e i).left 0 0)) ∙ ap worked (front_padded k.left) in
      let er' : r ≡ worked (front k.right) = er ∙ (λ i. front_from T.follow T.taking (e i).sets (get_or (e i).right 0 0)) ∙ ap worked (front_padded k.right) in
      (λ i. offer_slots room p (offer_slots room p (offer_slots room p R one) two) (puts_of T.characters k (el' i) (er' i)))
      ∙ sym (offers_append room p R one (two ++ three) ∙ offers_append room p (offer_slots room p R one) two three)
