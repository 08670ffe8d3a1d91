-- A pattern's codes, from the last to the first, and the stack in the array.
--   Walked      : the codes from i on are done, and what they make stands from `top` on
--   walked_none : none is done;  walked_more : one more;  walked_room : there is room for it;  walked_all : what all make
-- Follows from the laws of `drop` and `set`, and from what has room (`Sizes`).
use Prim.Native.Nat.{ℕ, zero, suc, ◌+◌, ◌-◌, ◌≤◌, ◌<◌}
use native.Mathlib.Nat.{add-zero}
use native.Mathlib.Omega.{arith}
use mathlib.Core.Path.{◌≡◌, refl, sym, ap, ◌∙◌}
use mathlib.Core.Bool.{Bool, true, false}
use mathlib.Core.List.{List, [], ◌∷◌, map}
use lib.Dec.{leb, eqb}
use lib.ListN.{length, get_or, set, drop, length-drop, length-set, length-map, drop_of_length-le, get_or-map}
use lib.Seq.{drop-cons, drop-drop, drop-set-lt, get_or-drop, get_or-set_same}
use Rattle.paper.specs.Numbers.{range_code, then_code, or_code, many_code, pattern_bytes}
use Rattle.paper.proofs.base.Lists.{cons_eq}
use Rattle.paper.proofs.base.Tests.{by_bool, cond_by, leb_true, leb_false}
use Rattle.paper_decide.specs.Letters.{Weights}
use Rattle.decide_letters.specs.PatternStack.{weightless, uses, made, stack_of, packed, unpacked}
use Rattle.decide_letters.specs.LettersCoded.{Least}
use Rattle.decide_letters.proofs.Packing.{packed_again}
use Rattle.decide_letters.proofs.Sizes.{stack_depth, stack_small}

map_drop : (n : ℕ) (s : List Weights) → drop n (map packed s) ≡ map packed (drop n s)
map_drop zero s = refl
map_drop (suc n) [] = refl
map_drop (suc n) (w ∷ s) = map_drop n s

-- what was put on is on top, and all that is behind it stays
put_on_top : (l : List ℕ) (r w : ℕ) → r < length l → drop r (set l r w) ≡ w ∷ drop (suc r) l
put_on_top l r w h =
    drop-cons (set l r w) r 0 (omega (arith, length-set l r w))
    ∙ cons_eq (get_or-set_same l r w 0 h) (drop-set-lt (suc r) l r w (omega arith))

pub uses_le : (b : ℕ) → uses b ≤ 2
uses_le b =
    cond_by (λ (n : ℕ). n ≤ 2) (eqb b then_code) (λ _. omega arith)
    (λ _. cond_by (λ (n : ℕ). n ≤ 2) (eqb b or_code) (λ _. omega arith)
    (λ _. cond_by (λ (n : ℕ). n ≤ 2) (eqb b range_code) (λ _. omega arith)
    (λ _. cond_by (λ (n : ℕ). n ≤ 2) (eqb b many_code) (λ _. omega arith) (λ _. omega arith))))

module _ (counts : ℕ → Bool) (cs : List ℕ) where
  pub record Walked (stack : List ℕ) (top lo hi i : ℕ) : Type 0 where
    pub within : i ≤ length cs
    pub room : top ≤ pattern_bytes
    pub long : length stack ≡ pattern_bytes
    pub lo_is : lo ≡ get_or (drop i cs) 0 0
    pub hi_is : hi ≡ get_or (drop i cs) 1 0
    pub stands : drop top stack ≡ map packed (stack_of counts (drop i cs))

  pub walked_none : (stack : List ℕ) (i : ℕ) → length stack ≡ pattern_bytes → i ≡ length cs → Walked stack pattern_bytes 0 0 i
  walked_none stack i l e =
      let none : drop i cs ≡ [] = drop_of_length-le cs {i = i} (omega arith) in
      record {
        within = omega arith;
        room = omega arith;
        long = l;
        lo_is = rw none;
        hi_is = rw none;
        stands = rw (none, drop_of_length-le stack {i = pattern_bytes} (omega arith));
      }

  module _ (short : length cs ≤ pattern_bytes) (stack : List ℕ) (top lo hi i : ℕ) (x : Walked stack top lo hi i) where
    abbrev its : List Weights
    its = stack_of counts (drop i cs)

    -- what stands on the stack, as a number and as what it means
    at_number : (k : ℕ) → get_or stack (top + k) 0 ≡ packed (get_or its k weightless)
    unfolding packed
    at_number k =
        sym (get_or-drop top stack k 0) ∙ ap (λ (l : List ℕ). get_or l k 0) x.stands ∙ get_or-map packed its k weightless

    at_weights : (k : ℕ) → unpacked (get_or stack (top + k) 0) ≡ get_or its k weightless
    at_weights k =
        ap unpacked (at_number k)
        ∙ packed_again (get_or its k weightless) (stack_small counts (drop i cs) (omega (arith, length-drop i cs)) k)

    pub walked_room : 0 < i → 0 < top
    walked_room h =
        omega (arith, length-drop top stack, ap length x.stands, length-map its packed, stack_depth counts (drop i cs), length-drop i cs, x.long, x.within)

    -- what is behind those that a code uses
    behind_used : (n r : ℕ) → Least (top + n) pattern_bytes (r + 1) → drop (suc r) stack ≡ map packed (drop n its)
    behind_used n r h =
        same ∙ sym (drop-drop n top stack) ∙ ap (drop n) x.stands ∙ map_drop n its
      where
        same : drop (suc r) stack ≡ drop (top + n) stack
        same =
            by_bool (leb (top + n) pattern_bytes)
            (λ (f : leb (top + n) pattern_bytes ≡ true).
            let g = leb_true (top + n) pattern_bytes f in
            ap (λ (m : ℕ). drop m stack) (let z : suc r ≡ top + n = omega arith in z))
            (λ (f : leb (top + n) pattern_bytes ≡ false).
            let g = leb_false (top + n) pattern_bytes f in
            drop_of_length-le stack {i = suc r} (omega (arith, x.long)) ∙ sym (drop_of_length-le stack {i = top + n} (omega (arith, x.long))))

    pub walked_more : (c w r d : ℕ) → 0 < i → c ≡ get_or cs (i - 1) d
        → w ≡ packed (made counts c lo hi (unpacked (get_or stack top 0)) (unpacked (get_or stack (top + 1) 0)))
        → Least (top + uses c) pattern_bytes (r + 1) → Walked (set stack r w) r c lo (i - 1)
    walked_more c w r d h is_c is-w least =
        let there : drop (i - 1) cs ≡ c ∷ drop i cs =
        drop-cons cs (i - 1) d (omega (arith, x.within)) ∙ cons_eq (sym is_c) (ap (λ (m : ℕ). drop m cs) (let z : suc (i - 1) ≡ i = omega arith in z)) in
        let first = ap unpacked (ap (λ (m : ℕ). get_or stack m 0) (sym (add-zero top))) ∙ at_weights 0 in
        let made-it : w ≡ packed (made counts c (get_or (drop i cs) 0 0) (get_or (drop i cs) 1 0) (get_or its 0 weightless) (get_or its 1 weightless)) =
        is-w ∙ (λ j. packed (made counts c (x.lo_is j) (x.hi_is j) (first j) (at_weights 1 j))) in
        record {
          within = omega (arith, x.within);
          room = omega arith;
          long = length-set stack r w ∙ x.long;
          lo_is = rw there;
          hi_is = rw there x.lo_is;
          stands =
              put_on_top stack r w (omega (arith, x.long)) ∙ cons_eq made-it (behind_used (uses c) r least)
              ∙ ap (λ (l : List ℕ). map packed (stack_of counts l)) (sym there);
        }

    pub walked_all : i ≡ 0 → get_or stack top 0 ≡ packed (get_or (stack_of counts cs) 0 weightless)
    walked_all none =
        ap (λ (m : ℕ). get_or stack m 0) (sym (add-zero top)) ∙ at_number 0
        ∙ ap (λ (m : ℕ). packed (get_or (stack_of counts (drop m cs)) 0 weightless)) none
