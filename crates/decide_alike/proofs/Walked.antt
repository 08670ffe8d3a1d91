-- The choice for every place is that for the leaves alone:
--   walked_all : chosen_in q h l (upto places) ≡ chosen_in q h l (leaves_of h), of what a field of a question may hold that has some character
-- A place that is no leaf takes nothing, so nothing is chosen for it. Of an open field every place takes every character: one choice is made, by
-- which all of them take one that is chosen.
use Prim.Native.Nat.{ℕ, zero, suc, ◌+◌, ◌-◌, ◌≤◌, ◌<◌}
use native.Mathlib.Omega.{arith}
use mathlib.Core.Path.{◌≡◌, refl, sym, ap, ◌∙◌}
use mathlib.Core.Bool.{false, not, ◌&&◌}
use mathlib.Core.List.{List, [], ◌∷◌, ◌++◌, append-nil, Memᴰ}
use lib.ListN.{take}
use Rattle.paper.specs.Lists.{from, upto, keep}
use Rattle.paper.specs.Numbers.{most_leaves}
use Rattle.paper.specs.Pattern.{Pattern, Held, some_text, pattern}
use Rattle.paper.specs.Places.{leaves, leaf_takes, leaf_places}
use Rattle.paper.specs.Question.{Question}
use Rattle.paper.proofs.base.Tests.{not_true, left_false}
use Rattle.paper.proofs.base.Lists.{cons_eq, none_any, mem_from}
use Rattle.paper.proofs.base.Listed.{keep_none}
use Rattle.paper_laws.proofs.places.Parts.{Within, takes_within}
use Rattle.paper_laws.proofs.sheets.Asked.{GoodHeld}
use Rattle.paper_decide.specs.Alike.{leaves_of, leaf_takes_it, fixed, is_least, least_ones}
use Rattle.paper_decide.specs.Few.{leaf_choice, chosen_for, chosen_in}
use Rattle.base_places.specs.Masks.{places}

module _ (q : Question) where
  -- some places and then others
  pub chosen_in_append : (h : Held) (l k m : List ℕ) → chosen_in q h l (k ++ m) ≡ chosen_in q h (chosen_in q h l k) m
  chosen_in_append h l [] m = refl
  chosen_in_append h l (i ∷ k) m = chosen_in_append h (chosen_for q h l i) k m

  -- a place that takes nothing
  idle : (h : Held) (l : List ℕ) (i : ℕ) → ((c : ℕ) → leaf_takes_it h i c ≡ false) → chosen_for q h l i ≡ l
  unfolding chosen_for leaf_choice
  idle h l i n =
      rw (
        none_any (leaf_takes_it h i) l (λ c d. n c),
        keep_none (λ (c : ℕ). leaf_takes_it h i c && not (fixed q c)) (least_ones q) (λ c. left_false (leaf_takes_it h i c) (not (fixed q c)) (n c)),
        keep_none (leaf_takes_it h i) (least_ones q) n,
      )
      (append-nil l)

  all_idle : (h : Held) (l k : List ℕ) → ((i : ℕ) → Memᴰ i k → (c : ℕ) → leaf_takes_it h i c ≡ false) → chosen_in q h l k ≡ l
  all_idle h l [] n = refl
  all_idle h l (i ∷ k) n =
      ap (λ (m : List ℕ). chosen_in q h m k) (idle h l i (n i (Memᴰ.head refl))) ∙ all_idle h l k (λ j d. n j (Memᴰ.tail d))

  from_parts : (a k m : ℕ) → from a (k + m) ≡ from a k ++ from (a + k) m
  from_parts a zero m = let e : 0 + m ≡ m = omega arith in let k : a + 0 ≡ a = omega arith in rw (e, k)
  from_parts a (suc k) m =
      let e : suc k + m ≡ suc (k + m) = omega arith in
      let i : suc a + k ≡ a + suc k = omega arith in
      ap (from a) e ∙ cons_eq refl (from_parts (suc a) k m ∙ ap (λ (b : ℕ). from (suc a) k ++ from b m) i)

  -- the leaves of a pattern, and the places before and behind them
  module _ (p : Pattern) (l : List ℕ) (n : ℕ) (few : leaves p ≤ n) where
    outside : (i : ℕ) → (Within 1 (leaves p) i → ⊥) → (c : ℕ) → leaf_takes p 1 i c ≡ false
    outside i w c = not_true (leaf_takes p 1 i c) (λ e. w (takes_within p 1 i c e))

    parted : from 1 n ≡ leaf_places p ++ from (1 + leaves p) (n - leaves p)
    parted =
        let e : n ≡ leaves p + (n - leaves p) = omega arith in
        ap (from 1) e ∙ from_parts 1 (leaves p) (n - leaves p)

    walked_pattern : chosen_in q (pattern p) l (upto (suc n)) ≡ chosen_in q (pattern p) l (leaf_places p)
    walked_pattern =
        ap (λ (m : List ℕ). chosen_in q (pattern p) m (from 1 n)) (idle (pattern p) l 0 (outside 0 (λ w. omega (arith, w.low))))
        ∙ ap (chosen_in q (pattern p) l) parted
        ∙ chosen_in_append (pattern p) l (leaf_places p) (from (1 + leaves p) (n - leaves p))
        ∙ all_idle (pattern p) (chosen_in q (pattern p) l (leaf_places p)) (from (1 + leaves p) (n - leaves p))
        (λ i d. let m = mem_from (1 + leaves p) (n - leaves p) d in outside i (λ w. omega (arith, w.high, m.0)))

  -- an open field: where one is chosen, nothing more is
  stays : (x : ℕ) (l k : List ℕ) → chosen_in q some_text (x ∷ l) k ≡ x ∷ l
  unfolding chosen_for
  stays x l [] = refl
  stays x l (i ∷ k) = stays x l k

  least_first : (n : ℕ) → keep (is_least q) (upto (suc n)) ≡ 0 ∷ keep (is_least q) (from 1 n)
  unfolding is_least
  least_first n = refl

  abbrev many : ℕ
  many = q.alphabet.characters

  -- the least of all is 0
  least_cons : 0 < many → least_ones q ≡ 0 ∷ keep (is_least q) (from 1 (many - 1))
  unfolding least_ones
  least_cons some =
      let e : many ≡ suc (many - 1) = omega arith in
      ap (λ (n : ℕ). keep (is_least q) (upto n)) e ∙ least_first (many - 1)

  pub first_least : 0 < many → take 1 (least_ones q) ≡ 0 ∷ []
  first_least some = ap (take 1) (least_cons some)

  some_first : (k : List ℕ) (y : ℕ) (m : List ℕ) → (x : ℕ) × (take 1 (k ++ y ∷ m) ≡ x ∷ [])
  some_first [] y m = (y, refl)
  some_first (x ∷ k) y m = (x, refl)

  open_choice : 0 < many → (i : ℕ) → (x : ℕ) × (leaf_choice q some_text i ≡ x ∷ [])
  unfolding leaf_choice
  open_choice some i =
      let free = keep (λ (c : ℕ). leaf_takes_it some_text i c && not (fixed q c)) (least_ones q) in
      let rest = keep (leaf_takes_it some_text i) (keep (is_least q) (from 1 (many - 1))) in
      let s = some_first free 0 rest in
      (s.0, ap (λ (l : List ℕ). take 1 (free ++ keep (leaf_takes_it some_text i) l)) (least_cons some) ∙ s.1)

  -- its places are all the same
  same_choice : (i j : ℕ) → leaf_choice q some_text i ≡ leaf_choice q some_text j
  unfolding leaf_choice
  same_choice i j = refl

  walked_open : 0 < many → (l : List ℕ) (n : ℕ) → chosen_in q some_text l (upto (suc n)) ≡ chosen_for q some_text l 1
  unfolding chosen_for
  walked_open some [] n =
      let s = open_choice some 0 in
      ap (λ (m : List ℕ). chosen_in q some_text m (from 1 n)) s.1 ∙ stays s.0 [] (from 1 n) ∙ sym s.1 ∙ same_choice 0 1
  walked_open some (x ∷ l) n = stays x l (from 1 n)

  pub walked_all : 0 < many → (h : Held) → GoodHeld many h → (l : List ℕ) → chosen_in q h l (upto places) ≡ chosen_in q h l (leaves_of h)
  walked_all some some_text good l = walked_open some l most_leaves
  walked_all some (pattern p) good l = walked_pattern p l most_leaves good.1
