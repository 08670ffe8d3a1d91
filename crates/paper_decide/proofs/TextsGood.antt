-- The question in which each field that stands twice holds one text is a good one, as the question is.
--   texts_good : GoodQuestion q → GoodQuestion (with_texts n q)
-- A text that is tried has at most 24 characters, each of them one of the question's: so many leaves has its pattern at most, and each takes its own.
use Prim.Native.Nat.{ℕ, zero, suc, ◌+◌, ◌≤◌, ◌<◌}
use native.Mathlib.Omega.{arith}
use mathlib.Core.Path.{◌≡◌, refl, sym, ap, ◌∙◌, subst}
use mathlib.Core.Bool.{Bool, true, false, cond}
use mathlib.Core.List.{List, [], ◌∷◌, ◌++◌, map, Memᴰ}
use lib.Dec.{leb, ltb}
use lib.ListN.{length, get_or, length-map, get_or-eq_default}
use Rattle.paper.specs.Lists.{upto, keep}
use Rattle.paper.specs.Numbers.{fields}
use Rattle.paper.specs.Pattern.{char, Held, some_text}
use Rattle.paper.specs.Places.{PlaceSet, leaves, first_set, set_after}
use Rattle.paper.specs.Question.{Question, held_by}
use Rattle.paper.specs.Taken.{LeafTakes, leaves_take}
use Rattle.paper_decide.specs.Letters.{times}
use Rattle.paper_decide.specs.OneText.{can_end, least_text, lengths_below, one_from, spelt_out, lengths_tried, text_held, with_texts}
use Rattle.paper.proofs.base.Tests.{by_bool, cond_by, eqb_true, eqb_same, leb_true, leb_false, ltb_true}
use Rattle.paper.proofs.base.Lists.{mem_keep, mem_upto, length_from}
use Rattle.paper.proofs.base.Listed.{get_or_map_upto}
use Rattle.paper_laws.proofs.sheets.Asked.{GoodHeld, GoodQuestion, good_space}

-- Each character of a text is below n.
abbrev AllBelow : ℕ → List ℕ → Type 0
AllBelow n [] = Unit {0}
AllBelow n (c ∷ w) = (c < n) × AllBelow n w

module _ (n : ℕ) (some : 0 < n) (h : Held) where
  -- the first of some characters, or 0
  first_below : (test : ℕ → Bool) (l : List ℕ) → ((c : ℕ) → Memᴰ c l → c < n) → get_or (keep test l) 0 0 < n
  first_below test l all = by_list (keep test l) (λ c d. all c (mem_keep test l d).0)
    where
      by_list : (k : List ℕ) → ((c : ℕ) → Memᴰ c k → c < n) → get_or k 0 0 < n
      by_list [] all = some
      by_list (c ∷ k) all = all c (Memᴰ.head refl)

  text_below : (k : ℕ) (s : PlaceSet) → AllBelow n (least_text h (upto n) k s)
  text_below zero s = tt
  text_below (suc k) s =
      let test : ℕ → Bool = λ (c : ℕ). can_end h (upto n) k (set_after h s c) in
      (first_below test (upto n) (λ c d. mem_upto n d), text_below k (set_after h s (get_or (keep test (upto n)) 0 0)))

  text_length : (k : ℕ) (s : PlaceSet) → length (least_text h (upto n) k s) ≡ k
  text_length zero s = refl
  text_length (suc k) s =
      ap suc (text_length k (set_after h s (get_or (keep (λ (c : ℕ). can_end h (upto n) k (set_after h s c)) (upto n)) 0 0)))

char_takes : (n c : ℕ) → c < n → LeafTakes n (char c)
char_takes n c h = record { some = c; taken = eqb_same c; character = λ d e. subst (λ (x : ℕ). x < n) (eqb_true c d e) h }

spelt_takes : (n : ℕ) (w : List ℕ) → AllBelow n w → leaves_take n (spelt_out w)
spelt_takes n [] h = tt
spelt_takes n (c ∷ []) h = char_takes n c h.0
spelt_takes n (c ∷ d ∷ w) h = (char_takes n c h.0, spelt_takes n (d ∷ w) h.1)

spelt_leaves : (w : List ℕ) → leaves (spelt_out w) ≤ length w
spelt_leaves [] = omega arith
spelt_leaves (c ∷ []) = omega arith
spelt_leaves (c ∷ d ∷ w) = omega (arith, spelt_leaves (d ∷ w))

-- what a field holds then
text_held_good : (n : ℕ) → 0 < n → (asked : ℕ) (h : Held) → GoodHeld n h → GoodHeld n (text_held (upto n) asked h)
text_held_good n some asked h g =
    let k = one_from lengths_tried (lengths_below h (upto n) lengths_tried) asked in
    let w = least_text h (upto n) k first_set in
    cond_by (GoodHeld n) (ltb k lengths_tried)
    (λ t. (spelt_takes n w (text_below n some h k first_set), omega (arith, spelt_leaves w, text_length n some h k first_set, ltb_true k lengths_tried t)))
    (λ _. g)

module _ (asked : ℕ) (q : Question) (g : GoodQuestion q) where
  abbrev many : ℕ
  many = q.alphabet.characters

  abbrev its : ℕ → Held
  its f = cond (ltb 1 (times f (q.left ++ q.right))) (text_held (upto many) asked (held_by q f)) (held_by q f)

  some : 0 < many
  some = omega (arith, good_space g)

  its_good : (f : ℕ) → GoodHeld many (its f)
  its_good f =
      cond_by (GoodHeld many) (ltb 1 (times f (q.left ++ q.right)))
      (λ _. text_held_good many some asked (held_by q f) (g.held.good f)) (λ _. g.held.good f)

  each_its : length (map its (upto fields)) ≡ fields
  each_its = length-map (upto fields) its ∙ length_from 0 fields

  listed_good : (f : ℕ) → GoodHeld many (get_or (map its (upto fields)) f some_text)
  listed_good f =
      by_bool (leb fields f)
      (λ t. subst (GoodHeld many) (sym (get_or-eq_default (map its (upto fields)) some_text {n = f} (omega (arith, each_its, leb_true fields f t)))) tt)
      (λ t. subst (GoodHeld many) (sym (get_or_map_upto its some_text fields f (leb_false fields f t))) (its_good f))

  pub texts_good : GoodQuestion (with_texts asked q)
  unfolding with_texts
  texts_good =
      record {
        alphabet = g.alphabet;
        left = g.left;
        right = g.right;
        held = record { each_field = each_its; good = listed_good };
      }
