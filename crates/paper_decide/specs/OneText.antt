-- "A text for each field that stands twice": such a field holds one text alone, and what is left is plain. A clash of it is a clash of the question.
-- Which text: for a number of characters the least text of so many, by value.
use Rattle.std.specs.Prelude.{ℕ, zero, suc, Bool, cond, List, [], ◌∷◌, ◌++◌, map, leb, ltb, get_or}
use Rattle.paper.specs.Lists.{upto, any, keep}
use Rattle.paper.specs.Numbers.{fields}
use Rattle.paper.specs.Pattern.{char, Pattern, leaf, empty, then, Held, pattern}
use Rattle.paper.specs.Places.{PlaceSet, first_set, set_after, may_end}
use Rattle.paper.specs.Question.{Question, held_by}
use Rattle.paper_decide.specs.Letters.{times}

-- Texts of a field, made of these characters.
module _ (h : Held) (cs : List ℕ) where
  -- does a text of n characters lead from the set to one that may end?
  abbrev pub can_end : ℕ → PlaceSet → Bool
  can_end zero s = may_end h s
  can_end (suc n) s = any (λ (c : ℕ). can_end n (set_after h s c)) cs

  -- the least of them: the first character from which the rest can end, then the least text behind it
  abbrev pub least_text : ℕ → PlaceSet → List ℕ
  least_text zero s = []
  least_text (suc n) s =
      let c = get_or (keep (λ (c : ℕ). can_end n (set_after h s c)) cs) 0 0 in
      c ∷ least_text n (set_after h s c)

  -- the numbers of characters, below so many, that a text of the field may have; rising
  abbrev pub lengths_below : ℕ → List ℕ
  lengths_below n = keep (λ (k : ℕ). can_end k first_set) (upto n)

-- the first of them that is n or more, or the last; where there is none, what is given for it
abbrev pub one_from : ℕ → List ℕ → ℕ → ℕ
one_from x [] n = x
one_from x (k ∷ ks) n = cond (leb n k) k (one_from k ks n)

-- the pattern of one text
abbrev pub spelt_out : List ℕ → Pattern
spelt_out [] = empty
spelt_out (c ∷ []) = leaf (char c)
spelt_out (c ∷ d ∷ w) = then (leaf (char c)) (spelt_out (d ∷ w))

-- no text that is tried has more characters
abbrev pub longest_tried : ℕ
longest_tried = 24

-- how many numbers of characters are tried: 0 to 24
abbrev pub lengths_tried : ℕ
lengths_tried = suc longest_tried

-- what a field holds then: the least text of the least possible length of n or more, or where there is none of the greatest below; what it held, where it
-- has no text of at most 24 characters
abbrev pub text_held : List ℕ → ℕ → Held → Held
text_held cs n h =
    let k = one_from lengths_tried (lengths_below h cs lengths_tried) n in
    cond (ltb k lengths_tried) (pattern (spelt_out (least_text h cs k first_set))) h

-- the question whose fields hold such texts, where they stand twice; of all its characters
unfoldable pub with_texts : ℕ → Question → Question
with_texts n q =
    let cs = upto q.alphabet.characters in
    record {
      alphabet = q.alphabet;
      left = q.left;
      right = q.right;
      held = map (λ (f : ℕ). cond (ltb 1 (times f (q.left ++ q.right))) (text_held cs n (held_by q f)) (held_by q f)) (upto fields);
    }
