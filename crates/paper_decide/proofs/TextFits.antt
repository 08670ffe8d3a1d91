-- Texts that are tried fit their patterns, so what solves the question with them solves the question.
--   text_held_holds : Holds (text_held cs n h) w → Holds h w
--   texts_equated   : texts that solve the word equation of `with_texts n q` solve that of q
-- The least text leads the first place set to one that may end; and the pattern of one text takes that text alone.
use Prim.Native.Nat.{ℕ, zero, suc, ◌<◌}
use native.Mathlib.Omega.{arith}
use mathlib.Core.Path.{◌≡◌, refl, sym, ap, ◌∙◌, subst}
use mathlib.Core.Bool.{Bool, true, cond}
use mathlib.Core.List.{List, [], ◌∷◌, ◌++◌, Memᴰ}
use lib.Dec.{leb, ltb}
use lib.ListN.{get_or}
use Rattle.paper.specs.Lists.{upto, keep}
use Rattle.paper.specs.Numbers.{fields}
use Rattle.paper.specs.Pattern.{char, leaf, Fits, one, nothing, both, Held, some_text, Holds}
use Rattle.paper.specs.Places.{PlaceSet, first_set, set_after, may_end, set_along}
use Rattle.paper.specs.Equation.{Texts, stands_in}
use Rattle.paper.specs.Question.{Question, held_by, hidden, Equated}
use Rattle.paper_decide.specs.Letters.{times}
use Rattle.paper_decide.specs.OneText.{can_end, least_text, lengths_below, one_from, spelt_out, lengths_tried, text_held, with_texts}
use Rattle.paper.proofs.base.Tests.{cond_by, eqb_true, ltb_true}
use Rattle.paper.proofs.base.Lists.{any_true, keep_mem, mem_keep, cons_eq}
use Rattle.paper.proofs.base.Listed.{get_or_map_upto}
use Rattle.paper_laws.proofs.places.PlacesDecide.{only_held}
use Rattle.paper_laws.proofs.sheets.Asked.{GoodQuestion}
use Rattle.paper_laws.proofs.sheets.Hidden.{held_own, by_standing}

-- the first of a list that has one
head_in : (l : List ℕ) {x : ℕ} → Memᴰ x l → Memᴰ (get_or l 0 0) l
head_in (y ∷ l) d = Memᴰ.head refl
head_in [] d = elim d [ ]

module _ (h : Held) (cs : List ℕ) where
  least_ends : (n : ℕ) (s : PlaceSet) → can_end h cs n s ≡ true → may_end h (set_along h s (least_text h cs n s)) ≡ true
  least_ends zero s e = e
  least_ends (suc n) s e =
      let (c, d, p) = any_true (λ (c : ℕ). can_end h cs n (set_after h s c)) cs e in
      let l = keep (λ (c : ℕ). can_end h cs n (set_after h s c)) cs in
      let (in-cs, good) = mem_keep (λ (c : ℕ). can_end h cs n (set_after h s c)) cs (head_in l (keep_mem (λ (c : ℕ). can_end h cs n (set_after h s c)) cs d p)) in
      least_ends n (set_after h s (get_or l 0 0)) good

  least_holds : (n : ℕ) → can_end h cs n first_set ≡ true → Holds h (least_text h cs n first_set)
  least_holds n e = only_held h (least_text h cs n first_set) (least_ends n first_set e)

-- what holds of every length, and of what is given for none, holds of the one that is taken
one_by : (P : ℕ → Type 0) (x : ℕ) (l : List ℕ) (n : ℕ) → P x → ((k : ℕ) → Memᴰ k l → P k) → P (one_from x l n)
one_by P x [] n h all = h
one_by P x (k ∷ ks) n h all =
    let its = all k (Memᴰ.head refl) in
    cond_by P (leb n k) (λ _. its) (λ _. one_by P k ks n its (λ j d. all j (Memᴰ.tail d)))

-- the pattern of one text takes no other
one_alone : (c : ℕ) (v : List ℕ) → Fits (leaf (char c)) v → v ≡ c ∷ []
one_alone c v (one {c = a} e) = cons_eq (sym (eqb_true c a e)) refl

spelt_alone : (w v : List ℕ) → Fits (spelt_out w) v → v ≡ w
spelt_alone [] v nothing = refl
spelt_alone (c ∷ []) v f = one_alone c v f
spelt_alone (c ∷ d ∷ w) v (both {u = u} {v = t} e f g) =
    e ∙ ap (λ (x : List ℕ). x ++ t) (one_alone c u f) ∙ cons_eq refl (spelt_alone (d ∷ w) t g)

pub text_held_holds : (cs : List ℕ) (n : ℕ) (h : Held) (w : List ℕ) → Holds (text_held cs n h) w → Holds h w
text_held_holds cs n h w =
    let can : ℕ → Bool = λ (k : ℕ). can_end h cs k first_set in
    let k = one_from lengths_tried (lengths_below h cs lengths_tried) n in
    let its : k < lengths_tried → can k ≡ true =
    one_by (λ (k : ℕ). k < lengths_tried → can k ≡ true) lengths_tried (lengths_below h cs lengths_tried) n (λ z. absurd (omega arith))
    (λ j d _. (mem_keep can (upto lengths_tried) d).1) in
    cond_by (λ (x : Held). Holds x w → Holds h w) (ltb k lengths_tried)
    (λ some fits.
    subst (Holds h) (sym (spelt_alone (least_text h cs k first_set) w fits)) (least_holds h cs k (its (ltb_true k lengths_tried some))))
    (λ _ fits. fits)

module _ (n : ℕ) (q : Question) (g : GoodQuestion q) where
  held_then : (f : ℕ) → f < fields → (w : List ℕ) → Holds (held_by (with_texts n q) f) w → Holds (held_by q f) w
  unfolding with_texts
  held_then f k w =
      let cs = upto q.alphabet.characters in
      let twice = ltb 1 (times f (q.left ++ q.right)) in
      let its = get_or_map_upto (λ (f : ℕ). cond (ltb 1 (times f (q.left ++ q.right))) (text_held cs n (held_by q f)) (held_by q f)) some_text fields f k in
      rw its (cond_by (λ (x : Held). Holds x w → Holds (held_by q f) w) twice (λ _. text_held_holds cs n (held_by q f) w) (λ _ fits. fits))

  -- with the hidden fields, which hold what they held
  hidden_then : (texts : Texts) → ((f : ℕ) → stands_in f ((hidden q).left ++ (hidden q).right) ≡ true → Holds (held_by (hidden (with_texts n q)) f) (texts f))
      → (f : ℕ) → stands_in f ((hidden q).left ++ (hidden q).right) ≡ true → Holds (held_by (hidden q) f) (texts f)
  unfolding with_texts
  hidden_then texts h f e =
      by_standing q g (λ (f : ℕ). Holds (held_by (hidden (with_texts n q)) f) (texts f) → Holds (held_by (hidden q) f) (texts f))
      (λ f _ k. subst (λ (x : Held). Holds (held_by (hidden (with_texts n q)) f) (texts f) → Holds x (texts f)) (sym (held_own q f k))
      (subst (λ (x : Held). Holds x (texts f) → Holds (held_by q f) (texts f)) (sym (held_own (with_texts n q) f k)) (held_then f k (texts f))))
      (λ fits. fits) (λ fits. fits) f e (h f e)

  pub texts_equated : (texts : Texts) → Equated (hidden (with_texts n q)) texts → Equated (hidden q) texts
  unfolding with_texts
  texts_equated texts x = record { same_label = x.same_label; over = x.over; holds = hidden_then texts x.holds }
