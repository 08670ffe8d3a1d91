-- Characters alike: the laws of specs/Alike, of any question.
--   alike_itself, alike_turned, alike_on : alike is an equivalence
--   least, least_alike, least_below, least_is_least : each character has a least one alike, and it is not above the character
--   least_solves   : texts that solve the word equation still do with the least one alike in place of each of their characters
--   exactly_least  : a question has a solution exactly if it has one over the least ones
--   alike_unsolved : where the search over the least ones alone uses all situations up, no texts solve the word equation
-- A fixed character is the least one alike to itself, so labels go over. A standing field's place set is the same after alike characters, so what
-- it may hold goes over. Follows from what the place sets decide, and from the laws of the search over some characters.
use Prim.Native.Nat.{ℕ, zero, suc, ◌+◌, ◌≤◌, ◌<◌}
use native.Mathlib.Omega.{arith}
use mathlib.Core.Path.{◌≡◌, refl, sym, ap, ◌∙◌}
use mathlib.Core.Logic.{⊎_elim}
use mathlib.Core.Bool.{Bool, true, false, cond, not, ◌&&◌}
use mathlib.Core.List.Memᴰ
use mathlib.Core.List.{List, [], ◌∷◌, ◌++◌, map, Memᴰ}
use lib.Dec.{eqb}
use Rattle.paper.specs.Lists.{from, upto, any, all}
use Rattle.paper.specs.Numbers.{set_fields}
use Rattle.paper.specs.Pattern.{Held, some_text, pattern, Holds}
use Rattle.paper.specs.Places.{PlaceSet, leaf_takes, follows, leaf_places, first_set, set_after, set_along}
use Rattle.paper.specs.Search.{used_up}
use Rattle.paper.specs.Equation.{chr, fld, Side, stands_in, Texts, label}
use Rattle.paper.specs.Question.{Question, held_by, Equated}
use Rattle.paper.specs.Outcome.{how_of}
use Rattle.paper.proofs.base.Tests.{by_bool, cond_by, true_false, not_true, not_is_true, false_not, and_left, and_right, both_true, or_is_true, left_true, right_true, eqb_true, eqb_false, eqb_same, eq_eqb}
use Rattle.paper.proofs.base.Lists.{cons_eq, none_any, mem_any, all_true, every_all, mem_map, map_append, keep_mem, mem_upto, upto_mem}
use Rattle.paper.proofs.base.Listed.{keep_same}
use Rattle.paper_laws.proofs.places.PlacesDecide.{only_held, all_held}
use Rattle.paper_chosen.specs.Chosen.{searched_over}
use Rattle.paper_chosen.proofs.Over.{used_up_over}
use Rattle.paper_decide.specs.Alike.{leaves_of, leaf_takes_it, both_or_neither, alike_in, is_character, fixed, fields_standing, alike, is_least}

-- both or neither: the tests are the same
both_same : (a b : Bool) → both_or_neither a b ≡ true → a ≡ b
both_same true b e = sym e
both_same false b e = sym (not_is_true e)

same_both : (a b : Bool) → a ≡ b → both_or_neither a b ≡ true
same_both true b e = sym e
same_both false b e = false_not (sym e)

-- "every leaf .. takes both or neither"
abbrev AlikeIn : Held → ℕ → ℕ → Type 0
AlikeIn h a b = (i : ℕ) → Memᴰ i (leaves_of h) → leaf_takes_it h i a ≡ leaf_takes_it h i b

alike_leaves : (h : Held) (a b : ℕ) → alike_in h a b ≡ true → AlikeIn h a b
unfolding alike_in
alike_leaves h a b e i d =
    both_same (leaf_takes_it h i a) (leaf_takes_it h i b)
    (all_true (λ (j : ℕ). both_or_neither (leaf_takes_it h j a) (leaf_takes_it h j b)) (leaves_of h) e d)

leaves_alike : (h : Held) (a b : ℕ) → AlikeIn h a b → alike_in h a b ≡ true
unfolding alike_in
leaves_alike h a b k =
    every_all (λ (j : ℕ). both_or_neither (leaf_takes_it h j a) (leaf_takes_it h j b)) (leaves_of h)
    (λ i d. same_both (leaf_takes_it h i a) (leaf_takes_it h i b) (k i d))

-- After alike characters a place set is the same, and so is what a text leads to where each of its characters is replaced by one alike.
same_after : (h : Held) (a b : ℕ) → AlikeIn h a b → (s : PlaceSet) → set_after h s a ≡ set_after h s b
unfolding set_after
same_after some_text a b k [] = refl
same_after some_text a b k (i ∷ s) = refl
same_after (pattern p) a b k s =
    keep_same (λ (j : ℕ). leaf_takes p 1 j a && any (λ (i : ℕ). follows p i j) s) (λ (j : ℕ). leaf_takes p 1 j b && any (λ (i : ℕ). follows p i j) s)
    (leaf_places p) (λ j d. ap (λ (t : Bool). t && any (λ (i : ℕ). follows p i j) s) (k j d))

same_along : (h : Held) (m : ℕ → ℕ) → ((c : ℕ) → AlikeIn h (m c) c) → (w : List ℕ) (s : PlaceSet) → set_along h s (map m w) ≡ set_along h s w
same_along h m k [] s = refl
same_along h m k (c ∷ w) s =
    same_along h m k w (set_after h s (m c)) ∙ ap (λ (t : PlaceSet). set_along h t w) (same_after h (m c) c (k c) s)

still_held : (h : Held) (m : ℕ → ℕ) → ((c : ℕ) → AlikeIn h (m c) c) → (w : List ℕ) → Holds h w → Holds h (map m w)
still_held h m k w x = only_held h (map m w) (rw (same_along h m k w first_set) (all_held h w x))

-- A label whose fixed characters stay.
label_mapped : (m : ℕ → ℕ) (texts : Texts) (side : Side) → ((c : ℕ) → Memᴰ (chr c) side → m c ≡ c)
    → label (λ (f : ℕ). map m (texts f)) side ≡ map m (label texts side)
label_mapped m texts [] k = refl
label_mapped m texts (chr c ∷ side) k =
    cons_eq (sym (k c (Memᴰ.head refl))) (label_mapped m texts side (λ a d. k a (Memᴰ.tail d)))
label_mapped m texts (fld f ∷ side) k =
    ap (λ (w : List ℕ). map m (texts f) ++ w) (label_mapped m texts side (λ a d. k a (Memᴰ.tail d)))
    ∙ sym (map_append m (texts f) (label texts side))

-- the first of a list that passes the test, d where none does
abbrev first_of : (ℕ → Bool) → List ℕ → ℕ → ℕ
first_of p [] d = d
first_of p (a ∷ l) d = cond (p a) a (first_of p l d)

first_passes : (p : ℕ → Bool) (l : List ℕ) (d : ℕ) → p d ≡ true → p (first_of p l d) ≡ true
first_passes p [] d e = e
first_passes p (a ∷ l) d e = cond_by (λ (x : ℕ). p x ≡ true) (p a) (λ h. h) (λ _. first_passes p l d e)

-- of the numbers from k on, with the one behind them where none passes
first_below : (p : ℕ → Bool) (k n d : ℕ) → d ≡ k + n → first_of p (from k n) d ≤ d
first_below p k zero d e = omega arith
first_below p k (suc n) d e = cond_by (λ (x : ℕ). x ≤ d) (p k) (λ _. omega arith) (λ _. first_below p (suc k) n d (omega arith))

none_before : (p : ℕ → Bool) (k n d a : ℕ) → d ≡ k + n → k ≤ a → a < first_of p (from k n) d → p a ≡ false
none_before p k zero d a e h i = absurd (omega arith)
none_before p k (suc n) d a e h i =
    cond_by (λ (x : ℕ). a < x → p a ≡ false) (p k) (λ _ (j : a < k). absurd (omega arith))
    (λ f j. by_bool (eqb a k) (λ same. rw (eqb_true a k same) f)
    (λ (differ : eqb a k ≡ false). let other : a ≡ k → ⊥ = eqb_false a k differ in none_before p (suc k) n d a (omega arith) (omega arith) j)) i

module _ (q : Question) where
  -- What it is to be alike, without a test.
  data Alike (a b : ℕ) : Type 0 where
    itself : a ≡ b → Alike a b
    free : fixed q a ≡ false → fixed q b ≡ false → ((f : ℕ) → Memᴰ f (fields_standing q) → AlikeIn (held_by q f) a b) → Alike a b

  says_alike : (a b : ℕ) → alike q a b ≡ true → Alike a b
  unfolding alike
  says_alike a b e =
      let leaves = all (λ (f : ℕ). alike_in (held_by q f) a b) (fields_standing q) in
      ⊎_elim (λ h. itself (eqb_true a b h))
      (λ h.
      let k = and_right (not (fixed q a)) (not (fixed q b) && leaves) h in
      free (not_is_true (and_left (not (fixed q a)) (not (fixed q b) && leaves) h)) (not_is_true (and_left (not (fixed q b)) leaves k))
      (λ f d. alike_leaves (held_by q f) a b
      (all_true (λ (g : ℕ). alike_in (held_by q g) a b) (fields_standing q) (and_right (not (fixed q b)) leaves k) d)))
      (or_is_true (eqb a b) (not (fixed q a) && (not (fixed q b) && leaves)) e)

  alike_says : (a b : ℕ) → Alike a b → alike q a b ≡ true
  unfolding alike
  alike_says a b (itself e) = left_true (eqb a b) _ (eq_eqb a b e)
  alike_says a b (free x y k) =
      right_true (eqb a b) _
      (both_true (false_not x) (both_true (false_not y)
      (every_all (λ (f : ℕ). alike_in (held_by q f) a b) (fields_standing q) (λ f d. leaves_alike (held_by q f) a b (k f d)))))

  -- Alike is an equivalence.
  pub alike_itself : (a : ℕ) → alike q a a ≡ true
  alike_itself a = alike_says a a (itself refl)

  pub alike_turned : (a b : ℕ) → alike q a b ≡ true → alike q b a ≡ true
  alike_turned a b e = alike_says b a (turned (says_alike a b e))
    where
      turned : Alike a b → Alike b a
      turned (itself h) = itself (sym h)
      turned (free x y k) = free y x (λ f d i j. sym (k f d i j))

  pub alike_on : (a b c : ℕ) → alike q a b ≡ true → alike q b c ≡ true → alike q a c ≡ true
  alike_on a b c e f = alike_says a c (on (says_alike a b e) (says_alike b c f))
    where
      on : Alike a b → Alike b c → Alike a c
      on (itself h) (itself k) = itself (h ∙ k)
      on (itself h) (free x y k) = rw h (free x y k)
      on (free x y k) (itself h) = rw (sym h) (free x y k)
      on (free x y k) (free z w l) = free x w (λ f d i j. k f d i j ∙ l f d i j)

  -- the least one alike
  unfoldable pub least : ℕ → ℕ
  least c = first_of (λ (a : ℕ). alike q a c) (upto c) c

  pub least_alike : (c : ℕ) → alike q (least c) c ≡ true
  unfolding least
  least_alike c = first_passes (λ (a : ℕ). alike q a c) (upto c) c (alike_itself c)

  pub least_below : (c : ℕ) → least c ≤ c
  unfolding least
  least_below c = first_below (λ (a : ℕ). alike q a c) 0 c c (omega arith)

  pub least_is_least : (c : ℕ) → is_least q (least c) ≡ true
  unfolding is_least least
  least_is_least c =
      false_not (none_any (λ (a : ℕ). alike q a (least c)) (upto (least c)) (λ a d. smaller a (mem_upto (least c) d)))
    where
      smaller : (a : ℕ) → a < least c → alike q a (least c) ≡ false
      smaller a h =
          not_true (alike q a (least c))
          (λ e. true_false (alike_on a (least c) c e (least_alike c)) (none_before (λ (b : ℕ). alike q b c) 0 c c a (omega arith) (omega arith) h))

  -- a fixed character is its own
  pub least_fixed : (c : ℕ) → fixed q c ≡ true → least c ≡ c
  least_fixed c e = own (says_alike (least c) c (least_alike c))
    where
      own : Alike (least c) c → least c ≡ c
      own (itself h) = h
      own (free x y k) = absurd (true_false e y)

  least_in : (f : ℕ) → Memᴰ f (fields_standing q) → (c : ℕ) → AlikeIn (held_by q f) (least c) c
  least_in f d c = its (says_alike (least c) c (least_alike c))
    where
      its : Alike (least c) c → AlikeIn (held_by q f) (least c) c
      its (itself h) = λ i _. ap (leaf_takes_it (held_by q f) i) h
      its (free x y k) = k f d

  -- the texts with each character replaced by the least one alike
  abbrev pub least_texts : Texts → Texts
  least_texts texts f = map least (texts f)

  stays : (c : ℕ) → Memᴰ (chr c) (q.left ++ q.right) → least c ≡ c
  unfolding fixed
  stays c d = least_fixed c (mem_any (is_character c) (q.left ++ q.right) d (eqb_same c))

  pub least_over : (texts : Texts) (f : ℕ) → all (is_least q) (least_texts texts f) ≡ true
  least_over texts f =
      every_all (is_least q) (map least (texts f)) (λ c d. let (a, i, e) = mem_map least (texts f) d in rw e (least_is_least a))

  module _ (known : (f : ℕ) → stands_in f (q.left ++ q.right) ≡ true → f < set_fields) where
    stands : (f : ℕ) → stands_in f (q.left ++ q.right) ≡ true → Memᴰ f (fields_standing q)
    unfolding fields_standing
    stands f e = keep_mem (λ (g : ℕ). stands_in g (q.left ++ q.right)) (upto set_fields) (upto_mem set_fields (known f e)) e

    pub least_solves : (texts : Texts) → Equated q texts → Equated q (least_texts texts)
    least_solves texts x =
        record {
          same_label =
              label_mapped least texts q.left (λ c d. stays c (Memᴰ.append_left q.right d))
              ∙ ap (map least) x.same_label
              ∙ sym (label_mapped least texts q.right (λ c d. stays c (Memᴰ.append_right q.left d)));
          over = λ f e c d. let (a, i, p) = mem_map least (texts f) d in omega (arith, p, least_below a, x.over f e a i);
          holds = λ f e. still_held (held_by q f) least (least_in f (stands f e)) (texts f) (x.holds f e);
        }

    -- "so a question has a solution exactly if it has one over the least ones"
    pub exactly_least :
        (((texts : Texts) × Equated q texts) → (texts : Texts) × Equated q texts × ((f : ℕ) → all (is_least q) (texts f) ≡ true))
        × (((texts : Texts) × Equated q texts × ((f : ℕ) → all (is_least q) (texts f) ≡ true)) → (texts : Texts) × Equated q texts)
    exactly_least = (
      λ t. (least_texts t.0, least_solves t.0 t.1, least_over t.0),
      λ t. (t.0, t.1),
    )

    -- "its 1 is a no clash"
    pub alike_unsolved : (room : ℕ) → how_of (searched_over (is_least q) q room) ≡ used_up → (texts : Texts) → Equated q texts → ⊥
    alike_unsolved room h texts x =
        used_up_over (is_least q) q room known h (least_texts texts) (least_solves texts x) (λ f _. least_over texts f)
