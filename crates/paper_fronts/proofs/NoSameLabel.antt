-- Sides whose fixed fronts or ends differ are the same label with no texts at all.
--   no_same_label : fixed_differ x left right ≡ true → (texts : Texts) → Same x (label texts left) (label texts right) → ⊥
-- The fronts by the labels with spaces put behind (`TrailingSpaces`). The ends by the labels read from behind: a side that ends with a character other
-- than the space loses no space, so such labels are equal as they are.
use Prim.Native.Nat.{ℕ}
use mathlib.Core.Path.{◌≡◌, refl, sym, ap, ◌∙◌}
use mathlib.Core.Logic.{⊎_elim}
use mathlib.Core.Bool.{true, false, not, ◌&&◌}
use mathlib.Core.List.{List, [], ◌∷◌, ◌++◌, reverse, reverse_aux, reverse_aux-append, reverse_aux-eq, reverse-cons, reverse-reverse, head-eq_of_cons-eq, tail-eq_of_cons-eq}
use lib.Dec.{eqb}
use lib.ListN.{replicate}
use Rattle.paper.specs.Equation.{chr, fld, Side, Texts, label, before_dropped, without_trailing, Same}
use Rattle.paper.proofs.base.Tests.{true_false, not_is_true, eqb_false, and_left, and_right, or_is_true}
use Rattle.paper.proofs.base.Lists.{cons_eq}
use Rattle.paper_laws.proofs.equations.TrailingSpaces.{same_padded}
use Rattle.paper_fronts.specs.FixedFronts.{fronts_differ, begins_solid, ends_differ, fixed_differ}

-- Fronts that differ: whatever is put behind the labels, they are not equal.
fronts_apart : (texts : Texts) (left right : Side) (u v : List ℕ) → fronts_differ left right ≡ true
    → label texts left ++ u ≡ label texts right ++ v → ⊥
fronts_apart texts [] right u v h e = true_false h refl
fronts_apart texts (fld f ∷ left) right u v h e = true_false h refl
fronts_apart texts (chr a ∷ left) [] u v h e = true_false h refl
fronts_apart texts (chr a ∷ left) (fld g ∷ right) u v h e = true_false h refl
fronts_apart texts (chr a ∷ left) (chr b ∷ right) u v h e =
    ⊎_elim
    (λ k. eqb_false a b (not_is_true k) (head-eq_of_cons-eq e))
    (λ k. fronts_apart texts left right u v k (tail-eq_of_cons-eq e))
    (or_is_true (not (eqb a b)) (fronts_differ left right) h)

-- the texts read from behind
abbrev backwards : Texts → Texts
backwards texts f = reverse (texts f)

-- a label read from behind is the label of the side read from behind
behind_onto : (texts : Texts) (side done : Side)
    → reverse_aux (label texts side) (label (backwards texts) done) ≡ label (backwards texts) (reverse_aux side done)
behind_onto texts [] done = refl
behind_onto texts (chr c ∷ side) done = behind_onto texts side (chr c ∷ done)
behind_onto texts (fld f ∷ side) done =
    reverse_aux-append (texts f) (label texts side) (label (backwards texts) done)
    ∙ ap (reverse_aux (label texts side)) (reverse_aux-eq (texts f) (label (backwards texts) done))
    ∙ behind_onto texts side (fld f ∷ done)

from_behind : (texts : Texts) (side : Side) → reverse (label texts side) ≡ label (backwards texts) (reverse side)
from_behind texts side = behind_onto texts side []

module _ (x c : ℕ) (h : eqb c x ≡ false) where
  before_more : (b : ℕ) (u : List ℕ) → before_dropped x b (u ++ (c ∷ [])) ≡ b ∷ (u ++ (c ∷ []))
  before_more b [] = refl
  before_more b (d ∷ u) = refl

  -- a label that ends with c loses nothing
  kept_whole : (u : List ℕ) → without_trailing x (u ++ (c ∷ [])) ≡ u ++ (c ∷ [])
  kept_whole [] = rw h
  kept_whole (b ∷ u) = ap (before_dropped x b) (kept_whole u) ∙ before_more b u

  solid_kept : (w v : List ℕ) → reverse w ≡ c ∷ v → without_trailing x w ≡ w
  solid_kept w v e =
      let ends : w ≡ reverse v ++ (c ∷ []) = sym (reverse-reverse w) ∙ ap reverse e ∙ reverse-cons c v in
      ap (without_trailing x) ends ∙ kept_whole (reverse v) ∙ sym ends

module _ (x : ℕ) (texts : Texts) (left right : Side) (same : Same x (label texts left) (label texts right)) where
  by_fronts : fronts_differ left right ≡ true → ⊥
  by_fronts h =
      let (n, k, e) = same_padded x (label texts left) (label texts right) same in
      fronts_apart texts left right (replicate n x) (replicate k x) h e

  -- a label whose side, read from behind, begins with a character other than the space
  whole : (side behind : Side) (c : ℕ) → reverse side ≡ chr c ∷ behind → eqb c x ≡ false
      → without_trailing x (label texts side) ≡ label texts side
  whole side behind c e h =
      solid_kept x c h (label texts side) (label (backwards texts) behind) (from_behind texts side ∙ ap (label (backwards texts)) e)

  by_ends : (l r : Side) → reverse left ≡ l → reverse right ≡ r → begins_solid x l ≡ true → begins_solid x r ≡ true
      → fronts_differ l r ≡ true → ⊥
  by_ends [] r p q i j h = true_false i refl
  by_ends (fld f ∷ l) r p q i j h = true_false i refl
  by_ends (chr c ∷ l) [] p q i j h = true_false j refl
  by_ends (chr c ∷ l) (fld g ∷ r) p q i j h = true_false j refl
  by_ends (chr c ∷ l) (chr d ∷ r) p q i j h =
      let equal : label texts left ≡ label texts right =
      sym (whole left l c p (not_is_true i)) ∙ same ∙ whole right r d q (not_is_true j) in
      let turned : label (backwards texts) (chr c ∷ l) ≡ label (backwards texts) (chr d ∷ r) =
      ap (label (backwards texts)) (sym p) ∙ sym (from_behind texts left) ∙ ap reverse equal ∙ from_behind texts right
      ∙ ap (label (backwards texts)) q in
      fronts_apart (backwards texts) (chr c ∷ l) (chr d ∷ r) [] [] h (ap (λ (w : List ℕ). w ++ []) turned)

pub no_same_label : (x : ℕ) (left right : Side) → fixed_differ x left right ≡ true → (texts : Texts)
    → Same x (label texts left) (label texts right) → ⊥
no_same_label x left right h texts same =
    let l = reverse left in
    let r = reverse right in
    let solid = begins_solid x l && begins_solid x r in
    ⊎_elim
    (by_fronts x texts left right same)
    (λ k. let both = and_left solid (fronts_differ l r) k in
    by_ends x texts left right same l r refl refl (and_left (begins_solid x l) (begins_solid x r) both)
    (and_right (begins_solid x l) (begins_solid x r) both) (and_right solid (fronts_differ l r) k))
    (or_is_true (fronts_differ left right) (ends_differ x left right) h)
