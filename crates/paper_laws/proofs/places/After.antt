-- The texts that may come after a place of a part of a pattern, and from its start, against the part's language: what may come from the
-- start is what fits (`start_fits`, `fits_start`). A part's leaves stand from `o` on. By induction on the pattern and on the relations.
use Prim.Native.Nat.{ℕ, ◌+◌}
use mathlib.Core.Path.{◌≡◌, refl}
use mathlib.Core.Logic.{⊎_elim}
use mathlib.Core.Bool.{true, or-true, false≢true}
use mathlib.Core.List.{List, [], ◌∷◌, ◌++◌}
use lib.Dec.{eqb}
use Rattle.paper.proofs.base.Tests.{and_left, and_right, or_is_true, eqb_same}
use Rattle.paper.proofs.base.Lists.{cons_eq}
use Rattle.paper.specs.Pattern.{Leaf, takes, Pattern, leaf, empty, then, either, many, Fits, one, nothing, both, first, second, none, more}
use Rattle.paper.specs.Places.{leaves, takes_empty, may_be_first, may_be_last, may_follow, leaf_takes}
use Rattle.paper_laws.proofs.places.Parts.{Within, apart, first_then, last_then, follow_then, first_either, last_either, follow_either, follow_many, takes_parts, first_within, last_within, follow_within, takes_within}

-- the text w may come after the leaf i of the part
pub data After (p : Pattern) (o : ℕ) : ℕ → List ℕ → Type 0 where
  ends : (i : ℕ) → may_be_last p o i ≡ true → After p o i []
  goes : (i q c : ℕ) {w : List ℕ} → may_follow p o i q ≡ true → leaf_takes p o q c ≡ true → After p o q w → After p o i (c ∷ w)

-- the text w may be read by the part
pub data FromStart (p : Pattern) (o : ℕ) : List ℕ → Type 0 where
  at_once : takes_empty p ≡ true → FromStart p o []
  begins : (q c : ℕ) {w : List ℕ} → may_be_first p o q ≡ true → leaf_takes p o q c ≡ true → After p o q w → FromStart p o (c ∷ w)

-- What fits may be read.
module _ (a b : Pattern) (o : ℕ) where
  pub second_then : {i : ℕ} {w : List ℕ} → After b (o + leaves a) i w → After (then a b) o i w
  second_then (ends i l) = ends i (rw l)
  second_then (goes i q c f t r) = goes i q c (rw (f, or-true)) (rw (t, or-true)) (second_then r)

  pub after_then : {i : ℕ} {u v : List ℕ} → After a o i u → FromStart b (o + leaves a) v → After (then a b) o i (u ++ v)
  after_then (ends i l) (at_once e) = ends i (rw (l, e, or-true))
  after_then (ends i l) (begins q c f t r) = goes i q c (rw (l, f, or-true)) (rw (t, or-true)) (second_then r)
  after_then (goes i q c f t r) s = goes i q c (rw f) (rw t) (after_then r s)

  start_then : {u v : List ℕ} → FromStart a o u → FromStart b (o + leaves a) v → FromStart (then a b) o (u ++ v)
  start_then (at_once e) (at_once e') = at_once (rw (e, e'))
  start_then (at_once e) (begins q c f t r) = begins q c (rw (e, f, or-true)) (rw (t, or-true)) (second_then r)
  start_then (begins q c f t r) s = begins q c (rw f) (rw t) (after_then r s)

  pub first_after : {i : ℕ} {w : List ℕ} → After a o i w → After (either a b) o i w
  first_after (ends i l) = ends i (rw l)
  first_after (goes i q c f t r) = goes i q c (rw f) (rw t) (first_after r)

  pub second_after : {i : ℕ} {w : List ℕ} → After b (o + leaves a) i w → After (either a b) o i w
  second_after (ends i l) = ends i (rw (l, or-true))
  second_after (goes i q c f t r) = goes i q c (rw (f, or-true)) (rw (t, or-true)) (second_after r)

  first_start : {w : List ℕ} → FromStart a o w → FromStart (either a b) o w
  first_start (at_once e) = at_once (rw e)
  first_start (begins q c f t r) = begins q c (rw f) (rw t) (first_after r)

  second_start : {w : List ℕ} → FromStart b (o + leaves a) w → FromStart (either a b) o w
  second_start (at_once e) = at_once (rw (e, or-true))
  second_start (begins q c f t r) = begins q c (rw (f, or-true)) (rw (t, or-true)) (second_after r)

module _ (a : Pattern) (o : ℕ) where
  pub after_many : {i : ℕ} {u v : List ℕ} → After a o i u → FromStart (many a) o v → After (many a) o i (u ++ v)
  after_many (ends i l) (at_once e) = ends i l
  after_many (ends i l) (begins q c f t r) = goes i q c (rw (l, f, or-true)) t r
  after_many (goes i q c f t r) s = goes i q c (rw f) t (after_many r s)

  start_many : {u v : List ℕ} → FromStart a o u → FromStart (many a) o v → FromStart (many a) o (u ++ v)
  start_many (at_once e) s = s
  start_many (begins q c f t r) s = begins q c f t (after_many r s)

pub fits_start : {p : Pattern} {w : List ℕ} → Fits p w → (o : ℕ) → FromStart p o w
fits_start (one {l = l} {c = c} t) o = begins o c (eqb_same o) (rw (eqb_same o, t)) (ends o (eqb_same o))
fits_start nothing o = at_once refl
fits_start (both {a = a} {b = b} e f g) o = rw e (start_then a b o (fits_start f o) (fits_start g (o + leaves a)))
fits_start (first {a = a} {b = b} f) o = first_start a b o (fits_start f o)
fits_start (second {a = a} {b = b} f) o = second_start a b o (fits_start f (o + leaves a))
fits_start none o = at_once refl
fits_start (more {a = a} e f g) o = rw e (start_many a o (fits_start f o) (fits_start g o))

-- What may be read fits.
-- a text in two parts
record Split (P Q : List ℕ → Type 0) (w : List ℕ) : Type 0 where
  front : List ℕ
  back : List ℕ
  joined : w ≡ front ++ back
  in_front : P front
  in_back : Q back

-- one more character in front
longer : {P Q : List ℕ → Type 0} (P' : List ℕ → Type 0) (c : ℕ) {w : List ℕ} → ((u : List ℕ) → P u → P' (c ∷ u)) → Split P Q w → Split P' Q (c ∷ w)
longer P' c go s =
    record {
      front = c ∷ s.front;
      back = s.back;
      joined = cons_eq refl s.joined;
      in_front = go s.front s.in_front;
      in_back = s.in_back;
    }

module _ (a b : Pattern) (o : ℕ) where
  -- where two parts stand one behind the other, a place is one of one part only
  not_second : {C : Type 0} (q : ℕ) → Within o (leaves a) q → Within (o + leaves a) (leaves b) q → C
  not_second q h k = absurd (apart o (leaves a) (leaves b) q h k)

  takes_first : (q c : ℕ) → Within o (leaves a) q → leaf_takes (then a b) o q c ≡ true → leaf_takes a o q c ≡ true
  takes_first q c h = takes_parts a b o q c (λ t. t) (λ t. not_second q h (takes_within b (o + leaves a) q c t))

  takes_second : (q c : ℕ) → Within (o + leaves a) (leaves b) q → leaf_takes (then a b) o q c ≡ true → leaf_takes b (o + leaves a) q c ≡ true
  takes_second q c h = takes_parts a b o q c (λ t. not_second q (takes_within a o q c t) h) (λ t. t)

  then_second : {i : ℕ} {w : List ℕ} → Within (o + leaves a) (leaves b) i → After (then a b) o i w → After b (o + leaves a) i w
  then_second h (ends i l) =
      last_then a b o i (ends i) (λ e k. not_second i (last_within a o i k) h) l
  then_second h (goes i q c f t r) =
      follow_then a b o i q
      (λ k. not_second i (follow_within a o i q k).0 h)
      (λ k. let m = (follow_within b (o + leaves a) i q k).1 in goes i q c k (takes_second q c m t) (then_second m r))
      (λ k m. not_second i (last_within a o i k) h)
      f

  then_first : {i : ℕ} {w : List ℕ} → Within o (leaves a) i → After (then a b) o i w → Split (After a o i) (FromStart b (o + leaves a)) w
  then_first h (ends i l) =
      last_then a b o i (λ k. not_second i h (last_within b (o + leaves a) i k))
      (λ e k. record { front = []; back = []; joined = refl; in_front = ends i k; in_back = at_once e })
      l
  then_first h (goes i q c {w = w} f t r) =
      follow_then a b o i q
      (λ k. let m = (follow_within a o i q k).1 in
      longer (After a o i) c (λ u r'. goes i q c k (takes_first q c m t) r') (then_first m r))
      (λ k. not_second i h (follow_within b (o + leaves a) i q k).0)
      (λ k m. let n = first_within b (o + leaves a) q m in
      record { front = []; back = c ∷ w; joined = refl; in_front = ends i k; in_back = begins q c m (takes_second q c n t) (then_second n r) })
      f

  either_first : {i : ℕ} {w : List ℕ} → Within o (leaves a) i → After (either a b) o i w → After a o i w
  either_first h (ends i l) = last_either a b o i (ends i) (λ k. not_second i h (last_within b (o + leaves a) i k)) l
  either_first h (goes i q c f t r) =
      follow_either a b o i q
      (λ k. let m = (follow_within a o i q k).1 in goes i q c k (takes_first q c m t) (either_first m r))
      (λ k. not_second i h (follow_within b (o + leaves a) i q k).0)
      f

  either_second : {i : ℕ} {w : List ℕ} → Within (o + leaves a) (leaves b) i → After (either a b) o i w → After b (o + leaves a) i w
  either_second h (ends i l) = last_either a b o i (λ k. not_second i (last_within a o i k) h) (ends i) l
  either_second h (goes i q c f t r) =
      follow_either a b o i q
      (λ k. not_second i (follow_within a o i q k).0 h)
      (λ k. let m = (follow_within b (o + leaves a) i q k).1 in goes i q c k (takes_second q c m t) (either_second m r))
      f

-- the parts' languages are given: with them the whole's
module _ (a b : Pattern) (o : ℕ) (fa : (w : List ℕ) → FromStart a o w → Fits a w) (fb : (w : List ℕ) → FromStart b (o + leaves a) w → Fits b w) where
  read_then : {w : List ℕ} → FromStart (then a b) o w → Fits (then a b) w
  read_then (at_once e) =
      both refl (fa [] (at_once (and_left (takes_empty a) (takes_empty b) e)))
      (fb [] (at_once (and_right (takes_empty a) (takes_empty b) e)))
  read_then (begins q c {w = w} f t r) =
      first_then a b o q
      (λ k. let m = first_within a o q k in
      let s = longer (FromStart a o) c (λ u r'. begins q c k (takes_first a b o q c m t) r') (then_first a b o m r) in
      both s.joined (fa s.front s.in_front) (fb s.back s.in_back))
      (λ e k. let m = first_within b (o + leaves a) q k in
      both refl (fa [] (at_once e)) (fb (c ∷ w) (begins q c k (takes_second a b o q c m t) (then_second a b o m r))))
      f

  read_either : {w : List ℕ} → FromStart (either a b) o w → Fits (either a b) w
  read_either (at_once e) =
      ⊎_elim (λ k. first (fa [] (at_once k))) (λ k. second (fb [] (at_once k))) (or_is_true (takes_empty a) (takes_empty b) e)
  read_either (begins q c {w = w} f t r) =
      first_either a b o q
      (λ k. let m = first_within a o q k in
      first (fa (c ∷ w) (begins q c k (takes_first a b o q c m t) (either_first a b o m r))))
      (λ k. let m = first_within b (o + leaves a) q k in
      second (fb (c ∷ w) (begins q c k (takes_second a b o q c m t) (either_second a b o m r))))
      f

module _ (a : Pattern) (o : ℕ) (fa : (w : List ℕ) → FromStart a o w → Fits a w) where
  once_more : (q c : ℕ) {w : List ℕ} → may_be_first a o q ≡ true → leaf_takes a o q c ≡ true → Split (After a o q) (Fits (many a)) w → Fits (many a) (c ∷ w)
  once_more q c f t s =
      more (cons_eq refl s.joined) (fa (c ∷ s.front) (begins q c f t s.in_front)) s.in_back

  many_first : {i : ℕ} {w : List ℕ} → After (many a) o i w → Split (After a o i) (Fits (many a)) w
  many_first (ends i l) = record { front = []; back = []; joined = refl; in_front = ends i l; in_back = none }
  many_first (goes i q c {w = w} f t r) =
      let s = many_first r in
      follow_many a o i q
      (λ k. longer (After a o i) c (λ u r'. goes i q c k t r') s)
      (λ k m. record { front = []; back = c ∷ w; joined = refl; in_front = ends i k; in_back = once_more q c m t s })
      f

  read_many : {w : List ℕ} → FromStart (many a) o w → Fits (many a) w
  read_many (at_once e) = none
  read_many (begins q c f t r) = once_more q c f t (many_first r)

-- behind a leaf comes nothing
read_leaf : (l : Leaf) (o c : ℕ) {i : ℕ} {w : List ℕ} → takes l c ≡ true → After (leaf l) o i w → Fits (leaf l) (c ∷ w)
read_leaf l o c t (ends i e) = one t
read_leaf l o c t (goes i q d f t' r) = absurd (false≢true f)

pub start_fits : (p : Pattern) (o : ℕ) (w : List ℕ) → FromStart p o w → Fits p w
start_fits (leaf l) o w (at_once e) = absurd (false≢true e)
start_fits (leaf l) o w (begins q c f t r) = read_leaf l o c (and_right (eqb o q) (takes l c) t) r
start_fits empty o w (at_once e) = nothing
start_fits empty o w (begins q c f t r) = absurd (false≢true f)
start_fits (then a b) o w s = read_then a b o (start_fits a o) (start_fits b (o + leaves a)) s
start_fits (either a b) o w s = read_either a b o (start_fits a o) (start_fits b (o + leaves a)) s
start_fits (many a) o w s = read_many a o (start_fits a o) s
