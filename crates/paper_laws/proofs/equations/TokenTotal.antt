-- "Where a field stands at most twice, a child's token total is at most its parent's, or two more where two different fields stood in front."
--   child_total   : over any acceptor, of a situation in whose sides each field stands at most twice and of each of its children
--   entered_total : of each situation entered for a question in whose sides each field stands at most twice, and of each of its children
-- A strike takes tokens away. A put adds a character for each standing of a front field, two at most for each; then both fronts are that character,
-- and trimming drops it from both. Follows by cases on the two fronts. No field stands oftener in a child than in its parent.
use Prim.Native.Nat.{ℕ, ◌+◌, ◌≤◌}
use native.Mathlib.Omega.{arith}
use mathlib.Core.Path.{◌≡◌, refl, ◌∙◌}
use mathlib.Core.Bool.{true, false}
use mathlib.Core.List.{List, [], ◌∷◌, Memᴰ}
use lib.Dec.{eqb}
use lib.ListN.{length}
use Rattle.paper.specs.Places.{PlaceSet}
use Rattle.paper.specs.Equation.{chr, fld, Side}
use Rattle.paper.specs.Situation.{Acceptor, Situation, trim, strike_in, put_in, front_field, front_fields, Move, strike_left, strike_right, put, trimmed, strike, strike_all, put_before, put_before_all, moved, front_takes, question}
use Rattle.paper.specs.Children.{ChildOf, times_in, AtMostTwice, token_total, two_more, TotalBounded}
use Rattle.paper.specs.Question.{Question, acceptor}
use Rattle.paper.specs.Demands.{entered}
use Rattle.paper.proofs.base.Tests.{by_bool, true_false, eqb_true, eqb_same, eqb_symmetric}
use Rattle.paper_laws.proofs.equations.Trimming.{Trimming, stop, drop, trimming}
use Rattle.paper_laws.proofs.equations.Moves.{Opened, strikes_left, strikes_right, puts, child_opened}
use Rattle.paper_laws.proofs.sheets.QuestionSearched.{every_entered}

-- a strike, a put and a trimming: how many tokens there are, and how often a field stands
strike_length : (f : ℕ) (side : Side) → length (strike_in f side) ≤ length side
strike_length f [] = omega arith
strike_length f (chr a ∷ side) = omega (arith, strike_length f side)
strike_length f (fld g ∷ side) =
    let i = strike_length f side in by_bool (eqb f g) (λ e. rw e (omega arith)) (λ e. rw e (omega arith))

strike_times : (g f : ℕ) (side : Side) → times_in g (strike_in f side) ≤ times_in g side
strike_times g f [] = omega arith
strike_times g f (chr a ∷ side) = strike_times g f side
strike_times g f (fld h ∷ side) =
    let i = strike_times g f side in
    by_bool (eqb f h)
    (λ e. rw e (by_bool (eqb g h) (λ d. rw d (omega arith)) (λ d. rw d (omega arith))))
    (λ e. rw e (by_bool (eqb g h) (λ d. rw d (omega arith)) (λ d. rw d (omega arith))))

put_length : (c f : ℕ) (side : Side) → length (put_in c f side) ≡ length side + times_in f side
put_length c f [] = omega arith
put_length c f (chr a ∷ side) = omega (arith, put_length c f side)
put_length c f (fld g ∷ side) =
    let i = put_length c f side in by_bool (eqb f g) (λ e. rw e (omega arith)) (λ e. rw e (omega arith))

put_times : (g c f : ℕ) (side : Side) → times_in g (put_in c f side) ≡ times_in g side
put_times g c f [] = refl
put_times g c f (chr a ∷ side) = put_times g c f side
put_times g c f (fld h ∷ side) =
    let i = put_times g c f side in
    by_bool (eqb f h)
    (λ e. rw e (by_bool (eqb g h) (λ d. rw d (omega arith)) (λ d. rw d i)))
    (λ e. rw e (by_bool (eqb g h) (λ d. rw d (omega arith)) (λ d. rw d i)))

trimming_total : {l r l' r' : Side} → Trimming l r l' r' → token_total l' r' ≤ token_total l r
trimming_total stop = omega arith
trimming_total (drop e t) = omega (arith, trimming_total t)

trimming_times : (f : ℕ) {l r l' r' : Side} → Trimming l r l' r' → (times_in f l' ≡ times_in f l) × (times_in f r' ≡ times_in f r)
trimming_times f stop = (refl, refl)
trimming_times f (drop e t) = trimming_times f t

trim_total : (l r : Side) → token_total (trim l r).l (trim l r).r ≤ token_total l r
trim_total l r = trimming_total (trimming l r)

module _ {P : Type 0} (A : Acceptor P) where
  abbrev total : Situation P → ℕ
  total s = token_total s.left s.right

  abbrev times : ℕ → Situation P → ℕ
  times g s = times_in g s.left + times_in g s.right

  strike_total : (fs : List ℕ) (s : Situation P) → total (strike_all A fs s) ≤ total s
  unfolding strike
  strike_total [] s = omega arith
  strike_total (f ∷ fs) s =
      omega (arith, strike_total fs (strike A f s), strike_length f s.left, strike_length f s.right)

  -- Both fronts are c after the put, and trimming drops it.
  put_total :
      (sets : List P) (c : ℕ) (l r : Side)
      → AtMostTwice l r
      → front_takes A (record { left = l; right = r; sets = sets }) c l ≡ true
      → front_takes A (record { left = l; right = r; sets = sets }) c r ≡ true
      → total (trimmed A (moved A (record { left = l; right = r; sets = sets }) (put c))) ≤ token_total l r + two_more l r
  unfolding put_before trimmed
  put_total sets c [] r t p q = absurd (true_false p refl)
  put_total sets c (chr a ∷ l) [] t p q = absurd (true_false q refl)
  put_total sets c (fld f ∷ l) [] t p q = absurd (true_false q refl)
  put_total sets c (chr a ∷ l) (chr b ∷ r) t p q = omega (arith, trim_total (chr a ∷ l) (chr b ∷ r))
  put_total sets c (fld f ∷ l) (chr b ∷ r) t p q =
      let twice = rw (eqb_same f) at (t f) in
      rw (eqb_same f, eqb_symmetric c b, q) (omega (arith, put_length c f l, put_length c f r))
  put_total sets c (chr a ∷ l) (fld g ∷ r) t p q =
      let twice = rw (eqb_same g) at (t g) in
      rw (eqb_same g, p)
      (omega (arith, trim_total (put_in c g l) (fld g ∷ put_in c g r), put_length c g l, put_length c g r))
  put_total sets c (fld f ∷ l) (fld g ∷ r) t p q =
      by_bool (eqb g f)
      (λ e.
      let same : g ≡ f = eqb_true g f e in
      let twice = rw (eqb_same f, same, eqb_same f) at (t f) in
      rw (same, eqb_same f, eqb_same f, eqb_same c) (omega (arith, put_length c f l, put_length c f r)))
      (λ e.
      let n : eqb f g ≡ false = eqb_symmetric f g ∙ e in
      let one = rw (eqb_same f, n) at (t f) in
      let two = rw (e, eqb_same g) at (t g) in
      rw (e, n, eqb_same f, e, eqb_same g, eqb_same c)
      (omega (arith, put_length c g (put_in c f l), put_length c g (put_in c f r), put_length c f l, put_length c f r, put_times g c f l, put_times g c f r)))

  trimmed_total : (s : Situation P) → total (trimmed A s) ≤ total s
  unfolding trimmed
  trimmed_total s = trim_total s.left s.right

  pub child_total : (s : Situation P) (m : Move) (t : Situation P) → AtMostTwice s.left s.right → ChildOf A s m t → TotalBounded s t
  child_total s m t twice c = rw c.makes (by (child_opened A s c))
    where
      by : {n : Move} → Opened A s n → TotalBounded s (trimmed A (moved A s n))
      by (strikes_left e) =
          omega (arith, trimmed_total (moved A s strike_left), strike_total (front_field s.left) s)
      by (strikes_right e) =
          omega (arith, trimmed_total (moved A s strike_right), strike_total (front_field s.right) s)
      by (puts {c = d} h p q) = put_total s.sets d s.left s.right twice p q

  -- No field stands oftener in a child.
  strike_all_times : (g : ℕ) (fs : List ℕ) (s : Situation P) → times g (strike_all A fs s) ≤ times g s
  unfolding strike
  strike_all_times g [] s = omega arith
  strike_all_times g (f ∷ fs) s =
      omega (arith, strike_all_times g fs (strike A f s), strike_times g f s.left, strike_times g f s.right)

  put_all_times : (g c : ℕ) (fs : List ℕ) (s : Situation P) → times g (put_before_all A c fs s) ≤ times g s
  unfolding put_before
  put_all_times g c [] s = omega arith
  put_all_times g c (f ∷ fs) s =
      omega (arith, put_all_times g c fs (put_before A c f s), put_times g c f s.left, put_times g c f s.right)

  moved_times : (g : ℕ) (s : Situation P) (m : Move) → times g (moved A s m) ≤ times g s
  moved_times g s strike_left = strike_all_times g (front_field s.left) s
  moved_times g s strike_right = strike_all_times g (front_field s.right) s
  moved_times g s (put c) = put_all_times g c (front_fields s.left s.right) s

  trimmed_times : (g : ℕ) (s : Situation P) → times g (trimmed A s) ≤ times g s
  unfolding trimmed
  trimmed_times g s = let (p, q) = trimming_times g (trimming s.left s.right) in omega arith

  question_times : (g : ℕ) (l r : Side) → times g (question A l r) ≤ times_in g l + times_in g r
  unfolding question trimmed
  question_times g l r = let (p, q) = trimming_times g (trimming l r) in omega arith

  child_times : (g : ℕ) (s : Situation P) (m : Move) (t : Situation P) → ChildOf A s m t → times g t ≤ times g s
  child_times g s m t c = rw c.makes (omega (arith, moved_times g s m, trimmed_times g (moved A s m)))

-- So it holds of every situation entered.
pub entered_total : (q : Question) (work : List ℕ) → AtMostTwice q.left q.right
    → (s : Situation PlaceSet) → Memᴰ s (entered q work)
    → (m : Move) (t : Situation PlaceSet) → ChildOf (acceptor q) s m t → TotalBounded s t
entered_total q work twice s d m t =
    let A = acceptor q in
    child_total A s m t
    (every_entered q work (λ (u : Situation PlaceSet). AtMostTwice u.left u.right)
    (λ g. omega (arith, twice g, question_times A g q.left q.right))
    (λ u n v h c g. omega (arith, h g, child_times A g u n v c))
    s d)
