-- What a strike and a put do to the solutions of a situation. A strike keeps the texts; they must give the field the empty text. A put
-- takes its character from the text of the field, so each law speaks of the texts before and after. Both ways each: from a
-- solution to one after the step, and back. Then the same for puts before several different fields at once.
-- Follows from the laws of standing, labels, weights and sets.
use Prim.Native.Nat.{ℕ, ◌≤◌, ◌<◌}
use native.Mathlib.Nat.{le_refl}
use native.Mathlib.Omega.{arith}
use mathlib.Core.Path.{◌≡◌, refl, sym, ◌∙◌, subst, fun_ext}
use mathlib.Core.Bool.{true, false}
use mathlib.Core.List.Memᴰ
use mathlib.Core.List.{List, [], ◌∷◌, ◌++◌, Memᴰ}
use lib.Dec.{eqb}
use lib.ListN.{length, length-set}
use lib.Seq.{get_or-set_same, get_or-set_other}
use Rattle.paper.specs.Lists.{only, member}
use Rattle.paper.proofs.base.Tests.{by_bool, true_false, eqb_true, eqb_false, eqb_symmetric, not_true}
use Rattle.paper.proofs.base.Lists.{NoDup, none, more, member_true}
use Rattle.paper.specs.Equation.{Texts}
use Rattle.paper.specs.Situation.{Acceptor, Situation, set_of, strike, put_before, put_before_all}
use Rattle.paper.specs.Decides.{Decides}
use Rattle.paper_laws.proofs.equations.Standing.{stands, struck_stands, strike_stands, put_stands}
use Rattle.paper_laws.proofs.equations.Labels.{Put, label_strike, label_put}
use Rattle.paper_laws.proofs.equations.Weight.{weight_of, weight_put_le, weight_put_lt}
use Rattle.paper_laws.proofs.equations.Solution.{Takes, Solution, takes_none, takes_more, takes_rest, takes_in_range}

module _ {P : Type 0} (A : Acceptor P) where
  -- the sets after a step
  strike_set : (g f : ℕ) (s : Situation P) → eqb g f ≡ false → set_of A (strike A f s) g ≡ set_of A s g
  unfolding strike
  strike_set g f s n = get_or-set_other s.sets f g A.gone A.gone (eqb_false g f n)

  put_set : (g c f : ℕ) (s : Situation P) → f ≡ g → g < length s.sets
      → set_of A (put_before A c f s) g ≡ A.set_after g (set_of A s g) c
  unfolding put_before
  put_set g c f s e h = rw e (get_or-set_same s.sets g (A.set_after g (set_of A s g) c) A.gone h)

  put_other_set : (g c f : ℕ) (s : Situation P) → eqb f g ≡ false → set_of A (put_before A c f s) g ≡ set_of A s g
  unfolding put_before
  put_other_set g c f s n =
      get_or-set_other s.sets f g (A.set_after f (set_of A s f) c) A.gone (λ e. eqb_false f g n (sym e))

  put_sets_length : (c f : ℕ) (s : Situation P) → length (put_before A c f s).sets ≡ length s.sets
  unfolding put_before
  put_sets_length c f s = length-set s.sets f (A.set_after f (set_of A s f) c)

  -- a strike of a field with the empty text
  pub solution_struck : (texts : Texts) (f : ℕ) (s : Situation P) → texts f ≡ [] → Solution A s texts → Solution A (strike A f s) texts
  unfolding strike
  solution_struck texts f s n x =
      record {
        same_label = label_strike texts f s.left n ∙ x.same_label ∙ sym (label_strike texts f s.right n);
        takes = λ g e. by_bool (eqb g f)
            (λ q. absurd (true_false e (subst (λ (h : ℕ). stands h (strike A f s) ≡ false) (sym (eqb_true g f q)) (struck_stands A f s))))
            (λ q. subst (λ (p : P). Takes A g p (texts g)) (sym (strike_set g f s q)) (x.takes g (sym (strike_stands A g f s q) ∙ e)));
      }

  pub struck_solution : (texts : Texts) (f : ℕ) (s : Situation P) → texts f ≡ [] → A.may_end f (set_of A s f) ≡ true
      → Solution A (strike A f s) texts → Solution A s texts
  unfolding strike
  struck_solution texts f s n m x =
      record {
        same_label = sym (label_strike texts f s.left n) ∙ x.same_label ∙ label_strike texts f s.right n;
        takes = λ g e. by_bool (eqb g f)
            (λ q. subst (λ (h : ℕ). Takes A h (set_of A s h) (texts h)) (sym (eqb_true g f q)) (rw n (takes_none A f (set_of A s f) m)))
            (λ q. subst (λ (p : P). Takes A g p (texts g)) (strike_set g f s q) (x.takes g (strike_stands A g f s q ∙ e)));
      }

module _ {P : Type 0} (A : Acceptor P) {Holds : ℕ → List ℕ → Type 0} (D : Decides A Holds) where
  -- the field takes a text with c in front before the put, and the rest after it
  takes_after_put : (g c f : ℕ) (s : Situation P) (w : List ℕ) → f ≡ g → Takes A g (set_of A s g) (c ∷ w)
      → Takes A g (set_of A (put_before A c f s) g) w
  takes_after_put g c f s w e t =
      rw (put_set A g c f s e (takes_in_range A D g s.sets (c ∷ w) t)) (takes_rest A g (set_of A s g) c w t)

  takes_before_put : (g c f : ℕ) (s : Situation P) (w : List ℕ) → f ≡ g → c < A.characters → Takes A g (set_of A (put_before A c f s) g) w
      → Takes A g (set_of A s g) (c ∷ w)
  takes_before_put g c f s w e h t =
      let known : g < length s.sets = rw (put_sets_length A c f s) at (takes_in_range A D g (put_before A c f s).sets w t) in
      takes_more A g (set_of A s g) c w h (rw (put_set A g c f s e known) at t)

  -- a put that takes its character from the field's text
  solution_put : (before after : Texts) (c f : ℕ) (s : Situation P) → Put c f before after → Solution A s before
      → Solution A (put_before A c f s) after
  unfolding put_before
  solution_put before after c f s p x =
      record {
        same_label = label_put before after c f s.left p ∙ x.same_label ∙ sym (label_put before after c f s.right p);
        takes = λ g e.
            let t = rw (p g) at (x.takes g (sym (put_stands A g c f s) ∙ e)) in
            by_bool (eqb f g)
            (λ q. takes_after_put g c f s (after g) (eqb_true f g q) (rw q at t))
            (λ q. rw (put_other_set A g c f s q) (rw q at t));
      }

  put_solution : (before after : Texts) (c f : ℕ) (s : Situation P) → Put c f before after → c < A.characters
      → Solution A (put_before A c f s) after → Solution A s before
  unfolding put_before
  put_solution before after c f s p h x =
      record {
        same_label = sym (label_put before after c f s.left p) ∙ x.same_label ∙ label_put before after c f s.right p;
        takes = λ g e.
            let t = x.takes g (put_stands A g c f s ∙ e) in
            rw (p g)
            (by_bool (eqb f g)
            (λ q. rw q (takes_before_put g c f s (after g) (eqb_true f g q) h t))
            (λ q. rw q (rw (put_other_set A g c f s q) at t)));
      }

-- the texts `before` are the texts `after` with c in front of the text of each of the fields
abbrev pub Puts : ℕ → List ℕ → Texts → Texts → Type 0
Puts c fs before after = (g : ℕ) → before g ≡ only (member g fs) c ++ after g

-- the texts with c in front of those of the fields
abbrev pub with_puts : ℕ → List ℕ → Texts → Texts
with_puts c fs after g = only (member g fs) c ++ after g

-- one field after another
first_put : (c f : ℕ) (fs : List ℕ) (before after : Texts) → (Memᴰ f fs → ⊥) → Puts c (f ∷ fs) before after
    → Put c f before (with_puts c fs after)
first_put c f fs before after n p g =
    p g ∙ by_bool (eqb g f)
    (λ q. let m : member g fs ≡ false = not_true (member g fs) (λ i. n (Memᴰ.cast (sym (eqb_true g f q)) (member_true g fs i))) in
    rw (eqb_symmetric f g, q, m))
    (λ q. rw (eqb_symmetric f g, q))

module _ {P : Type 0} (A : Acceptor P) {Holds : ℕ → List ℕ → Type 0} (D : Decides A Holds) where
  pub solution_put_all : (before after : Texts) (c : ℕ) {fs : List ℕ} (s : Situation P) → NoDup fs → Puts c fs before after
      → Solution A s before → Solution A (put_before_all A c fs s) after
  solution_put_all before after c s none p x = subst (Solution A s) (fun_ext p) x
  solution_put_all before after c s (more {x = f} {l = fs} n d) p x =
      solution_put_all (with_puts c fs after) after c (put_before A c f s) d (λ g. refl)
      (solution_put A D before (with_puts c fs after) c f s (first_put c f fs before after n p) x)

  pub put_all_solution : (before after : Texts) (c : ℕ) {fs : List ℕ} (s : Situation P) → NoDup fs → Puts c fs before after
      → c < A.characters
      → Solution A (put_before_all A c fs s) after → Solution A s before
  put_all_solution before after c s none p h x = subst (Solution A s) (sym (fun_ext p)) x
  put_all_solution before after c s (more {x = f} {l = fs} n d) p h x =
      put_solution A D before (with_puts c fs after) c f s (first_put c f fs before after n p) h
      (put_all_solution (with_puts c fs after) after c (put_before A c f s) d (λ g. refl) h x)

module _ {P : Type 0} (A : Acceptor P) where
  weight_put_all : (before after : Texts) (c : ℕ) {fs : List ℕ} (s : Situation P) → NoDup fs → Puts c fs before after
      → weight_of after (put_before_all A c fs s) ≤ weight_of before s
  weight_put_all before after c s none p =
      subst (λ (t : Texts). weight_of after s ≤ weight_of t s) (sym (fun_ext p)) (le_refl (weight_of after s))
  weight_put_all before after c s (more {x = f} {l = fs} n d) p =
      let i = weight_put_all (with_puts c fs after) after c (put_before A c f s) d (λ g. refl) in
      omega (arith, i, weight_put_le A before (with_puts c fs after) c f s (first_put c f fs before after n p))

  -- strictly, if one of them stands
  pub weight_put_some : (before after : Texts) (c : ℕ) {f : ℕ} {fs : List ℕ} (s : Situation P) → NoDup fs → Puts c fs before after
      → Memᴰ f fs → stands f s ≡ true
      → weight_of after (put_before_all A c fs s) < weight_of before s
  weight_put_some before after c s (more {x = g} {l = fs} n d) p (Memᴰ.head q) e =
      let i = weight_put_all (with_puts c fs after) after c (put_before A c g s) d (λ h. refl) in
      omega (arith, i, weight_put_lt A before (with_puts c fs after) c g s (first_put c g fs before after n p) (rw q at e))
  weight_put_some before after c {f} s (more {x = g} {l = fs} n d) p (Memᴰ.tail m) e =
      let i = weight_put_some (with_puts c fs after) after c (put_before A c g s) d (λ h. refl) m (put_stands A f c g s ∙ e) in
      omega (arith, i, weight_put_le A before (with_puts c fs after) c g s (first_put c g fs before after n p))
  weight_put_some before after c {f = f} s none p x7 e = elim x7 [ ]
