-- The step that the rule picks:
--   next_wanted   : of an open situation that the texts solve it is a move
--   picked        : what it rests on: a field that it strikes has no text left, a character that it puts is the next one of both sides
--   solved_behind : what is left of the texts solves what the step makes
--   given_behind  : with what the step gives they are the texts
-- Follows, by how the sides begin, from the laws of strikes and puts.
use Prim.Native.Nat.{ℕ}
use native.Mathlib.Omega.{arith}
use mathlib.Core.Path.{◌≡◌, refl, sym, ◌∙◌, subst}
use mathlib.Core.Bool.{true, false}
use mathlib.Core.List.Memᴰ
use mathlib.Core.List.{List, [], ◌∷◌, ◌++◌, Memᴰ, nil≢cons, head-eq_of_cons-eq}
use lib.Dec.{eqb}
use lib.ListN.{length}
use Rattle.paper.specs.Lists.{any, member}
use Rattle.paper.specs.Places.{PlaceSet}
use Rattle.paper.specs.Equation.{fld, Side, Texts, label, is_field, stands_in}
use Rattle.paper.specs.Situation.{Acceptor, Situation, trim, is_open, Move, strike_left, strike_right, put, front_field, front_fields, set_of, trimmed, kind, put_before, put_before_all, moved, open_moves}
use Rattle.paper.specs.Decides.{Decides}
use Rattle.paper.specs.Way.{given}
use Rattle.paper.proofs.base.Tests.{by_bool, cond_by, true_false, left_true, right_true, eqb_true, eqb_same, eq_eqb, neq_eqb}
use Rattle.paper.proofs.base.Lists.{any_append, member_true}
use Rattle.paper_laws.proofs.equations.Standing.{stands, strike_stands, put_stands}
use Rattle.paper_laws.proofs.equations.Solution.{Solution}
use Rattle.paper_laws.proofs.equations.Steps.{Puts, solution_struck, solution_put_all}
use Rattle.paper_laws.proofs.equations.Moves.{front_fields_stand, front_fields_different, Opened, puts, open_strike_left, open_strike_right, open_put}
use Rattle.paper_laws.proofs.equations.Fronts.{HasFront, open_front, Starts, by_character, by_field, Front, ends, strikes, starts, front, starts_label, not_front, fronts_start, may_end_now, starts_takes}
use Rattle.paper_way.specs.TextSteps.{used_up, no_character, next_character, Next, no_step, next, next_step, texts_behind}

module _ (texts : Texts) where
  struck_used : (f : ℕ) (side : Side) → texts f ≡ [] → used_up texts (fld f ∷ side) ≡ true
  struck_used f side e = rw e

  starts_used : {c : ℕ} {side : Side} → Starts texts c side → used_up texts side ≡ false
  starts_used (by_character e) = refl
  starts_used {c} (by_field {f = f} {w = w} e) = rw e (neq_eqb (length (c ∷ w)) 0 (λ (h : length (c ∷ w) ≡ 0). omega arith))

  starts_next : {c : ℕ} {side : Side} → Starts texts c side → next_character texts side ≡ c
  starts_next (by_character e) = e
  starts_next (by_field e) = rw e

  pub puts_start : (c : ℕ) (s : Situation PlaceSet) → Starts texts c s.left → Starts texts c s.right
      → Puts c (front_fields s.left s.right) texts (texts_behind texts s (put c))
  puts_start c s h k g =
      by_bool (member g (front_fields s.left s.right))
      (λ e. let (w, i) = fronts_start s.left s.right h k g (member_true g (front_fields s.left s.right) e) in rw (e, i))
      (λ e. rw e)

  -- what the step that is picked rests on
  pub data Picked : Side → Side → Next → Type 0 where
    picks_left : {f : ℕ} {l r : Side} → texts f ≡ [] → Picked (fld f ∷ l) r (next strike_left)
    picks_right : {g : ℕ} {l r : Side} → texts g ≡ [] → any (eqb g) (front_field l) ≡ false → Picked l (fld g ∷ r) (next strike_right)
    picks_put : {c : ℕ} {l r : Side} → Starts texts c l → Starts texts c r → Picked l r (next (put c))
    -- no step that makes a child: different characters, or one side is empty
    picks_none : {l r : Side} → (label texts l ≡ label texts r → ⊥) → Picked l r no_step
    left_empty : {c : ℕ} {r : Side} → (label texts [] ≡ label texts r → ⊥) → Picked [] r (next (put c))
    right_empty : {c : ℕ} {l : Side} → (label texts l ≡ label texts [] → ⊥) → Picked l [] (next (put c))
    both_empty : {c : ℕ} → Picked [] [] (next (put c))

  pub picked : (l r : Side) → Picked l r (next_step texts l r)
  unfolding next_step
  picked l r = by (front texts l) (front texts r)
    where
      by : {l r : Side} → Front texts l → Front texts r → Picked l r (next_step texts l r)
      by {r = r} (strikes {f = f} {side = l} e) k = rw (struck_used f l e) (picks_left e)
      by ends ends = both_empty
      by ends (strikes {f = g} {side = r} e) = rw (struck_used g r e) (picks_right e refl)
      by {r = r} ends (starts {c = d} k) =
          let apart : label texts [] ≡ label texts r → ⊥ = λ e. nil≢cons (e ∙ (starts_label k).1) in
          rw (starts_used k, starts_next k) (cond_by (Picked [] r) (eqb no_character d) (λ _. left_empty apart) (λ _. picks_none apart))
      by {l = l} (starts {c = c} h) ends =
          let apart : label texts l ≡ label texts [] → ⊥ = λ e. nil≢cons (sym e ∙ (starts_label h).1) in
          rw (starts_used h, starts_next h) (cond_by (Picked l []) (eqb c no_character) (λ _. right_empty apart) (λ _. picks_none apart))
      by (starts h) (strikes {f = g} {side = r} e) = rw (starts_used h, struck_used g r e) (picks_right e (not_front h g e))
      by {l = l} {r = r} (starts {c = c} h) (starts {c = d} k) =
          rw (starts_used h, starts_used k, starts_next h, starts_next k)
          (cond_by (Picked l r) (eqb c d)
          (λ e. picks_put h (subst (λ (b : ℕ). Starts texts b r) (sym (eqb_true c d e)) k))
          (λ e.
          picks_none (λ same.
          true_false (eq_eqb c d (head-eq_of_cons-eq (sym (starts_label h).1 ∙ same ∙ (starts_label k).1))) e)))

module _ (A : Acceptor PlaceSet) where
  abbrev situation : Side → Side → List PlaceSet → Situation PlaceSet
  situation l r sets = record { left = l; right = r; sets = sets }

  put_all_stands : (g c : ℕ) (fs : List ℕ) (s : Situation PlaceSet) → stands g (put_before_all A c fs s) ≡ stands g s
  put_all_stands g c [] s = refl
  put_all_stands g c (f ∷ fs) s = put_all_stands g c fs (put_before A c f s) ∙ put_stands A g c f s

  -- a side that is empty takes no character
  left_takes : {c : ℕ} {r : Side} {sets : List PlaceSet} → Opened A (situation [] r sets) (put c) → ⊥
  left_takes (puts h l r) = true_false l refl

  right_takes : {c : ℕ} {l : Side} {sets : List PlaceSet} → Opened A (situation l [] sets) (put c) → ⊥
  right_takes (puts h l r) = true_false r refl

  module _ (texts : Texts) (sets : List PlaceSet) where
    -- the characters that the step gives, and what is left behind it, are the texts
    pub given_behind : {l r : Side} {m : Move} → Picked texts l r (next m) → Opened A (situation l r sets) m
        → (f : ℕ) → given A f (situation l r sets) m ++ texts_behind texts (situation l r sets) m f ≡ texts f
    given_behind (picks_left e) o f = refl
    given_behind (picks_right e n) o f = refl
    given_behind (picks_put {c = c} {l = l} {r = r} h k) o f = sym (puts_start texts c (situation l r sets) h k f)
    given_behind (left_empty n) o f = absurd (left_takes o)
    given_behind (right_empty n) o f = absurd (right_takes o)
    given_behind both_empty o f = absurd (left_takes o)

    -- a field that stands no longer has no text left
    pub none_behind : {l r : Side} {m : Move} → Picked texts l r (next m) → Opened A (situation l r sets) m
        → ((f : ℕ) → stands f (situation l r sets) ≡ false → texts f ≡ [])
        → (f : ℕ) → stands f (moved A (situation l r sets) m) ≡ false → texts_behind texts (situation l r sets) m f ≡ []
    none_behind (picks_left {f = f} {l = l} {r = r} e) o none g n =
        by_bool (eqb g f) (λ h. rw (eqb_true g f h) e) (λ h. none g (sym (strike_stands A g f (situation (fld f ∷ l) r sets) h) ∙ n))
    none_behind (picks_right {g = f} {l = l} {r = r} e _) o none g n =
        by_bool (eqb g f) (λ h. rw (eqb_true g f h) e) (λ h. none g (sym (strike_stands A g f (situation l (fld f ∷ r) sets) h) ∙ n))
    none_behind (picks_put {c = c} {l = l} {r = r} h k) o none g n =
        let e : texts g ≡ [] = none g (sym (put_all_stands g c (front_fields l r) (situation l r sets)) ∙ n) in
        by_bool (member g (front_fields l r)) (λ m. rw (m, e)) (λ m. rw (m, e))
    none_behind (left_empty n) o none g i = absurd (left_takes o)
    none_behind (right_empty n) o none g i = absurd (right_takes o)
    none_behind both_empty o none g i = absurd (left_takes o)

module _ (A : Acceptor PlaceSet) {Holds : ℕ → List ℕ → Type 0} (D : Decides A Holds) where
  -- what is left of the texts solves what the step makes
  pub solved_behind : (texts : Texts) (sets : List PlaceSet) {l r : Side} {m : Move} → Picked texts l r (next m) → Opened A (situation A l r sets) m
      → Solution A (situation A l r sets) texts → Solution A (moved A (situation A l r sets) m) (texts_behind texts (situation A l r sets) m)
  solved_behind texts sets (picks_left {f = f} {l = l} {r = r} e) o x = solution_struck A texts f (situation A (fld f ∷ l) r sets) e x
  solved_behind texts sets (picks_right {g = g} {l = l} {r = r} e n) o x = solution_struck A texts g (situation A l (fld g ∷ r) sets) e x
  solved_behind texts sets (picks_put {c = c} {l = l} {r = r} h k) o x =
      let s = situation A l r sets in
      solution_put_all A D texts (texts_behind texts s (put c)) c s (front_fields_different l r) (puts_start texts c s h k) x
  solved_behind texts sets (left_empty n) o x = absurd (n x.same_label)
  solved_behind texts sets (right_empty n) o x = absurd (n x.same_label)
  solved_behind texts sets both_empty o x = absurd (left_takes A o)

  -- the step is a move
  pub record Wanted (s : Situation PlaceSet) (texts : Texts) : Type 0 where
    pub move : Move
    pub is_next : next_step texts s.left s.right ≡ next move
    pub is_move : Memᴰ move (open_moves A s)

  wanted : (l r : Side) (sets : List PlaceSet) (texts : Texts) {x : Next} → Picked texts l r x → next_step texts l r ≡ x → HasFront l r
      → Solution A (situation A l r sets) texts → Wanted (situation A l r sets) texts
  wanted _ r sets texts (picks_left {f = f} {l = l} n) is has x =
      let s = situation A (fld f ∷ l) r sets in
      let e : stands f s ≡ true = left_true (eqb f f) (stands_in f (l ++ r)) (eqb_same f) in
      record {
        move = strike_left;
        is_next = is;
        is_move = open_strike_left A s (left_true (A.may_end f (set_of A s f)) false (may_end_now A s texts f n x e));
      }
  wanted l _ sets texts (picks_right {g = g} {r = r} n o) is has x =
      let s = situation A l (fld g ∷ r) sets in
      let here : stands_in g (fld g ∷ r) ≡ true = left_true (eqb g g) (stands_in g r) (eqb_same g) in
      let e : stands g s ≡ true = any_append (is_field g) l (fld g ∷ r) ∙ right_true (stands_in g l) (stands_in g (fld g ∷ r)) here in
      record {
        move = strike_right;
        is_next = is;
        is_move = open_strike_right A s (rw o (left_true (A.may_end g (set_of A s g)) false (may_end_now A s texts g n x e)));
      }
  wanted l r sets texts (picks_put {c = c} h k) is (f, d) x =
      let s = situation A l r sets in
      let (w, i) = fronts_start l r h k f d in
      record {
        move = put c;
        is_next = is;
        is_move = open_put A c s ((rw i at (x.takes f (front_fields_stand f l r d)).over) c (Memᴰ.head refl))
            (starts_takes A D s h (λ g e. x.takes g (any_append (is_field g) l r ∙ left_true (stands_in g l) (stands_in g r) e)))
            (starts_takes A D s k (λ g e. x.takes g (any_append (is_field g) l r ∙ right_true (stands_in g l) (stands_in g r) e)));
      }
  wanted l r sets texts (picks_none n) is has x = absurd (n x.same_label)
  wanted _ r sets texts (left_empty n) is has x = absurd (n x.same_label)
  wanted l _ sets texts (right_empty n) is has x = absurd (n x.same_label)
  wanted _ _ sets texts both_empty is (f, d) x = absurd (Memᴰ.not-nil d)

  pub next_wanted : (s : Situation PlaceSet) (texts : Texts) → kind A (trimmed A s) ≡ is_open → Solution A (trimmed A s) texts
      → Wanted (trimmed A s) texts
  unfolding trimmed
  next_wanted s texts k x =
      let t = trim s.left s.right in
      wanted t.l t.r s.sets texts (picked texts t.l t.r) refl (open_front s.left s.right k) x
