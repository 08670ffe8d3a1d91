-- An open situation with a solution has a move to one with a smaller solution; a dead situation has none.
-- The move is read off the fronts of the sides: a front field with the empty text is struck, else both labels begin with one character
-- and it is put. Smaller is meant by the weight. Follows, by how the sides begin, from the laws of strikes and puts.
use Prim.Native.Nat.{ℕ, ◌<◌}
use mathlib.Core.Path.{◌≡◌, refl, sym, ◌∙◌, subst}
use mathlib.Core.Bool.{true, false, cond}
use mathlib.Core.List.Memᴰ
use mathlib.Core.List.{List, [], ◌∷◌, ◌++◌, tail, Memᴰ, nil≢cons, head-eq_of_cons-eq}
use lib.Dec.{eqb}
use Rattle.paper.specs.Lists.{any, member}
use Rattle.paper.proofs.base.Tests.{never, by_bool, left_true, right_true, eqb_same, eq_eqb}
use Rattle.paper.proofs.base.Lists.{any_append, member_true}
use Rattle.paper.specs.Equation.{chr, fld, Side, Texts, label, is_field, stands_in}
use Rattle.paper.specs.Situation.{Acceptor, Situation, trim, is_dead, is_open, kind_of, Move, strike_left, strike_right, put, front_field, front_fields, set_of, trimmed, kind, moved, front_takes, open_moves}
use Rattle.paper.specs.Decides.{Decides}
use Rattle.paper_laws.proofs.equations.Standing.{stands}
use Rattle.paper_laws.proofs.equations.Weight.{weight_of, weight_struck}
use Rattle.paper_laws.proofs.equations.Solution.{Solution}
use Rattle.paper_laws.proofs.equations.Steps.{Puts, solution_struck, solution_put_all, weight_put_some}
use Rattle.paper_laws.proofs.equations.Moves.{front_fields_stand, front_fields_different, open_strike_left, open_strike_right, open_put}
use Rattle.paper_laws.proofs.equations.Fronts.{HasFront, open_front, Starts, Front, ends, strikes, starts, front, starts_label, not_front, fronts_start, may_end_now, starts_takes}

dead_labels : (texts : Texts) (l r : Side) → kind_of l r ≡ is_dead → label texts l ≡ label texts r → ⊥
dead_labels texts [] [] k e = never (cc)
dead_labels texts [] (chr b ∷ r) k e = nil≢cons e
dead_labels texts [] (fld g ∷ r) k e = never (cc)
dead_labels texts (fld f ∷ l) r k e = never (cc)
dead_labels texts (chr a ∷ l) [] k e = nil≢cons (sym e)
dead_labels texts (chr a ∷ l) (fld g ∷ r) k e = never (cc)
dead_labels texts (chr a ∷ l) (chr b ∷ r) k e =
    let q : eqb a b ≡ true = eq_eqb a b (head-eq_of_cons-eq e) in
    let z : is_open ≡ is_dead = rw q at k in never (cc)

module _ {P : Type 0} (A : Acceptor P) where
  -- A dead situation has no solution.
  pub dead_unsolved : (s : Situation P) (texts : Texts) → kind A s ≡ is_dead → Solution A s texts → ⊥
  dead_unsolved s texts k x = dead_labels texts s.left s.right k x.same_label

  pub record Progress (s : Situation P) (texts : Texts) : Type 0 where
    pub move : Move
    pub is_move : Memᴰ move (open_moves A s)
    pub after : Texts
    pub solution : Solution A (moved A s move) after
    pub smaller : weight_of after (moved A s move) < weight_of texts s

  abbrev situation : Side → Side → List P → Situation P
  situation l r q = record { left = l; right = r; sets = q }

  progress_left : (f : ℕ) (l r : Side) (q : List P) (texts : Texts) → texts f ≡ [] → Solution A (situation (fld f ∷ l) r q) texts
      → Progress (situation (fld f ∷ l) r q) texts
  progress_left f l r q texts n x =
      let s = situation (fld f ∷ l) r q in
      let e : stands f s ≡ true = left_true (eqb f f) (stands_in f (l ++ r)) (eqb_same f) in
      record {
        move = strike_left;
        is_move = open_strike_left A s (left_true (A.may_end f (set_of A s f)) false (may_end_now A s texts f n x e));
        after = texts;
        solution = solution_struck A texts f s n x;
        smaller = weight_struck A texts f s e;
      }

  progress_right : (g : ℕ) (l r : Side) (q : List P) (texts : Texts) → texts g ≡ [] → any (eqb g) (front_field l) ≡ false
      → Solution A (situation l (fld g ∷ r) q) texts → Progress (situation l (fld g ∷ r) q) texts
  progress_right g l r q texts n o x =
      let s = situation l (fld g ∷ r) q in
      let here : stands_in g (fld g ∷ r) ≡ true = left_true (eqb g g) (stands_in g r) (eqb_same g) in
      let e : stands g s ≡ true = any_append (is_field g) l (fld g ∷ r) ∙ right_true (stands_in g l) (stands_in g (fld g ∷ r)) here in
      let m : A.may_end g (set_of A s g) ≡ true = may_end_now A s texts g n x e in
      record {
        move = strike_right;
        is_move = open_strike_right A s (rw o (left_true (A.may_end g (set_of A s g)) false m));
        after = texts;
        solution = solution_struck A texts g s n x;
        smaller = weight_struck A texts g s e;
      }

module _ {P : Type 0} (A : Acceptor P) {Holds : ℕ → List ℕ → Type 0} (D : Decides A Holds) where
  progress_put : (c : ℕ) (l r : Side) (q : List P) (texts : Texts) → Starts texts c l → Starts texts c r → HasFront l r
      → Solution A (situation A l r q) texts → Progress A (situation A l r q) texts
  progress_put c l r q texts h k (f, d) x =
      record {
        move = put c;
        is_move = open_put A c s below takes_left takes_right;
        after = after;
        solution = solution_put_all A D texts after c s (front_fields_different l r) puts x;
        smaller = weight_put_some A texts after c s (front_fields_different l r) puts d (front_fields_stand f l r d);
      }
    where
      s : Situation P
      s = situation A l r q

      after : Texts
      after g = cond (member g (front_fields l r)) (tail (texts g)) (texts g)

      puts : Puts c (front_fields l r) texts after
      puts g =
          by_bool (member g (front_fields l r))
          (λ e. let (w, i) = fronts_start l r h k g (member_true g (front_fields l r) e) in rw (e, i))
          (λ e. rw e)

      below : c < A.characters
      below =
          let (w, i) = fronts_start l r h k f d in
          (rw i at (x.takes f (front_fields_stand f l r d)).over) c (Memᴰ.head refl)

      takes_left : front_takes A s c l ≡ true
      takes_left = starts_takes A D s h (λ g e. x.takes g (any_append (is_field g) l r ∙ left_true (stands_in g l) (stands_in g r) e))

      takes_right : front_takes A s c r ≡ true
      takes_right = starts_takes A D s k (λ g e. x.takes g (any_append (is_field g) l r ∙ right_true (stands_in g l) (stands_in g r) e))

  progress : {l r : Side} (q : List P) (texts : Texts) → Front texts l → Front texts r → HasFront l r
      → Solution A (situation A l r q) texts → Progress A (situation A l r q) texts
  progress {r = r} q texts (strikes {f = f} {side = l} e) k i x = progress_left A f l r q texts e x
  progress q texts ends ends i x = absurd (Memᴰ.not-nil i.1)
  progress q texts ends (strikes {f = g} {side = r} e) i x = progress_right A g [] r q texts e refl x
  progress q texts ends (starts k) i x = absurd (nil≢cons (x.same_label ∙ (starts_label k).1))
  progress q texts (starts h) ends i x = absurd (nil≢cons (sym x.same_label ∙ (starts_label h).1))
  progress {l} q texts (starts h) (strikes {f = g} {side = r} e) i x = progress_right A g l r q texts e (not_front h g e) x
  progress {l} {r} q texts (starts {c = c} h) (starts {c = d} k) i x =
      let e : d ≡ c = head-eq_of_cons-eq (sym (starts_label k).1 ∙ sym x.same_label ∙ (starts_label h).1) in
      progress_put c l r q texts h (subst (λ (b : ℕ). Starts texts b r) e k) i x

  -- An open situation with a solution has a move to one with a smaller solution.
  pub open_progress : (s : Situation P) (texts : Texts) → kind A (trimmed A s) ≡ is_open → Solution A (trimmed A s) texts
      → Progress A (trimmed A s) texts
  unfolding trimmed
  open_progress s texts k x =
      let t = trim s.left s.right in
      progress s.sets texts (front texts t.l) (front texts t.r) (open_front s.left s.right k) x
