-- In a plain question every situation that is reached has tails of the question's sides, a reachable set at each field in front,
-- first sets behind, and no other set: the question has, and every child of one that has. So no child is longer than the question.
-- What a step does to a side where its field doesn't stand is nothing; what it does to the front is dropped by trimming.
-- Follows from the laws of tails, by cases on the two fronts.
use Prim.Native.Nat.{ℕ, ◌≤◌, ◌<◌}
use native.Mathlib.Omega.{arith}
use mathlib.Core.Path.{◌≡◌, refl, sym, ◌∙◌}
use mathlib.Core.Logic.{⊎_elim}
use mathlib.Core.Bool.{true, false, cond, not}
use mathlib.Core.List.{List, [], ◌∷◌, ◌++◌, map, Memᴰ}
use lib.Dec.{eqb, ltb}
use lib.ListN.{length, get_or, set, length-set, length-map, get_or-eq_default}
use lib.Seq.{get_or-set_same, get_or-set_other}
use Rattle.paper.specs.Lists.{upto}
use Rattle.paper.proofs.base.Tests.{by_bool, cond_by, cond_true, cond_false, true_false, not_true, not_is_true, right_true, or_left_false, or_right_false, both_false, ltb_true, ltb_false, eqb_true, eqb_same, eqb_false, eqb_symmetric}
use Rattle.paper.proofs.base.Lists.{cons_eq, any_append, length_from}
use Rattle.paper.specs.Search.{Child, child, long}
use Rattle.paper.specs.Equation.{chr, fld, Side, is_field, stands_in}
use Rattle.paper.specs.Situation.{Acceptor, Situation, Sides, trim, strike_in, put_in, Move, strike_left, strike_right, put, trimmed, strike, put_before, moved, front_takes, children, question}
use Rattle.paper.specs.Plain.{Reaches}
use Rattle.paper_laws.proofs.plain.Tails.{whole, tail_rest, tail_length, tail_stands, tail_once, front_once, stands_front, stands_left, stands_right, Plain, swap_plain}
use Rattle.paper_laws.proofs.plain.Standings.{Fresh, Stands, Reached}
use Rattle.paper.proofs.base.Listed.{get_or_map_upto}
use Rattle.paper.specs.Children.{ChildOf}
use Rattle.paper_laws.proofs.equations.Children.{child_of, long_of}
use Rattle.paper_laws.proofs.equations.Moves.{Opened, strikes_left, strikes_right, puts, child_opened}

-- a field that doesn't stand in a side changes nothing there
strike_none : (f : ℕ) (side : Side) → stands_in f side ≡ false → strike_in f side ≡ side
strike_none f [] n = refl
strike_none f (chr a ∷ t) n = cons_eq refl (strike_none f t n)
strike_none f (fld g ∷ t) n =
    rw (or_left_false (eqb f g) (stands_in f t) n) (cons_eq refl (strike_none f t (or_right_false (eqb f g) (stands_in f t) n)))

put_none : (c f : ℕ) (side : Side) → stands_in f side ≡ false → put_in c f side ≡ side
put_none c f [] n = refl
put_none c f (chr a ∷ t) n = cons_eq refl (put_none c f t n)
put_none c f (fld g ∷ t) n =
    rw (or_left_false (eqb f g) (stands_in f t) n) (cons_eq refl (put_none c f t (or_right_false (eqb f g) (stands_in f t) n)))

module _ {P : Type 0} (A : Acceptor P) (reach : ℕ → List P) where
  -- a set given to a field that doesn't stand in a side changes nothing there
  fresh_other :
      (sets : List P) (f : ℕ) (s : P) (side : Side)
      → stands_in f side ≡ false → Fresh A reach sets side → Fresh A reach (set sets f s) side
  fresh_other sets f s side n h g e =
      get_or-set_other sets f g s A.gone (λ q. true_false (rw q at e) n) ∙ h g e

  stands_other :
      (sets : List P) (f : ℕ) (s : P) (side : Side)
      → stands_in f side ≡ false → Stands A reach sets side → Stands A reach (set sets f s) side
  stands_other sets f s [] n h = tt
  stands_other sets f s (chr a ∷ t) n h = fresh_other sets f s t n h
  stands_other sets f s (fld g ∷ t) n h = (
    rw (get_or-set_other sets f g s A.gone (λ q. eqb_false f g (or_left_false (eqb f g) (stands_in f t) n) (sym q))) h.0,
    fresh_other sets f s t (or_right_false (eqb f g) (stands_in f t) n) h.1,
  )

  -- first sets are reachable, so a side all of whose fields have them stands
  fresh_stands :
      (sets : List P) (side : Side)
      → Reaches A reach → ((f : ℕ) → stands_in f side ≡ true → f < A.fields)
      → Fresh A reach sets side → Stands A reach sets side
  fresh_stands sets [] R b h = tt
  fresh_stands sets (chr a ∷ t) R b h = h
  fresh_stands sets (fld f ∷ t) R b h =
      (rw (h f (stands_front f t)) (R.first f (b f (stands_front f t))), λ g e. h g (right_true (eqb g f) (stands_in g t) e))

-- left and right are alike
swap_reached :
    {P : Type 0} {A : Acceptor P} {reach : ℕ → List P} {l₀ r₀ : Side} {sets : List P} {l r : Side}
    → Reached A reach l₀ r₀ sets l r → Reached A reach r₀ l₀ sets r l
swap_reached h =
    record {
      left_tail = h.right_tail;
      right_tail = h.left_tail;
      sets_length = h.sets_length;
      left_stands = h.right_stands;
      right_stands = h.left_stands;
      others_gone = λ f p q. h.others_gone f q p;
    }

-- a field in front of the left side: it stands nowhere else, and it may be struck or given another set
module _
    {P : Type 0} {A : Acceptor P} {reach : ℕ → List P} (R : Reaches A reach)
    {l₀ r₀ : Side} (S : Plain A.fields l₀ r₀)
    {sets : List P} {f : ℕ} {t r : Side} (h : Reached A reach l₀ r₀ sets (fld f ∷ t) r)
  where
    left_front_below : f < A.fields
    left_front_below = S.left_below f (tail_stands f h.left_tail (stands_front f t))

    not_behind : stands_in f t ≡ false
    not_behind = front_once f t (tail_once h.left_tail S.left_once)

    not_right : stands_in f r ≡ false
    not_right =
        not_true (stands_in f r)
        (λ e. S.apart f (tail_stands f h.left_tail (stands_front f t)) (tail_stands f h.right_tail e))

    same_length : (s : P) → length (set sets f s) ≡ A.fields
    same_length s = length-set sets f s ∙ h.sets_length

    new_set : (s : P) → get_or (set sets f s) f A.gone ≡ s
    new_set s = get_or-set_same sets f s A.gone (rw h.sets_length left_front_below)

    struck_left : Reached A reach l₀ r₀ (set sets f A.gone) t r
    struck_left =
        record {
          left_tail = tail_rest h.left_tail;
          right_tail = h.right_tail;
          sets_length = same_length A.gone;
          left_stands =
              fresh_stands A reach (set sets f A.gone) t R
              (λ g e. S.left_below g (tail_stands g (tail_rest h.left_tail) e))
              (fresh_other A reach sets f A.gone t not_behind h.left_stands.1);
          right_stands = stands_other A reach sets f A.gone r not_right h.right_stands;
          others_gone = λ g p q.
              by_bool (eqb g f)
              (λ e. rw (eqb_true g f e) (new_set A.gone))
              (λ e. get_or-set_other sets f g A.gone A.gone (eqb_false g f e) ∙ h.others_gone g (both_false e p) q);
        }

    given_left : (s : P) → Memᴰ s (reach f) → Reached A reach l₀ r₀ (set sets f s) (fld f ∷ t) r
    given_left s d =
        record {
          left_tail = h.left_tail;
          right_tail = h.right_tail;
          sets_length = same_length s;
          left_stands = (rw (new_set s) d, fresh_other A reach sets f s t not_behind h.left_stands.1);
          right_stands = stands_other A reach sets f s r not_right h.right_stands;
          others_gone = λ g p q.
              get_or-set_other sets f g s A.gone (eqb_false g f (or_left_false (eqb g f) (stands_in g t) p)) ∙ h.others_gone g p q;
        }

module _ {P : Type 0} {A : Acceptor P} {reach : ℕ → List P} (R : Reaches A reach) where
  -- a character in front is dropped
  dropped_left :
      {l₀ r₀ : Side} {sets : List P} {a : ℕ} {l r : Side}
      → Plain A.fields l₀ r₀ → Reached A reach l₀ r₀ sets (chr a ∷ l) r → Reached A reach l₀ r₀ sets l r
  dropped_left {sets = sets} {l = l} S h =
      record {
        left_tail = tail_rest h.left_tail;
        right_tail = h.right_tail;
        sets_length = h.sets_length;
        left_stands = fresh_stands A reach sets l R (λ g e. S.left_below g (tail_stands g h.left_tail e)) h.left_stands;
        right_stands = h.right_stands;
        others_gone = h.others_gone;
      }

  dropped_right :
      {l₀ r₀ : Side} {sets : List P} {b : ℕ} {l r : Side}
      → Plain A.fields l₀ r₀ → Reached A reach l₀ r₀ sets l (chr b ∷ r) → Reached A reach l₀ r₀ sets l r
  dropped_right S h = swap_reached (dropped_left (swap_plain S) (swap_reached h))

  struck_right :
      {l₀ r₀ : Side} {sets : List P} {f : ℕ} {l t : Side}
      → Plain A.fields l₀ r₀ → Reached A reach l₀ r₀ sets l (fld f ∷ t) → Reached A reach l₀ r₀ (set sets f A.gone) l t
  struck_right S h = swap_reached (struck_left R (swap_plain S) (swap_reached h))

  given_right :
      {l₀ r₀ : Side} {sets : List P} {f : ℕ} {l t : Side}
      → Plain A.fields l₀ r₀ → Reached A reach l₀ r₀ sets l (fld f ∷ t) → (s : P) → Memᴰ s (reach f)
      → Reached A reach l₀ r₀ (set sets f s) l (fld f ∷ t)
  given_right S h s d = swap_reached (given_left R (swap_plain S) (swap_reached h) s d)

  -- the set after a character that the left front field takes
  after_left :
      {l₀ r₀ : Side} (S : Plain A.fields l₀ r₀) (sets : List P) (c : ℕ) {f : ℕ} {l r : Side}
      → Reached A reach l₀ r₀ sets (fld f ∷ l) r → c < A.characters
      → not (A.is_empty (A.set_after f (get_or sets f A.gone) c)) ≡ true
      → Memᴰ (A.set_after f (get_or sets f A.gone) c) (reach f)
  after_left S sets c {f} h b p =
      R.after f (get_or sets f A.gone) c (left_front_below R S h) b h.left_stands.0 (not_is_true p)

  module _ {l₀ r₀ : Side} (S : Plain A.fields l₀ r₀) where
    abbrev pub ReachedAt : Situation P → Type 0
    ReachedAt s = Reached A reach l₀ r₀ s.sets s.left s.right

    trim_reached : (sets : List P) (l r : Side) → Reached A reach l₀ r₀ sets l r → Reached A reach l₀ r₀ sets (trim l r).l (trim l r).r
    trim_reached sets [] r h = h
    trim_reached sets (fld f ∷ l) r h = h
    trim_reached sets (chr a ∷ l) [] h = h
    trim_reached sets (chr a ∷ l) (fld g ∷ r) h = h
    trim_reached sets (chr a ∷ l) (chr b ∷ r) h =
        cond_by (λ (x : Sides). Reached A reach l₀ r₀ sets x.l x.r) (eqb a b)
        (λ e. trim_reached sets l r (dropped_right S (dropped_left S h)))
        (λ e. h)

    trimmed_reached : (s : Situation P) → ReachedAt s → ReachedAt (trimmed A s)
    unfolding trimmed
    trimmed_reached s h = trim_reached s.sets s.left s.right h

    -- the moves: a strike of either front
    strike_left_reached :
        (sets : List P) (l r : Side)
        → Reached A reach l₀ r₀ sets l r → ReachedAt (moved A (record { left = l; right = r; sets = sets }) strike_left)
    unfolding strike
    strike_left_reached sets [] r h = h
    strike_left_reached sets (chr a ∷ t) r h = h
    strike_left_reached sets (fld f ∷ t) r h =
        rw (eqb_same f, strike_none f t (not_behind R S h), strike_none f r (not_right R S h)) (struck_left R S h)

    strike_right_reached :
        (sets : List P) (l r : Side)
        → Reached A reach l₀ r₀ sets l r → ReachedAt (moved A (record { left = l; right = r; sets = sets }) strike_right)
    unfolding strike
    strike_right_reached sets l [] h = h
    strike_right_reached sets l (chr b ∷ t) h = h
    strike_right_reached sets l (fld g ∷ t) h =
        let k = swap_reached h in
        rw (eqb_same g, strike_none g t (not_behind R (swap_plain S) k), strike_none g l (not_right R (swap_plain S) k)) (struck_right S h)

    -- c put before the front fields: both sides then have c in front, and trimming drops it
    put_reached :
        (sets : List P) (c : ℕ) (l r : Side)
        → Reached A reach l₀ r₀ sets l r
        → c < A.characters
        → front_takes A (record { left = l; right = r; sets = sets }) c l ≡ true
        → front_takes A (record { left = l; right = r; sets = sets }) c r ≡ true
        → ReachedAt (trimmed A (moved A (record { left = l; right = r; sets = sets }) (put c)))
    unfolding put_before trimmed
    put_reached sets c [] r h b p q = absurd (true_false p refl)
    put_reached sets c (chr a ∷ l) [] h b p q = absurd (true_false q refl)
    put_reached sets c (fld f ∷ l) [] h b p q = absurd (true_false q refl)
    put_reached sets c (chr a ∷ l) (chr d ∷ r) h b p q = trim_reached sets (chr a ∷ l) (chr d ∷ r) h
    put_reached sets c (fld f ∷ l) (chr d ∷ r) h b p q =
        rw (eqb_same f, put_none c f l (not_behind R S h), put_none c f r (not_right R S h), eqb_symmetric c d, q)
        (dropped_right S (given_left R S h (A.set_after f (get_or sets f A.gone) c) (after_left S sets c h b p)))
    put_reached sets c (chr a ∷ l) (fld g ∷ r) h b p q =
        let k = swap_reached h in
        rw (eqb_same g, put_none c g r (not_behind R (swap_plain S) k), put_none c g l (not_right R (swap_plain S) k), p)
        (trim_reached (set sets g (A.set_after g (get_or sets g A.gone) c)) l (fld g ∷ r)
        (dropped_left S (given_right S h (A.set_after g (get_or sets g A.gone) c) (after_left (swap_plain S) sets c k b q))))
    put_reached sets c (fld f ∷ l) (fld g ∷ r) h b p q =
        let k = swap_reached h in
        let n : eqb f g ≡ false = or_left_false (eqb f g) (stands_in f r) (not_right R S h) in
        let m : eqb g f ≡ false = eqb_symmetric g f ∙ n in
        let v = A.set_after f (get_or sets f A.gone) c in
        let u = A.set_after g (get_or sets g A.gone) c in
        rw (
          m,
          n,
          eqb_same f,
          m,
          eqb_same g,
          eqb_same c,
          put_none c f l (not_behind R S h),
          put_none c g l (or_right_false (eqb g f) (stands_in g l) (not_right R (swap_plain S) k)),
          put_none c f r (or_right_false (eqb f g) (stands_in f r) (not_right R S h)),
          put_none c g r (not_behind R (swap_plain S) k),
          get_or-set_other sets f g v A.gone (eqb_false g f m),
        )
        (given_right S (given_left R S h v (after_left S sets c h b p)) u (after_left (swap_plain S) sets c k b q))

    moved_reached : {m : Move} (s : Situation P) → ReachedAt s → Opened A s m → ReachedAt (trimmed A (moved A s m))
    moved_reached s h (strikes_left e) =
        trimmed_reached (moved A s strike_left) (strike_left_reached s.sets s.left s.right h)
    moved_reached s h (strikes_right e) =
        trimmed_reached (moved A s strike_right) (strike_right_reached s.sets s.left s.right h)
    moved_reached s h (puts {c = c} b p q) = put_reached s.sets c s.left s.right h b p q

    module _ (limit : ℕ) where
      -- a child is reached; it is too long only if the question is
      abbrev pub Kept : Child (Situation P) Move → Type 0
      Kept long = length l₀ ≤ limit → length r₀ ≤ limit → ⊥
      Kept (child m t) = ReachedAt t

      made_reached : (s : Situation P) (m : Move) (t : Situation P) → ReachedAt s → ChildOf A s m t → ReachedAt t
      made_reached s m t h c = rw c.makes (moved_reached s h (child_opened A s c))

      pub children_kept : (s : Situation P) (k : Child (Situation P) Move) → ReachedAt s → Memᴰ k (children A limit s) → Kept k
      children_kept s long h d =
          λ p q.
          let (m, t, c, above) = long_of A limit s d in
          let g = made_reached s m t h c in
          ⊎_elim (λ k. omega (arith, tail_length g.left_tail)) (λ k. omega (arith, tail_length g.right_tail)) above
      children_kept s (child m t) h d = made_reached s m t h (child_of A limit s d)

-- the question itself
module _ {P : Type 0} {A : Acceptor P} {reach : ℕ → List P} (R : Reaches A reach) {l r : Side} (S : Plain A.fields l r) where
  first_sets : List P
  first_sets = map (λ (f : ℕ). cond (stands_in f (l ++ r)) (A.first_set f) A.gone) (upto A.fields)

  first_set_of : (f : ℕ) → f < A.fields → stands_in f (l ++ r) ≡ true → get_or first_sets f A.gone ≡ A.first_set f
  unfolding first_sets
  first_set_of f b e =
      get_or_map_upto (λ (f : ℕ). cond (stands_in f (l ++ r)) (A.first_set f) A.gone) A.gone A.fields f b
      ∙ cond_true (stands_in f (l ++ r)) (A.first_set f) A.gone e

  gone_of : (f : ℕ) → stands_in f l ≡ false → stands_in f r ≡ false → get_or first_sets f A.gone ≡ A.gone
  unfolding first_sets
  gone_of f p q =
      by_bool (ltb f A.fields)
      (λ e.
      get_or_map_upto (λ (f : ℕ). cond (stands_in f (l ++ r)) (A.first_set f) A.gone) A.gone A.fields f (ltb_true f A.fields e)
      ∙ cond_false (stands_in f (l ++ r)) (A.first_set f) A.gone (any_append (is_field f) l r ∙ both_false p q))
      (λ e. get_or-eq_default first_sets A.gone (rw (length-map, length_from) (ltb_false f A.fields e)))

  pub question_reached : ReachedAt R S (question A l r)
  unfolding question first_sets
  question_reached =
      trimmed_reached R S (record { left = l; right = r; sets = first_sets })
      (record {
        left_tail = whole;
        right_tail = whole;
        sets_length = rw (length-map, length_from);
        left_stands =
            fresh_stands A reach first_sets l R S.left_below
            (λ f e. first_set_of f (S.left_below f e) (stands_left f l r e));
        right_stands =
            fresh_stands A reach first_sets r R S.right_below
            (λ f e. first_set_of f (S.right_below f e) (stands_right f l r e));
        others_gone = gone_of;
      })
