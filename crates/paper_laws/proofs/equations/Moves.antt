-- The fronts of the sides, the moves of an open situation, and the children that they make: a child is what its move makes,
-- trimmed; a move that makes no dead situation makes a child, or one that is too long.
-- Follows from the definitions and from the laws of lists.
use Prim.Native.Nat.{ℕ, ◌<◌}
use mathlib.Core.Path.{◌≡◌, refl, sym, ◌∙◌, subst}
use mathlib.Core.Logic.{◌⊎◌, inl, inr, ⊎_elim}
use mathlib.Core.Bool.{Bool, true, false, cond, not, ◌&&◌}
use mathlib.Core.List.{List, [], ◌∷◌, ◌++◌, map, Memᴰ}
use lib.Dec.{eqb}
use Rattle.paper.specs.Lists.{any, keep, only, upto}
use Rattle.paper.proofs.base.Tests.{by_bool, true_false, both_true, and_left, and_right, not_is_true, left_true, right_true, eqb_same}
use Rattle.paper.proofs.base.Lists.{NoDup, none, more, nodup_append, nodup_keep, mem_only, only_mem, mem_keep, keep_mem, mem_map, map_mem, mem_upto, upto_mem, any_true, mem_any, any_append, each_mem}
use Rattle.paper.specs.Search.{child, long}
use Rattle.paper.specs.Equation.{chr, fld, Side, is_field, stands_in}
use Rattle.paper.specs.Situation.{Acceptor, Situation, Kind, is_finished, is_dead, is_open, Move, strike_left, strike_right, put, front_field, front_fields, set_of, trimmed, kind, moved, front_may_end, front_takes, open_moves, moves_of, side_above, kept, child_by, children}
use Rattle.paper.specs.Children.{ChildOf}
use Rattle.paper_laws.proofs.equations.Children.{child_of}

-- the field in front of the right side, if it is not the one in front of the left
abbrev pub other_front : Side → Side → List ℕ
other_front l r = keep (λ (g : ℕ). not (any (eqb g) (front_field l))) (front_field r)

-- it is in front of the right side
pub other_is_front : {f : ℕ} (l r : Side) → Memᴰ f (other_front l r) → Memᴰ f (front_field r)
other_is_front l r d = (mem_keep (λ (g : ℕ). not (any (eqb g) (front_field l))) (front_field r) d).0

-- a front field stands
front_stands : (f : ℕ) (side : Side) → Memᴰ f (front_field side) → stands_in f side ≡ true
front_stands f [] d = absurd (mathlib.Core.List.Memᴰ.not-nil d)
front_stands f (chr a ∷ side) d = absurd (mathlib.Core.List.Memᴰ.not-nil d)
front_stands f (fld g ∷ side) d =
    left_true (eqb f g) (stands_in f side) (rw (mathlib.Core.List.Memᴰ.eq_of_singleton d) (eqb_same g))

pub front_fields_stand : (f : ℕ) (l r : Side) → Memᴰ f (front_fields l r) → stands_in f (l ++ r) ≡ true
front_fields_stand f l r d =
    any_append (is_field f) l r
    ∙ ⊎_elim
    (λ (h : Memᴰ f (front_field l)). left_true (stands_in f l) (stands_in f r) (front_stands f l h))
    (λ (h : Memᴰ f (other_front l r)). right_true (stands_in f l) (stands_in f r) (front_stands f r (other_is_front l r h)))
    (mathlib.Core.List.Memᴰ.append_cases (front_field l) d)

-- the front fields are different
front_different : (side : Side) → NoDup (front_field side)
front_different [] = none
front_different (chr a ∷ side) = none
front_different (fld f ∷ side) = more mathlib.Core.List.Memᴰ.not-nil none

pub front_fields_different : (l r : Side) → NoDup (front_fields l r)
front_fields_different l r =
    nodup_append (front_different l) (nodup_keep (λ (g : ℕ). not (any (eqb g) (front_field l))) (front_different r))
    (λ f d e. let k = mem_keep (λ (g : ℕ). not (any (eqb g) (front_field l))) (front_field r) e in
    true_false (mem_any (eqb f) (front_field l) d (eqb_same f)) (not_is_true k.1))

module _ {P : Type 0} (A : Acceptor P) where
  -- the moves of an open situation, by their kinds
  abbrev fronts_take : Situation P → ℕ → Bool
  fronts_take s c = front_takes A s c s.left && front_takes A s c s.right

  abbrev strikes_of_left : Situation P → List Move
  strikes_of_left s = only (front_may_end A s (front_field s.left)) strike_left

  abbrev strikes_of_right : Situation P → List Move
  strikes_of_right s = only (front_may_end A s (other_front s.left s.right)) strike_right

  abbrev puts_of : Situation P → List Move
  puts_of s = map put (keep (fronts_take s) (upto A.characters))

  -- what each move of an open situation rests on
  pub data Opened (s : Situation P) : Move → Type 0 where
    strikes_left : front_may_end A s (front_field s.left) ≡ true → Opened s strike_left
    strikes_right : front_may_end A s (front_field s.right) ≡ true → Opened s strike_right
    puts : {c : ℕ} → c < A.characters → front_takes A s c s.left ≡ true → front_takes A s c s.right ≡ true → Opened s (put c)

  pub move_opened : {m : Move} (s : Situation P) → Memᴰ m (open_moves A s) → Opened s m
  unfolding open_moves
  move_opened {m} s d =
      ⊎_elim
      (λ (i : Memᴰ m (strikes_of_left s)).
      let (e, q) = mem_only (front_may_end A s (front_field s.left)) i in
      subst (Opened s) (sym q) (strikes_left e))
      (λ j. ⊎_elim
      (λ (i : Memᴰ m (strikes_of_right s)).
      let (e, q) = mem_only (front_may_end A s (other_front s.left s.right)) i in
      subst (Opened s) (sym q) (strikes_right (other_ends e)))
      (λ (i : Memᴰ m (puts_of s)). let (c, k, q) = mem_map put (keep (fronts_take s) (upto A.characters)) i in
      let (below, both) = mem_keep (fronts_take s) (upto A.characters) k in
      let l = front_takes A s c s.left in
      let r = front_takes A s c s.right in
      subst (Opened s) (sym q) (puts (mem_upto A.characters below) (and_left l r both) (and_right l r both)))
      (mathlib.Core.List.Memᴰ.append_cases (strikes_of_right s) j))
      (mathlib.Core.List.Memᴰ.append_cases (strikes_of_left s) d)
    where
      ends : ℕ → Bool
      ends f = A.may_end f (set_of A s f)

      other_ends : front_may_end A s (other_front s.left s.right) ≡ true → front_may_end A s (front_field s.right) ≡ true
      other_ends e =
          let (f, k, q) = any_true ends (other_front s.left s.right) e in
          mem_any ends (front_field s.right) (other_is_front s.left s.right k) q

  pub open_strike_left : (s : Situation P) → front_may_end A s (front_field s.left) ≡ true → Memᴰ strike_left (open_moves A s)
  unfolding open_moves
  open_strike_left s e = mathlib.Core.List.Memᴰ.append_left (strikes_of_right s ++ puts_of s) (only_mem (front_may_end A s (front_field s.left)) strike_left e)

  pub open_strike_right : (s : Situation P) → front_may_end A s (other_front s.left s.right) ≡ true
      → Memᴰ strike_right (open_moves A s)
  unfolding open_moves
  open_strike_right s e =
      mathlib.Core.List.Memᴰ.append_right (strikes_of_left s)
      (mathlib.Core.List.Memᴰ.append_left (puts_of s) (only_mem (front_may_end A s (other_front s.left s.right)) strike_right e))

  pub open_put : (c : ℕ) (s : Situation P) → c < A.characters → front_takes A s c s.left ≡ true → front_takes A s c s.right ≡ true
      → Memᴰ (put c) (open_moves A s)
  unfolding open_moves
  open_put c s h p q =
      mathlib.Core.List.Memᴰ.append_right (strikes_of_left s)
      (mathlib.Core.List.Memᴰ.append_right (strikes_of_right s)
      (map_mem put (keep_mem (fronts_take s) (upto A.characters) (upto_mem A.characters h) (both_true p q))))

  move_open : {m : Move} (k : Kind) (s : Situation P) → Memᴰ m (moves_of A k s) → Memᴰ m (open_moves A s)
  move_open is_finished s d = absurd (mathlib.Core.List.Memᴰ.not-nil d)
  move_open is_dead s d = absurd (mathlib.Core.List.Memᴰ.not-nil d)
  move_open is_open s d = d

  pub child_opened : {m : Move} {t : Situation P} (s : Situation P) → ChildOf A s m t → Opened s m
  child_opened s c = move_opened s (move_open (kind A s) s c.is_move)

  -- a child is what its move makes, trimmed
  pub child_made : {m : Move} {u : Situation P} (limit : ℕ) (s : Situation P) → Memᴰ (child m u) (children A limit s)
      → Memᴰ m (open_moves A s) × (u ≡ trimmed A (moved A s m))
  child_made limit s d = let c = child_of A limit s d in (move_open (kind A s) s c.is_move, c.makes)

  kept_made : (m : Move) (t : Situation P) (k : Kind) (b : Bool) → (k ≡ is_dead → ⊥)
      → Memᴰ (cond b long (child m t)) (kept A k b m t)
  kept_made m t is_finished b n = mathlib.Core.List.Memᴰ.head refl
  kept_made m t is_dead b n = absurd (n refl)
  kept_made m t is_open b n = mathlib.Core.List.Memᴰ.head refl

  -- a move makes a child, or one that is too long, if what it makes is not dead
  pub made_child : (m : Move) (limit : ℕ) (s : Situation P) → kind A s ≡ is_open → Memᴰ m (open_moves A s)
      → (kind A (trimmed A (moved A s m)) ≡ is_dead → ⊥)
      → Memᴰ long (children A limit s) ⊎ Memᴰ (child m (trimmed A (moved A s m))) (children A limit s)
  unfolding children child_by
  made_child m limit s o d n =
      let t = trimmed A (moved A s m) in
      let i : Memᴰ (cond (side_above A limit t) long (child m t)) (children A limit s) =
      each_mem (child_by A limit s) {x = m} (moves_of A (kind A s) s) (rw o d) (kept_made m t (kind A t) (side_above A limit t) n) in
      by_bool (side_above A limit t)
      (λ (e : side_above A limit t ≡ true). inl (rw e at i))
      (λ (e : side_above A limit t ≡ false). inr (rw e at i))
