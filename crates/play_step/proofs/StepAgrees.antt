-- A step by its inner code is the paper's step:
--   step_agrees  : step_coded (tables_of q) (situation_code s) (move_code m) ≡ settled_as (step_made q s m), of a codable s and a question with at
--                  most 128 characters
--   step_codable : the situation that it makes is codable again
-- Follows, move by move, from the children by inner codes being the codes of the paper's (`CodedChildren` of search_children), since a move that is
-- allowed is the one move of its group.
use Prim.Native.Nat.{ℕ, ◌≤◌, ◌<◌}
use native.Mathlib.Omega.{arith}
use mathlib.Core.Path.{◌≡◌, refl, sym, ap, ap₂, ◌∙◌, subst}
use mathlib.Core.Bool.{Bool, true, false, cond, not, ◌&&◌, ◌||◌, and-false, and-true, or-false}
use mathlib.Core.List.{List, [], ◌∷◌, ◌++◌, map}
use lib.Dec.{eqb}
use Rattle.paper.specs.Lists.{upto, any, only, keep}
use Rattle.paper.specs.Numbers.{most_characters, longest_side}
use Rattle.paper.specs.Places.{PlaceSet}
use Rattle.paper.specs.Situation.{Acceptor, Situation, Kind, is_finished, is_dead, is_open, Move, strike_left, strike_right, put, front_field, front_may_end, front_takes, open_moves, kind, side_above, kept, child_by}
use Rattle.paper.specs.Question.{Question, held_by, acceptor}
use Rattle.paper.proofs.base.Tests.{never, by_bool, eqb_true, eqb_same, lt_ltb}
use Rattle.paper.proofs.base.Lists.{any_append, mem_any, upto_mem}
use Rattle.paper_laws.proofs.equations.Moves.{other_front}
use Rattle.paper_chosen.specs.Chosen.{every, acceptor_over}
use Rattle.paper_steps.specs.StepRecords.{IsStep}
use Rattle.paper_steps.specs.Player.{same_move, kind_dead, Made, not_allowed, long_side, made, allowed, stepped, alive, step_made}
use Rattle.paper_steps.proofs.StepChildren.{StepTold, no_child, long_child, its_child, step_told}
use Rattle.base_places.proofs.Masks.{Few}
use Rattle.base_codes.specs.Inner.{left_struck, right_struck, move_code, front}
use Rattle.search_children.specs.Children.{Settled, dropped, above, left_strike, right_strike, as_child}
use Rattle.search_children.specs.Children as Children
use Rattle.search_children.specs.Coding.{situation_code, tables_of, tables_over}
use Rattle.search_children.proofs.CodedSets.{Codable}
use Rattle.search_children.proofs.CodedChildren.{code_child_of, moves_open, left_coded, right_coded, put_of_coded, put_every}
use Rattle.search_children.proofs.KeptCodable.{child_codable}
use Rattle.play_step.specs.StepCoded.{put_step, step_coded, settled_as}
use Rattle.play_step.proofs.StepShort.{step_left, step_right, step_put}

-- a child under its step tells what became of it
as_child_back : (step : ℕ) (x y : Settled) → as_child step x ≡ as_child step y → x ≡ y
as_child_back step dropped dropped e = refl
as_child_back step dropped above e = absurd (never (cc))
as_child_back step dropped (Children.made t) e = absurd (never (cc))
as_child_back step above dropped e = absurd (never (cc))
as_child_back step above above e = refl
as_child_back step above (Children.made t) e = absurd (never (cc))
as_child_back step (Children.made s) dropped e = absurd (never (cc))
as_child_back step (Children.made s) above e = absurd (never (cc))
as_child_back step (Children.made s) (Children.made t) e = let h : s ≡ t = cc in rw h

-- A move is allowed where its group has it.
any_only : {A : Type 0} (p : A → Bool) (b : Bool) (x : A) → any p (only b x) ≡ (b && p x)
any_only p true x = or-false (p x)
any_only p false x = refl

any_kept : (c : ℕ) (p : ℕ → Bool) (l : List ℕ) → any (eqb c) (keep p l) ≡ (p c && any (eqb c) l)
any_kept c p [] = sym (and-false (p c))
any_kept c p (d ∷ l) =
    any_append (eqb c) (only (p d) d) (keep p l)
    ∙ ap₂ ◌||◌ (any_only (eqb c) (p d) d ∙ here) (any_kept c p l)
    ∙ by_bool (p c) (λ e. rw e) (λ e. rw e)
  where
    here : (p d && eqb c d) ≡ (p c && eqb c d)
    here = by_bool (eqb c d) (λ e. rw (eqb_true c d e)) (λ e. rw (e, and-false (p d), and-false (p c)))

module _ (l : List ℕ) where
  no_left : any (same_move strike_left) (map put l) ≡ false
  no_left = all_other l
    where
      all_other : (l : List ℕ) → any (same_move strike_left) (map put l) ≡ false
      all_other [] = refl
      all_other (c ∷ l) = all_other l

  no_right : any (same_move strike_right) (map put l) ≡ false
  no_right = all_other l
    where
      all_other : (l : List ℕ) → any (same_move strike_right) (map put l) ≡ false
      all_other [] = refl
      all_other (c ∷ l) = all_other l

  same_puts : (c : ℕ) → any (same_move (put c)) (map put l) ≡ any (eqb c) l
  same_puts c = alike l
    where
      alike : (l : List ℕ) → any (same_move (put c)) (map put l) ≡ any (eqb c) l
      alike [] = refl
      alike (d ∷ l) = ap (λ (b : Bool). eqb c d || b) (alike l)

module _ (q : Question) (s : Situation PlaceSet) where
  abbrev A : Acceptor PlaceSet
  A = acceptor q

  -- the three groups of moves
  abbrev ends_left : Bool
  ends_left = front_may_end A s (front_field s.left)

  abbrev ends_right : Bool
  ends_right = front_may_end A s (other_front s.left s.right)

  abbrev takes : ℕ → Bool
  takes c = front_takes A s c s.left && front_takes A s c s.right

  abbrev put_ones : List ℕ
  put_ones = keep takes (upto A.characters)

  grouped : (m : Move)
      → allowed q s m ≡ ((ends_left && same_move m strike_left) || ((ends_right && same_move m strike_right) || any (same_move m) (map put put_ones)))
  unfolding allowed open_moves
  grouped m =
      ap (any (same_move m)) (moves_open A s.left s.right s.sets)
      ∙ any_append (same_move m) (only ends_left strike_left) (only ends_right strike_right ++ map put put_ones)
      ∙ ap₂ ◌||◌ (any_only (same_move m) ends_left strike_left)
      (any_append (same_move m) (only ends_right strike_right) (map put put_ones)
      ∙ ap (λ (b : Bool). b || any (same_move m) (map put put_ones)) (any_only (same_move m) ends_right strike_right))

  allowed_left : allowed q s strike_left ≡ ends_left
  allowed_left = grouped strike_left ∙ rw (no_left put_ones, and-true ends_left, and-false ends_right, or-false ends_left)

  allowed_right : allowed q s strike_right ≡ ends_right
  allowed_right = grouped strike_right ∙ rw (no_right put_ones, and-false ends_left, and-true ends_right, or-false ends_right)

  allowed_put : (c : ℕ) → c < q.alphabet.characters → allowed q s (put c) ≡ takes c
  unfolding acceptor
  allowed_put c h =
      grouped (put c)
      ∙ rw (and-false ends_left, and-false ends_right, same_puts put_ones c, any_kept c takes (upto q.alphabet.characters), mem_any (eqb c) (upto q.alphabet.characters) (upto_mem q.alphabet.characters h) (eqb_same c))
      (and-true (takes c))

-- What a step gives is what becomes of the child that its group has.
made_kept : (B : Acceptor PlaceSet) (ok : Bool) (k : Kind) (above-limit : Bool) (m : Move) (t : Situation PlaceSet)
    → as_child (move_code m) (settled_as (cond (not (ok && not (kind_dead k))) not_allowed (cond above-limit long_side (made t))))
    ≡ map code_child_of (cond ok (kept B k above-limit m t) [])
made_kept B false k above-limit m t = refl
made_kept B true is_dead above-limit m t = refl
made_kept B true is_finished true m t = refl
made_kept B true is_finished false m t = refl
made_kept B true is_open true m t = refl
made_kept B true is_open false m t = refl

-- over every character the place sets are the question's
pub over_every : (q : Question) → acceptor_over every q ≡ acceptor q
unfolding acceptor_over acceptor
over_every q = refl

-- and the fields that may end are the same
last_every : (q : Question) → (tables_over every q).last ≡ (tables_of q).last
unfolding tables_over tables_of
last_every q = refl

module _ (q : Question) (most : q.alphabet.characters ≤ most_characters) (few : (f : ℕ) → Few (held_by q f)) (s : Situation PlaceSet) (codable : Codable s) where
  step_grouped : (m : Move) → as_child (move_code m) (settled_as (step_made q s m)) ≡ map code_child_of (cond (allowed q s m) (child_by (acceptor q) longest_side s m) [])
  unfolding step_made alive child_by
  step_grouped m =
      let t = stepped q s m in
      made_kept (acceptor q) (allowed q s m) (kind (acceptor q) t) (side_above (acceptor q) longest_side t) m t

  left_agrees : left_strike (tables_of q).last (situation_code s) ≡ settled_as (step_made q s strike_left)
  left_agrees =
      as_child_back left_struck _ _
      ((rw (over_every q, last_every q) at (left_coded every q most few s codable)) ∙ sym (rw (allowed_left q s) at (step_grouped strike_left)))

  right_agrees : right_strike (tables_of q).last (situation_code s) ≡ settled_as (step_made q s strike_right)
  right_agrees =
      as_child_back right_struck _ _
      ((rw (over_every q, last_every q) at (right_coded every q most few s codable)) ∙ sym (rw (allowed_right q s) at (step_grouped strike_right)))

  put_agrees : (c : ℕ) → c < q.alphabet.characters
      → put_step (tables_of q).follow (tables_of q).taking (situation_code s) c ≡ settled_as (step_made q s (put c))
  unfolding put_step
  put_agrees c h =
      let k = situation_code s in
      rw (lt_ltb c most_characters (omega arith), put_every q most k.sets k (front k.left) (front k.right) c h)
      (as_child_back c _ _
      ((rw (over_every q) at (put_of_coded every q most few s codable c h)) ∙ sym (rw (allowed_put q s c h) at (step_grouped (put c)))))

  pub step_agrees : (m : Move) → IsStep q.alphabet.characters m → step_coded (tables_of q) (situation_code s) (move_code m) ≡ settled_as (step_made q s m)
  step_agrees strike_left h = step_left (tables_of q) (situation_code s) left_struck refl ∙ left_agrees
  step_agrees strike_right h = step_right (tables_of q) (situation_code s) right_struck (λ (e : right_struck ≡ left_struck). omega arith) refl ∙ right_agrees
  step_agrees (put c) h =
      step_put (tables_of q) (situation_code s) c (λ (e : c ≡ left_struck). omega arith) (λ (e : c ≡ right_struck). omega arith) ∙ put_agrees c h

  -- The situation that a step makes is codable again.
  pub step_codable : (m : Move) (t : Situation PlaceSet) → step_made q s m ≡ made t → Codable t
  step_codable m t e = by (step_told q s m) e
    where
      by : {x : Made} → StepTold q s m x → x ≡ made t → Codable t
      by (no_child n) f = absurd (never (cc))
      by (long_child c l) f = absurd (never (cc))
      by (its_child {t = u} d) f =
          let h : u ≡ t = cc in
          subst Codable h (child_codable every q few most s m u codable (rw (over_every q) d))
