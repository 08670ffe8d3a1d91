-- A step of the player and 01's children: it is made exactly if its child is one that the search is given, it is too long exactly if its child has
-- a side above 48 tokens, and it is not allowed exactly if it makes no child.
--   step_told   : which of the three it is
--   child_steps : a child's move is a step, by the question's alphabet
-- Follows from the definitions of both, test by test.
use Prim.Native.Nat.{ℕ, ◌<◌}
use mathlib.Core.Path.{◌≡◌, refl, sym, ◌∙◌}
use mathlib.Core.Logic.{◌⊎◌, ⊎_elim, ⊎_map}
use mathlib.Core.Bool.{Bool, true, false, not, ◌&&◌}
use mathlib.Core.List.Memᴰ
use mathlib.Core.List.{Memᴰ}
use lib.Dec.{leb}
use lib.ListN.{length}
use Rattle.paper.specs.Numbers.{longest_side}
use Rattle.paper.specs.Places.{PlaceSet}
use Rattle.paper.specs.Search.{child}
use Rattle.paper.specs.Situation.{Acceptor, Situation, Kind, is_finished, is_dead, is_open, Move, strike_left, strike_right, put}
use Rattle.paper.specs.Situation.{kind, trimmed, moved, moves_of, side_above, kept, child_by, children}
use Rattle.paper.specs.Children.{ChildOf}
use Rattle.paper.specs.Question.{Question, acceptor}
use Rattle.paper.proofs.base.Tests.{never, cond_by, true_false, not_is_true, not_is_false, false_not, and_left, and_right, both_true, or_is_true, left_true, right_true, leb_false, lt_leb, eqb_true, eqb_same}
use Rattle.paper.proofs.base.Lists.{any_true, mem_any, mem_each, each_mem}
use Rattle.paper_laws.proofs.equations.Children.{child_of}
use Rattle.paper_laws.proofs.equations.Moves.{Opened, strikes_left, strikes_right, puts, child_opened}
use Rattle.paper_steps.specs.StepRecords.{IsStep}
use Rattle.paper_steps.specs.Player.{same_move, kind_dead, Made, not_allowed, long_side, made, allowed, stepped, alive, step_made}

-- the tests
move_same : (m n : Move) → same_move m n ≡ true → m ≡ n
move_same strike_left strike_left e = refl
move_same strike_left strike_right e = absurd (true_false e refl)
move_same strike_left (put d) e = absurd (true_false e refl)
move_same strike_right strike_left e = absurd (true_false e refl)
move_same strike_right strike_right e = refl
move_same strike_right (put d) e = absurd (true_false e refl)
move_same (put c) strike_left e = absurd (true_false e refl)
move_same (put c) strike_right e = absurd (true_false e refl)
move_same (put c) (put d) e = let h : c ≡ d = eqb_true c d e in rw h

same_moved : (m : Move) → same_move m m ≡ true
same_moved strike_left = refl
same_moved strike_right = refl
same_moved (put c) = eqb_same c

kind_lives : (k : Kind) → (k ≡ is_dead → ⊥) → kind_dead k ≡ false
kind_lives is_finished n = refl
kind_lives is_dead n = absurd (n refl)
kind_lives is_open n = refl

lives_kind : (k : Kind) → kind_dead k ≡ false → k ≡ is_dead → ⊥
lives_kind is_finished h e = absurd (never (cc))
lives_kind is_dead h e = true_false refl h
lives_kind is_open h e = absurd (never (cc))

-- the children that the search is given have no side above the limit
module _ {P : Type 0} (A : Acceptor P) where
  kept_short : (k : Kind) (above : Bool) (n : Move) (t : Situation P) {m : Move} {u : Situation P} → Memᴰ (child m u) (kept A k above n t)
      → (above ≡ false) × (u ≡ t)
  kept_short is_finished true n t d = let e = Memᴰ.eq_of_singleton d in absurd (never (cc))
  kept_short is_finished false n t d = let e = Memᴰ.eq_of_singleton d in (refl, cc)
  kept_short is_dead above n t d = absurd (Memᴰ.not-nil d)
  kept_short is_open true n t d = let e = Memᴰ.eq_of_singleton d in absurd (never (cc))
  kept_short is_open false n t d = let e = Memᴰ.eq_of_singleton d in (refl, cc)

  pub child_short : {m : Move} {u : Situation P} (limit : ℕ) (s : Situation P) → Memᴰ (child m u) (children A limit s) → side_above A limit u ≡ false
  unfolding children child_by
  child_short limit s d =
      let (n, i, j) = mem_each (child_by A limit s) (moves_of A (kind A s) s) d in
      let t = trimmed A (moved A s n) in
      let (short, same) = kept_short (kind A t) (side_above A limit t) n t j in
      rw same short

  kept_in : (k : Kind) (m : Move) (t : Situation P) → (k ≡ is_dead → ⊥) → Memᴰ (child m t) (kept A k false m t)
  kept_in is_finished m t alive = Memᴰ.head refl
  kept_in is_dead m t alive = absurd (alive refl)
  kept_in is_open m t alive = Memᴰ.head refl

  pub child_in : (limit : ℕ) (s : Situation P) (m : Move) → Memᴰ m (moves_of A (kind A s) s) → (kind A (trimmed A (moved A s m)) ≡ is_dead → ⊥)
      → side_above A limit (trimmed A (moved A s m)) ≡ false → Memᴰ (child m (trimmed A (moved A s m))) (children A limit s)
  unfolding children child_by
  child_in limit s m d alive short =
      let t = trimmed A (moved A s m) in
      each_mem (child_by A limit s) {x = m} (moves_of A (kind A s) s) d (rw short (kept_in (kind A t) m t alive))

  -- a side above the limit
  abbrev pub LongSide : ℕ → Situation P → Type 0
  LongSide limit t = (limit < length t.left) ⊎ (limit < length t.right)

  above_long : (limit : ℕ) (t : Situation P) → side_above A limit t ≡ true → LongSide limit t
  above_long limit t e =
      ⊎_map (λ h. leb_false (length t.left) limit (not_is_true h)) (λ h. leb_false (length t.right) limit (not_is_true h))
      (or_is_true (not (leb (length t.left) limit)) (not (leb (length t.right) limit)) e)

  long_above : (limit : ℕ) (t : Situation P) → LongSide limit t → side_above A limit t ≡ true
  long_above limit t x =
      let l = not (leb (length t.left) limit) in
      let r = not (leb (length t.right) limit) in
      ⊎_elim (λ h. left_true l r (false_not (lt_leb (length t.left) limit h))) (λ h. right_true l r (false_not (lt_leb (length t.right) limit h))) x

module _ (q : Question) where
  -- "The children of an open one": a step that is allowed is one of the moves
  allowed_move : (s : Situation PlaceSet) (m : Move) → allowed q s m ≡ true → Memᴰ m (moves_of (acceptor q) (kind (acceptor q) s) s)
  unfolding allowed
  allowed_move s m e =
      let (n, d, same) = any_true (same_move m) (moves_of (acceptor q) (kind (acceptor q) s) s) e in Memᴰ.cast (move_same m n same) d

  move_allowed : (s : Situation PlaceSet) (m : Move) → Memᴰ m (moves_of (acceptor q) (kind (acceptor q) s) s) → allowed q s m ≡ true
  unfolding allowed
  move_allowed s m d = mem_any (same_move m) (moves_of (acceptor q) (kind (acceptor q) s) s) d (same_moved m)

  -- "a dead child is not allowed"
  alive_step : (s : Situation PlaceSet) (m : Move) → alive q s m ≡ true → kind (acceptor q) (stepped q s m) ≡ is_dead → ⊥
  unfolding alive
  alive_step s m h = lives_kind (kind (acceptor q) (stepped q s m)) (not_is_true h)

  step_alive : (s : Situation PlaceSet) (m : Move) → (kind (acceptor q) (stepped q s m) ≡ is_dead → ⊥) → alive q s m ≡ true
  unfolding alive
  step_alive s m n = false_not (kind_lives (kind (acceptor q) (stepped q s m)) n)

  -- what making a step says of its child
  pub data StepTold (s : Situation PlaceSet) (m : Move) : Made → Type 0 where
    no_child : ((t : Situation PlaceSet) → ChildOf (acceptor q) s m t → ⊥) → StepTold s m not_allowed
    long_child : {t : Situation PlaceSet} → ChildOf (acceptor q) s m t → LongSide (acceptor q) longest_side t → StepTold s m long_side
    its_child : {t : Situation PlaceSet} → Memᴰ (child m t) (children (acceptor q) longest_side s) → StepTold s m (made t)

  pub step_told : (s : Situation PlaceSet) (m : Move) → StepTold s m (step_made q s m)
  unfolding step_made
  step_told s m =
      let t = stepped q s m in
      let ok = allowed q s m in
      let lives = alive q s m in
      cond_by (StepTold s m) (not (ok && lives))
      (λ h. no_child (λ u c.
      true_false (both_true (move_allowed s m c.is_move) (step_alive s m (λ d. c.alive (rw c.makes d)))) (not_is_true h)))
      (λ h.
      let is_move = allowed_move s m (and_left ok lives (not_is_false h)) in
      let not_dead = alive_step s m (and_right ok lives (not_is_false h)) in
      cond_by (StepTold s m) (side_above (acceptor q) longest_side t)
      (λ above. long_child {t = t} (record { is_move = is_move; makes = refl; alive = not_dead }) (above_long (acceptor q) longest_side t above))
      (λ short. its_child (child_in (acceptor q) longest_side s m is_move not_dead short)))

  -- a move makes one child
  one_child : {s t u : Situation PlaceSet} {m : Move} → ChildOf (acceptor q) s m t → ChildOf (acceptor q) s m u → t ≡ u
  one_child c d = c.makes ∙ sym d.makes

  -- and so what is told follows from the child
  pub told_child : {s t : Situation PlaceSet} {m : Move} {x : Made} → StepTold s m x → Memᴰ (child m t) (children (acceptor q) longest_side s) → x ≡ made t
  told_child {s} {t} (no_child n) d = absurd (n t (child_of (acceptor q) longest_side s d))
  told_child {s} {t} (long_child {t = u} c l) d =
      let same : u ≡ t = one_child c (child_of (acceptor q) longest_side s d) in
      absurd (true_false (rw same at (long_above (acceptor q) longest_side u l)) (child_short (acceptor q) longest_side s d))
  told_child {s} {t} (its_child {t = u} e) d =
      let same : u ≡ t = one_child (child_of (acceptor q) longest_side s e) (child_of (acceptor q) longest_side s d) in rw same

  pub told_long : {s t : Situation PlaceSet} {m : Move} {x : Made} → StepTold s m x → ChildOf (acceptor q) s m t → LongSide (acceptor q) longest_side t → x ≡ long_side
  told_long {t = t} (no_child n) c l = absurd (n t c)
  told_long (long_child d k) c l = refl
  told_long {s} {t} (its_child {t = u} d) c l =
      let same : u ≡ t = one_child (child_of (acceptor q) longest_side s d) c in
      absurd (true_false (long_above (acceptor q) longest_side t l) (rw same at (child_short (acceptor q) longest_side s d)))

  pub told_none : {s : Situation PlaceSet} {m : Move} {x : Made} → StepTold s m x → ((t : Situation PlaceSet) → ChildOf (acceptor q) s m t → ⊥) → x ≡ not_allowed
  told_none (no_child n) h = refl
  told_none (long_child {t = t} c l) h = absurd (h t c)
  told_none {s} (its_child {t = t} d) h = absurd (h t (child_of (acceptor q) longest_side s d))

  -- A child's move is a step: the character that is put is one of the alphabet's.
  pub child_steps : {s t : Situation PlaceSet} {m : Move} → ChildOf (acceptor q) s m t → IsStep q.alphabet.characters m
  unfolding acceptor
  child_steps {s} c = by (child_opened (acceptor q) s c)
    where
      by : {n : Move} → Opened (acceptor q) s n → IsStep q.alphabet.characters n
      by (strikes_left e) = tt
      by (strikes_right e) = tt
      by (puts h l r) = h
