-- The children that the search is given are the children of 01: what a move makes, trimmed and not dead. One that is given as too long has a
-- side above the limit. Follows from the definition of `children`.
use Prim.Native.Nat.{ℕ, ◌<◌}
use mathlib.Core.Path.{◌≡◌, refl}
use mathlib.Core.Logic.{◌⊎◌, ⊎_map}
use mathlib.Core.Bool.{Bool, true, false, cond, not}
use mathlib.Core.List.Memᴰ
use mathlib.Core.List.{Memᴰ}
use lib.Dec.{leb}
use lib.ListN.{length}
use Rattle.paper.proofs.base.Tests.{never, not_is_true, or_is_true, leb_false}
use Rattle.paper.proofs.base.Lists.{mem_each}
use Rattle.paper.specs.Search.{Child, child, long}
use Rattle.paper.specs.Situation.{Acceptor, Situation, Kind, is_finished, is_dead, is_open, Move, kind, trimmed, moved, moves_of}
use Rattle.paper.specs.Situation.{side_above, kept, child_by, children}
use Rattle.paper.specs.Children.{ChildOf}

module _ {P : Type 0} (A : Acceptor P) where
  kept_one : (k : Kind) (above : Bool) (m : Move) (t : Situation P) {x : Child (Situation P) Move}
      → Memᴰ x (kept A k above m t) → (k ≡ is_dead → ⊥) × (x ≡ cond above long (child m t))
  kept_one is_finished above m t d = (λ e. never (cc), Memᴰ.eq_of_singleton d)
  kept_one is_dead above m t d = absurd (Memᴰ.not-nil d)
  kept_one is_open above m t d = (λ e. never (cc), Memᴰ.eq_of_singleton d)

  -- a child of the search: the move and the situation that make it
  record Kept (limit : ℕ) (s : Situation P) (x : Child (Situation P) Move) : Type 0 where
    move : Move
    made : Situation P
    is_child : ChildOf A s move made
    is_kept : x ≡ cond (side_above A limit made) long (child move made)

  child_kept : (limit : ℕ) (s : Situation P) {x : Child (Situation P) Move} → Memᴰ x (children A limit s) → Kept limit s x
  unfolding children child_by
  child_kept limit s d =
      let (m, i, j) = mem_each (child_by A limit s) (moves_of A (kind A s) s) d in
      let t : Situation P = trimmed A (moved A s m) in
      let (alive, e) = kept_one (kind A t) (side_above A limit t) m t j in
      record { move = m; made = t; is_child = record { is_move = i; makes = refl; alive = alive }; is_kept = e }

  kept_child : (s : Situation P) (m : Move) (t : Situation P) {n : Move} {u : Situation P} (above : Bool)
      → child n u ≡ cond above long (child m t) → ChildOf A s m t → ChildOf A s n u
  kept_child s m t true e c = absurd (never (cc))
  kept_child s m t {n} {u} false e c =
      let p : m ≡ n = cc in
      let q : t ≡ u = cc in
      rw (p, q) at c

  kept_long : (m : Move) (t : Situation P) (above : Bool) → long ≡ cond above long (child m t) → above ≡ true
  kept_long m t true e = refl
  kept_long m t false e = absurd (never (cc))

  -- A child is what its move makes, trimmed and not dead.
  pub child_of : {m : Move} {t : Situation P} (limit : ℕ) (s : Situation P) → Memᴰ (child m t) (children A limit s) → ChildOf A s m t
  child_of limit s d =
      let k = child_kept limit s d in kept_child s k.move k.made (side_above A limit k.made) k.is_kept k.is_child

  -- One that is too long has a side above the limit.
  pub long_of : (limit : ℕ) (s : Situation P) → Memᴰ long (children A limit s)
      → (m : Move) × (t : Situation P) × ChildOf A s m t × ((limit < length t.left) ⊎ (limit < length t.right))
  long_of limit s d =
      let k = child_kept limit s d in
      let t = k.made in
      let above = kept_long k.move t (side_above A limit t) k.is_kept in (
        k.move,
        t,
        k.is_child,
        ⊎_map
            (λ e. leb_false (length t.left) limit (not_is_true e))
            (λ e. leb_false (length t.right) limit (not_is_true e))
            (or_is_true (not (leb (length t.left) limit)) (not (leb (length t.right) limit)) above),
      )
