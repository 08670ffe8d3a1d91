-- The pairs that are reached, by the tokens that come in front:
--   reached_met, met_reached : with exactly the places at which either token came in front, a pair is reached exactly if it is met
--   next_left, next_right, starts_said : so what is told of two tokens says where the next ones come in front, and whether both starts are reached
--   nothing_crossed          : where neither came in front nothing is met
--   going_first, going_more, going_all : one left token with each right one
--   entered_first            : where the sides begin
-- Of any tokens. Follows by induction on the pairs that are reached, and on those that are met.
use Prim.Native.Nat.{ℕ, zero, suc, ◌+◌, ◌≤◌, ◌<◌, max, min}
use native.Mathlib.Numerals.{add-one}
use native.Mathlib.Omega.{arith}
use mathlib.Core.Path.{◌≡◌, refl, subst}
use mathlib.Core.Bool.{Bool, true, false}
use mathlib.Core.List.{List}
use lib.Dec.{eqb}
use lib.ListN.{length, get_or, set, replicate}
use lib.Seq.{get_or-set_same, get_or-set_other}
use Rattle.paper.specs.Numbers.{longest_side}
use Rattle.paper.proofs.base.Tests.{by_bool, true_false, eqb_true, eqb_false}
use Rattle.base_places.specs.Masks.{in_mask}
use Rattle.base_places.specs.declared.PlaceTables.{PlaceTables}
use Rattle.base_places.proofs.MaskOf.{in_mask_out}
use Rattle.plain_block.specs.Met as Met
use Rattle.plain_block.specs.Met.{Exactly, Crosses, may_be_left}
use Rattle.plain_block.specs.declared.Crossed.{Crossed}
use Rattle.plain_rows.specs.Fronts.{Front}
use Rattle.plain_question.specs.Reached.{Reached, begun, left_left, right_left, both_read, Says}
use Rattle.plain_question.specs.Entered.{LeftCame, both_begin, behind_left, RightCame, behind_right, Entered, Common, CrossesFronts}

-- no place stands in no mask, and nothing but zeros in a list of zeros
pub in_none : (q : ℕ) → in_mask 0 q ≡ true → ⊥
in_none q e = true_false e (in_mask_out 0 0 q (omega arith) (omega arith))

pub get_or_none : (n j : ℕ) → get_or (replicate {A = ℕ} n 0) j 0 ≡ 0
get_or_none zero j = refl
get_or_none (suc n) zero = refl
get_or_none (suc n) (suc j) = get_or_none n j

none_exactly : (P : ℕ → Type 0) → ((i : ℕ) → P i → ⊥) → Exactly 0 P
none_exactly P h = record { sound = λ i e. absurd (in_none i e); complete = λ i p. absurd (h i p) }

-- Where neither token came in front nothing is met.
nothing_met : {l r : PlaceTables} {lo hi i q : ℕ} → Met.Met l r lo hi 0 0 i q → ⊥
nothing_met (Met.left_came q e) = in_none q e
nothing_met (Met.right_came i e) = in_none i e
nothing_met (Met.both_read i q c j s d a b k x y) = nothing_met d

abbrev nothing : Crossed
nothing = record { left = 0; right = 0; starts = false }

nothing_crosses : (l r : PlaceTables) (lo hi : ℕ) → Crosses l r lo hi 0 0 nothing
nothing_crosses l r lo hi =
    record {
      left = none_exactly _ (λ q h. nothing_met h.1);
      right = none_exactly _ (λ i h. nothing_met h.1);
      starts = λ e. absurd (true_false e refl);
      starts_met = λ d. absurd (nothing_met d);
    }

pub nothing_crossed : (l r : Front) (m n : ℕ) → m ≡ 0 → n ≡ 0 → CrossesFronts l r m n nothing
nothing_crossed l r m n e f =
    let lo = max l.lo r.lo in
    let hi = min l.hi r.hi in
    record {
      lo = lo;
      hi = hi;
      common = record { both = λ c a b. (omega arith, omega arith, omega arith, omega arith); each = λ c a b d k. (omega arith, omega arith) };
      crosses = rw (e, f) (nothing_crosses l.of r.of lo hi);
    }

-- the same tokens
pub crossed_as : {l l' r r' : Front} (m n : ℕ) (x : Crossed) → l ≡ l' → r ≡ r' → CrossesFronts l r m n x → CrossesFronts l' r' m n x
crossed_as {l} {l'} {r} {r'} m n x e f k =
    subst (λ (y : Front). CrossesFronts l' y m n x) f (subst (λ (y : Front). CrossesFronts y r m n x) e k)

module _ (l r : ℕ → Front) where
  came_left : {i j q : ℕ} → LeftCame l r i j q → Reached l r i 0 j q
  came_left both_begin = begun
  came_left (behind_left i p j q d e) = left_left i p j q d e

  came_right : {i j p : ℕ} → RightCame l r i j p → Reached l r i p j 0
  came_right (behind_right i p j q d e) = right_left i p j q d e

  -- with exactly the places at which either token came in front
  pub record Came (i j m n lo hi : ℕ) : Type 0 where
    pub left : Exactly m (LeftCame l r i j)
    pub right : Exactly n (RightCame l r i j)
    pub common : Common (l i) (r j) lo hi

  pub reached_met : {i p j q : ℕ} → Reached l r i p j q → (m n lo hi : ℕ) → Came i j m n lo hi → Met.Met (l i).of (r j).of lo hi m n p q
  reached_met begun m n lo hi k = Met.left_came 0 (k.left.complete 0 both_begin)
  reached_met (left_left i p j q d e) m n lo hi k = Met.left_came q (k.left.complete q (behind_left i p j q d e))
  reached_met (right_left i p j q d e) m n lo hi k = Met.right_came p (k.right.complete p (behind_right i p j q d e))
  reached_met (both_read i p j q c s t d a b a' b' h x y) m n lo hi k =
      let w = k.common.each c a b a' b' in
      Met.both_read p q c s t (reached_met d m n lo hi k) w.0 w.1 h x y

  pub met_reached : (i j m n lo hi : ℕ) → Came i j m n lo hi → {p q : ℕ} → Met.Met (l i).of (r j).of lo hi m n p q → Reached l r i p j q
  met_reached i j m n lo hi k (Met.left_came q e) = came_left (k.left.sound q e)
  met_reached i j m n lo hi k (Met.right_came p e) = came_right (k.right.sound p e)
  met_reached i j m n lo hi k (Met.both_read p q c s t d a b h x y) =
      let w = k.common.both c a b in
      both_read i p j q c s t (met_reached i j m n lo hi k d) w.0 w.1 w.2 w.3 h x y

  -- which pair let a token come in front
  before_left : {i j q : ℕ} → LeftCame l r (suc i) j q → (p : ℕ) × Reached l r i p j q × (may_be_left (l i).of p ≡ true)
  before_left (behind_left i p j q d e) = (p, d, e)

  before_right : {i j p : ℕ} → RightCame l r i (suc j) p → (q : ℕ) × Reached l r i p j q × (may_be_left (r j).of q ≡ true)
  before_right (behind_right i p j q d e) = (q, d, e)

  -- what is told of two tokens
  module _ (i j m n : ℕ) (x : Crossed) (k : CrossesFronts (l i) (r j) m n x) (a : Exactly m (LeftCame l r i j)) (b : Exactly n (RightCame l r i j)) where
    abbrev came : Came i j m n k.lo k.hi
    came = record { left = a; right = b; common = k.common }

    abbrev to_reached : {p q : ℕ} → Met.Met (l i).of (r j).of k.lo k.hi m n p q → Reached l r i p j q
    to_reached d = met_reached i j m n k.lo k.hi came d

    abbrev to_met : {p q : ℕ} → Reached l r i p j q → Met.Met (l i).of (r j).of k.lo k.hi m n p q
    to_met d = reached_met d m n k.lo k.hi came

    pub next_left : Exactly x.left (LeftCame l r (suc i) j)
    next_left =
        record {
          sound = λ q e. let h = k.crosses.left.sound q e in behind_left i h.0 j q (to_reached h.1) h.2;
          complete = λ q h. let w = before_left h in k.crosses.left.complete q (w.0, to_met w.1, w.2);
        }

    pub next_right : Exactly x.right (RightCame l r i (suc j))
    next_right =
        record {
          sound = λ p e. let h = k.crosses.right.sound p e in behind_right i p j h.0 (to_reached h.1) h.2;
          complete = λ p h. let w = before_right h in k.crosses.right.complete p (w.0, to_met w.1, w.2);
        }

    pub starts_said : Says x.starts (Reached l r i 0 j 0)
    starts_said = record { holds = λ e. to_reached (k.crosses.starts e); told = λ d. k.crosses.starts_met (to_met d) }

  none_before : {i j p : ℕ} → RightCame l r i j p → j ≡ 0 → ⊥
  none_before (behind_right i p j q d e) h = omega arith

  -- One left token with the right ones below j: these have the places at which the next left token comes in front, the others still its own.
  pub record Going (n i : ℕ) (came : List ℕ) (right_came : ℕ) (met : Bool) (j : ℕ) : Type 0 where
    pub done : (k : ℕ) → k < j → k ≤ n → Exactly (get_or came k 0) (LeftCame l r (suc i) k)
    pub rest : (k : ℕ) → j ≤ k → k ≤ n → Exactly (get_or came k 0) (LeftCame l r i k)
    pub right : Exactly right_came (RightCame l r i j)
    pub ends : (k : ℕ) → j ≡ suc k → Says met (Reached l r i 0 k 0)

  pub going_first : (n i : ℕ) (came : List ℕ) (met : Bool) → Entered l r n i came → Going n i came 0 met 0
  going_first n i came met h =
      record {
        done = λ k a b. absurd (omega arith);
        rest = λ k a b. h k b;
        right = none_exactly (RightCame l r i 0) (λ p d. none_before d refl);
        ends = λ k e. absurd (omega arith);
      }

  pub going_more : (n i : ℕ) (came : List ℕ) (right_came : ℕ) (met : Bool) (j : ℕ) → Going n i came right_came met j → j ≤ n → j < length came
      → (x : Crossed) → CrossesFronts (l i) (r j) (get_or came j 0) right_came x
      → Going n i (set came j x.left) x.right x.starts (j + 1)
  going_more n i came right_came met j g b there x k =
      let own = g.rest j (omega arith) b in
      rw (add-one j)
      (record {
        done =
            λ m a h.
            by_bool (eqb m j)
            (λ (e : eqb m j ≡ true).
            rw (eqb_true m j e, get_or-set_same came j x.left 0 there) (next_left i j (get_or came j 0) right_came x k own g.right))
            (λ (e : eqb m j ≡ false).
            let apart = eqb_false m j e in
            rw (get_or-set_other came j m x.left 0 apart) (g.done m (omega arith) h));
        rest = λ m a h. rw (get_or-set_other came j m x.left 0 (λ (e : m ≡ j). omega arith)) (g.rest m (omega arith) h);
        right = next_right i j (get_or came j 0) right_came x k own g.right;
        ends =
            λ m e.
            let same : j ≡ m = omega arith in
            rw (← same) (starts_said i j (get_or came j 0) right_came x k own g.right);
      })

  pub going_all : (n i : ℕ) (came : List ℕ) (right_came : ℕ) (met : Bool) (j : ℕ) → Going n i came right_came met j → j ≡ suc n
      → Entered l r n (suc i) came × Says met (Reached l r i 0 n 0)
  going_all n i came right_came met j g e = ((λ k h. g.done k (omega arith) h), g.ends n e)

  -- Where the sides begin: the left token comes in front with the first right token at its start.
  at_start : {j q : ℕ} → LeftCame l r 0 j q → (j ≡ 0) × (q ≡ 0)
  at_start both_begin = (refl, refl)

  first_at : (j : ℕ) → Exactly (get_or (set (replicate (suc longest_side) 0) 0 1) j 0) (LeftCame l r 0 j)
  unfolding in_mask
  first_at zero =
      record {
        sound =
            λ q e.
            by_bool (eqb q 0) (λ (h : eqb q 0 ≡ true). rw (eqb_true q 0 h) both_begin)
            (λ (h : eqb q 0 ≡ false). let n = eqb_false q 0 h in absurd (true_false e (in_mask_out 1 1 q (omega arith) (omega arith))));
        complete = λ q d. rw (at_start d).1 refl;
      }
  first_at (suc j) =
      rw (get_or_none longest_side j) (none_exactly (LeftCame l r 0 (suc j)) (λ q d. let h = (at_start d).0 in omega arith))

  pub entered_first : (n : ℕ) → Entered l r n 0 (set (replicate (suc longest_side) 0) 0 1)
  entered_first n j h = first_at j
