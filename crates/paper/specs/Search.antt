-- The search of document 01 ("The search"), over any situations: breadth first, each situation entered once, in lent room.
--
-- What is searched is given by three things: a test whether two situations are the same, a test whether one is finished, and
-- the children of one in their order. A child is a situation with the move that makes it, or `long`, a situation with a side
-- that is too long. Children are trimmed already and none is dead: what they are is not the search's business.
-- The state is two lists in the order of entry: those taken, and those that wait to be taken. All that was entered is both.
use Rattle.std.specs.Prelude.{ℕ, zero, suc, Bool, cond, List, [], ◌∷◌, ◌++◌, leb, length}
use Rattle.paper.specs.Lists.{any}

-- a child of a situation
pub data Child (S M : Type 0) : Type 0 where
  -- "a side above 48 tokens gives 19"
  long : Child S M
  -- the situation, and the move that makes it
  child : M → S → Child S M

-- "a situation's way is the one by which it was first entered": the moves from the start, the last one first
pub record Entry (S M : Type 0) : Type 0 where
  pub at : S
  pub way : List M

-- how a search ends
pub data End (S M : Type 0) : Type 0 where
  -- "a finished one ends the search": clash
  found : Entry S M → End S M
  -- "When all are used up the answer is 1"
  used_up : End S M
  -- "no room gives 18"
  no_room : End S M
  -- "a side above 48 tokens gives 19"
  too_long : End S M

-- a search on its way, with those taken and those waiting, or ended, with all that were entered
pub data State (S M : Type 0) : Type 0 where
  going : List (Entry S M) → List (Entry S M) → State S M
  ended : End S M → List (Entry S M) → State S M

module _ {S M : Type 0} (same : S → S → Bool) (finished : S → Bool) (children : S → List (Child S M)) where
  -- is the situation already entered?
  abbrev pub entered : S → List (Entry S M) → Bool
  entered s l = any (λ (e : Entry S M). same e.at s) l

  -- "no room gives 18; otherwise it is entered, and a finished one ends the search at once"
  unfoldable pub enter : ℕ → List (Entry S M) → List (Entry S M) → Entry S M → State S M
  enter room t w e =
      cond (leb room (length (t ++ w)))
      (ended no_room (t ++ w))
      (cond (finished e.at) (ended (found e) (t ++ (w ++ (e ∷ [])))) (going t (w ++ (e ∷ []))))

  -- "Each child ..: a side above 48 tokens gives 19; one already entered is dropped; .." (what `enter` does)
  unfoldable pub offer : ℕ → List M → State S M → Child S M → State S M
  offer room way (ended x l) k = ended x l
  offer room way (going t w) long = ended too_long (t ++ w)
  offer room way (going t w) (child m s) =
      cond (entered s (t ++ w)) (going t w) (enter room t w (record { at = s; way = m ∷ way }))

  -- the children of one entry, in their order
  abbrev pub offer_all : ℕ → List M → State S M → List (Child S M) → State S M
  offer_all room way st [] = st
  offer_all room way st (k ∷ ks) = offer_all room way (offer room way st k) ks

  -- "Situations are taken in the order of entry."
  unfoldable pub take_next : ℕ → State S M → State S M
  take_next room (ended x l) = ended x l
  take_next room (going t []) = ended used_up t
  take_next room (going t (e ∷ w)) = offer_all room e.way (going (t ++ (e ∷ [])) w) (children e.at)

  -- so many are taken, at most
  abbrev pub turns : ℕ → ℕ → State S M → State S M
  turns room zero st = st
  turns room (suc n) st = turns room n (take_next room st)

  -- "The trimmed question is entered first, dead or not." Room + 1 turns take every entry and then find none waiting.
  unfoldable pub search : ℕ → S → State S M
  search room s = turns room (suc room) (enter room [] [] (record { at = s; way = [] }))

module _ {S M : Type 0} where
  -- what a search that is over says; one that is still going would have found no room
  abbrev pub how : State S M → End S M
  how (going t w) = no_room
  how (ended x l) = x

  -- all that were entered, in their order; "The count equals the number of situations entered."
  abbrev pub entries : State S M → List (Entry S M)
  entries (going t w) = t ++ w
  entries (ended x l) = l

  abbrev pub count : State S M → ℕ
  count st = length (entries st)
