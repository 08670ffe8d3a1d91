-- Two searches in rooms of different size go alike until the smaller one finds no room.
-- Follows from the definition of the search, one step after the other: the room stands in one test only.
use Prim.Native.Nat.{ℕ, zero, suc, ◌≤◌, ◌+◌, ◌-◌}
use native.Mathlib.Nat.{zero-add, suc-add}
use native.Mathlib.Omega.{arith}
use mathlib.Core.Path.{◌≡◌, refl, sym, ap, ◌∙◌}
use mathlib.Core.Logic.{◌⊎◌, inl, inr, ⊎_elim}
use mathlib.Core.Bool.{Bool}
use mathlib.Core.List.{List, [], ◌∷◌, ◌++◌}
use lib.Dec.{leb}
use lib.ListN.{length}
use Rattle.paper.proofs.base.Tests.{by_bool, leb_false, lt_leb}
use Rattle.paper.specs.Search.{Child, long, child, Entry, End, no_room, State, going, ended}
use Rattle.paper.specs.Search.{entered, enter, offer, offer_all, take_next, turns, search, how}

module _ {S M : Type 0} (same : S → S → Bool) (finished : S → Bool) (children : S → List (Child S M)) where
  -- a search that has ended stays as it is
  ended_offer_all : (room : ℕ) (way : List M) (x : End S M) (l : List (Entry S M)) (ks : List (Child S M))
      → offer_all same finished children room way (ended x l) ks ≡ ended x l
  unfolding offer
  ended_offer_all room way x l [] = refl
  ended_offer_all room way x l (k ∷ ks) = ended_offer_all room way x l ks

  pub ended_turns : (room n : ℕ) (x : End S M) (l : List (Entry S M)) → turns same finished children room n (ended x l) ≡ ended x l
  unfolding take_next
  ended_turns room zero x l = refl
  ended_turns room (suc n) x l = ended_turns room n x l

  turns_add : (room k n : ℕ) (st : State S M)
      → turns same finished children room (k + n) st
      ≡ turns same finished children room n (turns same finished children room k st)
  turns_add room zero n st = rw (zero-add n)
  turns_add room (suc k) n st = rw (suc-add k n) (turns_add room k n (take_next same finished children room st))

  module _ (room room' : ℕ) (larger : room ≤ room') where
    -- the smaller room gave out, or both are the same
    abbrev Alike : State S M → State S M → Type 0
    Alike st st' = ((l : List (Entry S M)) × (st ≡ ended no_room l)) ⊎ (st ≡ st')

    enter_alike : (t w : List (Entry S M)) (e : Entry S M)
        → Alike (enter same finished children room t w e) (enter same finished children room' t w e)
    unfolding enter
    enter_alike t w e =
        by_bool (leb room (length (t ++ w)))
        (λ h. inl (t ++ w, rw h))
        (λ h. inr (rw (h, lt_leb room' (length (t ++ w)) (omega (arith, leb_false room (length (t ++ w)) h)))))

    offer_alike : (way : List M) (st : State S M) (k : Child S M)
        → Alike (offer same finished children room way st k) (offer same finished children room' way st k)
    unfolding offer
    offer_alike way (ended x l) k = inr refl
    offer_alike way (going t w) long = inr refl
    offer_alike way (going t w) (child m s) =
        by_bool (entered same finished children s (t ++ w))
        (λ h. rw h (inr refl))
        (λ h. rw h (enter_alike t w (record { at = s; way = m ∷ way })))

    offer_all_alike : (way : List M) (ks : List (Child S M)) (st : State S M)
        → Alike (offer_all same finished children room way st ks) (offer_all same finished children room' way st ks)
    offer_all_alike way [] st = inr refl
    offer_all_alike way (k ∷ ks) st =
        ⊎_elim
        (λ h. inl (h.0, rw h.1 (ended_offer_all room way no_room h.0 ks)))
        (λ h. rw h (offer_all_alike way ks (offer same finished children room' way st k)))
        (offer_alike way st k)

    take_next_alike : (st : State S M)
        → Alike (take_next same finished children room st) (take_next same finished children room' st)
    unfolding take_next
    take_next_alike (ended x l) = inr refl
    take_next_alike (going t []) = inr refl
    take_next_alike (going t (e ∷ w)) = offer_all_alike e.way (children e.at) (going (t ++ (e ∷ [])) w)

    turns_alike : (n : ℕ) (st st' : State S M) → Alike st st'
        → Alike (turns same finished children room n st) (turns same finished children room' n st')
    unfolding take_next
    turns_alike zero st st' a = a
    turns_alike (suc n) st st' a =
        turns_alike n (take_next same finished children room st) (take_next same finished children room' st')
        (⊎_elim (λ h. inl (h.0, rw h.1)) (λ h. rw h (take_next_alike st')) a)

    turns_of_larger : (st : State S M)
        → turns same finished children room' (suc room') st
        ≡ turns same finished children room' (room' - room) (turns same finished children room' (suc room) st)
    turns_of_larger st =
        let sum : suc room' ≡ suc room + (room' - room) = omega arith in
        ap (λ (k : ℕ). turns same finished children room' k st) sum ∙ turns_add room' (suc room) (room' - room) st

    -- what the smaller room settles, if it does not give out, the larger one settles in as many turns, and then rests
    pub search_alike : (s : S) (x : End S M) (l : List (Entry S M)) → (x ≡ no_room → ⊥)
        → search same finished children room s ≡ ended x l
        → search same finished children room' s ≡ ended x l
    unfolding search
    search_alike s x l n e =
        let e₀ : Entry S M = record { at = s; way = [] } in
        let st : State S M = enter same finished children room [] [] e₀ in
        let st' : State S M = enter same finished children room' [] [] e₀ in
        ⊎_elim
        (λ h. absurd (n (ap how (sym e ∙ h.1))))
        (λ h. rw (turns_of_larger st', ← h, e) (ended_turns room' (room' - room) x l))
        (turns_alike (suc room) st st' (enter_alike [] [] e₀))
