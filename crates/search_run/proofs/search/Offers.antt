-- Laws of offering children: one list after the other, for one number after the other, and each way that a child offered to the search
-- in the lent buffer can go. Follows from the definitions by induction on the list, and by cases on their tests.
use Prim.Native.Nat.{ℕ, suc, ◌+◌}
use native.Mathlib.Numerals.{add-one}
use mathlib.Core.Path.{◌≡◌, refl, sym, ap, ◌∙◌, subst}
use mathlib.Core.Bool.{Bool, true, false}
use mathlib.Core.List.{List, [], ◌∷◌, ◌++◌}
use Rattle.paper.specs.Lists.{upto, each}
use Rattle.paper.specs.Search.{Child, child}
use Rattle.paper.proofs.base.Tests.{true_false}
use Rattle.paper.proofs.base.Lists.{mem_any}
use Rattle.paper.proofs.base.Listed.{upto_snoc, get_or_mem}
use Rattle.base_codes.specs.Coded.{Coded, same_coded}
use Rattle.search_children.specs.Children.{Settled, dropped, above, made, as_child}
use Rattle.search_run.specs.Lent.{Lent}
use Rattle.search_run.specs.Run.{is_going, Running, enter_slot, offer_going, offer_slot, offer_slots}
use Rattle.search_buckets.specs.Buckets.{EnteredAt}
use Rattle.search_slots.specs.Slots.{Slot, no_slot}
use Rattle.search_run.specs.declared.search.Run.{Run}
use Rattle.search_run.specs.declared.search.Status.{Status}
use Rattle.search_run.specs.declared.search.Status.TheVariants.{Going, Found, UsedUp, NoRoom, TooLong}
use Rattle.std.specs.Prelude.{Option, Some, None, is_some}
use Rattle.search_slots.proofs.Rows.{each_snoc}

module _ (room p : ℕ) where
  pub offers_append : (R : Running) (xs ys : List (Child Coded ℕ))
      → offer_slots room p R (xs ++ ys) ≡ offer_slots room p (offer_slots room p R xs) ys
  offers_append R [] ys = refl
  offers_append R (x ∷ xs) ys = offers_append (offer_slot room p R x) xs ys

  -- what the next number gives is offered too
  offers_more : (R : Running) (f : ℕ → List (Child Coded ℕ)) (c : ℕ)
      → offer_slots room p R (each f (upto (suc c))) ≡ offer_slots room p (offer_slots room p R (each f (upto c))) (f c)
  offers_more R f c =
      ap (offer_slots room p R) (ap (each f) (upto_snoc c) ∙ each_snoc f (upto c) c) ∙ offers_append R (each f (upto c)) (f c)

  pub lent_more : {work : List ℕ} {run : Run} (R : Running) (f : ℕ → List (Child Coded ℕ)) (c : ℕ)
      → Lent work run (offer_slots room p (offer_slots room p R (each f (upto c))) (f c))
      → Lent work run (offer_slots room p R (each f (upto (c + 1))))
  lent_more {work} {run} R f c l =
      subst (Lent work run) (sym (ap (λ (n : ℕ). offer_slots room p R (each f (upto n))) (add-one c) ∙ offers_more R f c)) l

  -- a child that is made, by what the look-up found of it
  module _ (ss : List Slot) (step : ℕ) (t : Coded) where
    -- "one already entered is dropped"
    pub offered_seen : (seen : Option ℕ) → is_some seen ≡ true → EnteredAt ss t seen → offer_going room p ss (child step t) ≡ record { slots = ss; status = Going }
    offered_seen (Some i) h e = rw (mem_any (λ (x : Slot). same_coded x.at t) ss (get_or_mem ss no_slot i e.0) e.1)
    offered_seen None h e = absurd (true_false h refl)

    pub offered_new : (seen : Option ℕ) → is_some seen ≡ false → EnteredAt ss t seen
        → offer_going room p ss (child step t) ≡ enter_slot room ss (record { at = t; parent = p; step = step })
    offered_new None h e = rw e
    offered_new (Some i) h e = absurd (true_false refl h)

going : (x : Status) → is_going x ≡ true → x ≡ Going
going Going e = refl
going Found e = absurd (true_false e refl)
going UsedUp e = absurd (true_false e refl)
going NoRoom e = absurd (true_false e refl)
going TooLong e = absurd (true_false e refl)

-- a child offered to a search that the buffer and the run stand for
module _ {work : List ℕ} {run : Run} {R : Running} (l : Lent work run R) (room p step : ℕ) where
  still : (b : Bool) → is_going run.status ≡ b → is_going R.status ≡ b
  still b h = ap is_going (sym l.status) ∙ h

  -- "ends the search": one that has ended rests
  pub offered_ended : (x : Settled) → is_going run.status ≡ false → Lent work run (offer_slots room p R (as_child step x))
  unfolding offer_slot
  offered_ended dropped h = l
  offered_ended above h = rw (still false h) l
  offered_ended (made t) h = rw (still false h) l

  pub offered_above : is_going run.status ≡ true
      → Lent work (record { entered = run.entered; status = TooLong }) (offer_slots room p R (as_child step above))
  unfolding offer_slot
  offered_above h = rw (still true h) (record { kept = l.kept; entered = l.entered; status = refl })

  pub offered_made : {work' : List ℕ} {run' : Run} (t : Coded) → is_going run.status ≡ true
      → Lent work' run' (offer_going room p R.slots (child step t)) → Lent work' run' (offer_slots room p R (as_child step (made t)))
  unfolding offer_slot
  offered_made t h n = rw (still true h) n
