-- Laws of the turns of the search in the lent buffer: it begins, it goes on with one more slot taken, and it ends.
-- Follows from the definitions by cases on the number of turns left.
use Prim.Native.Nat.{ℕ, zero, suc, ◌+◌, ◌-◌, ◌≤◌, ◌<◌}
use native.Mathlib.Numerals.{add-one}
use native.Mathlib.Omega.{arith}
use mathlib.Core.Path.{◌≡◌, refl, sym, ap, ◌∙◌, subst}
use mathlib.Core.Bool.{Bool, true, false}
use mathlib.Core.List.{List}
use lib.ListN.{length}
use Rattle.paper.proofs.base.Tests.{le_ltb}
use Rattle.search_children.specs.Children.{Tables}
use Rattle.search_run.specs.Lent.{Lent}
use Rattle.search_run.specs.Run.{is_going, Running, take_slot, slot_turns}
use Rattle.search_run.specs.declared.search.Run.{Run}
use Rattle.search_run.specs.declared.search.Status.TheVariants.{UsedUp}

module _ (T : Tables) (room : ℕ) where
  -- a search that has ended rests
  turns_ended : (n k : ℕ) (R : Running) → is_going R.status ≡ false → slot_turns T room n k R ≡ R
  turns_ended zero k R h = refl
  turns_ended (suc n) k R h = rw h

  -- "When all are used up the answer is 1"
  turns_used_up : (n k : ℕ) (R : Running) → is_going R.status ≡ true → length R.slots ≤ k
      → slot_turns T room (suc n) k R ≡ record { slots = R.slots; status = UsedUp }
  unfolding take_slot
  turns_used_up n k R h b =
      rw (h, le_ltb k (length R.slots) b) (turns_ended n (suc k) (record { slots = R.slots; status = UsedUp }) refl)

  -- slot k is taken
  turns_taken : (k : ℕ) (R : Running) → is_going R.status ≡ true → k < room
      → slot_turns T room (suc (room - k)) k R ≡ slot_turns T room (suc (room - (k + 1))) (k + 1) (take_slot T room k R)
  turns_taken k R h b =
      let n : room - k ≡ suc (room - (k + 1)) = omega arith in
      rw (h, n, add-one)

  -- The buffer and the run stand for a search in which slot k is to be taken next, and which ends as the one that began with R.
  pub record Standing (R : Running) (work : List ℕ) (run : Run) (k : ℕ) : Type 0 where
    pub at : Running
    pub lent : Lent work run at
    pub as_begun : slot_turns T room (suc room) 0 R ≡ slot_turns T room (suc (room - k)) k at

  pub begun : {R : Running} {work : List ℕ} {run : Run} → Lent work run R → Standing R work run 0
  begun {R} l =
      let z : room - 0 ≡ room = omega arith in
      record { at = R; lent = l; as_begun = rw z }

  module _ {R : Running} {work : List ℕ} {run : Run} {k : ℕ} (q : Standing R work run k) where
    still : (b : Bool) → is_going run.status ≡ b → is_going q.at.status ≡ b
    still b h = ap is_going (sym q.lent.status) ∙ h

    pub ended : is_going run.status ≡ false → Lent work run (slot_turns T room (suc room) 0 R)
    ended h =
        subst (Lent work run) (sym (q.as_begun ∙ turns_ended (suc (room - k)) k q.at (still false h))) q.lent

    pub used_up : is_going run.status ≡ true → run.entered ≤ k
        → Lent work (record { entered = run.entered; status = UsedUp }) (slot_turns T room (suc room) 0 R)
    used_up h b =
        subst (Lent work (record { entered = run.entered; status = UsedUp }))
        (sym (q.as_begun ∙ turns_used_up (room - k) k q.at (still true h) (omega (arith, q.lent.entered))))
        (record { kept = q.lent.kept; entered = q.lent.entered; status = refl })

    pub taken : {work' : List ℕ} {run' : Run} → is_going run.status ≡ true → k < room
        → Lent work' run' (take_slot T room k q.at) → Standing R work' run' (k + 1)
    taken h b l =
        record { at = take_slot T room k q.at; lent = l; as_begun = q.as_begun ∙ turns_taken k q.at (still true h) b }
