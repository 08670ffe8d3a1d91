-- The text spelt from a slot back to the first one: whatever grows along the way as the steps give it, the first slot having nothing,
-- is what `text_back` spells, with fuel for every slot passed. Follows from the slots' parents standing before them.
use Prim.Native.Nat.{ℕ, zero, suc, ◌≤◌, ◌<◌}
use native.Mathlib.Omega.{arith}
use mathlib.Core.Path.{◌≡◌, sym, ap, ◌∙◌}
use mathlib.Core.List.{List, [], ◌++◌}
use lib.ListN.{length}
use Rattle.search_children.specs.Children.{given_coded}
use Rattle.search_slots.specs.Slots.{Slot, slot_at}
use Rattle.search_run.specs.Run.{text_back}

module _
    (ss : List Slot) (f : ℕ) (text : ℕ → List ℕ)
    (earlier : (i : ℕ) → suc i < length ss → (slot_at ss (suc i)).parent < suc i)
    (first : text 0 ≡ [])
    (grows : (i : ℕ) → suc i < length ss
    → text (suc i)
    ≡ text (slot_at ss (suc i)).parent
    ++ given_coded f (slot_at ss (slot_at ss (suc i)).parent).at (slot_at ss (suc i)).step)
  where
    pub text_back_is : (n i : ℕ) → i ≤ n → i < length ss → text_back n ss f i ≡ text i
    text_back_is zero i h b = sym (ap text (omega arith) ∙ first)
    text_back_is (suc n) zero h b = sym first
    text_back_is (suc n) (suc i) h b =
        let e = earlier i b in
        rw (text_back_is n (slot_at ss (suc i)).parent (omega arith) (omega arith)) (sym (grows i b))
