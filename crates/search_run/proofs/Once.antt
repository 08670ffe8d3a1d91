-- The look-up's answer is settled, in whatever order it looks: no situation is entered twice, so one slot at most holds it.
--   entered_once : the situations in the slots of a search are different
--   one_place    : where they are, EnteredAt ss k r → EnteredAt ss k r' → r ≡ r'
-- Follows from the entries being different (`Searched`), and from the slots holding the entries (`Numbered`).
use Prim.Native.Nat.{ℕ, zero, suc, ◌<◌}
use native.Mathlib.Omega.{arith}
use mathlib.Core.Path.{◌≡◌, refl, sym, ap, ◌∙◌, subst}
use mathlib.Core.List.{List, [], ◌∷◌, Memᴰ}
use lib.ListN.{length, get_or, length-map, get_or-map}
use Rattle.paper.proofs.base.Lists.{NoDup, more, mem_any}
use Rattle.paper.proofs.base.Listed.{get_or_mem}
use Rattle.paper_laws.proofs.search.Searched.{entries_different}
use Rattle.paper.proofs.base.Tests.{true_false}
use Rattle.search_buckets.specs.Buckets.{EnteredAt}
use Rattle.base_codes.specs.Coded.{Coded, same_coded, finished_coded}
use Rattle.search_children.specs.Children.{Tables, children_coded}
use Rattle.search_run.specs.Run.{slot_search}
use Rattle.search_slots.specs.Slots.{Slot, slot_at, no_slot}
use Rattle.std.specs.Prelude.{Option, Some, None}
use Rattle.search_run.proofs.RunNumbers.{situations_in, slots_numbered}
use Rattle.search_slots.proofs.Situations.{same_coded_equal, equal_same_coded}

pub entered_once : (T : Tables) (room : ℕ) (s : Coded) → NoDup (situations_in (slot_search T room s).slots)
entered_once T room s =
    subst NoDup (sym (slots_numbered T room s).alike)
    (entries_different same_coded finished_coded (children_coded T) same_coded_equal equal_same_coded room s)

-- In a list without repetition an element tells its place.
one_index {ℓ} : {A : Type ℓ} (d : A) (l : List A) → NoDup l → (i j : ℕ) → i < length l → j < length l → get_or l i d ≡ get_or l j d → i ≡ j
one_index d [] n i j h k e = absurd (omega arith)
one_index d (x ∷ l) (more n r) zero zero h k e = refl
one_index d (x ∷ l) (more n r) zero (suc j) h k e = absurd (n (subst (λ y. Memᴰ y l) (sym e) (get_or_mem l d j (omega arith))))
one_index d (x ∷ l) (more n r) (suc i) zero h k e = absurd (n (subst (λ y. Memᴰ y l) e (get_or_mem l d i (omega arith))))
one_index d (x ∷ l) (more n r) (suc i) (suc j) h k e = ap suc (one_index d l r i j (omega arith) (omega arith) e)

module _ (ss : List Slot) (k : Coded) (n : NoDup (situations_in ss)) where
  seen_there : (i : ℕ) → EnteredAt ss k (Some i) → EnteredAt ss k None → ⊥
  seen_there i e f =
      true_false (mem_any (λ (x : Slot). same_coded x.at k) ss (get_or_mem ss no_slot i e.0) e.1) f

  same_place : (i j : ℕ) → EnteredAt ss k (Some i) → EnteredAt ss k (Some j) → i ≡ j
  same_place i j e f =
      let m = length-map ss (λ (x : Slot). x.at) in
      one_index no_slot.at (situations_in ss) n i j (omega (arith, m, e.0)) (omega (arith, m, f.0))
      (get_or-map (λ (x : Slot). x.at) ss i no_slot
      ∙ same_coded_equal (slot_at ss i).at k e.1
      ∙ sym (same_coded_equal (slot_at ss j).at k f.1)
      ∙ sym (get_or-map (λ (x : Slot). x.at) ss j no_slot))

  pub one_place : (r r' : Option ℕ) → EnteredAt ss k r → EnteredAt ss k r' → r ≡ r'
  one_place (Some i) (Some j) e f = ap Some (same_place i j e f)
  one_place (Some i) None e f = absurd (seen_there i e f)
  one_place None (Some j) e f = absurd (seen_there j f e)
  one_place None None e f = refl
