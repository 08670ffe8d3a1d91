-- The text that is spelt back from a slot: it is that at its parent with what the step gave, it is no longer than the way, and one step
-- back does that to it; a parent that is not before its slot leads nowhere.
-- Follows from the definition of `spelt_back` by induction on the fuel, which does not matter.
use Prim.Native.Nat.{ℕ, zero, suc, ◌+◌, ◌≤◌, ◌<◌}
use native.Mathlib.Nat.{add-zero}
use native.Mathlib.Numerals.{add-one}
use native.Mathlib.Omega.{arith}
use mathlib.Core.Path.{◌≡◌, refl, ap, ◌∙◌}
use mathlib.Core.Bool.{Bool, true, false}
use mathlib.Core.List.{List, [], ◌∷◌, ◌++◌, append_assoc, append-nil}
use lib.Dec.{ltb}
use lib.ListN.{length, drop, set, length-append}
use lib.Seq.{drop-cons, drop-set-add}
use borrow.Author.Tests.{lt-ltb, le-ltb}
use Rattle.paper.specs.Lists.{only}
use Rattle.paper.proofs.base.Tests.{by_bool, ltb_true}
use Rattle.search_records.specs.Records.{parent_in, step_in, puts_in, spelt_back, way_spelt, SlotIn, StepsBack}
use Rattle.std.specs.Prelude.{Option, Some, None, is_some}
use Rattle.std.specs.Option.{option_to_list}
use Rattle.std.specs.Bool.{then_some}
use Rattle.search_records.specs.declared.Back.{Back}

length_only : (b : Bool) (x : ℕ) → length (only b x) ≤ 1
length_only true x = omega arith
length_only false x = omega arith

-- what a step put, or nothing
put_only : (b : Bool) (m : ℕ) → option_to_list (then_some b m) ≡ only b m
put_only true m = refl
put_only false m = refl

one_put : (put : Option ℕ) → is_some put ≡ true → length (option_to_list put) ≡ 1
one_put (Some c) h = refl
one_put None h = cc

none_put : (put : Option ℕ) → is_some put ≡ false → option_to_list put ≡ []
none_put None h = refl
none_put (Some c) h = cc

module _ (work : List ℕ) (f : ℕ) where
  -- what the step into slot i gave
  abbrev given_at : ℕ → List ℕ
  given_at i = only (puts_in work (parent_in work i) (step_in work i) f) (step_in work i)

  fuel : (n m i : ℕ) → i ≤ n → i ≤ m → spelt_back n work f i ≡ spelt_back m work f i
  fuel zero zero i h g = refl
  fuel zero (suc m) zero h g = refl
  fuel zero (suc m) (suc i) h g = absurd (omega arith)
  fuel (suc n) zero zero h g = refl
  fuel (suc n) zero (suc i) h g = absurd (omega arith)
  fuel (suc n) (suc m) zero h g = refl
  fuel (suc n) (suc m) (suc i) h g =
      let p = parent_in work (suc i) in
      by_bool (ltb p (suc i))
      (λ t.
      let b : p < suc i = ltb_true p (suc i) t in
      rw t (ap (λ (l : List ℕ). l ++ given_at (suc i)) (fuel n m p (omega arith) (omega arith))))
      (λ t. rw t)

  step_there : (i : ℕ) → 0 < i → parent_in work i < i → way_spelt work i f ≡ way_spelt work (parent_in work i) f ++ given_at i
  step_there zero h b = absurd (omega arith)
  step_there (suc i) h b =
      let p = parent_in work (suc i) in
      rw (lt-ltb p (suc i) b) (ap (λ (l : List ℕ). l ++ given_at (suc i)) (fuel i p p (omega arith) (omega arith)))

  nowhere : (i : ℕ) → 0 < i → i ≤ parent_in work i → way_spelt work i f ≡ []
  nowhere zero h b = absurd (omega arith)
  nowhere (suc i) h b = rw (le-ltb (parent_in work (suc i)) (suc i) b)

  back_short : (n i : ℕ) → length (spelt_back n work f i) ≤ i
  back_short zero i = omega arith
  back_short (suc n) zero = omega arith
  back_short (suc n) (suc i) =
      let p = parent_in work (suc i) in
      by_bool (ltb p (suc i))
      (λ t.
      rw (t, length-append)
      (omega (arith, back_short n p, ltb_true p (suc i) t, length_only (puts_in work p (step_in work (suc i)) f) (step_in work (suc i)))))
      (λ t. rw t (omega arith))

  -- The text is no longer than the way.
  pub text_short : (i : ℕ) → length (way_spelt work i f) ≤ i
  text_short i = back_short i i

  module _ (i : ℕ) (h : 0 < i) where
    -- One step back: p is the parent, m the step, and b says whether the step put its character before the field.
    pub stepped : (p m : ℕ) (b : Bool) (put : Option ℕ) → p ≡ parent_in work i → p < i → m ≡ step_in work i → b ≡ puts_in work p m f
        → put ≡ then_some b m → StepsBack work i f (record { parent = p; put = put })
    stepped p m b put e l g t k =
        record { falls = l; text = rw (step_there i h (rw (← e) l), ← e, ← g, ← t, k, put_only b m) }

    -- A parent that is not before the slot: the way ends.
    pub ended : i ≤ parent_in work i → StepsBack work i f (record { parent = 0; put = None })
    ended l = record { falls = h; text = nowhere i h l }

-- An earlier slot.
pub slot_before : {work : List ℕ} {last : ℕ} (i : ℕ) → i ≤ last → SlotIn work last → SlotIn work i
slot_before i h w = record { room = omega (arith, w.room) }

module _ {work : List ℕ} {i f : ℕ} {back : Back} (s : StepsBack work i f back) where
  text_put : (c : ℕ) → back.put ≡ Some c → way_spelt work i f ≡ way_spelt work back.parent f ++ (c ∷ [])
  text_put c h = rw h at s.text

  -- The step put its character before the field: the text has one more.
  pub length_put : is_some back.put ≡ true → length (way_spelt work i f) ≡ length (way_spelt work back.parent f) + 1
  length_put h = ap length s.text ∙ length-append (way_spelt work back.parent f) _ ∙ rw (one_put back.put h)

  -- That character is stored in front of what is written already.
  pub stored_before : (out : List ℕ) (at c : ℕ) → back.put ≡ Some c → at < length out
      → way_spelt work back.parent f ++ drop at (set out at c) ≡ way_spelt work i f ++ drop (at + 1) out
  stored_before out at c h k =
      let d : drop at (set out at c) ≡ c ∷ drop (suc at) out =
      (rw (add-zero at) at (drop-set-add at out 0 c)) ∙ rw (drop-cons out at 0 k) in
      rw (d, text_put c h, append_assoc, add-one)

  -- It did not: the text is the same.
  pub text_kept : is_some back.put ≡ false → way_spelt work i f ≡ way_spelt work back.parent f
  text_kept h = s.text ∙ rw (none_put back.put h) (append-nil (way_spelt work back.parent f))
