-- Reading a spelt text back, value by value.
--   waits, not_there, makes                                   : what one value does
--   going_first, going_on, going_stops, going_ends, sign_left : what was put so far, and what is left
-- Follows from the definition of reading, by its tests.
use Prim.Native.Nat.{ℕ, ◌+◌, ◌≤◌, ◌<◌}
use native.Mathlib.Numerals.{add-one}
use mathlib.Core.Path.{◌≡◌, refl, sym, ap, ◌∙◌, subst}
use mathlib.Core.Bool.{true, false, not, ◌&&◌}
use mathlib.Core.List.{List, [], ◌∷◌, ◌++◌, append_assoc, append-nil}
use lib.Dec.{ltb}
use lib.ListN.{length, drop, get_or, drop_of_length-le}
use lib.Seq.{drop-cons}
use Rattle.paper.proofs.base.Tests.{by_bool, true_false, neq_eqb, lt_ltb, le_ltb, ltb_true, ltb_false}
use Rattle.paper_spell.specs.FullAscii.{ascii, no_shift, is_shift, character, ReadBack, no_text, text, in_front, read_from, read_back}
use Rattle.base_put.specs.Counted.{Counted}
use Rattle.base_put.proofs.Counting.{counted_none, counted_then}
use Rattle.std.proofs.Common.{Option, Some, None}
use Rattle.std.proofs.lemmas.Option.{cond_some, none-some}
use Rattle.std.specs.Option.{is_some}
use Rattle.spell_table.specs.Entries.{shift_number, found}
use Rattle.spell_back.specs.BackPut.{onto, read_behind, Steps, goes_on, stops, Puts, refused, put}
use Rattle.spell_back.specs.declared.Step.{Step}

-- Laws of characters in front.
onto_none : (r : ReadBack) → onto [] r ≡ r
onto_none no_text = refl
onto_none (text t) = refl

onto_append : (l m : List ℕ) (r : ReadBack) → onto (l ++ m) r ≡ onto l (onto m r)
onto_append l m no_text = refl
onto_append l m (text t) = ap text (append_assoc l m t)

front_none : (c : ℕ) → ascii ≤ c → (r : ReadBack) → in_front c r ≡ no_text
front_none c h no_text = refl
front_none c h (text t) = rw (le_ltb c ascii h)

front_one : (c : ℕ) → c < ascii → (r : ReadBack) → in_front c r ≡ onto (c ∷ []) r
front_one c h no_text = refl
front_one c h (text t) = rw (lt_ltb c ascii h)

-- a shift sign is not 43
not_43 : (v : ℕ) → is_shift v ≡ true → v ≡ no_shift → ⊥
not_43 v h e = absurd (true_false h (rw e))

sign_waits : (v : ℕ) → is_shift v ≡ true → (rest : List ℕ) → read_from v rest ≡ read_behind (Some v) rest
sign_waits v h [] = rw (neq_eqb v no_shift (not_43 v h))
sign_waits v h (x ∷ rest) = rw (neq_eqb v no_shift (not_43 v h))

-- no character was found
found_none : (c : ℕ) → found c ≡ None → ascii ≤ c
found_none c h = by_bool (ltb c ascii) (λ e. absurd (none-some c (sym h ∙ rw e))) (λ e. ltb_false c ascii e)

-- What one value does.
module _ (before : Step) (v : ℕ) where
  pub waits : {d : List ℕ} → is_some before.shift ≡ false → is_shift v ≡ true → Steps d d before v (Some (record { shift = Some v; end = before.end }))
  waits e f = goes_on _ [] counted_none (λ rest. first before.shift e rest ∙ sign_waits v f rest ∙ sym (onto_none (read_behind (Some v) rest)))
    where
      first : (s : Option ℕ) → is_some s ≡ false → (rest : List ℕ) → read_behind s (v ∷ rest) ≡ read_from v rest
      first None h rest = rw f
      first (Some s) h rest = absurd (true_false refl h)

  -- where the value is not a shift sign that waits, it makes a character or none
  module _ (alone : not (is_some before.shift) && is_shift v ≡ false) where
    makes_one : (rest : List ℕ) → read_behind before.shift (v ∷ rest) ≡ in_front (character (shift_number before.shift) v) (read_from no_shift rest)
    makes_one rest = one before.shift alone
      where
        one : (s : Option ℕ) → not (is_some s) && is_shift v ≡ false → read_behind s (v ∷ rest) ≡ in_front (character (shift_number s) v) (read_from no_shift rest)
        one None h = rw h
        one (Some s) h = refl

    pub not_there : found (character (shift_number before.shift) v) ≡ None → {d e : List ℕ} → Steps d e before v None
    not_there h = stops (λ rest. makes_one rest ∙ front_none _ (found_none _ h) (read_from no_shift rest))

    pub makes : {d e : List ℕ} {c n : ℕ} → found (character (shift_number before.shift) v) ≡ Some c → Counted d e before.end n (c ∷ [])
        → Steps d e before v (Some (record { shift = None; end = n }))
    makes {c = c} h p =
        let its = cond_some (ltb (character (shift_number before.shift) v) ascii) _ c h in
        goes_on _ (c ∷ []) p (λ rest. makes_one rest ∙ rw (← its.1) (front_one _ (ltb_true _ ascii its.0) (read_from no_shift rest)))

-- The characters so far, and what is left from the value i on.
pub record Going (spelt d e : List ℕ) (step : Step) (i : ℕ) : Type 0 where
  pub so_far : List ℕ
  pub counted : Counted d e 0 step.end so_far
  pub left : read_back spelt ≡ onto so_far (read_behind step.shift (drop i spelt))

pub going_first : {spelt d : List ℕ} → Going spelt d d (record { shift = None; end = 0 }) 0
going_first {spelt} = record { so_far = []; counted = counted_none; left = sym (onto_none (read_back spelt)) }

module _ {spelt d e : List ℕ} {step : Step} {i : ℕ} (g : Going spelt d e step i) where
  next : i < length spelt → read_back spelt ≡ onto g.so_far (read_behind step.shift (get_or spelt i 0 ∷ drop (i + 1) spelt))
  next h = rw (add-one i) (g.left ∙ ap (λ (l : List ℕ). onto g.so_far (read_behind step.shift l)) (drop-cons spelt i 0 h))

  pub going_on : {f : List ℕ} {r : Step} → i < length spelt → Steps e f step (get_or spelt i 0) (Some r) → Going spelt d f r (i + 1)
  going_on h (goes_on r l c on) = record {
    so_far = g.so_far ++ l;
    counted = counted_then g.counted c;
    left = next h ∙ ap (onto g.so_far) (on (drop (i + 1) spelt)) ∙ sym (onto_append g.so_far l (read_behind r.shift (drop (i + 1) spelt)));
  }

  pub going_stops : {f c : List ℕ} → i < length spelt → Steps e f step (get_or spelt i 0) None → Puts d c None (read_back spelt)
  going_stops {c = c} h (stops none) =
      subst (Puts d c None) (sym (next h ∙ ap (onto g.so_far) (none (drop (i + 1) spelt)))) refused

  module _ (h : length spelt ≤ i) where
    at_end : read_back spelt ≡ onto g.so_far (read_behind step.shift [])
    at_end = g.left ∙ ap (λ (l : List ℕ). onto g.so_far (read_behind step.shift l)) (drop_of_length-le spelt {i = i} h)

    pub going_ends : step.shift ≡ None → Puts d e (Some step.end) (read_back spelt)
    going_ends t = rw (at_end, t, append-nil g.so_far) (put g.so_far step.end g.counted)

    pub sign_left : (s : ℕ) → step.shift ≡ Some s → Puts d e None (read_back spelt)
    sign_left s t = rw (at_end, t) refused
