-- How it ends, as the code goes: the steps are counted first, and then put.
--   spelled_short : they are counted to their end
-- Follows from the definitions and the laws of bytes put and counted.
use Prim.Native.Nat.{ℕ, zero, suc, ◌*◌, ◌≤◌, ◌<◌}
use native.Mathlib.Omega.{arith}
use mathlib.Core.Path.{◌≡◌, refl, sym, ap, ◌∙◌, subst}
use mathlib.Core.List.{List, [], ◌++◌}
use lib.Dec.{eqb}
use lib.ListN.{length, length-append}
use Rattle.paper.proofs.base.Tests.{cond_by, le_leb, lt_leb}
use Rattle.paper_steps.specs.Player.{most_steps}
use Rattle.base_put.specs.Counted.{last_place, Counted}
use Rattle.base_put.proofs.Counting.{counted_length, counted_in_front, counted_outside}
use Rattle.base_codes.specs.Inner.{left_struck, right_struck}
use Rattle.base_codes.specs.Coded.{Coded, finished_coded}
use Rattle.search_children.specs.Children.{Tables, Settled, dropped, above, made}
use Rattle.play_step.specs.StepCoded.{step_coded}
use Rattle.std.specs.Prelude.{Option, None, Some, Result, Ok, Err}
use Rattle.std.specs.Option.{ok_or}
use Rattle.play_walk.specs.declared.Stop.TheVariants.{NoRecord}
use Rattle.play_walk.specs.WalkCoded.{Ending}
use Rattle.play_walk.specs.declared.Stop.{Stop}
use Rattle.way_step.specs.NextCoded.{next_code, left_behind}
use Rattle.way_walk.specs.declared.Halt.{Halt}
use Rattle.way_walk.specs.SpellCoded.{code_bytes, Spelling, spells_on, spell_coded, spelled_coded, told_of, SpelledInto}
use Rattle.way_question.specs.WaySpelt.{WaySpelt}
use Rattle.way_question.specs.declared.WayStop.TheVariants.{StepsTooShort, Stopped}

code_short : (c : ℕ) → length (code_bytes c) ≤ 4
unfolding code_bytes
code_short c =
    cond_by (λ (l : List ℕ). suc (suc (length l)) ≤ 4) (eqb c left_struck) (λ _. omega arith)
    (λ _. cond_by (λ (l : List ℕ). suc (suc (length l)) ≤ 4) (eqb c right_struck) (λ _. omega arith) (λ _. omega arith))

on_short : (n : ℕ) (its : List ℕ) (go_on : Coded → Spelling) (x : Settled) → length its ≤ 4 → ((t : Coded) → length (go_on t).bytes ≤ 4 * n)
    → length (spells_on its go_on x).bytes ≤ 4 * suc n
on_short n its go_on dropped h k = omega arith
on_short n its go_on above h k = omega arith
on_short n its go_on (made t) h k = rw length-append (omega (arith, k t))

module _ (T : Tables) (x : ℕ) (bytes ends : List ℕ) where
  spell_short : (n : ℕ) (s : Coded) (left : List ℕ) → length (spell_coded T x bytes ends n s left).bytes ≤ 4 * n
  spell_short zero s left =
      cond_by (λ (y : Spelling). length y.bytes ≤ 4 * zero) (finished_coded s) (λ _. omega arith) (λ _. omega arith)
  spell_short (suc n) s left =
      let step = next_code x bytes ends left T.characters s in
      cond_by (λ (y : Spelling). length y.bytes ≤ 4 * suc n) (finished_coded s) (λ _. omega arith)
      (λ _.
      on_short n (code_bytes step) (λ (t : Coded). spell_coded T x bytes ends n t (left_behind left s step)) (step_coded T s step) (code_short step)
      (λ t. spell_short n t (left_behind left s step)))

  opened : (k : ℕ) → k ≡ most_steps → (s : Coded) (left : List ℕ) → spelled_coded T x bytes ends s left ≡ spell_coded T x bytes ends k s left
  unfolding spelled_coded
  opened k e s left = ap (λ (i : ℕ). spell_coded T x bytes ends i s left) (sym e)

  pub spelled_short : (s : Coded) (left : List ℕ) → length (spelled_coded T x bytes ends s left).bytes ≤ last_place
  spelled_short s left = by most_steps refl
    where
      by : (k : ℕ) → k ≡ most_steps → length (spelled_coded T x bytes ends s left).bytes ≤ last_place
      by k e = omega (arith, spell_short k s left, ap (λ (y : Spelling). length y.bytes) (opened k e s left))

-- whether there are records
pub some_of : {A : Type 0} (o : Option A) (s : A) → ok_or o NoRecord ≡ Ok s → o ≡ Some s
some_of None s h = absurd cc
some_of (Some x) s h = let same : x ≡ s = cc in ap Some same

pub none_of : {A : Type 0} (o : Option A) (why : Stop) → ok_or o NoRecord ≡ Err why → (o ≡ None) × (NoRecord ≡ why)
none_of None why h = (refl, cc)
none_of (Some x) why h = absurd cc

-- how it ended, by what is told of it
told_ok : (e : Ending) (end n : ℕ) → told_of e end ≡ Ok n → (e ≡ Ok tt) × (end ≡ n)
told_ok (Ok done) end n h = (refl, cc)
told_ok (Err why) end n h = absurd cc

told_err : (e : Ending) (end : ℕ) (halt : Halt) → told_of e end ≡ Err halt → e ≡ Err halt.why
told_err (Ok done) end halt h = absurd cc
told_err (Err w) end halt h = let same : record { why = w; bytes = end } ≡ halt = cc in ap (λ (t : Halt). Err t.why) same

module _ (y : Spelling) (short : length y.bytes ≤ last_place) (steps : List ℕ) {e : List ℕ} (r : Result ℕ Halt) (p : SpelledInto y [] e r) where
  -- nothing was put
  as_before : e ++ steps ≡ steps
  as_before = ap (λ (l : List ℕ). l ++ steps) (counted_outside p.put)

  pub stopped_spelt : (halt : Halt) → r ≡ Err halt → WaySpelt y steps (e ++ steps) (Err (Stopped halt.why))
  stopped_spelt halt h =
      let is : y.ending ≡ Err halt.why = told_err y.ending p.end halt (sym p.told ∙ h) in record { end = rw is; buffer = rw is as_before }

  module _ (n : ℕ) (h : r ≡ Ok n) where
    arrives : (y.ending ≡ Ok tt) × (p.end ≡ n)
    arrives = told_ok y.ending p.end n (sym p.told ∙ h)

    counted : n ≡ length y.bytes
    counted = sym arrives.1 ∙ counted_length p.put short

    pub short_spelt : length (e ++ steps) < n → WaySpelt y steps (e ++ steps) (Err StepsTooShort)
    short_spelt k =
        let t = lt_leb (length y.bytes) (length steps) (omega (arith, ap length as_before, counted)) in
        record { end = rw (arrives.0, t); buffer = rw (arrives.0, t) as_before }

    module _ {after : List ℕ} (s : Result ℕ Halt) (q : SpelledInto y (e ++ steps) after s) where
      pub put_spelt : (m : ℕ) → s ≡ Ok m → n ≤ length (e ++ steps) → WaySpelt y steps after (Ok m)
      put_spelt m i k =
          let room : length y.bytes ≤ length steps = omega (arith, ap length as_before, counted) in
          let same : q.end ≡ m = (told_ok y.ending q.end m (sym q.told ∙ i)).1 in
          let put : Counted steps after 0 m y.bytes = subst (λ (b : ℕ). Counted steps after 0 b y.bytes) same (subst (λ (d : List ℕ). Counted d after 0 q.end y.bytes) as_before q.put) in
          let t = le_leb (length y.bytes) (length steps) room in
          record { end = rw (arrives.0, t, counted_length put short); buffer = rw (arrives.0, t) (counted_in_front put short room) }

      -- the same steps don't stop the second time
      pub put_never : (halt : Halt) → s ≡ Err halt → ⊥
      put_never halt i =
          let stops : y.ending ≡ Err halt.why = told_err y.ending q.end halt (sym q.told ∙ i) in
          let ok : y.ending ≡ Ok tt = arrives.0 in absurd cc
