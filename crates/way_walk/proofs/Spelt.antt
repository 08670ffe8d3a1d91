-- Spelling turn by turn, as the loop goes, and the records that are put on the way.
-- Follows from the definitions and the laws of bytes put and counted.
use Prim.Native.Nat.{ℕ, zero, suc, ◌-◌, ◌<◌}
use native.Mathlib.Omega.{arith}
use mathlib.Core.Path.{◌≡◌, sym, ap, ◌∙◌}
use mathlib.Core.Bool.{true, false}
use mathlib.Core.List.{List, ◌++◌}
use Rattle.paper_steps.specs.Player.{most_steps}
use Rattle.base_put.specs.Counted.{Counted}
use Rattle.base_codes.specs.Coded.{Coded, finished_coded}
use Rattle.search_children.specs.Children.{Tables, Settled, dropped, above, made}
use Rattle.search_children.specs.Laid.{child_of}
use Rattle.search_children.specs.declared.Child.{Child}
use Rattle.play_step.specs.StepCoded.{step_coded}
use Rattle.play_walk.specs.declared.Stop.TheVariants.{PastMost, NotAllowed, SideTooLong}
use Rattle.play_walk.specs.declared.Stop.{Stop}
use Rattle.play_walk.specs.WalkCoded.{Ending, made_of}
use Rattle.std.specs.Prelude.{Result, Ok, Err}
use Rattle.play_walk.proofs.Texts.{Underway, none_yet, some_more, all_put}
use Rattle.way_step.specs.NextCoded.{next_code, left_behind}
use Rattle.way_walk.specs.declared.Halt.{Halt}
use Rattle.way_walk.specs.SpellCoded.{code_bytes, Spelling, ends_at, spells_on, spell_coded, spelled_coded, told_of, SpelledInto}

module _ (T : Tables) (x : ℕ) (bytes ends : List ℕ) where
  -- so many steps may still come
  unfoldable pub spell_left : ℕ → Coded → List ℕ → Spelling
  spell_left n s left = spell_coded T x bytes ends n s left

  pub left_first : (n : ℕ) → n ≡ most_steps → (s : Coded) (left : List ℕ) → spelled_coded T x bytes ends s left ≡ spell_left n s left
  unfolding spell_left spelled_coded
  left_first n e s left = ap (λ (k : ℕ). spell_coded T x bytes ends k s left) (sym e)

  pub left_arrived : (n : ℕ) (s : Coded) (left : List ℕ) → finished_coded s ≡ true → spell_left n s left ≡ ends_at (Ok tt)
  unfolding spell_left
  left_arrived zero s left h = rw h
  left_arrived (suc n) s left h = rw h

  pub left_past : (n : ℕ) (s : Coded) (left : List ℕ) → n ≡ 0 → finished_coded s ≡ false → spell_left n s left ≡ ends_at (Err PastMost)
  unfolding spell_left
  left_past zero s left e h = rw h
  left_past (suc n) s left e h = absurd (omega arith)

  pub left_step : (n : ℕ) (s : Coded) (left : List ℕ) → 0 < n → finished_coded s ≡ false → (step : ℕ) → step ≡ next_code x bytes ends left T.characters s
      → spell_left n s left ≡ spells_on (code_bytes step) (λ (t : Coded). spell_left (n - 1) t (left_behind left s step)) (step_coded T s step)
  unfolding spell_left
  left_step zero s left k h step e = absurd (omega arith)
  left_step (suc n) s left k h step e = let d : n ≡ suc n - 1 = omega arith in rw (h, e, ← d)

-- a step that makes nothing ends it
pub spells_none : (T : Tables) (s : Coded) (step : ℕ) (child : Child) → child ≡ child_of (step_coded T s step) → (its : List ℕ) (go_on : Coded → Spelling) (why : Stop)
    → made_of child ≡ Err why → spells_on its go_on (step_coded T s step) ≡ ends_at (Err why)
spells_none T s step child e its go_on why k = by (step_coded T s step) (rw e at k)
  where
    by : (x : Settled) → made_of (child_of x) ≡ Err why → spells_on its go_on x ≡ ends_at (Err why)
    by dropped k = let same : NotAllowed ≡ why = cc in ap (λ (w : Stop). ends_at (Err w)) same
    by above k = let same : SideTooLong ≡ why = cc in ap (λ (w : Stop). ends_at (Err w)) same
    by (made t) k = absurd cc

-- some of the records were put, and spelling goes on from here
pub record Going (whole rest : Spelling) (before after : List ℕ) (end : ℕ) : Type 0 where
  pub ending : whole.ending ≡ rest.ending
  pub put : Underway whole.bytes rest.bytes before after 0 end

pub going_first : {whole rest : Spelling} {before : List ℕ} → whole ≡ rest → Going whole rest before before 0
going_first e = record { ending = ap (λ (s : Spelling). s.ending) e; put = none_yet (ap (λ (s : Spelling). s.bytes) e) }

pub going_on : {whole : Spelling} (y : Spelling) (its : List ℕ) {before after later : List ℕ} {end next : ℕ}
    → Going whole (record { ending = y.ending; bytes = its ++ y.bytes }) before after end → Counted after later end next its → Going whole y before later next
going_on y its g p = record { ending = g.ending; put = some_more its y.bytes g.put p }

pub going_ends : {whole : Spelling} (e : Ending) {before after : List ℕ} (end : ℕ) {r : Result ℕ Halt} → Going whole (ends_at e) before after end
    → r ≡ told_of e end → SpelledInto whole before after r
going_ends {whole} e end g h = record { end = end; told = h ∙ ap (λ (x : Ending). told_of x end) (sym g.ending); put = all_put g.put }
