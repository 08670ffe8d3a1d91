-- Spelling texts out by inner codes, step by step: where it ends, and the records of the steps. As the paper's (`TextSteps.spell_from`), from a situation
-- by inner codes, with how many characters of each text are left. `SpellAgrees` ties it to the paper.
use Rattle.std.specs.Prelude.{ℕ, zero, suc, ◌≡◌, cond, Result, Ok, Err, List, [], ◌∷◌, ◌++◌, eqb}
use Rattle.paper_steps.specs.StepRecords.{step_mark_1, step_mark_2}
use Rattle.paper_steps.specs.Player.{most_steps}
use Rattle.base_put.specs.Counted.{Counted}
use Rattle.base_codes.specs.Inner.{left_struck, right_struck}
use Rattle.base_codes.specs.Coded.{Coded, finished_coded}
use Rattle.search_children.specs.Children.{Tables, Settled, dropped, above, made}
use Rattle.play_step.specs.StepCoded.{step_coded}
use Rattle.play_walk.specs.declared.Stop.TheVariants.{PastMost, NotAllowed, SideTooLong}
use Rattle.play_walk.specs.WalkCoded.{Ending}
use Rattle.way_step.specs.NextCoded.{next_code, left_behind}
use Rattle.way_walk.specs.declared.Halt.{Halt}

-- "mark `ST`, a kind byte .. and for kind 2 its value", by the step's code
unfoldable pub code_bytes : ℕ → List ℕ
code_bytes c =
    step_mark_1 ∷ step_mark_2 ∷ cond (eqb c left_struck) (0 ∷ []) (cond (eqb c right_struck) (1 ∷ []) (2 ∷ c ∷ []))

-- where spelling ends, and the records of its steps
pub record Spelling : Type 0 where
  pub ending : Ending
  pub bytes : List ℕ

abbrev pub ends_at : Ending → Spelling
ends_at ending = record { ending = ending; bytes = [] }

-- "48 for a step not allowed, 19 for a long side"; a step that was made goes on
abbrev pub spells_on : List ℕ → (Coded → Spelling) → Settled → Spelling
spells_on its go_on dropped = ends_at (Err NotAllowed)
spells_on its go_on above = ends_at (Err SideTooLong)
spells_on its go_on (made t) = record { ending = (go_on t).ending; bytes = its ++ (go_on t).bytes }

module _ (T : Tables) (x : ℕ) (bytes ends : List ℕ) where
  -- so many steps may still come
  abbrev pub spell_coded : ℕ → Coded → List ℕ → Spelling
  spell_coded zero s left = cond (finished_coded s) (ends_at (Ok tt)) (ends_at (Err PastMost))
  spell_coded (suc n) s left =
      let step = next_code x bytes ends left T.characters s in
      cond (finished_coded s) (ends_at (Ok tt))
      (spells_on (code_bytes step) (λ (t : Coded). spell_coded n t (left_behind left s step)) (step_coded T s step))

  unfoldable pub spelled_coded : Coded → List ℕ → Spelling
  spelled_coded s left = spell_coded most_steps s left

-- what is told of it: how many bytes the records have, and why it stops where it does
abbrev pub told_of : Ending → ℕ → Result ℕ Halt
told_of (Ok done) n = Ok n
told_of (Err why) n = Err (record { why = why; bytes = n })

-- the records were put from the start of a buffer on, also where it stops
pub record SpelledInto (s : Spelling) (before after : List ℕ) (r : Result ℕ Halt) : Type 0 where
  pub end : ℕ
  pub told : r ≡ told_of s.ending end
  pub put : Counted before after 0 end s.bytes
