-- The records of the texts that steps put before the fields that stand, by inner codes, and what becomes of the answer buffer.
use Rattle.std.specs.Prelude.{ℕ, ◌≡◌, cond, not, Option, None, Some, List, leb, length}
use Rattle.paper.specs.Lists.{each}
use Rattle.paper.specs.Outcome.{value_record}
use Rattle.base_codes.specs.Coded.{Coded}
use Rattle.search_records.specs.Records.{in_front, fields_with_sets}
use Rattle.search_children.specs.Children.{Tables}
use Rattle.play_walk.specs.WalkCoded.{text_walked}

module _ (T : Tables) (s : Coded) (steps : List ℕ) where
  -- the records of these fields
  unfoldable pub records_along : List ℕ → List ℕ
  records_along fs = each (λ (f : ℕ). value_record f (text_walked T f s steps)) fs

  -- those of the fields that stand
  unfoldable pub way_records : List ℕ
  way_records = records_along (fields_with_sets s.sets)

-- "then 20 for a short answer buffer"
abbrev pub way_given : List ℕ → List ℕ → Option ℕ
way_given bytes answer = cond (not (leb (length bytes) (length answer))) None (Some (length bytes))

-- the answer buffer then
abbrev pub way_buffer : List ℕ → List ℕ → List ℕ
way_buffer bytes answer = cond (not (leb (length bytes) (length answer))) answer (in_front bytes answer)

pub record WayAnswered (bytes before after : List ℕ) (r : Option ℕ) : Type 0 where
  pub given : r ≡ way_given bytes before
  pub buffer : after ≡ way_buffer bytes before
