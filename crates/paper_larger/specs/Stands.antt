-- "A bigger machine mustn't change its mind" (request K11), as statements about what is told in some room and in a larger one: of a sheet that is
-- searched, of a pair of rules, of a rule that is added, of a sheet that is decided. Room is 01's, so two working buffers of the same room count too.
use Rattle.std.specs.Prelude.{ℕ, ◌≤◌, ◌≡◌, Bool, true, List, [], ◌∷◌, length, replicate}
use Rattle.paper.specs.Lists.{member}
use Rattle.paper.specs.Rule.{Rule}
use Rattle.paper.specs.Outcome.{Outcome, outcome}
use Rattle.paper_decide.specs.Deciding.{Decision}
use Rattle.paper_catalogue.specs.PairAsking.{PairAnswered, pair_answer, pair_count}
use Rattle.paper_catalogue.specs.Catalogue.{Present, rules, form, Added, work_behind}

-- "if some room gives 0, 1, 19 or 20"
abbrev pub settles : ℕ → Bool
settles n = member n (0 ∷ 1 ∷ 19 ∷ 20 ∷ [])

-- "the same answer, count and bytes": all that is told, and the answer buffer. The working buffer has its own length, and stands apart.
pub record SameTold (before after : Outcome) : Type 0 where
  pub number : after.number ≡ before.number
  pub count : after.count ≡ before.count
  pub place : after.place ≡ before.place
  pub written : after.written ≡ before.written
  pub answer : after.answer ≡ before.answer

-- "for the same sheet and the same answer buffer, if some room gives 0, 1, 19 or 20, then any larger room gives the same answer, count and bytes",
-- and the larger working buffer is all zero in its own length
pub record OldStands (sheet answer work larger : List ℕ) : Type 0 where
  pub same : settles (outcome sheet work answer).number ≡ true → SameTold (outcome sheet work answer) (outcome sheet larger answer)
  pub all_zero : settles (outcome sheet work answer).number ≡ true → (outcome sheet larger answer).work ≡ replicate (length larger) 0

-- A pair of a catalogue that is answered 0, 1 or 19: its texts are not written, so it can't give 20.
abbrev pub pair_settles : ℕ → Bool
pair_settles n = member n (0 ∷ 1 ∷ 19 ∷ [])

pub record PairStands (present new : Rule) (room larger : ℕ) : Type 0 where
  pub answer : pair_settles (pair_answer present new room) ≡ true → pair_answer present new larger ≡ pair_answer present new room
  pub count : pair_settles (pair_answer present new room) ≡ true → pair_count present new larger ≡ pair_count present new room

-- A rule that was entered: with the larger working buffer it is entered too, with the same bytes. That buffer ends all zero in its own length,
-- where a pair was asked.
pub record EnteredToo (catalogue larger : List ℕ) (before after : Added) : Type 0 where
  pub number : after.number ≡ 0
  pub count : after.count ≡ before.count
  pub place : after.place ≡ before.place
  pub rule : after.rule ≡ before.rule
  pub answer : after.answer ≡ before.answer
  pub same_bytes : after.catalogue ≡ before.catalogue
  pub work : (l : List Present) → form catalogue ≡ rules l → after.work ≡ work_behind l larger

-- the numbers of a sheet that is decided, and of a clash: 0 where its texts fit into the answer buffer, 20 where they don't
abbrev pub is_decided : ℕ → Bool
is_decided n = member n (0 ∷ 1 ∷ 20 ∷ [])

abbrev pub is_clash : ℕ → Bool
is_clash n = member n (0 ∷ 20 ∷ [])

-- What is decided in some room: in a larger one a no clash is a no clash, a clash is a clash, though other texts may be found, so that 0 may become
-- 20 and 20 may become 0. The search that decides may be another one, but no later one.
pub record DecisionStands (before after : Decision) : Type 0 where
  pub no_clash : before.outcome.number ≡ 1 → after.outcome.number ≡ 1
  pub clash : is_clash before.outcome.number ≡ true → is_clash after.outcome.number ≡ true
  pub decided : is_decided before.outcome.number ≡ true → is_decided after.outcome.number ≡ true
  pub no_later : is_decided before.outcome.number ≡ true → after.search ≤ before.search

-- The same of a pair that is decided; its texts are not written, so its clash is 0.
pub record PairDecisionStands (before after : PairAnswered) : Type 0 where
  pub no_clash : before.answer ≡ 1 → after.answer ≡ 1
  pub clash : before.answer ≡ 0 → after.answer ≡ 0
