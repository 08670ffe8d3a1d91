-- A meeting of two sides (request K9), with no word of the search: a way that leads from where both sides begin to a pair that is finished.
use Rattle.std.specs.Prelude.{ℕ, ◌≡◌, true, List}
use Rattle.paper.specs.Pattern.{Held}
use Rattle.paper.specs.Leads.{Leads}
use Rattle.paper.specs.Equation.{Side}
use Rattle.paper.specs.Situation.{Move}
use Rattle.paper_plain.specs.Standing.{begins, Pair, next_pairs, finished_pair}

pub record Meeting (held : ℕ → Held) (characters : ℕ) (l r : Side) : Type 0 where
  pub way : List Move
  pub at : Pair
  pub leads : Leads (next_pairs held characters) (record { left = begins l; right = begins r }) way at
  pub finished : finished_pair at ≡ true
