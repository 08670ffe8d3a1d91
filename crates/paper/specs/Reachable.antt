-- "A reachable place set is one that some text leads to and that isn't empty; the first one counts." The text is over the n characters.
use Rattle.std.specs.Prelude.{ℕ, ◌≡◌, false, List}
use Rattle.paper.specs.Equation.{Over}
use Rattle.paper.specs.Pattern.{Held}
use Rattle.paper.specs.Places.{PlaceSet, first_set, is_empty, set_along}

pub record Reachable (n : ℕ) (h : Held) (s : PlaceSet) : Type 0 where
  pub text : List ℕ
  pub over : Over n text
  pub leads : set_along h first_set text ≡ s
  pub not_empty : is_empty s ≡ false
