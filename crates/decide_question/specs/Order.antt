-- The attempts behind the first search, by their numbers.
use Rattle.std.specs.Prelude.{ℕ}
use Rattle.decide_question.specs.declared.Attempt.{Attempt}
use Rattle.decide_question.specs.declared.Attempt.TheVariants.{Letters, Apart, Shortest, Longer, Alike, Few}

abbrev pub number_of : Attempt → ℕ
number_of Letters = 2
number_of Apart = 3
number_of Shortest = 4
number_of Longer = 5
number_of Alike = 6
number_of Few = 7
