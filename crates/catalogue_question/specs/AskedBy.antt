-- How a pair is asked, and what an answer of the code tells of it.
use Rattle.paper_catalogue.specs.PairAsking.{PairAnswered, PairAsking, by_search}
use Rattle.paper_catalogue_decide.specs.DecidedPairs.{by_deciding}
use Rattle.catalogue_question.specs.declared.Asking.{Asking}
use Rattle.catalogue_question.specs.declared.Asking.TheVariants.{Search, Decide}
use Rattle.catalogue_question.specs.declared.Pair.{Pair}

-- requests K1 and K3 ask by 01's search; a catalogue that decides asks as `decide` asks
abbrev pub asking_coded : Asking → PairAsking
asking_coded Search = by_search
asking_coded Decide = by_deciding

-- what is told of the pair
abbrev pub told_pair : Pair → PairAnswered
told_pair p = record { answer = p.answer; count = p.count; search = p.search }
