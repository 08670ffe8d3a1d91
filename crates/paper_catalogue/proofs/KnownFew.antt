-- The known calls of a catalogue that an edit needs: what no theorem of `paper_catalogue` says, in what order pairs are listed, and that at 35
-- nothing is listed. The checker computes them. All other known calls stand in `paper_vectors` (`KnownCatalogue`, `KnownRechecks`), since each edit
-- of `paper_catalogue` pays for what is computed here.
use Prim.Native.Nat.{ℕ}
use mathlib.Core.Path.{◌≡◌, refl}
use mathlib.Core.List.{List, [], ◌∷◌, ◌++◌}
use lib.ListN.{replicate}
use Rattle.paper.specs.Places.{set_after, may_end}
use Rattle.paper.specs.Written.{judge}
use Rattle.paper.specs.Search.{enter, offer, take_next, search}
use Rattle.paper.specs.Situation.{trimmed, strike, put_before, open_moves, child_by, children, question}
use Rattle.paper.specs.Way.{search_from}
use Rattle.paper.specs.Question.{acceptor}
use Rattle.paper.specs.Alphabet.{code}
use Rattle.paper.specs.Sheet.{marked, pattern_record, side_record, marked_side, next_is, strays_of}
use Rattle.paper.specs.Outcome.{room_of, searched, count_of, how_of}
use Rattle.paper.specs.Rule.{rule_front, foreign_field, pair}
use Rattle.paper.proofs.known.KnownSheet.{LE}
use Rattle.paper_catalogue.specs.PairAsking.{pair_answer, pair_count}
use Rattle.paper_catalogue.specs.Catalogue.{form_by}
use Rattle.paper_catalogue.specs.Recheck.{rechecking}

abbrev pub RU : List ℕ → List ℕ
RU records = 82 ∷ 85 ∷ records

abbrev pub zeros : ℕ → List ℕ
zeros n = replicate n 0

-- rules: `A`, `B`; `A` with spaces; `B` with a space
abbrev pub rule_A : List ℕ
rule_A = 82 ∷ 85 ∷ 76 ∷ 69 ∷ 1 ∷ 10 ∷ []

abbrev pub rule_B : List ℕ
rule_B = 82 ∷ 85 ∷ 76 ∷ 69 ∷ 1 ∷ 11 ∷ []

abbrev pub A_spaces : ℕ → List ℕ
A_spaces n = RU (LE (10 ∷ replicate n 38))

abbrev B_space : List ℕ
B_space = RU (LE (11 ∷ 38 ∷ []))

-- `A` and `A` with a space, entered when a space at the end made two labels different
abbrev pub kept_rules : List ℕ
kept_rules = rule_A ++ A_spaces 1 ++ zeros 3

-- `A`, `B`, `B` with a space, `A` with a space
abbrev pub two_and_two : List ℕ
two_and_two = rule_A ++ rule_B ++ B_space ++ A_spaces 1

-- by lower number, though the higher ones fall; the list to the byte
pub order_known :
    rechecking two_and_two (replicate 1150 90) (replicate 10 165)
    ≡ record { number = 0; pairs = 2; written = 10; list = 0 ∷ 3 ∷ 0 ∷ 6 ∷ 0 ∷ 1 ∷ 2 ∷ 0 ∷ 6 ∷ 0 ∷ []; work = replicate 1150 0 }
unfolding set_after may_end judge enter offer take_next search trimmed strike put_before open_moves child_by children question search_from acceptor marked pattern_record side_record marked_side next_is code room_of searched count_of how_of rule_front foreign_field pair form_by strays_of pair_answer pair_count rechecking
order_known = refl

-- a list buffer of a byte too little is left as it was lent
pub too_short_known :
    rechecking kept_rules (replicate 1150 90) (replicate 4 165)
    ≡ record { number = 35; pairs = 0; written = 0; list = replicate 4 165; work = replicate 1150 0 }
unfolding set_after may_end judge enter offer take_next search trimmed strike put_before open_moves child_by children question search_from acceptor marked pattern_record side_record marked_side next_is code room_of searched count_of how_of rule_front foreign_field pair form_by strays_of pair_answer pair_count rechecking
too_short_known = refl
