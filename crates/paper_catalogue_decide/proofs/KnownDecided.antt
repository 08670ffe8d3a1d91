-- Known calls of a catalogue that decides, and the seven bytes of a pair. The checker computes them. Both buffers are lent full of other bytes.
use Prim.Native.Nat.{ℕ}
use mathlib.Core.Path.{◌≡◌, refl}
use mathlib.Core.List.{List, [], ◌∷◌, ◌++◌}
use lib.ListN.{replicate}
use Rattle.paper.specs.Places.{set_after, may_end}
use Rattle.paper.specs.Written.{judge}
use Rattle.paper.specs.Search.{enter, offer, take_next, search}
use Rattle.paper.specs.Situation.{trimmed, strike, put_before, open_moves, child_by, children, question}
use Rattle.paper.specs.Way.{search_from}
use Rattle.paper.specs.Question.{acceptor}
use Rattle.paper.specs.Alphabet.{code}
use Rattle.paper.specs.Sheet.{marked, pattern_record, side_record, marked_side, next_is, strays_of}
use Rattle.paper.specs.Outcome.{room_of, searched, count_of, how_of}
use Rattle.paper.specs.Rule.{rule_front, read_rule_before, read_rule, foreign_field, pair}
use Rattle.paper.proofs.known.KnownSheet.{LE}
use Rattle.paper_chosen.specs.Chosen.{acceptor_over, searched_over}
use Rattle.paper_decide.specs.Alike.{alike_in, fixed, fields_standing, alike, is_least, least_ones}
use Rattle.paper_decide.specs.Few.{leaf_choice, chosen_for, few, is_few}
use Rattle.paper_decide.specs.Letters.{divisor, uneven, letters_differ}
use Rattle.paper_decide.specs.OneText.{with_texts}
use Rattle.paper_plain.specs.Standing.{next_pairs, pairs_searched}
use Rattle.paper_plain.specs.Engine.{bits_of, clashes_apart}
use Rattle.paper_decide.specs.Deciding.{concluded}
use Rattle.paper_catalogue.specs.PairAsking.{record_by, pair_answer, pair_count}
use Rattle.paper_catalogue.specs.Catalogue.{form_by, adding}
use Rattle.paper_catalogue.proofs.KnownFew.{RU, zeros, rule_A, kept_rules}
use Rattle.paper_catalogue_decide.specs.DecidedPairs.{pair_decided, by_deciding, adding_decided, rechecking_decided}

-- x4x; x
abbrev x_4_x : List ℕ
x_4_x = RU (LE (64 ∷ 4 ∷ 64 ∷ []))

abbrev x_alone : List ℕ
x_alone = RU (LE (64 ∷ []))

-- `AA`
abbrev rule_AA : List ℕ
rule_AA = RU (LE (10 ∷ 10 ∷ []))

-- `A`, and x4x is new, in a room of six: 01's search leaves it open,
pub searched_known :
    adding (rule_A ++ zeros 8) x_4_x (replicate 1104 90)
    ≡ record { number = 30; count = 6; place = 0; rule = 0; answer = 18; catalogue = rule_A ++ zeros 8; work = replicate 1104 0 }
unfolding set_after may_end judge enter offer take_next search trimmed strike put_before open_moves child_by children question search_from acceptor marked pattern_record side_record marked_side next_is code room_of searched count_of how_of rule_front read_rule_before read_rule foreign_field pair form_by strays_of pair_answer pair_count adding
searched_known = refl

-- and deciding enters it: the letters differ.
pub decided_known :
    adding_decided (rule_A ++ zeros 8) x_4_x (replicate 1104 90)
    ≡ record {
      added = record { number = 0; count = 0; place = 0; rule = 0; answer = 0; catalogue = rule_A ++ x_4_x; work = replicate 1104 0 };
      search = 0;
    }
unfolding set_after may_end judge enter offer take_next search trimmed strike put_before open_moves child_by children question search_from acceptor marked pattern_record side_record marked_side next_is code room_of searched count_of how_of rule_front read_rule_before read_rule foreign_field pair acceptor_over searched_over alike_in fixed fields_standing alike is_least least_ones leaf_choice chosen_for few is_few divisor uneven letters_differ next_pairs pairs_searched bits_of clashes_apart with_texts concluded form_by strays_of pair_decided adding_decided
decided_known = refl

-- x, and `AA` is new, in a room of three: none decides. The seventh attempt uses all up, and yet there is a label.
pub undecided_known :
    adding_decided (x_alone ++ zeros 7) rule_AA (replicate 552 90)
    ≡ record {
      added = record { number = 30; count = 13; place = 0; rule = 0; answer = 18; catalogue = x_alone ++ zeros 7; work = replicate 552 0 };
      search = 0;
    }
unfolding set_after may_end judge enter offer take_next search trimmed strike put_before open_moves child_by children question search_from acceptor marked pattern_record side_record marked_side next_is code room_of searched count_of how_of rule_front read_rule_before read_rule foreign_field pair acceptor_over searched_over alike_in fixed fields_standing alike is_least least_ones leaf_choice chosen_for few is_few divisor uneven letters_differ next_pairs pairs_searched bits_of clashes_apart with_texts concluded form_by strays_of pair_decided adding_decided
undecided_known = refl

-- The same two rules in a kept catalogue: its seven bytes; and `A` and `A` with a space, where the first search tells the clash.
pub listed_undecided :
    rechecking_decided (x_alone ++ rule_AA) (replicate 552 90) (replicate 8 165)
    ≡ record { number = 0; pairs = 1; written = 7; list = 0 ∷ 1 ∷ 18 ∷ 13 ∷ 0 ∷ 0 ∷ 0 ∷ 165 ∷ []; work = replicate 552 0 }
unfolding set_after may_end judge enter offer take_next search trimmed strike put_before open_moves child_by children question search_from acceptor marked pattern_record side_record marked_side next_is code room_of searched count_of how_of rule_front read_rule_before read_rule foreign_field pair acceptor_over searched_over alike_in fixed fields_standing alike is_least least_ones leaf_choice chosen_for few is_few divisor uneven letters_differ next_pairs pairs_searched bits_of clashes_apart with_texts concluded form_by strays_of pair_decided rechecking_decided
listed_undecided = refl

pub listed_clash :
    rechecking_decided kept_rules (replicate 1104 90) (replicate 7 165)
    ≡ record { number = 0; pairs = 1; written = 7; list = 0 ∷ 1 ∷ 0 ∷ 6 ∷ 0 ∷ 0 ∷ 1 ∷ []; work = replicate 1104 0 }
unfolding set_after may_end judge enter offer take_next search trimmed strike put_before open_moves child_by children question search_from acceptor marked pattern_record side_record marked_side next_is code room_of searched count_of how_of rule_front read_rule_before read_rule foreign_field pair acceptor_over searched_over alike_in fixed fields_standing alike is_least least_ones leaf_choice chosen_for few is_few divisor uneven letters_differ next_pairs pairs_searched bits_of clashes_apart with_texts concluded form_by strays_of pair_decided rechecking_decided
listed_clash = refl

-- a count of three bytes
pub seven_bytes_known :
    record_by by_deciding 3 5 (record { answer = 19; count = 70000; search = 0 }) ≡ 3 ∷ 5 ∷ 19 ∷ 112 ∷ 17 ∷ 1 ∷ 0 ∷ []
seven_bytes_known = refl
