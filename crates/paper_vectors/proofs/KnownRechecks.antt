-- Known rechecks of a kept catalogue (request K3) through the definitions. The checker computes them.
--   known_rechecks_met : one proof over a list. Each row fixes all that a call tells and leaves: the number, how many pairs are listed, the bytes
--                        written, the list buffer and the working buffer
--   pair_records_known : the five bytes of a pair, where its count has two bytes
--
-- Both buffers are lent full of other bytes. The bytes of each catalogue are written out, its zeros too. The order of the pairs and a list
-- buffer of a byte too little stand in `paper_catalogue` (`KnownFew`).
use Prim.Native.Nat.{ℕ}
use mathlib.Core.Path.{◌≡◌, refl}
use mathlib.Core.Bool.{Bool, true, false, cond}
use mathlib.Core.List.{List, [], ◌∷◌, ◌++◌, map}
use lib.ListN.{length, drop, replicate}
use Rattle.paper.specs.Places.{set_after, may_end}
use Rattle.paper.specs.Written.{judge}
use Rattle.paper.specs.Search.{enter, offer, take_next, search}
use Rattle.paper.specs.Situation.{trimmed, strike, put_before, open_moves, child_by, children, question}
use Rattle.paper.specs.Way.{search_from}
use Rattle.paper.specs.Question.{acceptor}
use Rattle.paper.specs.Alphabet.{code}
use Rattle.paper.specs.Sheet.{marked, pattern_record, side_record, marked_side, next_is, strays_of}
use Rattle.paper.specs.Outcome.{room_of, searched, count_of, how_of}
use Rattle.paper.specs.Rule.{rule_front, foreign_field, pair}
use Rattle.paper_catalogue.specs.PairAsking.{pair_answer, pair_count}
use Rattle.paper_catalogue.specs.Catalogue.{form_by}
use Rattle.paper_catalogue.specs.Recheck.{pair_record, Rechecked, rechecking}
use Rattle.paper.proofs.known.KnownSheet.{PA, LE}
use Rattle.paper_catalogue.proofs.KnownFew.{RU, zeros, rule_A, rule_B, A_spaces, kept_rules, two_and_two}
use Rattle.paper_vectors.proofs.KnownCatalogue.{rule_x, x_A, x_A_written_out, many_x, stray_A, empty_rules}

-- a catalogue, the bytes of work and of list lent, and what must come; whether the working buffer is all zero afterwards or unchanged
record KnownRecheck : Type 0 where
  catalogue : List ℕ
  work_bytes : ℕ
  list_bytes : ℕ
  number : ℕ
  pairs : ℕ
  bytes : List ℕ
  all_zero : Bool

-- fewer than two rules: catalogue
abbrev no_pair_row : List ℕ → KnownRecheck
no_pair_row c = record { catalogue = c; work_bytes = 200; list_bytes = 8; number = 0; pairs = 0; bytes = []; all_zero = false }

-- the pairs not answered 1: catalogue, bytes of work, bytes of list, how many pairs, the list
abbrev listed_row : List ℕ → ℕ → ℕ → ℕ → List ℕ → KnownRecheck
listed_row c w l n b = record { catalogue = c; work_bytes = w; list_bytes = l; number = 0; pairs = n; bytes = b; all_zero = true }

-- a list buffer that is too short: catalogue, bytes of work, bytes of list
abbrev too_short_row : List ℕ → ℕ → ℕ → KnownRecheck
too_short_row c w l = record { catalogue = c; work_bytes = w; list_bytes = l; number = 35; pairs = 0; bytes = []; all_zero = true }

-- a buffer that is no catalogue, and the bytes of list
abbrev no_catalogue_row : List ℕ → ℕ → KnownRecheck
no_catalogue_row c l = record { catalogue = c; work_bytes = 1104; list_bytes = l; number = 34; pairs = 0; bytes = []; all_zero = false }

abbrev work_before : KnownRecheck → List ℕ
work_before k = replicate k.work_bytes 90

abbrev list_before : KnownRecheck → List ℕ
list_before k = replicate k.list_bytes 165

abbrev got : KnownRecheck → Rechecked
got k = rechecking k.catalogue (work_before k) (list_before k)

abbrev wanted : KnownRecheck → Rechecked
wanted k =
    record {
      number = k.number;
      pairs = k.pairs;
      written = length k.bytes;
      list = k.bytes ++ drop (length k.bytes) (list_before k);
      work = cond k.all_zero (replicate k.work_bytes 0) (work_before k);
    }

-- `AA`; x`AAA` and x`AA`
abbrev rule_AA : List ℕ
rule_AA = RU (LE (10 ∷ 10 ∷ []))

abbrev x_AAA : List ℕ
x_AAA = RU (LE (64 ∷ 10 ∷ 10 ∷ 10 ∷ []))

abbrev x_AA : List ℕ
x_AA = RU (LE (64 ∷ 10 ∷ 10 ∷ []))

abbrev known_rechecks : List KnownRecheck
known_rechecks =
    -- no byte, no rule, one rule: no pair is searched
    no_pair_row [] ∷
    no_pair_row (zeros 16) ∷
    no_pair_row (rule_A ++ zeros 4) ∷
    no_pair_row rule_x ∷
    -- two rules apart, in one situation; no byte of list
    listed_row (rule_A ++ rule_B) 200 8 0 [] ∷
    listed_row (rule_A ++ rule_B) 184 0 0 [] ∷
    -- two rules that differ in a space at the end: the list to the byte, longer, no byte
    listed_row kept_rules 1104 5 1 (0 ∷ 1 ∷ 0 ∷ 6 ∷ 0 ∷ []) ∷
    listed_row kept_rules 1150 12 1 (0 ∷ 1 ∷ 0 ∷ 6 ∷ 0 ∷ []) ∷
    too_short_row kept_rules 1150 0 ∷
    -- a byte less than six situations lent, none
    listed_row kept_rules 1103 8 1 (0 ∷ 1 ∷ 18 ∷ 5 ∷ 0 ∷ []) ∷
    listed_row kept_rules 0 8 1 (0 ∷ 1 ∷ 18 ∷ 0 ∷ 0 ∷ []) ∷
    -- 24 times x and `AA`: 48 tokens are passed
    listed_row (many_x ++ rule_AA) 600 8 1 (0 ∷ 1 ∷ 19 ∷ 3 ∷ 0 ∷ []) ∷
    -- x`AAA` and x`AA`: the lower rule is the left side, whose front is struck first
    listed_row (x_AAA ++ x_AA) 4050 8 1 (0 ∷ 1 ∷ 0 ∷ 20 ∷ 0 ∷ []) ∷
    listed_row (x_AA ++ x_AAA) 4050 8 1 (0 ∷ 1 ∷ 0 ∷ 21 ∷ 0 ∷ []) ∷
    -- the first and the last of three; the last two
    listed_row (rule_A ++ rule_B ++ A_spaces 1) 1150 8 1 (0 ∷ 2 ∷ 0 ∷ 6 ∷ 0 ∷ []) ∷
    listed_row (rule_B ++ rule_A ++ A_spaces 1) 1150 8 1 (1 ∷ 2 ∷ 0 ∷ 6 ∷ 0 ∷ []) ∷
    -- x`A` and `A`: apart where x is open, listed where the old meaning is written out
    listed_row (x_A ++ rule_A) 1150 8 0 [] ∷
    listed_row (x_A_written_out ++ rule_A) 2050 8 1 (0 ∷ 1 ∷ 0 ∷ 10 ∷ 0 ∷ []) ∷
    -- all of three: `A`, x, `A` with a space
    listed_row (rule_A ++ rule_x ++ A_spaces 1) 2800 20 3
    (0 ∷ 1 ∷ 0 ∷ 10 ∷ 0 ∷ 0 ∷ 2 ∷ 0 ∷ 6 ∷ 0 ∷ 1 ∷ 2 ∷ 0 ∷ 14 ∷ 0 ∷ []) ∷
    -- `A` with no space, with one and with two, in six situations: the pair of the first and the last has no room, the one behind it has
    listed_row (rule_A ++ A_spaces 1 ++ A_spaces 2) 1150 15 3
    (0 ∷ 1 ∷ 0 ∷ 6 ∷ 0 ∷ 0 ∷ 2 ∷ 18 ∷ 6 ∷ 0 ∷ 1 ∷ 2 ∷ 0 ∷ 6 ∷ 0 ∷ []) ∷
    -- `A`, `B`, `B` with a space, `A` with a space: a byte too short
    too_short_row two_and_two 1150 9 ∷
    -- not of the form: a byte behind the zeros, before 35 too; a rule that names field 4; one with a stray pattern, before 35 too; 33 rules
    no_catalogue_row (kept_rules ++ 1 ∷ []) 8 ∷
    no_catalogue_row (kept_rules ++ 1 ∷ []) 0 ∷
    no_catalogue_row (rule_A ++ RU (PA 4 (0 ∷ []) ++ LE (68 ∷ []))) 8 ∷
    no_catalogue_row (rule_A ++ stray_A) 8 ∷
    no_catalogue_row (rule_A ++ stray_A) 0 ∷
    no_catalogue_row (empty_rules 33) 8 ∷
    []

pub known_rechecks_met : map got known_rechecks ≡ map wanted known_rechecks
unfolding set_after may_end judge enter offer take_next search trimmed strike put_before open_moves child_by children question search_from acceptor marked pattern_record side_record marked_side next_is code room_of searched count_of how_of rule_front foreign_field pair form_by strays_of pair_answer pair_count rechecking
known_rechecks_met = refl

-- "the count in two bytes (low first)"
pub pair_records_known :
    pair_record 0 1 18 255 ++ pair_record 2 31 18 256 ++ pair_record 30 31 19 356
    ≡ 0 ∷ 1 ∷ 18 ∷ 255 ∷ 0 ∷ 2 ∷ 31 ∷ 18 ∷ 0 ∷ 1 ∷ 30 ∷ 31 ∷ 19 ∷ 100 ∷ 1 ∷ []
pair_records_known = refl
