-- Known calls of a catalogue (request K1) through the definitions. One proof over a list of additions and one over a list of withdrawals; the
-- checker computes them. Each row fixes all that a call tells and leaves: the numbers, the catalogue, and for an addition the working buffer.
--
-- The working buffer is lent full of another byte. The bytes of each catalogue are written out, its zeros too. A pair's count is that of the
-- search with the hidden fields (request K3), and a field without a pattern holds one character or more (request K5).
use Prim.Native.Nat.{ℕ, ◌+◌}
use mathlib.Core.Path.{◌≡◌, refl}
use mathlib.Core.Bool.{Bool, true, false, cond}
use mathlib.Core.List.{List, [], ◌∷◌, ◌++◌, map}
use lib.ListN.{replicate}
use Rattle.paper.specs.Lists.{upto, each}
use Rattle.paper.specs.Places.{set_after, may_end}
use Rattle.paper.specs.Written.{judge}
use Rattle.paper.specs.Search.{enter, offer, take_next, search}
use Rattle.paper.specs.Situation.{trimmed, strike, put_before, open_moves, child_by, children, question}
use Rattle.paper.specs.Way.{search_from}
use Rattle.paper.specs.Question.{acceptor}
use Rattle.paper.specs.Alphabet.{code}
use Rattle.paper.specs.Sheet.{marked, pattern_record, side_record, marked_side, next_is, strays_of}
use Rattle.paper.specs.Outcome.{room_of, searched, count_of, how_of}
use Rattle.paper.specs.Rule.{rule_front, read_rule_before, read_rule, foreign_field, pair}
use Rattle.paper_catalogue.specs.PairAsking.{pair_answer, pair_count}
use Rattle.paper_catalogue.specs.Catalogue.{form_by, Added, adding, Withdrawn, withdrawing}
use Rattle.paper.proofs.known.KnownSheet.{ED_2, PA, LE, RI}
use Rattle.paper_catalogue.proofs.KnownFew.{RU, zeros, rule_A, rule_B, A_spaces}

-- a catalogue, a rule's bytes, the bytes of work lent, and what must come; whether the working buffer is all zero afterwards or unchanged
record KnownAddition : Type 0 where
  catalogue : List ℕ
  bytes : List ℕ
  work_bytes : ℕ
  number : ℕ
  count : ℕ
  place : ℕ
  rule : ℕ
  answer : ℕ
  after : List ℕ
  all_zero : Bool

-- entered: catalogue, rule, bytes of work, the catalogue afterwards, whether a pair was searched
abbrev entered_row : List ℕ → List ℕ → ℕ → List ℕ → Bool → KnownAddition
entered_row c b w after z =
    record { catalogue = c; bytes = b; work_bytes = w; number = 0; count = 0; place = 0; rule = 0; answer = 0; after = after; all_zero = z }

-- 30: catalogue, rule, bytes of work, then the number of the first rule not answered 1, its pair's answer and its pair's count
abbrev clash_row : List ℕ → List ℕ → ℕ → ℕ → ℕ → ℕ → KnownAddition
clash_row c b w i answer count =
    record { catalogue = c; bytes = b; work_bytes = w; number = 30; count = count; place = 0; rule = i; answer = answer; after = c; all_zero = true }

-- refused before any pair is searched: catalogue, rule, number, place
abbrev refused_row : List ℕ → List ℕ → ℕ → ℕ → KnownAddition
refused_row c b n p =
    record { catalogue = c; bytes = b; work_bytes = 1104; number = n; count = 0; place = p; rule = 0; answer = 0; after = c; all_zero = false }

abbrev work_before : KnownAddition → List ℕ
work_before k = replicate k.work_bytes 90

abbrev got : KnownAddition → Added
got k = adding k.catalogue k.bytes (work_before k)

abbrev wanted : KnownAddition → Added
wanted k =
    record {
      number = k.number;
      count = k.count;
      place = k.place;
      rule = k.rule;
      answer = k.answer;
      catalogue = k.after;
      work = cond k.all_zero (replicate k.work_bytes 0) (work_before k);
    }

-- rules: `AB`; x open; x any digits; x the digit 4; 24 times x
abbrev rule_AB : List ℕ
rule_AB = 82 ∷ 85 ∷ 76 ∷ 69 ∷ 2 ∷ 10 ∷ 11 ∷ []

abbrev pub rule_x : List ℕ
rule_x = 82 ∷ 85 ∷ 76 ∷ 69 ∷ 1 ∷ 64 ∷ []

-- x`A`, open, and with the old meaning written out
abbrev pub x_A : List ℕ
x_A = RU (LE (64 ∷ 10 ∷ []))

abbrev pub x_A_written_out : List ℕ
x_A_written_out = RU (PA 0 (68 ∷ 65 ∷ 0 ∷ 42 ∷ []) ++ LE (64 ∷ 10 ∷ []))

abbrev digits : List ℕ
digits = RU (PA 0 (68 ∷ 65 ∷ 0 ∷ 9 ∷ []) ++ LE (64 ∷ []))

abbrev the_4 : List ℕ
the_4 = RU (PA 0 (4 ∷ []) ++ LE (64 ∷ []))

abbrev pub many_x : List ℕ
many_x = RU (LE (replicate 24 64))

-- a field with one character for its pattern
abbrev one_character : ℕ → ℕ → List ℕ
one_character f c = RU (PA f (c ∷ []) ++ LE ((64 + f) ∷ []))

-- a rule of 33 bytes
abbrev of_33_bytes : List ℕ
of_33_bytes = RU (PA 0 (0 ∷ []) ++ LE (64 ∷ replicate 22 10))

-- `A`, and a pattern of field 0, which doesn't stand
abbrev pub stray_A : List ℕ
stray_A = RU (PA 0 (0 ∷ []) ++ LE (10 ∷ []))

-- n rules without a token, of five bytes each
abbrev pub empty_rules : ℕ → List ℕ
empty_rules n = each (λ (i : ℕ). RU (LE [])) (upto n)

-- "rules added singly": where the bytes come to stand, and whether they fit
abbrev entered_rules : List KnownAddition
entered_rules =
    -- `A` into 16 zero bytes, with no byte of work
    entered_row (zeros 16) rule_A 0 (82 ∷ 85 ∷ 76 ∷ 69 ∷ 1 ∷ 10 ∷ zeros 10) false ∷
    -- into as many bytes as the rule has
    entered_row (zeros 6) rule_A 200 rule_A false ∷
    -- a rule of 33 bytes into 33
    entered_row (zeros 33) of_33_bytes 200 of_33_bytes false ∷
    -- `B` behind `A`: they are apart, in one situation
    entered_row (rule_A ++ zeros 10) rule_B 184 (82 ∷ 85 ∷ 76 ∷ 69 ∷ 1 ∷ 10 ∷ 82 ∷ 85 ∷ 76 ∷ 69 ∷ 1 ∷ 11 ∷ zeros 4) true ∷
    -- `AB` behind both, to the last byte
    entered_row (rule_A ++ rule_B ++ zeros 7) rule_AB 1104 (rule_A ++ rule_B ++ rule_AB) true ∷
    -- `A B` behind `A`: a space in the middle is not dropped
    entered_row (rule_A ++ zeros 8) (RU (LE (10 ∷ 38 ∷ 11 ∷ []))) 400 (rule_A ++ RU (LE (10 ∷ 38 ∷ 11 ∷ []))) true ∷
    -- `A` behind any digits
    entered_row (digits ++ zeros 7) rule_A 1104 (digits ++ rule_A ++ zeros 1) true ∷
    -- `A` behind x`A`, open: x is not struck to nothing
    entered_row (x_A ++ zeros 6) rule_A 1150 (x_A ++ rule_A) true ∷
    -- the same field of both rules is not one field: x is `A` in the one and `B` in the other, for field 0 and for field 3
    entered_row (one_character 0 10 ++ zeros 11) (one_character 0 11) 1104 (one_character 0 10 ++ one_character 0 11) true ∷
    entered_row (one_character 3 10 ++ zeros 11) (one_character 3 11) 1104 (one_character 3 10 ++ one_character 3 11) true ∷
    []

-- "30 for a pair not answered 1"
abbrev clashing_rules : List KnownAddition
clashing_rules =
    -- x and `A`, either way round: ten situations
    clash_row (rule_x ++ zeros 6) rule_A 2050 0 0 10 ∷
    clash_row (rule_A ++ zeros 6) rule_x 2050 0 0 10 ∷
    -- a byte less than ten situations lent, one situation, none
    clash_row (rule_x ++ zeros 6) rule_A 1839 0 18 9 ∷
    clash_row (rule_x ++ zeros 6) rule_A 184 0 18 1 ∷
    clash_row (rule_x ++ zeros 6) rule_A 183 0 18 0 ∷
    -- 24 times x and `AA`: 48 tokens are passed
    clash_row (many_x ++ zeros 10) (RU (LE (10 ∷ 10 ∷ []))) 552 0 19 3 ∷
    -- any digits and the digit 4, as sheet S
    clash_row (digits ++ zeros 20) the_4 2400 0 0 13 ∷
    -- x`AAA` and x`AA`: the present rule is the left side, whose front is struck first
    clash_row (RU (LE (64 ∷ 10 ∷ 10 ∷ 10 ∷ [])) ++ zeros 10) (RU (LE (64 ∷ 10 ∷ 10 ∷ []))) 4050 0 0 20 ∷
    clash_row (RU (LE (64 ∷ 10 ∷ 10 ∷ [])) ++ zeros 10) (RU (LE (64 ∷ 10 ∷ 10 ∷ 10 ∷ []))) 4050 0 0 21 ∷
    -- `B` again: the pair with `A` is answered 1, that with `B` is not
    clash_row (rule_A ++ rule_B ++ zeros 6) rule_B 1104 1 0 5 ∷
    -- x: the pairs with both are not answered 1, and the first is told
    clash_row (rule_A ++ rule_B ++ zeros 6) rule_x 2050 0 0 10 ∷
    -- the same field of both rules: x is `A` in both
    clash_row (one_character 3 10 ++ zeros 11) (one_character 3 10) 2050 0 0 11 ∷
    -- rules that differ only in spaces at the end: on the right, on the left, on both; a byte less than six situations lent
    clash_row (rule_A ++ zeros 7) (A_spaces 1) 1104 0 0 6 ∷
    clash_row (A_spaces 1 ++ zeros 6) rule_A 1104 0 0 6 ∷
    clash_row (A_spaces 1 ++ zeros 8) (A_spaces 2) 1104 0 0 6 ∷
    clash_row (rule_A ++ zeros 7) (A_spaces 1) 1103 0 18 5 ∷
    -- a rule that makes spaces alone, and one without a token
    clash_row (RU (LE (38 ∷ 38 ∷ [])) ++ zeros 5) (RU (LE [])) 1500 0 0 7 ∷
    -- a rule without a token, and x, which is one space; x`A` and `A`, x written out
    clash_row (RU (LE []) ++ zeros 6) rule_x 1700 0 0 9 ∷
    clash_row (x_A_written_out ++ zeros 6) rule_A 2050 0 0 10 ∷
    []

-- the refusals before any pair: "34 .., then the rule's own 11 to 17, then 31 .., then 32", and 22 "between 17 and 31" (request K13)
abbrev refused_rules : List KnownAddition
refused_rules =
    -- no byte for the rule; one byte too few; a rule of 33 bytes and 32 left
    refused_row [] rule_A 32 0 ∷
    refused_row (rule_A ++ zeros 5) rule_B 32 0 ∷
    refused_row (zeros 32) of_33_bytes 32 0 ∷
    -- 32 before 30
    refused_row rule_A rule_A 32 0 ∷
    -- 32 rules stand
    refused_row (empty_rules 32 ++ zeros 20) rule_A 32 0 ∷
    -- a token of field 4; with its pattern; 31 before 32
    refused_row (zeros 16) (RU (LE (68 ∷ []))) 31 0 ∷
    refused_row (zeros 16) (RU (PA 4 (0 ∷ []) ++ LE (68 ∷ []))) 31 0 ∷
    refused_row [] (RU (LE (10 ∷ 71 ∷ []))) 31 0 ∷
    -- a stray pattern alone, before 32; two behind one that stands: the first one's mark, from `RU`
    refused_row (zeros 16) stray_A 22 2 ∷
    refused_row [] stray_A 22 2 ∷
    refused_row (zeros 16) (RU (PA 0 (68 ∷ 0 ∷ []) ++ PA 1 (0 ∷ []) ++ PA 2 (0 ∷ []) ++ LE (64 ∷ []))) 22 8 ∷
    -- 22 before 31: a stray pattern of field 4; one of field 1, and field 4 stands
    refused_row (zeros 16) (RU (PA 4 (0 ∷ []) ++ LE (10 ∷ []))) 22 2 ∷
    refused_row (zeros 16) (RU (PA 1 (0 ∷ []) ++ LE (68 ∷ []))) 22 2 ∷
    -- a stray pattern and a byte behind the rule; a stray pattern and a byte that is no token
    refused_row (zeros 16) (stray_A ++ 0 ∷ []) 12 11 ∷
    refused_row (zeros 16) (RU (PA 0 (0 ∷ []) ++ LE (72 ∷ []))) 17 10 ∷
    -- no byte, one byte, the mark alone, a side cut short, behind a pattern too
    refused_row (zeros 16) [] 11 0 ∷
    refused_row (zeros 16) (82 ∷ []) 11 1 ∷
    refused_row (zeros 16) (RU []) 11 2 ∷
    refused_row (zeros 16) (RU (76 ∷ 69 ∷ 1 ∷ [])) 11 5 ∷
    refused_row (zeros 16) (RU (PA 0 (0 ∷ []))) 11 7 ∷
    -- another mark than `RU`; `RI` for `LE`; a byte behind `LE`
    refused_row (zeros 16) (LE (10 ∷ [])) 12 0 ∷
    refused_row (zeros 16) (RU (RI (10 ∷ []))) 12 2 ∷
    refused_row (zeros 16) (rule_A ++ 0 ∷ []) 12 6 ∷
    -- "a rule never has `ED`": behind its mark, in front of it, with the byte of no edition; and its characters are Code 39's
    refused_row (zeros 16) (RU (ED_2 ++ LE (10 ∷ []))) 12 2 ∷
    refused_row (zeros 16) (ED_2 ++ rule_A) 12 0 ∷
    refused_row (zeros 16) (RU (69 ∷ 68 ∷ 1 ∷ LE (10 ∷ []))) 12 2 ∷
    refused_row (zeros 16) (RU (LE (10 ∷ 127 ∷ []))) 17 6 ∷
    refused_row (zeros 16) (RU (LE (192 ∷ []))) 17 5 ∷
    -- field 8; a field number that stays; lengths; patterns; a token; each before 31
    refused_row (zeros 16) (RU (PA 8 (0 ∷ []) ++ LE [])) 13 4 ∷
    refused_row (zeros 16) (RU (PA 4 (0 ∷ []) ++ PA 4 (0 ∷ []) ++ LE [])) 13 9 ∷
    refused_row (zeros 16) (RU (PA 4 [] ++ LE [])) 14 5 ∷
    refused_row (zeros 16) (RU (PA 4 (0 ∷ 0 ∷ []) ++ LE [])) 15 7 ∷
    refused_row (zeros 16) (RU (PA 4 (replicate 63 66 ++ replicate 64 0) ++ LE [])) 16 132 ∷
    refused_row (zeros 16) (RU (LE (68 ∷ 72 ∷ []))) 17 6 ∷
    -- a byte that is not zero behind the zeros, and behind the last record; a gap between two records
    refused_row (zeros 16 ++ 1 ∷ []) rule_A 34 0 ∷
    refused_row (rule_A ++ 0 ∷ 82 ∷ []) rule_B 34 0 ∷
    refused_row (rule_A ++ 0 ∷ rule_B) rule_AB 34 0 ∷
    -- a rule that names field 4; a rule with a stray pattern, the first and the second one
    refused_row (RU (LE (68 ∷ [])) ++ zeros 10) rule_A 34 0 ∷
    refused_row (stray_A ++ zeros 10) rule_B 34 0 ∷
    refused_row (rule_B ++ stray_A ++ zeros 10) rule_AB 34 0 ∷
    -- a rule cut short; a rule with `ED`; 33 rules; before a fault of the rule
    refused_row (82 ∷ 85 ∷ 76 ∷ 69 ∷ 1 ∷ []) rule_A 34 0 ∷
    refused_row (RU (ED_2 ++ LE (10 ∷ [])) ++ zeros 10) rule_A 34 0 ∷
    refused_row (empty_rules 33 ++ zeros 20) rule_A 34 0 ∷
    refused_row (1 ∷ []) [] 34 0 ∷
    []

abbrev known_additions : List KnownAddition
known_additions = entered_rules ++ clashing_rules ++ refused_rules

pub known_additions_met : map got known_additions ≡ map wanted known_additions
unfolding set_after may_end judge enter offer take_next search trimmed strike put_before open_moves child_by children question search_from acceptor marked pattern_record side_record marked_side next_is code room_of searched count_of how_of rule_front read_rule_before read_rule foreign_field pair form_by strays_of pair_answer pair_count adding
known_additions_met = refl

-- a catalogue, the number of a rule, the number that must come, the catalogue afterwards
record KnownWithdrawal : Type 0 where
  catalogue : List ℕ
  rule : ℕ
  number : ℕ
  after : List ℕ

abbrev withdrawn_row : List ℕ → ℕ → List ℕ → KnownWithdrawal
withdrawn_row c i after = record { catalogue = c; rule = i; number = 0; after = after }

abbrev unchanged_row : List ℕ → ℕ → ℕ → KnownWithdrawal
unchanged_row c i n = record { catalogue = c; rule = i; number = n; after = c }

-- "withdrawing closes the gap"; "34, then 33 if no rule has that number"
abbrev known_withdrawals : List KnownWithdrawal
known_withdrawals =
    -- the first of two rules, of six and of seven bytes; the second
    withdrawn_row (82 ∷ 85 ∷ 76 ∷ 69 ∷ 1 ∷ 10 ∷ 82 ∷ 85 ∷ 76 ∷ 69 ∷ 2 ∷ 10 ∷ 11 ∷ 0 ∷ 0 ∷ 0 ∷ []) 0
    (82 ∷ 85 ∷ 76 ∷ 69 ∷ 2 ∷ 10 ∷ 11 ∷ 0 ∷ 0 ∷ 0 ∷ 0 ∷ 0 ∷ 0 ∷ 0 ∷ 0 ∷ 0 ∷ []) ∷
    withdrawn_row (rule_A ++ rule_AB ++ zeros 3) 1 (rule_A ++ zeros 10) ∷
    -- the middle one of three, with no zero behind them
    withdrawn_row (rule_A ++ rule_AB ++ digits) 1 (rule_A ++ digits ++ zeros 7) ∷
    -- the only one
    withdrawn_row rule_A 0 (zeros 6) ∷
    -- the last of 32
    withdrawn_row (empty_rules 32) 31 (empty_rules 31 ++ zeros 5) ∷
    -- pairs are not searched again: two rules that make the same label
    withdrawn_row (rule_A ++ rule_A) 0 (rule_A ++ zeros 6) ∷
    -- from no bytes; no rule with that number
    unchanged_row [] 0 33 ∷
    unchanged_row (zeros 16) 0 33 ∷
    unchanged_row (rule_A ++ rule_AB ++ zeros 3) 2 33 ∷
    -- not of the form, whether or not a rule could have the number
    unchanged_row (rule_A ++ 0 ∷ 1 ∷ []) 0 34 ∷
    unchanged_row (RU (LE (68 ∷ []))) 1 34 ∷
    unchanged_row (rule_B ++ stray_A ++ zeros 5) 0 34 ∷
    unchanged_row stray_A 1 34 ∷
    unchanged_row (empty_rules 33) 0 34 ∷
    []

abbrev got_back : KnownWithdrawal → Withdrawn
got_back k = withdrawing k.catalogue k.rule

abbrev wanted_back : KnownWithdrawal → Withdrawn
wanted_back k = record { number = k.number; catalogue = k.after }

pub known_withdrawals_met : map got_back known_withdrawals ≡ map wanted_back known_withdrawals
unfolding judge marked pattern_record side_record marked_side next_is code rule_front foreign_field form_by strays_of withdrawing
known_withdrawals_met = refl
