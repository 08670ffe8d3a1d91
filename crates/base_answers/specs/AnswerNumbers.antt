-- What the library's answer says, in document 01's numbers.
use Rattle.std.specs.Prelude.{ℕ, cond, List, ltb, Result, Ok, Err}
use Rattle.paper.specs.Outcome.{Outcome}
use Rattle.paper.specs.Sheet.{fault_number}
use Rattle.base_answers.specs.Faults.{fault_of}
use Rattle.base_answers.specs.declared.How.{How}
use Rattle.base_answers.specs.declared.How.TheVariants.{Clash, NoClash, NoRoom, SideTooLong, AnswerTooShort}
use Rattle.base_answers.specs.declared.Ended.{Ended}
use Rattle.base_answers.specs.declared.Refusal.{Refusal}
use Rattle.base_answers.specs.declared.Numbers.{Numbers}

-- "For an answer that is an enum, a definition gives this paper's number and values for each case."
abbrev pub how_number : How → ℕ
how_number (Clash written) = 0
how_number NoClash = 1
how_number NoRoom = 18
how_number SideTooLong = 19
how_number AnswerTooShort = 20

-- the answer bytes written
abbrev pub how_written : How → ℕ
how_written (Clash written) = written
how_written NoClash = 0
how_written NoRoom = 0
how_written SideTooLong = 0
how_written AnswerTooShort = 0

-- a clash is 0, also where what tells of it is not written: from 20 on
abbrev pub clash_is_0 : ℕ → ℕ
clash_is_0 n = cond (ltb n 20) n 0

-- its number in a pair: "a pair's texts are not written, so it can't give 20"
abbrev pub number_in_pair : How → ℕ
number_in_pair how = clash_is_0 (how_number how)

-- so many bytes were written; a number of which nothing else is told; and what a sheet or a rule is refused for
abbrev pub written_numbers : ℕ → Numbers
written_numbers written = record { number = 0; count = 0; place = 0; written = written }

abbrev pub number_alone : ℕ → Numbers
number_alone number = record { number = number; count = 0; place = 0; written = 0 }

abbrev pub refusal_numbers : Refusal → Numbers
refusal_numbers r = record { number = fault_number (fault_of r.fault); count = 0; place = r.place; written = 0 }

-- the answer to a sheet: how its search ended, or what it is refused for
abbrev pub Answer : Type 0
Answer = Result Ended Refusal

abbrev pub as_numbers : Answer → Numbers
as_numbers (Ok e) = record { number = how_number e.how; count = e.count; place = 0; written = how_written e.how }
as_numbers (Err r) = refusal_numbers r

-- the outcome that an answer tells, with both buffers as they are afterwards
abbrev pub told : Answer → List ℕ → List ℕ → Outcome
told a answer work =
    let n = as_numbers a in
    record {
      number = n.number;
      count = n.count;
      place = n.place;
      written = n.written;
      answer = answer;
      work = work;
    }
