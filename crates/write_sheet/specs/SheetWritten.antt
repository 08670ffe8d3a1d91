-- What the answers of writing a sheet tell, in numbers.
use Rattle.std.specs.Prelude.{ℕ, ◌+◌, ◌≤◌, ◌<◌, ◌≡◌, List, length, get_or, Result, Ok, Err, ⊤}
use Rattle.paper.specs.Numbers.{fields, pattern_bytes}
use Rattle.paper.specs.Alphabet.{Edition}
use Rattle.paper_carry.specs.Spelling.{Spelling, spelling_told}
use Rattle.paper.specs.Saying.{ToSay}
use Rattle.base_answers.specs.AnswerNumbers as AnswerNumbers
use Rattle.base_answers.specs.AnswerNumbers.{number_alone, refusal_numbers}
use Rattle.base_answers.specs.Faults.{fault_of}
use Rattle.base_answers.specs.declared.Numbers.{Numbers}
use Rattle.base_answers.specs.declared.Refusal.{Refusal}
use Rattle.base_put.specs.Counted.{put_from}
use Rattle.paper.specs.Equation.{Side}
use Rattle.paper_write.specs.Laying.{Laying, at_fault, laid_out, fields_laid, strays_laid}
use Rattle.write_records.specs.RecordPut.{Lays}
use Rattle.write_sheet.specs.declared.WriteError.{WriteError}
use Rattle.write_sheet.specs.declared.WriteError.TheVariants.{Refused, TooShort}

-- what is given: the edition, 0 for none, the patterns' bytes, their lengths by field number, and both sides
abbrev pub given : ℕ → List ℕ → List ℕ → List ℕ → List ℕ → ToSay
given edition patterns lengths left right =
    record { edition = edition; patterns = patterns; lengths = lengths; left = left; right = right }

abbrev pub error_numbers : WriteError → Numbers
error_numbers (Refused r) = refusal_numbers r
error_numbers TooShort = number_alone 41

abbrev pub written_numbers : Result ℕ WriteError → Numbers
written_numbers (Ok bytes) = AnswerNumbers.written_numbers bytes
written_numbers (Err e) = error_numbers e

abbrev pub told_written : Result ℕ WriteError → List ℕ → Spelling
told_written w out = let n = written_numbers w in spelling_told n.number n.place n.written out

-- how far a record goes, or where its fault is
abbrev pub span : Result ℕ Refusal → ℕ
span (Ok bytes) = bytes
span (Err r) = r.place

-- the same with so many bytes in front
abbrev pub moved : ℕ → Result ℕ Refusal → Result ℕ Refusal
moved n (Ok bytes) = Ok (n + bytes)
moved n (Err r) = Err (record { fault = r.fault; place = n + r.place })

-- the patterns' records laid out behind bytes that stand in front, so many
abbrev pub PatternsLaid : Edition → List ℕ → List ℕ → List ℕ → List ℕ → ℕ → Result ℕ Refusal → Type 0
PatternsLaid e lengths patterns before after start r =
    (d front : List ℕ) → start ≡ length front → before ≡ put_from d 0 front → Lays d after 0 r (fields_laid e front 0 lengths patterns)

-- what the last check makes of what is laid out
abbrev pub strays_told : Result ⊤ Refusal → List ℕ → Laying
strays_told (Ok u) done = laid_out done
strays_told (Err r) done = at_fault (fault_of r.fault) r.place

-- the first stray, or none, whatever is laid out
abbrev pub StraysFound : Side → List ℕ → ℕ → Result ⊤ Refusal → Type 0
StraysFound side lengths start r = (done : List ℕ) → strays_laid side done start 0 lengths ≡ strays_told r done

-- lengths whose records were laid out: a field that has a pattern is known, and its pattern fits into a record
abbrev pub KnownLengths : List ℕ → Type 0
KnownLengths lengths = (f : ℕ) → 0 < get_or lengths f 0 → (f < fields) × (get_or lengths f 0 ≤ pattern_bytes)
