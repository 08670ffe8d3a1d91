-- A question that a sheet asks can be said.
--   sheet_sayable : read_sheet s ≡ asked q → Sayable q
-- It is good (`Asked`), and the code of each pattern has at most 192 bytes. Follows from the checks on the patterns' records.
use Prim.Native.Nat.{ℕ, suc, ◌+◌}
use native.Mathlib.Omega.{arith}
use mathlib.Core.Path.{◌≡◌, subst}
use mathlib.Core.List.{List, [], ◌∷◌}
use lib.Dec.{ltb}
use lib.ListN.{length, get_or, drop, length-take, length-map}
use Rattle.paper.specs.Numbers.{fields}
use Rattle.paper.specs.Pattern.{Held, some_text, pattern}
use Rattle.paper.specs.Equation.{Side}
use Rattle.paper.specs.Alphabet.{Edition, alphabet_of, code}
use Rattle.paper.specs.Question.{Question}
use Rattle.paper.specs.Sheet.{Checked, fault, read, FieldPattern, byte_at, body, body_codes, LE, RI, marked_side, Records, faulty, records, Fields, open_fields}
use Rattle.paper.specs.Sheet.{with_pattern, read_patterns, Reading, refused, asked, read_end, right_read, left_read, sides_read, edition_front, edition_read, read_sheet}
use Rattle.paper.specs.Sheet.{strays, LastCheck, no_check, at_stray, stray_check, read_by, read_before}
use Rattle.paper.proofs.base.Tests.{cond_by}
use Rattle.paper_laws.proofs.sheets.Asked.{PatternRead, set_by, open_by, Listed, patterns_by, before_good, sheet_good}
use Rattle.paper_laws.proofs.saying.Code.{judged_code}
use Rattle.paper_laws.proofs.saying.Saying.{ShortCode, Sayable}

-- "length byte n 1 to 192"
abbrev Short : List Held → Type 0
Short held = (f : ℕ) → ShortCode (get_or held f some_text)

abbrev ShortFields : Fields → Type 0
ShortFields fs = Short fs.held

one_pattern : (e : Edition) (s : List ℕ) (at : ℕ) (fs : Fields) (fp : FieldPattern) → ShortFields fs → PatternRead e s at fs.above fp
    → ShortFields (with_pattern fs at fp)
one_pattern e s at fs fp h g = set_by ShortCode fs.held fp.field (pattern fp.its) its h
  where
    its : ShortCode (pattern fp.its)
    its =
        let n = byte_at s (at + 3) in
        rw (judged_code (body_codes e s (at + 4) n) g.its_bytes, length-map (body s (at + 4) n) (code e), length-take n (drop (at + 4) s)) (omega (arith, g.short))

-- the question that a reading asks
abbrev AsksShort : Reading → Type 0
AsksShort (refused x at) = Unit {0}
AsksShort (asked q) = Short q.held

module _ (last : LastCheck) (it : (marks : List ℕ) (q : Question) → Short q.held → AsksShort (last marks q)) where
  end_short : (s : List ℕ) (at : ℕ) (marks : List ℕ) (q : Question) → Short q.held → AsksShort (read_end last s at marks q)
  unfolding read_end
  end_short s at marks q h = cond_by AsksShort (ltb at (length s)) (λ _. tt) (λ _. it marks q h)

  module _ (e : Edition) (s : List ℕ) where
    right_short : (fs : Fields) (l : Side) (x : Checked Side) → ShortFields fs → AsksShort (right_read last e s fs l x)
    right_short fs l (fault x at) h = tt
    right_short fs l (read r next) h = end_short s next fs.marks (record { alphabet = alphabet_of e; left = l; right = r; held = fs.held }) h

    left_short : (fs : Fields) (x : Checked Side) → ShortFields fs → AsksShort (left_read last e s fs x)
    left_short fs (fault x at) h = tt
    left_short fs (read l next) h = right_short fs l (marked_side e RI s next) h

    sides_short : (x : Records Fields) → Listed ShortFields x → AsksShort (sides_read last e s x)
    sides_short (faulty x at) h = tt
    sides_short (records fs at) h = left_short fs (marked_side e LE s at) h

  edition_short : (s : List ℕ) (x : Checked Edition) → AsksShort (edition_read last s x)
  edition_short s (fault x at) = tt
  edition_short s (read e at) =
      sides_short e s (read_patterns e (suc (length s)) s at open_fields)
      (patterns_by e ShortFields (one_pattern e) (suc (length s)) s at open_fields (open_by ShortCode tt fields))

  short_by : (s : List ℕ) → AsksShort (read_by last s)
  unfolding read_by
  short_by s = edition_short s (edition_front s)

stray_short : (marks : List ℕ) (q : Question) (fs : List ℕ) → Short q.held → AsksShort (at_stray marks q fs)
stray_short marks q [] h = h
stray_short marks q (f ∷ fs) h = tt

pub before_sayable : (s : List ℕ) (q : Question) → read_before s ≡ asked q → Sayable q
before_sayable s q e = record { good = before_good s q e; codes = subst AsksShort e (short_by no_check (λ marks r h. h) s) }

sheet_short : (s : List ℕ) → AsksShort (read_sheet s)
unfolding read_sheet
sheet_short = short_by stray_check (λ marks q h. stray_short marks q (strays q) h)

pub sheet_sayable : (s : List ℕ) (q : Question) → read_sheet s ≡ asked q → Sayable q
sheet_sayable s q e = record { good = sheet_good s q e; codes = subst AsksShort e (sheet_short s) }
