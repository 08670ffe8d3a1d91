-- Where the pattern of a field of a good sheet stands, and what the field may hold.
--   before_stands : read_before s ≡ asked q → AllStand (edition_of q.alphabet) s (bodies_of s) q.held
--   sheet_stands  : read_sheet s ≡ asked q → AllStand (edition_of q.alphabet) s (bodies_of s) q.held
--   sheet_within  : and the pattern lies within the sheet
-- Follows from what the patterns' records say: the sides change nothing of what the fields may hold.
use Prim.Native.Nat.{ℕ, ◌+◌, ◌≤◌, ◌<◌}
use native.Mathlib.Omega.{arith}
use mathlib.Core.Path.{◌≡◌, refl, subst}
use mathlib.Core.List.{List}
use lib.Dec.{ltb}
use lib.ListN.{length, get_or}
use Rattle.paper.specs.Numbers.{fields}
use Rattle.paper.specs.Pattern.{Held}
use Rattle.paper.specs.Equation.{Side}
use Rattle.paper.specs.Alphabet.{Edition, alphabet_of, edition_of}
use Rattle.paper.specs.Question.{Question}
use Rattle.paper.specs.Sheet.{Checked, fault, read, LE, RI, marked_side, Records, faulty, records, Fields}
use Rattle.paper.specs.Sheet.{Reading, refused, asked, no_check, read_end, right_read, left_read, sides_read, edition_front, edition_read, read_by, read_before, read_sheet}
use Rattle.paper.proofs.base.Tests.{cond_by}
use Rattle.paper_laws.proofs.sheets.Editions.{known_edition}
use Rattle.paper_laws.proofs.sheets.LastChecked.{asked_before}
use Rattle.base_question.specs.Bodies.{nowhere}
use Rattle.base_question.specs.declared.Body.{Body}
use Rattle.read_fields.proofs.PatternsStanding.{Stands, no_pattern, its_pattern, AllStand, patterns_stand}
use Rattle.read_sheet.specs.SheetRead.{bodies_of}
use Rattle.read_sheet.proofs.SheetWhole.{patterns_of}

module _ (s : List ℕ) where
  -- what is so of every reading of the patterns' records, and of a question
  abbrev Asks : Reading → Type 0
  Asks (refused x at) = Unit {0}
  Asks (asked q) = AllStand (edition_of q.alphabet) s (bodies_of s) q.held

  end_asks : (at : ℕ) (marks : List ℕ) (q : Question) → AllStand (edition_of q.alphabet) s (bodies_of s) q.held → Asks (read_end no_check s at marks q)
  unfolding read_end
  end_asks at marks q h = cond_by Asks (ltb at (length s)) (λ _. tt) (λ _. h)

  module _ (e : Edition) where
    right_asks : (fs : Fields) (l : Side) (x : Checked Side) → AllStand e s (bodies_of s) fs.held → Asks (right_read no_check e s fs l x)
    right_asks fs l (fault x at) h = tt
    right_asks fs l (read r next) h =
        end_asks next fs.marks (record { alphabet = alphabet_of e; left = l; right = r; held = fs.held }) (rw (known_edition e) h)

    left_asks : (fs : Fields) (x : Checked Side) → AllStand e s (bodies_of s) fs.held → Asks (left_read no_check e s fs x)
    left_asks fs (fault x at) h = tt
    left_asks fs (read l next) h = right_asks fs l (marked_side e RI s next) h

    sides_ask : (from : ℕ) (x : Records Fields) → edition_front s ≡ read e from → patterns_of e s from ≡ x → Asks (sides_read no_check e s x)
    unfolding bodies_of
    sides_ask from (faulty x at) d p = tt
    sides_ask from (records fs at) d p = left_asks fs (marked_side e LE s at) (rw d (patterns_stand e s from p))

  sheet_asks : (x : Checked Edition) → edition_front s ≡ x → Asks (edition_read no_check s x)
  sheet_asks (fault x at) d = tt
  sheet_asks (read e from) d = sides_ask e from (patterns_of e s from) d refl

module _ (s : List ℕ) (q : Question) where
  pub before_stands : read_before s ≡ asked q → AllStand (edition_of q.alphabet) s (bodies_of s) q.held
  unfolding read_by
  before_stands e = subst (Asks s) e (sheet_asks s (edition_front s) refl)

  pub sheet_stands : read_sheet s ≡ asked q → AllStand (edition_of q.alphabet) s (bodies_of s) q.held
  sheet_stands e = before_stands (asked_before s q e)

stands_within : {e : Edition} {s : List ℕ} {b : Body} {h : Held} → Stands e s b h → b.start + b.length ≤ length s
stands_within no_pattern = omega arith
stands_within (its_pattern b p some within e short) = within

pub sheet_within : (s : List ℕ) (q : Question) → read_sheet s ≡ asked q → (f : ℕ) → f < fields →
    let b = get_or (bodies_of s) f nowhere in b.start + b.length ≤ length s
sheet_within s q e f h = stands_within (sheet_stands s q e f h)
