-- A sheet by what its parts are: its edition, the patterns' records, the sides, the end. Follows from the definition of `read_before` by its cases.
use Prim.Native.Nat.{ℕ, suc, ◌≤◌, ◌<◌}
use mathlib.Core.Path.{◌≡◌, refl}
use mathlib.Core.List.{List, map}
use lib.ListN.{length}
use Rattle.std.specs.Prelude.{Ok}
use Rattle.paper.specs.Equation.{Side}
use Rattle.paper.specs.Alphabet as Paper
use Rattle.paper.specs.Alphabet.{Edition, alphabet_of}
use Rattle.paper.specs.Question.{Question}
use Rattle.paper.specs.Sheet.{Fault, fault, read, wrong_mark, LE, RI, marked_side, Records, faulty, records, Fields, open_fields, read_patterns, refused, asked, read_end, edition_front, read_by, read_before}
use Rattle.paper.proofs.base.Tests.{lt_ltb, le_ltb}
use Rattle.paper_laws.proofs.sheets.Asked.{before_good}
use Rattle.paper_laws.proofs.sheets.Editions.{known_edition}
use Rattle.base_editions.specs.Editions.{paper_edition, edition_code, alphabet_code}
use Rattle.base_editions.specs.declared.Edition.TheVariants.{First, Second}
use Rattle.base_editions.specs.declared.Edition as Code-edition
use Rattle.base_codes.specs.Inner.{side_code, padded}
use Rattle.base_places.specs.WorkedOut.{worked_out}
use Rattle.base_places.proofs.ByNumber.{by_number}
use Rattle.base_places.specs.declared.PlaceTables.{PlaceTables}
use Rattle.base_question.specs.declared.Body.{Body}
use Rattle.read_fields.specs.Bodies.{bodies_in}
use Rattle.read_sheet.specs.SheetRead.{bodies_of, sheet_of}

-- the code's edition, by the paper's
same_code : (e : Code-edition.Edition) → edition_code (paper_edition e) ≡ e
same_code First = refl
same_code Second = refl

-- what the patterns' records give from an offset on
abbrev pub patterns_of : Edition → List ℕ → ℕ → Records Fields
patterns_of e s from = read_patterns e (suc (length s)) s from open_fields

-- where they stand
pub bodies_here : (s : List ℕ) (e : Edition) (from : ℕ) → edition_front s ≡ read e from → bodies_of s ≡ bodies_in s from
unfolding bodies_of
bodies_here s e from d = rw d

module _ (s : List ℕ) where
  pub front_fault : (x : Fault) (at : ℕ) → edition_front s ≡ fault x at → read_before s ≡ refused x at
  unfolding read_by
  front_fault x at d = rw d

  module _ (e : Edition) (from : ℕ) (d : edition_front s ≡ read e from) where
    pub patterns_fault : (x : Fault) (at : ℕ) → patterns_of e s from ≡ faulty x at → read_before s ≡ refused x at
    unfolding read_by
    patterns_fault x at p = rw (d, p)

    module _ (fs : Fields) (at : ℕ) (p : patterns_of e s from ≡ records fs at) where
      pub left_fault : (x : Fault) (place : ℕ) → marked_side e LE s at ≡ fault x place → read_before s ≡ refused x place
      unfolding read_by
      left_fault x place f = rw (d, p, f)

      module _ (l : Side) (behind : ℕ) (f : marked_side e LE s at ≡ read l behind) where
        pub right_fault : (x : Fault) (place : ℕ) → marked_side e RI s behind ≡ fault x place → read_before s ≡ refused x place
        unfolding read_by
        right_fault x place g = rw (d, p, f, g)

        module _ (r : Side) (end : ℕ) (g : marked_side e RI s behind ≡ read r end) where
          pub byte_left : end < length s → read_before s ≡ refused wrong_mark end
          unfolding read_by read_end
          byte_left h = rw (d, p, f, g, lt_ltb end (length s) h)

          abbrev question_read : Question
          question_read = record { alphabet = alphabet_of e; left = l; right = r; held = fs.held }

          sheet_ends : length s ≤ end → read_before s ≡ asked question_read
          unfolding read_by read_end
          sheet_ends h = rw (d, p, f, g, le_ltb end (length s) h)

          pub whole : length s ≤ end → (edition : Code-edition.Edition) → paper_edition edition ≡ e
              → (left right : List ℕ) (tables : List PlaceTables) (bodies : List Body)
              → left ≡ padded (side_code l) → right ≡ padded (side_code r) → tables ≡ map worked_out fs.held → (standing : List Body) → bodies ≡ standing →
              Ok
              (record {
                edition = edition;
                question =
                    record {
                      alphabet = alphabet_code (Paper.alphabet_of (paper_edition edition));
                      left = left;
                      right = right;
                      fields = tables;
                      bodies = bodies;
                    };
              })
              ≡ sheet_of standing (read_before s)
          whole h edition same left right tables bodies a b t standing i =
              let asks = sheet_ends h in
              rw (asks, a, b, t, i, by_number fs.held (before_good s question_read asks).held.each_field, known_edition e, ← same, same_code edition)
