-- One text for each field that stands twice, by tables and masks: of any tables of the fields and any two sides by inner codes. Of an alphabet of n
-- characters those below n are tried.
-- Everything here is a step between the code and the definitions of `paper_decide`, specs/OneText.antt; proofs/TextsTies.antt ties it to them.
use Rattle.std.specs.Prelude.{ℕ, zero, suc, ◌<◌, ◌≤◌, ◌≡◌, Option, Some, None, Bool, cond, not, List, [], ◌∷◌, map, ltb, eqb, get_or}
use Rattle.std.specs.Int.Bits.{bit_and}
use Rattle.paper.specs.Lists.{upto, any, keep}
use Rattle.paper.specs.Numbers.{fields}
use Rattle.paper.specs.Pattern.{pattern}
use Rattle.paper_decide.specs.OneText.{one_from, spelt_out, lengths_tried}
use Rattle.base_places.specs.Masks.{mask_of, in_mask, followers_of, within}
use Rattle.base_places.specs.WorkedOut.{worked_out}
use Rattle.base_places.specs.declared.PlaceTables.{PlaceTables}
use Rattle.base_question.specs.Standings.{standing_times}
use Rattle.base_question.specs.declared.Question.{Question}
use Rattle.decide_texts.specs.declared.Ends.{Ends}

-- the two sets have a place in common
abbrev pub meets : ℕ → ℕ → Bool
meets a b = not (eqb (bit_and a b) 0)

-- the set that holds the start alone
abbrev pub start : ℕ
start = 1

-- the places that take some character
unfoldable pub taken_by : ℕ → List ℕ → ℕ
taken_by n taking = mask_of (λ (p : ℕ). any (λ (c : ℕ). in_mask (get_or taking c 0) p) (upto n))

-- the places that some place of the set may follow
unfoldable pub leading_to : List ℕ → ℕ → ℕ
leading_to follow set = mask_of (λ (i : ℕ). meets (get_or follow i 0) set)

-- the places from which a text of so many characters may end, each of them read at a place of `taken`
unfoldable pub ending : List ℕ → ℕ → ℕ → ℕ → ℕ
ending follow taken last zero = last
ending follow taken last (suc k) = leading_to follow (bit_and taken (ending follow taken last k))

-- how many characters the text has, where `ends` has for each number the places from which a text of so many may end
unfoldable pub length_coded : (ℕ → ℕ) → ℕ → ℕ
length_coded ends asked = one_from lengths_tried (keep (λ (k : ℕ). meets start (ends k)) (upto lengths_tried)) asked

-- that length, and the places from which texts shorter than that may end
pub record EndingsOf (ends : ℕ → ℕ) (asked length : ℕ) (all : List ℕ) : Type 0 where
  pub its_length : length ≡ length_coded ends asked
  pub shorter : (k : ℕ) → k < length → get_or all k 0 ≡ ends k

-- what is told: that length, if it is tried, and those places
abbrev pub EndingsSaid : (ℕ → ℕ) → ℕ → Option Ends → Type 0
EndingsSaid ends asked (Some its) = EndingsOf ends asked its.length its.ends × (its.length < lengths_tried)
EndingsSaid ends asked None = lengths_tried ≤ length_coded ends asked

-- The first character that leads to a place of `ends`, where `next` are the places that may come next; 0, where none does.
abbrev pub leads : List ℕ → ℕ → ℕ → ℕ → Bool
leads taking next ends c = meets (bit_and next (get_or taking c 0)) ends

unfoldable pub first_to : ℕ → List ℕ → ℕ → ℕ → ℕ
first_to n taking next ends = get_or (keep (leads taking next ends) (upto n)) 0 0

-- the least text of so many characters from a set on
module _ (n : ℕ) (follow taking : List ℕ) (ends : ℕ → ℕ) where
  unfoldable pub text_from : ℕ → ℕ → List ℕ
  text_from zero set = []
  text_from (suc k) set =
      let next = followers_of follow set in
      let c = first_to n taking next (ends k) in
      c ∷ text_from k (bit_and next (get_or taking c 0))

-- the tables of that text alone
unfoldable pub spelt_tables : List ℕ → PlaceTables
spelt_tables w = worked_out (pattern (spelt_out w))

-- What is worked out of a field that holds one text; as it was, where it has none of at most 24 characters.
unfoldable pub text_tables : ℕ → ℕ → PlaceTables → PlaceTables
text_tables n asked t =
    let ends = ending t.follow (taken_by n t.taking) t.last in
    let k = length_coded ends asked in
    cond (ltb k lengths_tried) (spelt_tables (text_from n t.follow t.taking ends k start)) t

-- each field that stands twice holds one text; the others are as they were
abbrev pub no_tables : PlaceTables
no_tables = record { follow = []; taking = []; last = 0 }

abbrev pub tables_at : Question → ℕ → PlaceTables
tables_at s f = get_or s.fields f no_tables

abbrev pub tables_then : Question → ℕ → ℕ → PlaceTables
tables_then s asked f =
    cond (ltb 1 (get_or (standing_times s.left s.right) f 0))
    (text_tables (within s.alphabet.characters) asked (tables_at s f))
    (tables_at s f)

unfoldable pub texts_coded : Question → ℕ → Question
texts_coded s asked =
    record {
      alphabet = s.alphabet;
      left = s.left;
      right = s.right;
      fields = map (tables_then s asked) (upto fields);
      bodies = s.bodies;
    }
