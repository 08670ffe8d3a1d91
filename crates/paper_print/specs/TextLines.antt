-- A text on a line of its own, as the programs print it: "`clash` and `decide` print the texts of a sheet with `ED` spelt into plain Code 39, others as
-- before" (request K10).
use Rattle.std.specs.Prelude.{ℕ, zero, suc, ◌+◌, ◌*◌, List, [], ◌∷◌, ◌++◌, map, take, drop}
use Rattle.paper.specs.Alphabet.{Edition, edition_1, edition_2}
use Rattle.paper.specs.Sheet.{Checked, fault, read, edition_front}
use Rattle.paper.specs.Printed.{sign, decimal, blank_sign, newline}
use Rattle.paper_spell.specs.FullAscii.{spelt}

-- The edition of a sheet, by its first bytes. A sheet that is refused has no texts, so there any will do.
abbrev pub edition_told : Checked Edition → Edition
edition_told (fault x at) = edition_1
edition_told (read e at) = e

unfoldable pub sheet_edition : List ℕ → Edition
sheet_edition sheet = edition_told (edition_front sheet)

-- the Code 39 values that a text is printed in
abbrev pub printed_values : Edition → List ℕ → List ℕ
printed_values edition_1 text = text
printed_values edition_2 text = spelt text

-- "field number, a space, the text as characters"
abbrev pub text_line : Edition → ℕ → List ℕ → List ℕ
text_line e f text = decimal f ++ (blank_sign ∷ map sign (printed_values e text)) ++ (newline ∷ [])

-- "a line for each `VA`"
abbrev pub value_lines : Edition → ℕ → List ℕ → List ℕ
value_lines e zero s = []
value_lines e (suc n) [] = []
value_lines e (suc n) (v ∷ []) = []
value_lines e (suc n) (v ∷ a ∷ []) = []
value_lines e (suc n) (v ∷ a ∷ f ∷ []) = []
value_lines e (suc n) (v ∷ a ∷ f ∷ low ∷ []) = []
value_lines e (suc n) (v ∷ a ∷ f ∷ low ∷ high ∷ s) = text_line e f (take (low + 256 * high) s) ++ value_lines e n (drop (low + 256 * high) s)
