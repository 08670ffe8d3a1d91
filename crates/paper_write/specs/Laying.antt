-- The sheet laid out record by record, each judged before it is laid: the first fault met with its place, or all of the sheet. It is what reading
-- the sheet laid out finds (`LaidRead`), said of what is given and with no sheet to read. The edition comes first (request K10), and bytes of patterns
-- and sides are judged by the codes that they have in it. Behind the sides comes the last check, on patterns whose fields stand in neither (request K13).
use Rattle.std.specs.Prelude.{ℕ, suc, ◌+◌, cond, List, [], ◌∷◌, ◌++◌, map, leb, ltb, eqb, length, take, drop}
use Rattle.paper.specs.Lists.{all, leading}
use Rattle.paper.specs.Numbers.{fields, pattern_bytes, sheet_side}
use Rattle.paper.specs.Alphabet.{Edition, edition_1, edition_2, codes}
use Rattle.paper.specs.Equation.{Side, stands_in}
use Rattle.paper.specs.Written.{Judged, judged, judge}
use Rattle.paper.specs.Written as Written
use Rattle.paper.specs.Sheet.{Fault, cut_short, wrong_field, wrong_length, not_one_pattern, too_many_leaves, wrong_token, wrong_edition, stray_pattern, Mark, LE, RI, is_token, token}
use Rattle.paper.specs.Saying.{ToSay, pattern_laid, side_laid, edition_laid, edition_byte}

-- what was laid out, or the fault and its place
pub data Laying : Type 0 where
  at_fault : Fault → ℕ → Laying
  laid_out : List ℕ → Laying

-- the record of a pattern's bytes: 15, 16
abbrev pub judged_laid : Judged → ℕ → ℕ → List ℕ → Laying
judged_laid (Written.not_one_pattern i) f n code = at_fault not_one_pattern (4 + i)
judged_laid (Written.too_many_leaves i) f n code = at_fault too_many_leaves (4 + i)
judged_laid (judged p) f n code = laid_out (pattern_laid f n code)

module _ (e : Edition) where
  -- the record of a field that has a pattern, offsets from its mark: 13, 14, 11, then 15 and 16
  unfoldable pub record_laid : ℕ → ℕ → List ℕ → Laying
  record_laid f n patterns =
      cond (leb fields f) (at_fault wrong_field 2)
      (cond (ltb pattern_bytes n) (at_fault wrong_length 3)
      (cond (ltb (length patterns) n) (at_fault cut_short (4 + length patterns))
      (judged_laid (judge (codes e (take n patterns))) f n (take n patterns))))

  -- a side's record: 14, 17
  unfoldable pub side_record_laid : Mark → List ℕ → Laying
  side_record_laid m tokens =
      cond (ltb sheet_side (length tokens)) (at_fault wrong_length 2)
      (cond (all is_token (codes e tokens)) (laid_out (side_laid m tokens)) (at_fault wrong_token (3 + leading is_token (codes e tokens))))

-- a record behind what is done, and what comes behind it
abbrev pub then_laid : List ℕ → Laying → (List ℕ → Laying) → Laying
then_laid done (at_fault x at) go_on = at_fault x (length done + at)
then_laid done (laid_out bytes) go_on = go_on (done ++ bytes)

-- The first pattern whose field stands in neither side, at its record's mark: the records of the fields from f on begin at the place. Where there is
-- none, what is done is laid out.
abbrev pub strays_laid : Side → List ℕ → ℕ → ℕ → List ℕ → Laying
strays_laid side done at f [] = laid_out done
strays_laid side done at f (n ∷ lengths) =
    cond (eqb n 0) (strays_laid side done at (suc f) lengths)
    (cond (stands_in f side) (strays_laid side done (at + (4 + n)) (suc f) lengths) (at_fault stray_pattern at))

-- the last check, behind what was laid out
abbrev pub then_strays : Side → ℕ → List ℕ → Laying → Laying
then_strays side at lengths (at_fault x place) = at_fault x place
then_strays side at lengths (laid_out done) = strays_laid side done at 0 lengths

module _ (e : Edition) where
  -- the fields from f on
  abbrev pub fields_laid : List ℕ → ℕ → List ℕ → List ℕ → Laying
  fields_laid done f [] patterns = laid_out done
  fields_laid done f (n ∷ lengths) patterns =
      cond (eqb n 0) (fields_laid done (suc f) lengths patterns)
      (then_laid done (record_laid e f n patterns) (λ (more : List ℕ). fields_laid more (suc f) lengths (drop n patterns)))

  -- a side behind what was laid out
  abbrev pub then_side : Mark → List ℕ → Laying → Laying
  then_side m tokens (at_fault x at) = at_fault x at
  then_side m tokens (laid_out done) = then_laid done (side_record_laid e m tokens) laid_out

  -- what the sides say
  abbrev pub both_sides : List ℕ → List ℕ → Side
  both_sides left right = map token (codes e left) ++ map token (codes e right)

  -- the records behind the edition's, then "22 where reading would say it, before 41"
  unfoldable pub laying_in : ToSay → Laying
  laying_in t =
      let front = edition_laid (edition_byte e) in
      then_strays (both_sides t.left t.right) (length front) t.lengths (then_side RI t.right (then_side LE t.left (fields_laid front 0 t.lengths t.patterns)))

-- "0 for none, 44 at place 2 for any other than 2"
unfoldable pub laying : ToSay → Laying
laying t = cond (eqb t.edition 0) (laying_in edition_1 t) (cond (eqb t.edition 2) (laying_in edition_2 t) (at_fault wrong_edition 2))
