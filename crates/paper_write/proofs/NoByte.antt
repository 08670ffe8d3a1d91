-- A number that no byte holds is never written.
--   no_byte : where a number is laid out that no byte holds, reading refuses the sheet: at that number with 44, 13 or 14, or before it
-- What is given in bytes are the patterns and the sides, so such a number is the edition's, a field's or a length. By the records, one behind the other.
use Prim.Native.Nat.{ℕ, zero, suc, ◌+◌, ◌≤◌, ◌<◌}
use native.Mathlib.Nat.{add-zero}
use native.Mathlib.Numerals.{add-one}
use native.Mathlib.Omega.{arith}
use mathlib.Core.Path.{◌≡◌, refl, sym, ap, ◌∙◌}
use mathlib.Core.Logic.{◌⊎◌, inl, inr}
use mathlib.Core.Bool.{true, false, cond}
use mathlib.Core.List.{List, [], ◌∷◌, ◌++◌, append_assoc, append-nil}
use lib.Dec.{leb, ltb, eqb}
use lib.ListN.{length, get_or, take, drop, length-append, length-map, get_or-eq_default}
use lib.Seq.{drop-drop, get_or-drop, drop-append_seam}
use Rattle.paper.specs.Lists.{all, leading}
use Rattle.paper.specs.Numbers.{fields, pattern_bytes, sheet_side}
use Rattle.paper.specs.Alphabet.{Edition, edition_1, edition_2, codes}
use Rattle.paper.specs.Alphabet as Alphabet
use Rattle.paper.specs.Equation.{Side}
use Rattle.paper.specs.Written.{Judged, judged, judge}
use Rattle.paper.specs.Written as Written
use Rattle.paper.specs.Sheet.{Fault, wrong_field, wrong_length, wrong_edition, byte_at, Mark, PA, LE, RI, ED, first_letter, second_letter, is_token, refused, read_sheet}
use Rattle.paper.proofs.base.Tests.{by_bool, cond_by, cond_true, cond_false, leb_true, leb_false, ltb_false, eqb_true}
use Rattle.paper_laws.proofs.places.Judged.{within_not_one, within_too_many}
use Rattle.paper.specs.Saying.{ToSay, mark_bytes, pattern_laid, side_laid, edition_laid, edition_byte, laid_from, sheet_laid}
use Rattle.paper_write.specs.Laying.{Laying, at_fault, laid_out, judged_laid, record_laid, side_record_laid, then_laid, fields_laid, then_side, then_strays, both_sides, laying_in, laying}
use Rattle.paper_laws.proofs.sheets.FaultPlaces.{leading_below}
use Rattle.paper_write.proofs.LaidRead.{Whole, laying_reads}

-- numbers that bytes hold
abbrev pub AllBytes : List ℕ → Type 0
AllBytes [] = Unit {0}
AllBytes (b ∷ l) = (b < 256) × AllBytes l

bytes_take : (n : ℕ) (l : List ℕ) → AllBytes l → AllBytes (take n l)
bytes_take zero l h = tt
bytes_take (suc n) [] h = tt
bytes_take (suc n) (b ∷ l) h = (h.0, bytes_take n l h.1)

bytes_drop : (n : ℕ) (l : List ℕ) → AllBytes l → AllBytes (drop n l)
bytes_drop zero l h = h
bytes_drop (suc n) [] h = tt
bytes_drop (suc n) (b ∷ l) h = bytes_drop n l h.1

-- where a fault is that is met at or before the number i: 13, 14 or 44 at it, or any before it
pub record Before (i : ℕ) (x : Fault) (at : ℕ) : Type 0 where
  pub not_behind : at ≤ i
  pub which : (x ≡ wrong_field) ⊎ ((x ≡ wrong_length) ⊎ ((x ≡ wrong_edition) ⊎ (at < i)))

-- where it is not met, the number stands in what is left
abbrev Meets : List ℕ → ℕ → List ℕ → Laying → Type 0
Meets s i rest (at_fault x at) = Before i x at
Meets s i rest (laid_out done) = (length done ≤ i) × (s ≡ done ++ rest)

-- the same of a record behind what is done
abbrev MeetsBehind : List ℕ → ℕ → List ℕ → List ℕ → Laying → Type 0
MeetsBehind s i done rest (at_fault x at) = Before i x (length done + at)
MeetsBehind s i done rest (laid_out bytes) = (length (done ++ bytes) ≤ i) × (s ≡ (done ++ bytes) ++ rest)

module _ (s : List ℕ) (i : ℕ) (above : 256 ≤ byte_at s i) where
  -- the number stands behind all bytes that it does not stand before
  past_one : (m : ℕ) → m ≤ i → byte_at s m < 256 → suc m ≤ i
  past_one m h b = by_bool (leb (suc m) i) (λ l. leb_true (suc m) i l) (λ l. let e : m ≡ i = omega (arith, leb_false (suc m) i l) in absurd (omega (arith, ap (byte_at s) e)))

  past : (u more : List ℕ) (m : ℕ) → AllBytes u → drop m s ≡ u ++ more → m ≤ i → m + length u ≤ i
  past [] more m b e h = rw (add-zero m) h
  past (c ∷ u) more m b e h =
      let here : byte_at s m ≡ c = ap (byte_at s) (sym (add-zero m)) ∙ sym (get_or-drop m s 0 0) ∙ ap (λ (l : List ℕ). get_or l 0 0) e in
      let next : drop (suc m) s ≡ u ++ more = ap (λ (k : ℕ). drop k s) (sym (add-one m)) ∙ sym (drop-drop 1 m s) ∙ ap (drop 1) e in
      omega (arith, past u more (suc m) b.1 next (past_one m h (omega (arith, here, b.0))))

  -- and it stands in the sheet
  not_at_end : length s ≤ i → ⊥
  not_at_end h = omega (arith, get_or-eq_default s 0 {n = i} h)

  not_behind_all : (done : List ℕ) → Meets s i [] (laid_out done) → ⊥
  not_behind_all done h = not_at_end (omega (arith, ap length h.1, ap length (append-nil done), h.0))

  -- so the last check doesn't come to it
  strays_meet : (side : Side) (at : ℕ) (lengths : List ℕ) (w : Laying) → Meets s i [] w → Meets s i [] (then_strays side at lengths w)
  strays_meet side at lengths (at_fault x place) h = h
  strays_meet side at lengths (laid_out done) h = absurd (not_behind_all done h)

  first_byte : (lengths : List ℕ) (f : ℕ) (patterns rest : List ℕ) → byte_at rest 0 < 256 → byte_at (laid_from f lengths patterns rest) 0 < 256
  first_byte [] f patterns rest h = h
  first_byte (n ∷ lengths) f patterns rest h =
      cond_by (λ (l : List ℕ). byte_at l 0 < 256) (eqb n 0) (λ _. first_byte lengths (suc f) patterns rest h)
      (λ _. cond_by (λ (l : List ℕ). byte_at l 0 < 256) (ltb (length patterns) n) (λ _. omega arith) (λ _. omega arith))

  -- in an edition
  module _ (ed : Edition) where
    -- one field's record
    module _ (rest : List ℕ) (f n : ℕ) (lengths done patterns : List ℕ) (bytes : AllBytes patterns) (front : byte_at rest 0 < 256) (h : length done ≤ i) where
      abbrev code : List ℕ
      code = take n patterns

      abbrev behind : List ℕ
      behind = laid_from (suc f) lengths (drop n patterns) rest

      record_past : f < fields → n ≤ pattern_bytes → (some more : List ℕ) → AllBytes some → drop (length done) s ≡ pattern_laid f n some ++ more
          → length done + (4 + length some) ≤ i
      record_past known short some more b e =
          omega (arith, past (pattern_laid f n some) more (length done) (omega arith, (omega arith, (omega arith, (omega arith, b)))) e h)

      abbrev end : ℕ
      end = length done + length (pattern_laid f n code)

      judged_meets : f < fields → n ≤ pattern_bytes → s ≡ done ++ (pattern_laid f n code ++ behind) → (j : Judged) → judge (codes ed code) ≡ j
          → MeetsBehind s i done behind (judged_laid j f n code)
      judged_meets known short d j q = by_judged j q
        where
          e : drop (length done) s ≡ pattern_laid f n code ++ behind
          e = ap (drop (length done)) d ∙ drop-append_seam done (pattern_laid f n code ++ behind)

          there : end ≤ i
          there = omega (arith, record_past known short code behind (bytes_take n patterns bytes) e)

          next : byte_at s end ≡ byte_at behind 0
          next =
              ap (byte_at s) (sym (add-zero end)) ∙ sym (get_or-drop end s 0 0)
              ∙ ap (λ (l : List ℕ). get_or l 0 0)
              (sym (drop-drop (length (pattern_laid f n code)) (length done) s) ∙ ap (drop (length (pattern_laid f n code))) e
              ∙ drop-append_seam (pattern_laid f n code) behind)

          strictly : end < i
          strictly = past_one end there (omega (arith, next, first_byte lengths (suc f) (drop n patterns) rest front))

          by_judged : (j : Judged) → judge (codes ed code) ≡ j → MeetsBehind s i done behind (judged_laid j f n code)
          by_judged (Written.not_one_pattern k) q =
              let low = within_not_one (codes ed code) k q in
              let same = length-map code (Alphabet.code ed) in
              record { not_behind = omega (arith, there); which = inr (inr (inr (omega (arith, strictly)))) }
          by_judged (Written.too_many_leaves k) q =
              let low = within_too_many (codes ed code) k q in
              let same = length-map code (Alphabet.code ed) in
              record { not_behind = omega (arith, there); which = inr (inr (inr (omega (arith, strictly)))) }
          by_judged (judged p) q =
              (omega (arith, there, length-append done (pattern_laid f n code)), d ∙ sym (append_assoc done (pattern_laid f n code) behind))

      abbrev cut : List ℕ
      cut = pattern_laid f n patterns

      abbrev whole : List ℕ
      whole = pattern_laid f n code ++ behind

      -- 13 and 14 stand at the number itself; where bytes are missing, there is no such number
      field_meets : s ≡ done ++ cond (ltb (length patterns) n) cut whole → MeetsBehind s i done behind (record_laid ed f n patterns)
      unfolding record_laid
      field_meets e =
          cond_by (MeetsBehind s i done behind) (leb fields f)
          (λ _. record { not_behind = marks; which = inl refl })
          (λ a. cond_by (MeetsBehind s i done behind) (ltb pattern_bytes n)
          (λ _. record { not_behind = named (leb_false fields f a); which = inr (inl refl) })
          (λ b. let known = leb_false fields f a in
          let short = ltb_false pattern_bytes n b in
          cond_by (MeetsBehind s i done behind) (ltb (length patterns) n)
          (λ m. absurd (not_at_end (omega (
            arith,
            ap length (ends m),
            length-append done (cut ++ []),
            ap length (append-nil patterns),
            record_past known short patterns [] bytes (there patterns [] (ends m)),
          ))))
          (λ m. judged_meets known short (goes_on m) (judge (codes ed code)) refl)))
        where
          there : (some more : List ℕ) → s ≡ done ++ (pattern_laid f n some ++ more) → drop (length done) s ≡ pattern_laid f n some ++ more
          there some more d = ap (drop (length done)) d ∙ drop-append_seam done (pattern_laid f n some ++ more)

          ends : ltb (length patterns) n ≡ true → s ≡ done ++ (cut ++ [])
          ends m = e ∙ ap (λ (l : List ℕ). done ++ l) (cond_true (ltb (length patterns) n) cut whole m ∙ sym (append-nil cut))

          goes_on : ltb (length patterns) n ≡ false → s ≡ done ++ whole
          goes_on m = e ∙ ap (λ (l : List ℕ). done ++ l) (cond_false (ltb (length patterns) n) cut whole m)

          -- whichever of the two it is, the mark, the field and the length stand in front
          in_front : (l : List ℕ) × (drop (length done) s ≡ first_letter PA ∷ second_letter PA ∷ f ∷ n ∷ l)
          in_front =
              by_bool (ltb (length patterns) n)
              (λ m. (patterns ++ [], there patterns [] (ends m)))
              (λ m. (code ++ behind, there code behind (goes_on m)))

          marks : length done + 2 ≤ i
          marks = let (l, d) = in_front in past (first_letter PA ∷ second_letter PA ∷ []) (f ∷ n ∷ l) (length done) (omega arith, (omega arith, tt)) d h

          named : f < fields → length done + 3 ≤ i
          named known =
              let (l, d) = in_front in
              past (first_letter PA ∷ second_letter PA ∷ f ∷ []) (n ∷ l) (length done) (omega arith, (omega arith, (omega arith, tt))) d h

    then_meets : (done behind rest : List ℕ) (go_on : List ℕ → Laying) (w : Laying) → MeetsBehind s i done behind w
        → ((more : List ℕ) → length more ≤ i → s ≡ more ++ behind → Meets s i rest (go_on more)) → Meets s i rest (then_laid done w go_on)
    then_meets done t rest go_on (at_fault x at) h next = h
    then_meets done t rest go_on (laid_out bytes) h next = next (done ++ bytes) h.0 h.1

    -- all of the fields
    fields_meet : (lengths : List ℕ) (f : ℕ) (done patterns rest : List ℕ) → AllBytes patterns → byte_at rest 0 < 256 → length done ≤ i
        → s ≡ done ++ laid_from f lengths patterns rest → Meets s i rest (fields_laid ed done f lengths patterns)
    fields_meet [] f done patterns rest b front h e = (h, e)
    fields_meet (n ∷ lengths) f done patterns rest b front h e =
        let none = laid_from (suc f) lengths patterns rest in
        let behind = laid_from (suc f) lengths (drop n patterns) rest in
        let some = cond (ltb (length patterns) n) (pattern_laid f n patterns) (pattern_laid f n (take n patterns) ++ behind) in
        cond_by (Meets s i rest) (eqb n 0)
        (λ z. fields_meet lengths (suc f) done patterns rest b front h (e ∙ ap (λ (t : List ℕ). done ++ t) (cond_true (eqb n 0) none some z)))
        (λ z. then_meets done behind rest (λ (more : List ℕ). fields_laid ed more (suc f) lengths (drop n patterns)) (record_laid ed f n patterns)
        (field_meets rest f n lengths done patterns b front h (e ∙ ap (λ (t : List ℕ). done ++ t) (cond_false (eqb n 0) none some z)))
        (λ more k d. fields_meet lengths (suc f) more (drop n patterns) rest (bytes_drop n patterns b) front k d))

    -- a side
    side_meets : (m : Mark) (done tokens rest : List ℕ) → first_letter m < 256 → second_letter m < 256 → AllBytes tokens → length done ≤ i
        → s ≡ done ++ (side_laid m tokens ++ rest) → MeetsBehind s i done rest (side_record_laid ed m tokens)
    unfolding side_record_laid
    side_meets m done tokens rest x y b h e =
        cond_by (MeetsBehind s i done rest) (ltb sheet_side (length tokens))
        (λ _. record {
          not_behind = past (first_letter m ∷ second_letter m ∷ []) (length tokens ∷ tokens ++ rest) (length done) (x, (y, tt)) here h;
          which = inr (inl refl);
        })
        (λ short. let low = ltb_false sheet_side (length tokens) short in
        let behind = past (side_laid m tokens) rest (length done) (x, (y, (omega arith, b))) here h in
        cond_by (MeetsBehind s i done rest) (all is_token (codes ed tokens))
        (λ _. (omega (arith, behind, length-append done (side_laid m tokens)), e ∙ sym (append_assoc done (side_laid m tokens) rest)))
        (λ a. let k = leading_below is_token (codes ed tokens) a in
        let same = length-map tokens (Alphabet.code ed) in
        record { not_behind = omega (arith, behind); which = inr (inr (inr (omega (arith, behind)))) }))
      where
        here : drop (length done) s ≡ side_laid m tokens ++ rest
        here = ap (drop (length done)) e ∙ drop-append_seam done (side_laid m tokens ++ rest)

    side_meet : (m : Mark) (behind tokens rest : List ℕ) → AllBytes tokens → first_letter m < 256 → second_letter m < 256
        → behind ≡ side_laid m tokens ++ rest → (w : Laying) → Meets s i behind w → Meets s i rest (then_side ed m tokens w)
    side_meet m t tokens rest b x y e (at_fault z at) h = h
    side_meet m t tokens rest b x y e (laid_out done) h =
        then_meets done rest rest laid_out (side_record_laid ed m tokens)
        (side_meets m done tokens rest x y b h.0 (h.1 ∙ ap (λ (l : List ℕ). done ++ l) e))
        (λ more k d. (k, d))

-- the edition's record has bytes alone
edition_bytes : (ed : Edition) → AllBytes (edition_laid (edition_byte ed))
edition_bytes edition_1 = tt
edition_bytes edition_2 = (omega arith, (omega arith, (omega arith, tt)))

-- all of the sheet
module _ (t : ToSay) (i : ℕ) (above : 256 ≤ byte_at (sheet_laid t) i) (patterns : AllBytes t.patterns) (left : AllBytes t.left) (right : AllBytes t.right) where
  abbrev left_bytes : List ℕ
  left_bytes = side_laid LE t.left

  abbrev right_bytes : List ℕ
  right_bytes = side_laid RI t.right

  abbrev records_bytes : List ℕ
  records_bytes = laid_from 0 t.lengths t.patterns (left_bytes ++ right_bytes)

  met_in : (ed : Edition) → t.edition ≡ edition_byte ed → Meets (sheet_laid t) i [] (laying_in ed t)
  unfolding sheet_laid laying_in
  met_in ed given =
      let s = sheet_laid t in
      let front = edition_laid (edition_byte ed) in
      let w = fields_laid ed front 0 t.lengths t.patterns in
      let parts : s ≡ front ++ records_bytes = ap (λ (n : ℕ). edition_laid n ++ records_bytes) given in
      let behind = past s i above front records_bytes 0 (edition_bytes ed) parts (omega arith) in
      strays_meet s i above (both_sides ed t.left t.right) (length front) t.lengths (then_side ed RI t.right (then_side ed LE t.left w))
      (side_meet s i above ed RI right_bytes t.right [] right (omega arith) (omega arith) (sym (append-nil right_bytes)) (then_side ed LE t.left w)
      (side_meet s i above ed LE (left_bytes ++ right_bytes) t.left right_bytes left (omega arith) (omega arith) refl w
      (fields_meet s i above ed t.lengths 0 front t.patterns (left_bytes ++ right_bytes) patterns (omega arith) (omega (arith, behind)) parts)))

  met_other : eqb t.edition 0 ≡ false → Before i wrong_edition 2
  unfolding sheet_laid
  met_other z =
      let s = sheet_laid t in
      let n = t.edition in
      let parts : s ≡ mark_bytes ED ++ (n ∷ records_bytes) = ap (λ (l : List ℕ). l ++ records_bytes) (cond_false (eqb n 0) [] (mark_bytes ED ++ n ∷ []) z) in
      let marks = past s i above (mark_bytes ED) (n ∷ records_bytes) 0 (omega arith, (omega arith, tt)) parts (omega arith) in
      record { not_behind = omega (arith, marks); which = inr (inr (inl refl)) }

  met : Meets (sheet_laid t) i [] (laying t)
  unfolding laying
  met =
      cond_by (Meets (sheet_laid t) i []) (eqb t.edition 0) (λ z. met_in edition_1 (eqb_true t.edition 0 z))
      (λ z. cond_by (Meets (sheet_laid t) i []) (eqb t.edition 2) (λ y. met_in edition_2 (eqb_true t.edition 2 y)) (λ _. met_other z))

-- a fault that is met at or before the number
pub record RefusedBefore (s : List ℕ) (i : ℕ) : Type 0 where
  pub its : Fault
  pub place : ℕ
  pub reads : read_sheet s ≡ refused its place
  pub where_met : Before i its place

module _ (t : ToSay) (patterns : AllBytes t.patterns) (left : AllBytes t.left) (right : AllBytes t.right) (i : ℕ) where
  pub no_byte : 256 ≤ byte_at (sheet_laid t) i → RefusedBefore (sheet_laid t) i
  no_byte above = by_laying (laying t) (laying_reads t) (met t i above patterns left right)
    where
      by_laying : (w : Laying) → Whole t w → Meets (sheet_laid t) i [] w → RefusedBefore (sheet_laid t) i
      by_laying (at_fault x at) r m = record { its = x; place = at; reads = r; where_met = m }
      by_laying (laid_out bytes) r m = absurd (not_behind_all (sheet_laid t) i above bytes m)
