-- Reading the sheet that says a question gives the question back.
--   reads_back : Sayable q → read_sheet (sheet_saying q) ≡ asked q
-- A question can be said if it is good (`Asked`) and the code of each pattern fits into a record: its tokens are characters and fields, a side has
-- at most 24 of them, there is a pattern or none for each field, and a pattern has leaves that take characters alone, at most 63 of them, and a
-- code of at most 192 bytes.
-- Follows from the checks on the records, test by test, and from the laws of a pattern's code. What is left at an offset is all that a check there
-- sees, so each law begins with `drop at s ≡ ..`.
use Prim.Native.Nat.{ℕ, zero, suc, ◌+◌, ◌≤◌, ◌<◌}
use native.Mathlib.Nat.{add-zero}
use native.Mathlib.Omega.{arith}
use mathlib.Core.Path.{◌≡◌, refl, sym, ap, ap₂, ◌∙◌}
use mathlib.Core.Bool.{Bool, true, false, ◌&&◌}
use mathlib.Core.List.{List, [], ◌∷◌, ◌++◌, map, append_assoc, append-nil, Memᴰ}
use lib.Dec.{ltb, eqb}
use lib.ListN.{length, get_or, take, drop, set, replicate, length-append, length-drop, length-map}
use lib.Seq.{get_or-drop, drop-drop, take_at, drop_at, set_at, append_snoc}
use Rattle.paper.specs.Lists.{all}
use Rattle.paper.specs.Numbers.{most_characters, fields, field_token, pattern_bytes, sheet_side}
use Rattle.paper.proofs.base.Tests.{cond_by, both_true, le_leb, lt_leb, le_ltb, lt_ltb, neq_eqb, eqb_same}
use Rattle.paper.proofs.base.Lists.{cons_eq}
use Rattle.paper.specs.Pattern.{Pattern, char, Held, some_text, pattern}
use Rattle.paper.specs.Equation.{Token, chr, fld, Side}
use Rattle.paper.specs.Alphabet.{Edition, edition_1, edition_2, alphabet_of, edition_of, code, codes, byte_of, bytes_of}
use Rattle.paper.specs.Question.{Question}
use Rattle.paper.specs.Sheet.{read, byte_at, bytes_left, body, Mark, PA, LE, RI, ED, first_letter, second_letter, marked}
use Rattle.paper.specs.Sheet.{pattern_record, is_token, token, side_record, marked_side, Records, records, Fields}
use Rattle.paper.specs.Sheet.{open_fields, next_is, read_patterns, asked, read_end, left_read, edition_front, read_sheet}
use Rattle.paper.specs.Sheet.{strays, LastCheck, no_check, at_stray, stray_check, read_by, read_before}
use Rattle.paper.specs.Saying.{edition_laid, edition_byte, pattern_code, token_byte, pattern_saying, patterns_saying, side_saying, sheet_saying}
use Rattle.paper_laws.proofs.sheets.Asked.{InRange, GoodSide, GoodHeld, GoodQuestion, characters}
use Rattle.paper_laws.proofs.sheets.Editions.{most_of, code_character, code_sign}
use Rattle.paper_laws.proofs.saying.Code.{code_judged, said_codes, takes_more}
use Rattle.paper_laws.proofs.saying.SaidParts.{code_bytes, behind_edition, said_parts}

-- "length byte n 1 to 192": the code of what a field may hold fits into a record
abbrev pub ShortCode : Held → Type 0
ShortCode some_text = Unit {0}
ShortCode (pattern p) = length (pattern_code p) ≤ pattern_bytes

-- a question that a sheet can say
pub record Sayable (q : Question) : Type 0 where
  pub good : GoodQuestion q
  pub codes : (f : ℕ) → ShortCode (get_or q.held f some_text)

-- What is left at an offset.
module _ (s : List ℕ) (at : ℕ) (t : List ℕ) (e : drop at s ≡ t) where
  pub left_there : bytes_left s at ≡ length t
  left_there = sym (length-drop at s) ∙ ap length e

  pub byte_there : (i : ℕ) → byte_at s (at + i) ≡ byte_at t i
  byte_there i = sym (get_or-drop at s i 0) ∙ ap (λ (l : List ℕ). get_or l i 0) e

  pub behind_there : (i : ℕ) → drop (at + i) s ≡ drop i t
  behind_there i = sym (drop-drop i at s) ∙ ap (drop i) e

  body_there : (i n : ℕ) → body s (at + i) n ≡ body t i n
  body_there i n = ap (take n) (behind_there i)

  mark_there : (m : Mark) → marked m s at ≡ marked m t 0
  unfolding marked
  mark_there m =
      ap₂ (λ (a b : ℕ). eqb a (first_letter m) && eqb b (second_letter m)) (ap (byte_at s) (sym (add-zero at)) ∙ byte_there 0) (byte_there 1)

-- A pattern's record.
module _ (ed : Edition) (s : List ℕ) (at f : ℕ) (p : Pattern) (rest : List ℕ) (e : drop at s ≡ pattern_saying ed f (pattern p) ++ rest) where
  pub record_next : next_is PA s at ≡ true
  unfolding next_is marked
  record_next =
      let t = pattern_saying ed f (pattern p) ++ rest in
      rw (left_there s at t e, mark_there s at t e PA, le_ltb (length t) 2 (omega arith))

  record_said : (least : ℕ) → f < fields → least ≤ f → GoodHeld (characters ed) (pattern p) → ShortCode (pattern p)
      → pattern_record ed s at least ≡ read (record { field = f; its = p }) (at + (4 + length (pattern_code p)))
  unfolding pattern_record
  record_said least known rises good short =
      let t = pattern_saying ed f (pattern p) ++ rest in
      let code = pattern_code p in
      let bytes = bytes_of ed code in
      let some = code_bytes p in
      let same = length-map code (byte_of ed) in
      let sum = length-append bytes rest in
      rw (
        left_there s at t e,
        byte_there s at t e 2,
        byte_there s at t e 3,
        body_there s at t e 4 (length code),
        le_ltb (length t) 4 (omega arith),
        lt_leb fields f known,
        le_ltb f least rises,
        neq_eqb (length code) 0 (λ (z : length code ≡ 0). omega arith),
        le_ltb pattern_bytes (length code) short,
        le_ltb (length t) (4 + length code) (omega arith),
        take_at bytes rest (length code) same,
        said_codes ed p good.0,
        code_judged p (takes_more (characters ed) most_characters (most_of ed) p good.0) good.1,
      )

  pub record_behind : drop (at + (4 + length (pattern_code p))) s ≡ rest
  record_behind =
      behind_there s at (pattern_saying ed f (pattern p) ++ rest) e (4 + length (pattern_code p))
      ∙ sym (drop-drop (length (pattern_code p)) 4 (pattern_saying ed f (pattern p) ++ rest))
      ∙ drop_at (bytes_of ed (pattern_code p)) rest (length (pattern_code p)) (length-map (pattern_code p) (byte_of ed))

-- What comes next is no pattern.
pub none_next : (s : List ℕ) (at : ℕ) (rest : List ℕ) → drop at s ≡ rest → marked PA rest 0 ≡ false → next_is PA s at ≡ false
unfolding next_is
none_next s at rest e u = cond_by (λ (b : Bool). b ≡ false) (ltb (bytes_left s at) 2) (λ _. refl) (λ _. mark_there s at rest e PA ∙ u)

-- What reading the patterns' records gives: what each field may hold, up to the bytes behind them.
pub record Said (s : List ℕ) (held : List Held) (rest : List ℕ) (x : Records Fields) : Type 0 where
  pub last : ℕ
  pub marks : List ℕ
  pub next : ℕ
  pub reads : x ≡ records (record { held = held; marks = marks; above = last }) next
  pub behind : drop next s ≡ rest

-- the patterns of some fields are done, the others are left
abbrev pub partly : List Held → List Held → List ℕ → ℕ → Fields
partly done left marks above = record { held = done ++ replicate (length left) some_text; marks = marks; above = above }

module _ (ed : Edition) where
  -- an open field has no record
  open_done : (done left : List Held) (n : ℕ) (s : List ℕ) (at : ℕ) (marks : List ℕ) (above : ℕ) (rest : List ℕ)
      → Said s (done ++ (some_text ∷ []) ++ left) rest (read_patterns ed n s at (partly (done ++ (some_text ∷ [])) left marks above))
      → Said s (done ++ some_text ∷ left) rest (read_patterns ed n s at (partly done (some_text ∷ left) marks above))
  open_done done left n s at marks above rest h =
      rw (append_snoc done some_text left, append_snoc done some_text (replicate (length left) some_text)) at h

  -- a pattern's record is read
  module _ (done left : List Held) (p : Pattern) (s : List ℕ) (at f : ℕ) (behind : List ℕ) (e : drop at s ≡ pattern_saying ed f (pattern p) ++ behind) where
    abbrev with_it : ℕ → List ℕ → Records Fields
    with_it n marks = read_patterns ed n s (at + (4 + length (pattern_code p))) (partly (done ++ (pattern p ∷ [])) left (set marks f at) (suc f))

    pattern_done : (n : ℕ) (marks : List ℕ) (above : ℕ) (rest : List ℕ) → length done ≡ f → f < fields → above ≤ f → GoodHeld (characters ed) (pattern p) → ShortCode (pattern p)
        → Said s (done ++ (pattern p ∷ []) ++ left) rest (with_it n marks)
        → Said s (done ++ pattern p ∷ left) rest (read_patterns ed (suc n) s at (partly done (pattern p ∷ left) marks above))
    pattern_done n marks above rest d known rises good short h =
        let others = replicate (length left) some_text in
        rw (record_next ed s at f p behind e, record_said ed s at f p behind e above known rises good short, set_at done some_text others (pattern p) f d)
        (rw (append_snoc done (pattern p) left, append_snoc done (pattern p) others) at h)

  -- The patterns of the fields from f on are read behind those done.
  pub patterns_said : (left done : List Held) (n : ℕ) (s : List ℕ) (at f : ℕ) (marks : List ℕ) (above : ℕ) (rest : List ℕ)
      → drop at s ≡ patterns_saying ed f left ++ rest → marked PA rest 0 ≡ false → length (patterns_saying ed f left) < n
      → length done ≡ f → f + length left ≡ fields → above ≤ f
      → ((i : ℕ) → GoodHeld (characters ed) (get_or left i some_text)) → ((i : ℕ) → ShortCode (get_or left i some_text))
      → Said s (done ++ left) rest (read_patterns ed n s at (partly done left marks above))
  patterns_said [] done zero s at f marks above rest e u k d l r good short = absurd (omega arith)
  patterns_said [] done (suc n) s at f marks above rest e u k d l r good short =
      record { last = above; marks = marks; next = at; reads = rw (none_next s at rest e u); behind = e }
  patterns_said (some_text ∷ left) done n s at f marks above rest e u k d l r good short =
      let more = length-append done (some_text ∷ []) in
      open_done done left n s at marks above rest
      (patterns_said left (done ++ (some_text ∷ [])) n s at (suc f) marks above rest e u k (omega arith) (omega arith) (omega arith)
      (λ i. good (suc i)) (λ i. short (suc i)))
  patterns_said (pattern p ∷ left) done zero s at f marks above rest e u k d l r good short = absurd (omega arith)
  patterns_said (pattern p ∷ left) done (suc n) s at f marks above rest e u k d l r good short =
      let behind = patterns_saying ed (suc f) left ++ rest in
      let here = e ∙ append_assoc (pattern_saying ed f (pattern p)) (patterns_saying ed (suc f) left) rest in
      let more = length-append done (pattern p ∷ []) in
      let bytes = length-append (bytes_of ed (pattern_code p)) (patterns_saying ed (suc f) left) in
      pattern_done done left p s at f behind here n marks above rest d (omega arith) r (good 0) (short 0)
      (patterns_said left (done ++ (pattern p ∷ [])) n s (at + (4 + length (pattern_code p))) (suc f) (set marks f at) (suc f) rest (record_behind ed s at f p behind here) u
      (omega arith) (omega arith) (omega arith) (omega arith) (λ i. good (suc i)) (λ i. short (suc i)))

  -- Sides: a token's byte has a token's code, and says it.
  field_code : (f : ℕ) → f < fields → code ed (token_byte ed (fld f)) ≡ field_token + f
  field_code f h = code_sign ed f h

  token_byte_is : (t : Token) → InRange (characters ed) t → is_token (code ed (token_byte ed t)) ≡ true
  token_byte_is (chr c) h = rw (code_character ed c h, lt_ltb c most_characters (omega (arith, most_of ed)))
  token_byte_is (fld f) h =
      let b = field_token + f in
      rw (field_code f h, le_ltb b most_characters (omega arith), le_leb field_token b (omega arith), lt_ltb b (field_token + fields) (omega arith))

  token_byte_says : (t : Token) → InRange (characters ed) t → token (code ed (token_byte ed t)) ≡ t
  token_byte_says (chr c) h = rw (code_character ed c h, lt_ltb c most_characters (omega (arith, most_of ed)))
  token_byte_says (fld f) h = rw (field_code f h, le_ltb (field_token + f) most_characters (omega arith)) (ap fld (omega arith))

  bytes_are : (side : Side) → ((t : Token) → Memᴰ t side → InRange (characters ed) t) → all is_token (codes ed (map (token_byte ed) side)) ≡ true
  bytes_are [] h = refl
  bytes_are (t ∷ side) h = both_true (token_byte_is t (h t (Memᴰ.head refl))) (bytes_are side (λ u d. h u (Memᴰ.tail d)))

  bytes_say : (side : Side) → ((t : Token) → Memᴰ t side → InRange (characters ed) t) → map token (codes ed (map (token_byte ed) side)) ≡ side
  bytes_say [] h = refl
  bytes_say (t ∷ side) h = cons_eq (token_byte_says t (h t (Memᴰ.head refl))) (bytes_say side (λ u d. h u (Memᴰ.tail d)))

  -- A side's record.
  module _ (m : Mark) (s : List ℕ) (at : ℕ) (side : Side) (rest : List ℕ) (e : drop at s ≡ side_saying ed m side ++ rest) where
    record_side : GoodSide (characters ed) side → side_record ed s at ≡ read side (at + (3 + length side))
    unfolding side_record
    record_side good =
        let t = side_saying ed m side ++ rest in
        let bytes = map (token_byte ed) side in
        let sum = length-append bytes rest in
        let same = length-map side (token_byte ed) in
        rw (
          left_there s at t e,
          byte_there s at t e 2,
          body_there s at t e 3 (length side),
          le_ltb (length t) 3 (omega arith),
          le_ltb sheet_side (length side) good.short,
          le_ltb (length t) (3 + length side) (omega arith),
          take_at bytes rest (length side) same,
          bytes_are side good.tokens,
          bytes_say side good.tokens,
        )

    pub side_said : GoodSide (characters ed) side → marked_side ed m s at ≡ read side (at + (3 + length side))
    unfolding marked_side marked
    side_said good =
        let t = side_saying ed m side ++ rest in
        rw (left_there s at t e, mark_there s at t e m, le_ltb (length t) 2 (omega arith), eqb_same (first_letter m), eqb_same (second_letter m))
        (record_side good)

    pub side_behind : drop (at + (3 + length side)) s ≡ rest
    side_behind =
        behind_there s at (side_saying ed m side ++ rest) e (3 + length side)
        ∙ sym (drop-drop (length side) 3 (side_saying ed m side ++ rest)) ∙ drop_at (map (token_byte ed) side) rest (length side) (length-map side (token_byte ed))

-- The end: nothing is left.
end_said : (last : LastCheck) (s : List ℕ) (at : ℕ) (marks : List ℕ) (q : Question) → drop at s ≡ [] → read_end last s at marks q ≡ last marks q
unfolding read_end
end_said last s at marks q e = let none = left_there s at [] e in rw (le_ltb at (length s) (omega arith))

module _ (q : Question) where
  abbrev ed : Edition
  ed = edition_of q.alphabet

  -- Both sides' records, behind the patterns'.
  sides_said : (last : LastCheck) (s : List ℕ) (at : ℕ) (fs : Fields) → fs.held ≡ q.held → GoodQuestion q → drop at s ≡ side_saying ed LE q.left ++ side_saying ed RI q.right
      → left_read last ed s fs (marked_side ed LE s at) ≡ last fs.marks q
  sides_said last s at fs same good e =
      let left = q.left in
      let right = q.right in
      let after_left = side_behind ed LE s at left (side_saying ed RI right) e ∙ sym (append-nil (side_saying ed RI right)) in
      let next = at + (3 + length left) in
      rw (
        side_said ed LE s at left (side_saying ed RI right) e (rw good.alphabet at good.left),
        side_said ed RI s next right [] after_left (rw good.alphabet at good.right),
      )
      (end_said last s (next + (3 + length right)) fs.marks (record { alphabet = alphabet_of ed; left = left; right = right; held = fs.held })
      (side_behind ed RI s next right [] after_left)
      ∙ ap (last fs.marks) (λ i. record { alphabet = sym good.alphabet i; left = left; right = right; held = same i }))

pub not_marked : (ed : Edition) (side : Side) (rest : List ℕ) → marked PA (side_saying ed LE side ++ rest) 0 ≡ false
unfolding marked
not_marked e side rest = refl

-- The edition's record, in front of what is said in it.
pub edition_said : (ed : Edition) (t : List ℕ) → next_is ED t 0 ≡ false
    → edition_front (edition_laid (edition_byte ed) ++ t) ≡ read ed (length (edition_laid (edition_byte ed)))
unfolding edition_front next_is marked
edition_said edition_1 t h = rw h
edition_said edition_2 t h = let s = edition_laid 2 ++ t in rw (le_ltb (bytes_left s 0) 2 (omega arith), le_ltb (length s) 3 (omega arith))

pub edition_behind : (ed : Edition) (t : List ℕ) → drop (length (edition_laid (edition_byte ed))) (edition_laid (edition_byte ed) ++ t) ≡ t
edition_behind edition_1 t = refl
edition_behind edition_2 t = refl

-- another mark stands in front
pub not_next : (m : Mark) (t : List ℕ) → marked m t 0 ≡ false → next_is m t 0 ≡ false
unfolding next_is
not_next m t h = cond_by (λ (b : Bool). b ≡ false) (ltb (bytes_left t 0) 2) (λ _. refl) (λ _. h)

-- What stands behind it is a pattern's record or the left side's.
pub no_edition : (ed : Edition) (f : ℕ) (held : List Held) (side : Side) (rest : List ℕ)
    → next_is ED (patterns_saying ed f held ++ (side_saying ed LE side ++ rest)) 0 ≡ false
unfolding marked
no_edition ed f [] side rest = not_next ED (side_saying ed LE side ++ rest) refl
no_edition ed f (some_text ∷ held) side rest = no_edition ed (suc f) held side rest
no_edition ed f (pattern p ∷ held) side rest =
    not_next ED (patterns_saying ed f (pattern p ∷ held) ++ (side_saying ed LE side ++ rest)) refl

-- All the patterns' records, from where the edition's ends.
all_said : (q : Question) → Sayable q
    → (let ed = edition_of q.alphabet in let start = length (edition_laid (edition_byte ed)) in let s = sheet_saying q in
    Said s q.held (side_saying ed LE q.left ++ side_saying ed RI q.right) (read_patterns ed (suc (length s)) s start open_fields))
all_said q h =
    let ed = edition_of q.alphabet in
    let start = length (edition_laid (edition_byte ed)) in
    let s = sheet_saying q in
    let patterns = patterns_saying ed 0 q.held in
    let left = side_saying ed LE q.left in
    let right = side_saying ed RI q.right in
    let bytes = length-append patterns (left ++ right) in
    let parts = said_parts q in
    let here = ap (drop start) parts ∙ edition_behind ed (behind_edition ed q) in
    let sum = ap length parts in
    let whole = length-append (edition_laid (edition_byte ed)) (behind_edition ed q) in
    let every = h.good.held.each_field in
    rw every at
    (patterns_said ed q.held [] (suc (length s)) s start 0 (replicate fields 0) 0 (left ++ right) here (not_marked ed q.left right)
    (omega arith) refl (omega arith) (omega arith) (rw h.good.alphabet at h.good.held.good) h.codes)

-- with any last check: it is handed the question
pub reads_back_by : (last : LastCheck) (q : Question) → Sayable q → (marks : List ℕ) × (read_by last (sheet_saying q) ≡ last marks q)
unfolding read_by
reads_back_by last q h =
    let ed = edition_of q.alphabet in
    let said = all_said q h in (
      said.marks,
      rw (ap edition_front (said_parts q) ∙ edition_said ed (behind_edition ed q) (no_edition ed 0 q.held q.left (side_saying ed RI q.right)), said.reads)
          (sides_said q last (sheet_saying q) said.next (record { held = q.held; marks = said.marks; above = said.last }) refl h.good said.behind),
    )

pub reads_back_before : (q : Question) → Sayable q → read_before (sheet_saying q) ≡ asked q
reads_back_before q h = (reads_back_by no_check q h).1

-- where no pattern is stray
pub reads_back : (q : Question) → Sayable q → strays q ≡ [] → read_sheet (sheet_saying q) ≡ asked q
unfolding read_sheet
reads_back q h none = let (marks, e) = reads_back_by stray_check q h in e ∙ ap (at_stray marks q) none
