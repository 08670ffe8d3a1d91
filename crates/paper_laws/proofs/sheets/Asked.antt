-- Good questions: what every question has that a sheet asks.
--   sheet_good       : read_sheet sheet ≡ asked q → GoodQuestion q
--   patterns_by      : what each pattern's record keeps, all of them keep, one behind the other
--   fields_known     : a field that stands in the sides of a good question is one of the fields
--   fields_have_sets : and a situation has a place set for it
--   good_space       : its space is one of its characters
-- The tokens are its alphabet's characters and 01's fields, a side has at most 24 of them, there is a pattern or none for each field, and a pattern
-- has at most 63 leaves, of which each takes some character and nothing but characters. The alphabet is that of an edition; what rests on that alone
-- is that there are at most 128 characters (`good_most`) and that the space is one (`good_space`).
-- Follows from the checks on the records, test by test, and from the laws of judged patterns.
use Prim.Native.Nat.{ℕ, zero, suc, ◌+◌, ◌≤◌, ◌<◌}
use native.Mathlib.Omega.{arith}
use mathlib.Core.Path.{◌≡◌, refl, sym, ◌∙◌, ap, subst}
use mathlib.Core.Logic.{⊎_elim}
use mathlib.Core.Bool.{true, false, ◌&&◌, ◌||◌}
use mathlib.Core.List.{List, [], ◌∷◌, ◌++◌, Memᴰ}
use lib.Dec.{leb, ltb, eqb}
use lib.ListN.{length, get_or, drop, set, replicate, length-set, length-map, length-take, length-replicate}
use Rattle.paper.specs.Lists.{all}
use Rattle.paper.specs.Numbers.{most_characters, fields, set_fields, field_token, pattern_bytes, most_leaves, sheet_side}
use Rattle.paper.proofs.base.Tests.{cond_by, true_false, and_right, or_is_true, or_right_false, ltb_true, ltb_false, eqb_true}
use Rattle.paper.proofs.base.Lists.{all_true, any_true, any_append, mem_map}
use Rattle.paper.specs.Pattern.{Held, some_text, pattern}
use Rattle.paper.specs.Places.{leaves}
use Rattle.paper.specs.Taken.{leaves_take}
use Rattle.paper.specs.Written.{Judged, judged, judge}
use Rattle.paper.specs.Written as Written
use Rattle.paper.specs.Equation.{Token, chr, fld, Side, is_field, stands_in}
use Rattle.paper.specs.Alphabet.{Edition, alphabet_of, edition_of, code, codes}
use Rattle.paper.specs.Question.{Question}
use Rattle.paper.specs.Sheet.{Checked, fault, read, FieldPattern, byte_at, bytes_left, body, body_codes, Mark, PA, LE, RI, marked}
use Rattle.paper.specs.Sheet.{pattern_judged, pattern_record, is_token, token, side_record, marked_side, Records, faulty, records, Fields}
use Rattle.paper.specs.Sheet.{open_fields, next_is, with_pattern, pattern_read, read_patterns, Reading, refused, asked, read_end, right_read, left_read, sides_read, edition_front, edition_read, read_sheet}
use Rattle.paper.specs.Sheet.{strays, LastCheck, no_check, at_stray, stray_check, read_by, read_before}
use Rattle.paper_laws.proofs.places.Judged.{judged_takes, judged_leaves}
use Rattle.paper_laws.proofs.sheets.Editions.{known_edition, most_of, space_of, code_below}

-- "A token is 0 to 42 (a character) or 64 to 71 (field 0 to 7)", where there are n characters
abbrev pub InRange : ℕ → Token → Type 0
InRange n (chr c) = c < n
InRange n (fld f) = f < fields

pub record GoodSide (n : ℕ) (side : Side) : Type 0 where
  pub tokens : (t : Token) → Memᴰ t side → InRange n t
  pub short : length side ≤ sheet_side

-- what a field may hold
abbrev pub GoodHeld : ℕ → Held → Type 0
GoodHeld n some_text = Unit {0}
GoodHeld n (pattern p) = leaves_take n p × (leaves p ≤ most_leaves)

pub record GoodFields (n : ℕ) (held : List Held) : Type 0 where
  pub each_field : length held ≡ fields
  pub good : (f : ℕ) → GoodHeld n (get_or held f some_text)

pub record GoodQuestion (q : Question) : Type 0 where
  pub alphabet : q.alphabet ≡ alphabet_of (edition_of q.alphabet)
  pub left : GoodSide q.alphabet.characters q.left
  pub right : GoodSide q.alphabet.characters q.right
  pub held : GoodFields q.alphabet.characters q.held

-- a reading whose question is good, if it asks one
abbrev pub AsksGood : Reading → Type 0
AsksGood r = (q : Question) → r ≡ asked q → GoodQuestion q

-- the characters of an edition
abbrev pub characters : Edition → ℕ
characters e = (alphabet_of e).characters

-- Sides.
token_in_range : (e : Edition) (b : ℕ) → is_token (code e b) ≡ true → InRange (characters e) (token (code e b))
token_in_range e b h =
    let c = code e b in
    cond_by (InRange (characters e)) (ltb c most_characters) (λ k. code_below e b (ltb_true c most_characters k))
    (λ n. ⊎_elim
    (λ (k : ltb c most_characters ≡ true). let l = ltb_true c most_characters k in let m = ltb_false c most_characters n in absurd (omega arith))
    (λ k. let l = ltb_true c (field_token + fields) (and_right (leb field_token c) (ltb c (field_token + fields)) k) in omega arith)
    (or_is_true (ltb c most_characters) (leb field_token c && ltb c (field_token + fields)) h))

-- what a check on a record finds, if it is no fault
abbrev pub Found : {A : Type 0} → (A → Type 0) → Checked A → Type 0
Found Good (fault x at) = Unit {0}
Found Good (read a next) = Good a

side_good : (e : Edition) (s : List ℕ) (at : ℕ) → Found (GoodSide (characters e)) (side_record e s at)
unfolding side_record
side_good e s at =
    let n = byte_at s (at + 2) in
    let b = body s (at + 3) n in
    let cs = codes e b in
    cond_by (Found (GoodSide (characters e))) (ltb (bytes_left s at) 3) (λ _. tt)
    (λ _. cond_by (Found (GoodSide (characters e))) (ltb sheet_side n) (λ _. tt)
    (λ h. cond_by (Found (GoodSide (characters e))) (ltb (bytes_left s at) (3 + n)) (λ _. tt)
    (λ _. cond_by (Found (GoodSide (characters e))) (all is_token cs)
    (λ t. record {
      tokens = λ x d.
          let (c, i, same) = mem_map token cs d in
          let (byte, j, its) = mem_map (code e) b i in
          subst (InRange (characters e)) (sym same) (rw its (token_in_range e byte (rw its at (all_true is_token cs t i))));
      short = rw (length-map cs token, length-map b (code e), length-take n (drop (at + 3) s)) (omega (arith, ltb_false sheet_side n h));
    })
    (λ _. tt))))

-- Patterns: what the checks on a record say of the field and the pattern that were read.
pub record PatternRead (e : Edition) (s : List ℕ) (at least : ℕ) (fp : FieldPattern) : Type 0 where
  pub there : at < length s
  pub rises : least ≤ fp.field
  pub short : byte_at s (at + 3) ≤ pattern_bytes
  pub its_bytes : judge (body_codes e s (at + 4) (byte_at s (at + 3))) ≡ judged fp.its

judged_read : (e : Edition) (s : List ℕ) (at least start f next : ℕ) (j : Judged) → judge (body_codes e s (at + 4) (byte_at s (at + 3))) ≡ j
    → at < length s → least ≤ f → byte_at s (at + 3) ≤ pattern_bytes → Found (PatternRead e s at least) (pattern_judged j start f next)
judged_read e s at least start f next (Written.not_one_pattern i) h there rises short = tt
judged_read e s at least start f next (Written.too_many_leaves i) h there rises short = tt
judged_read e s at least start f next (judged p) h there rises short = record { there = there; rises = rises; short = short; its_bytes = h }

pub record_read : (e : Edition) (s : List ℕ) (at least : ℕ) → Found (PatternRead e s at least) (pattern_record e s at least)
unfolding pattern_record
record_read e s at least =
    let f = byte_at s (at + 2) in
    let n = byte_at s (at + 3) in
    let b = body_codes e s (at + 4) n in
    cond_by (Found (PatternRead e s at least)) (ltb (bytes_left s at) 4) (λ _. tt)
    (λ (there : ltb (bytes_left s at) 4 ≡ false). cond_by (Found (PatternRead e s at least)) (leb fields f || ltb f least) (λ _. tt)
    (λ i. cond_by (Found (PatternRead e s at least)) (eqb n 0 || ltb pattern_bytes n) (λ _. tt)
    (λ j. cond_by (Found (PatternRead e s at least)) (ltb (bytes_left s at) (4 + n)) (λ _. tt)
    (λ _. judged_read e s at least (at + 4) f (at + (4 + n)) (judge b) refl (omega (arith, ltb_false (bytes_left s at) 4 there))
    (ltb_false f least (or_right_false (leb fields f) (ltb f least) i))
    (ltb_false pattern_bytes n (or_right_false (eqb n 0) (ltb pattern_bytes n) j))))))

-- what is so of all that the fields may hold, where one of it is set, and where every field is open
module _ (P : Held → Type 0) where
  pub set_by : (held : List Held) (i : ℕ) (x : Held) → P x → ((f : ℕ) → P (get_or held f some_text))
      → (f : ℕ) → P (get_or (set held i x) f some_text)
  set_by [] i x g h f = h f
  set_by (y ∷ held) zero x g h zero = g
  set_by (y ∷ held) zero x g h (suc f) = h (suc f)
  set_by (y ∷ held) (suc i) x g h zero = h zero
  set_by (y ∷ held) (suc i) x g h (suc f) = set_by held i x g (λ k. h (suc k)) f

  pub open_by : P some_text → (n f : ℕ) → P (get_or (replicate n some_text) f some_text)
  open_by g zero f = g
  open_by g (suc n) zero = g
  open_by g (suc n) (suc f) = open_by g n f

abbrev pub Goods : Edition → Fields → Type 0
Goods e fs = GoodFields (characters e) fs.held

pub fields_with : (e : Edition) (s : List ℕ) (at : ℕ) (fs : Fields) (fp : FieldPattern) → Goods e fs → PatternRead e s at fs.above fp
    → Goods e (with_pattern fs at fp)
fields_with e s at fs fp h g =
    let b = body s (at + 4) (byte_at s (at + 3)) in
    record {
      each_field = length-set fs.held fp.field (pattern fp.its) ∙ h.each_field;
      good = set_by (GoodHeld (characters e)) fs.held fp.field (pattern fp.its) (judged_takes e b g.its_bytes, judged_leaves (codes e b) g.its_bytes) h.good;
    }

-- "before the first record every field is" open
pub opens_good : (n : ℕ) → GoodFields n open_fields.held
opens_good n = record { each_field = length-replicate fields some_text; good = open_by (GoodHeld n) tt fields }

-- The patterns' records, up to the first record that is none.
abbrev pub Listed : {A : Type 0} → (A → Type 0) → Records A → Type 0
Listed Good (faulty x at) = Unit {0}
Listed Good (records a next) = Good a

-- what every pattern's record keeps
module _
    (e : Edition)
    (Good : Fields → Type 0)
    (kept : (s : List ℕ) (at : ℕ) (fs : Fields) (fp : FieldPattern) → Good fs → PatternRead e s at fs.above fp → Good (with_pattern fs at fp)) where
  behind_by : (s : List ℕ) (at : ℕ) (fs : Fields) (go_on : ℕ → Fields → Records Fields) (x : Checked FieldPattern)
      → ((next : ℕ) (more : Fields) → Good more → Listed Good (go_on next more))
      → Good fs → Found (PatternRead e s at fs.above) x → Listed Good (pattern_read fs at go_on x)
  behind_by s at fs go_on (fault x place) i h k = tt
  behind_by s at fs go_on (read fp next) i h k = i next (with_pattern fs at fp) (kept s at fs fp h k)

  pub patterns_by : (n : ℕ) (s : List ℕ) (at : ℕ) (fs : Fields) → Good fs → Listed Good (read_patterns e n s at fs)
  patterns_by zero s at fs h = tt
  patterns_by (suc n) s at fs h =
      cond_by (Listed Good) (next_is PA s at)
      (λ _. behind_by s at fs (read_patterns e n s) (pattern_record e s at fs.above) (patterns_by n s) h (record_read e s at fs.above))
      (λ _. h)

pub patterns_good : (e : Edition) (n : ℕ) (s : List ℕ) (at : ℕ) (fs : Fields) → Goods e fs → Listed (Goods e) (read_patterns e n s at fs)
patterns_good e = patterns_by e (Goods e) (fields_with e)

-- A side behind its mark, and the sides.
pub marked_good : (e : Edition) (m : Mark) (s : List ℕ) (at : ℕ) → Found (GoodSide (characters e)) (marked_side e m s at)
unfolding marked_side
marked_good e m s at =
    cond_by (Found (GoodSide (characters e))) (ltb (bytes_left s at) 2) (λ _. tt)
    (λ _. cond_by (Found (GoodSide (characters e))) (marked m s at) (λ _. side_good e s at) (λ _. tt))

abbrev Asks : Reading → Type 0
Asks (refused x at) = Unit {0}
Asks (asked q) = GoodQuestion q

-- a last check that asks nothing but the question that it is handed
abbrev pub AsksIt : LastCheck → Type 0
AsksIt last = (marks : List ℕ) (q : Question) → GoodQuestion q → Asks (last marks q)

module _ (last : LastCheck) (it : AsksIt last) where
  end_asks : (s : List ℕ) (at : ℕ) (marks : List ℕ) (q : Question) → GoodQuestion q → Asks (read_end last s at marks q)
  unfolding read_end
  end_asks s at marks q g = cond_by Asks (ltb at (length s)) (λ _. tt) (λ _. it marks q g)

  module _ (e : Edition) (s : List ℕ) where
    right_asks : (fs : Fields) (l : Side) (x : Checked Side)
        → Goods e fs → GoodSide (characters e) l → Found (GoodSide (characters e)) x → Asks (right_read last e s fs l x)
    right_asks fs l (fault x at) h g k = tt
    right_asks fs l (read r next) h g k =
        end_asks s next fs.marks (record { alphabet = alphabet_of e; left = l; right = r; held = fs.held })
        (record { alphabet = ap alphabet_of (sym (known_edition e)); left = g; right = k; held = h })

    left_asks : (fs : Fields) (x : Checked Side) → Goods e fs → Found (GoodSide (characters e)) x → Asks (left_read last e s fs x)
    left_asks fs (fault x at) h k = tt
    left_asks fs (read l next) h k = right_asks fs l (marked_side e RI s next) h k (marked_good e RI s next)

    sides_ask : (x : Records Fields) → Listed (Goods e) x → Asks (sides_read last e s x)
    sides_ask (faulty x at) h = tt
    sides_ask (records fs at) h = left_asks fs (marked_side e LE s at) h (marked_good e LE s at)

  edition_asks : (s : List ℕ) (x : Checked Edition) → Asks (edition_read last s x)
  edition_asks s (fault x at) = tt
  edition_asks s (read e at) =
      sides_ask e s (read_patterns e (suc (length s)) s at open_fields) (patterns_good e (suc (length s)) s at open_fields (opens_good (characters e)))

  pub good_by : (sheet : List ℕ) → AsksGood (read_by last sheet)
  unfolding read_by
  good_by sheet q e = subst Asks e (edition_asks sheet (edition_front sheet))

-- by the rule before request K13, and since
stray_asks : (marks : List ℕ) (q : Question) (fs : List ℕ) → GoodQuestion q → Asks (at_stray marks q fs)
stray_asks marks q [] g = g
stray_asks marks q (f ∷ fs) g = tt

pub before_good : (sheet : List ℕ) → AsksGood (read_before sheet)
before_good = good_by no_check (λ marks q g. g)

pub sheet_good : (sheet : List ℕ) → AsksGood (read_sheet sheet)
unfolding read_sheet
sheet_good = good_by stray_check (λ marks q g. stray_asks marks q (strays q) g)

-- Every field that stands in the sides is one of the fields.
standing_known : (n f : ℕ) (side : Side) → GoodSide n side → stands_in f side ≡ true → f < fields
standing_known n f side g e =
    let (t, d, k) = any_true (is_field f) side e in known t (g.tokens t d) k
  where
    known : (t : Token) → InRange n t → is_field f t ≡ true → f < fields
    known (chr c) h k = absurd (true_false k refl)
    known (fld h) i k = rw (eqb_true f h k) i

module _ (q : Question) (g : GoodQuestion q) (f : ℕ) (e : stands_in f (q.left ++ q.right) ≡ true) where
  pub fields_known : f < fields
  fields_known =
      ⊎_elim (standing_known q.alphabet.characters f q.left g.left) (standing_known q.alphabet.characters f q.right g.right)
      (or_is_true (stands_in f q.left) (stands_in f q.right) (sym (any_append (is_field f) q.left q.right) ∙ e))

  -- A situation has a place set for each of them.
  pub fields_have_sets : f < set_fields
  fields_have_sets = omega (arith, fields_known)

-- What rests on the alphabet being an edition's.
module _ {q : Question} (g : GoodQuestion q) where
  pub good_space : q.alphabet.space < q.alphabet.characters
  good_space = rw g.alphabet (space_of (edition_of q.alphabet))

  pub good_most : q.alphabet.characters ≤ most_characters
  good_most = rw g.alphabet (most_of (edition_of q.alphabet))
