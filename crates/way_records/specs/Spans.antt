-- Texts by where they stand: of each field the place behind its text in the bytes of the records, and how many of its characters are left. A hidden
-- field has no place: only how many spaces are left.
use Rattle.std.specs.Prelude.{ℕ, ◌+◌, ◌-◌, ◌≤◌, ◌<◌, ◌≡◌, cond, Option, None, Some, List, [], ◌∷◌, ltb, length, get_or, take, drop, set, replicate}
use Rattle.paper.specs.Numbers.{fields, hidden_left, hidden_right, set_fields}
use Rattle.paper.specs.Equation.{Texts}
use Rattle.paper_way.specs.TextRecords.{TextFront, no_text, its_text, TextsRead, no_texts, texts_read, texts_from, no_texts_yet}
use Rattle.base_codes.specs.Inner.{is_char, field_of}
use Rattle.way_records.specs.declared.Spans.{Spans}

-- the record in front, as the code hands it on: how long its text is
abbrev pub length_of : TextFront → Option ℕ
length_of no_text = None
length_of (its_text w later) = Some (length w)

-- what is left of a text; x is the space
abbrev pub text_at : ℕ → List ℕ → List ℕ → List ℕ → Texts
text_at x bytes ends left f =
    cond (ltb f fields) (take (get_or left f 0) (drop (get_or ends f 0 - get_or left f 0) bytes)) (replicate (get_or left f 0) x)

-- a text of a sheet's field stands in the bytes
pub record Within (bytes ends left : List ℕ) : Type 0 where
  pub ends_many : length ends ≡ set_fields
  pub left_many : length left ≡ set_fields
  pub in_front : (f : ℕ) → f < fields → get_or left f 0 ≤ get_or ends f 0
  pub in_bytes : (f : ℕ) → f < fields → get_or ends f 0 ≤ length bytes

-- of texts that were read: two bytes hold the length of each, and a hidden field has none
pub record Own (bytes : List ℕ) (s : Spans) : Type 0 where
  pub within : Within bytes s.ends s.left
  pub short : (f : ℕ) → get_or s.left f 0 ≤ 65535
  pub none_hidden : (f : ℕ) → fields ≤ f → get_or s.left f 0 ≡ 0

-- how many characters a token stands for
abbrev pub token_length : List ℕ → ℕ → ℕ
token_length left b = cond (is_char b) 1 (get_or left (field_of b) 0)

-- the length of the label of a side by inner codes
abbrev pub label_coded : List ℕ → List ℕ → ℕ
label_coded left [] = 0
label_coded left (b ∷ side) = token_length left b + label_coded left side

-- the hidden fields hold what the shorter label lacks; l and r are the lengths of the labels
abbrev pub with_missing : List ℕ → ℕ → ℕ → List ℕ
with_missing left l r = set (set left hidden_left (r - l)) hidden_right (l - r)

-- the texts as far as they were read, and the records of these fields that are still to come
abbrev pub read_on : ℕ → ℕ → List ℕ → Option Spans → List ℕ → TextsRead
read_on n x bytes None fs = no_texts
read_on n x bytes (Some s) fs = texts_from n (text_at x bytes s.ends s.left) fs (drop s.next bytes)

-- the texts, if they were read
abbrev pub texts_of : ℕ → List ℕ → Option Spans → TextsRead
texts_of x bytes None = no_texts
texts_of x bytes (Some s) = texts_read (text_at x bytes s.ends s.left)

-- what is handed on of the records of these fields; l and r are the sides
pub record SpansFound (n : ℕ) (fs bytes l r : List ℕ) (s : Spans) : Type 0 where
  pub own : List ℕ
  pub texts : (x : ℕ) → texts_read (text_at x bytes s.ends own) ≡ texts_from n no_texts_yet fs bytes
  pub within : Within bytes s.ends own
  pub none_hidden : (f : ℕ) → fields ≤ f → get_or own f 0 ≡ 0
  pub spaced : s.left ≡ with_missing own (label_coded own l) (label_coded own r)

-- that, if there are records of them
abbrev pub TextsFound : ℕ → List ℕ → List ℕ → List ℕ → List ℕ → Option Spans → Type 0
TextsFound n fs bytes l r None = no_texts ≡ texts_from n no_texts_yet fs bytes
TextsFound n fs bytes l r (Some s) = SpansFound n fs bytes l r s
