-- Laws of the lines: what each is put together from, how long it can be, and how the records are walked. Follows from the definitions of
-- `Printed`.
use Prim.Native.Nat.{ℕ, zero, suc, ◌+◌, ◌*◌, ◌-◌, ◌≤◌, ◌<◌, min}
use native.Mathlib.Nat.{zero-min, suc-min-suc, min-le_left, min-le_right, add-sub_cancel_left}
use native.Mathlib.Omega.{arith}
use mathlib.Core.Path.{◌≡◌, refl, sym, ap, ◌∙◌}
use mathlib.Core.List.{List, [], ◌∷◌, ◌++◌, map, append_assoc, append-nil}
use Rattle.std.proofs.Common.{Option, Some, None}
use Rattle.base_answers.specs.declared.Numbers.{Numbers}
use lib.ListN.{length, get_or, take, drop, length-append, length-map, length-drop, length-take}
use lib.Seq.{take-nil, drop-nil, drop-drop, get_or-drop}
use Rattle.paper.specs.Alphabet.{Edition, edition_1, edition_2}
use Rattle.paper.specs.Printed.{sign, blank_sign, newline}
use Rattle.paper.proofs.base.Lists.{map_append}
use Rattle.paper_print.specs.TextLines.{printed_values, value_lines}
use Rattle.print_signs.specs.PrintedCharacter.{values_of_character}
use Rattle.print_signs.proofs.CharacterByCharacter.{values_more, values_length}
use Rattle.print_lines.specs.Lines.{longest_first_line, longest_decided_line, longest_line}
use Rattle.print_lines.specs.Writing.{Puts, in_digits, in_decimal, most_digits, numbers_line, numbers_line_decided, first_line_of, three_numbers, value_line, head_size, text_length}
use Rattle.print_lines.proofs.Decimal.{decimal_at_most, byte_at_most}
use Rattle.print_lines.proofs.Putting.{puts_none, puts_then}

-- a sign behind each part, or before the next
signs_behind : (p q r : List ℕ) (s e : ℕ) → p ++ (s ∷ q) ++ (s ∷ r) ++ (e ∷ []) ≡ (p ++ (s ∷ [])) ++ (q ++ (s ∷ [])) ++ (r ++ (e ∷ []))
signs_behind p q r s e = simp append_assoc

more_signs_behind : (p q r t : List ℕ) (s e : ℕ)
    → p ++ (s ∷ q) ++ (s ∷ r) ++ (s ∷ t) ++ (e ∷ []) ≡ (p ++ (s ∷ [])) ++ (q ++ (s ∷ [])) ++ (r ++ (s ∷ [])) ++ (t ++ (e ∷ []))
more_signs_behind p q r t s e = simp append_assoc

pub numbers_line_parts : (number count place : ℕ) → numbers_line number count place ≡ three_numbers number count place newline
unfolding numbers_line in_digits
numbers_line_parts number count place = signs_behind (in_decimal number) (in_decimal count) (in_decimal place) blank_sign newline

pub decided_line_parts : (number count place search : ℕ)
    → numbers_line_decided number count place search ≡ three_numbers number count place blank_sign ++ (in_decimal search ++ (newline ∷ []))
unfolding numbers_line_decided in_digits
decided_line_parts number count place search =
    more_signs_behind (in_decimal number) (in_decimal count) (in_decimal place) (in_decimal search) blank_sign newline

-- a number of at most 20 digits, and a sign behind it
pub number_length : (n s : ℕ) → length (in_decimal n ++ (s ∷ [])) ≤ most_digits + 1
number_length n s = rw length-append (omega (arith, decimal_at_most n))

pub three_numbers_length : (number count place sign : ℕ) → length (three_numbers number count place sign) ≤ longest_first_line
three_numbers_length number count place sign =
    simp length-append (omega (arith, decimal_at_most number, decimal_at_most count, decimal_at_most place))

pub numbers_line_length : (number count place : ℕ) → length (numbers_line number count place) ≤ longest_first_line
numbers_line_length number count place = rw (numbers_line_parts number count place) (three_numbers_length number count place newline)

pub decided_line_length : (number count place search : ℕ) → length (numbers_line_decided number count place search) ≤ longest_decided_line
decided_line_length number count place search =
    rw (decided_line_parts number count place search, length-append (three_numbers number count place blank_sign))
    (omega (arith, three_numbers_length number count place blank_sign, number_length search newline))

pub first_line_length : (told : Numbers) (search : Option ℕ) → length (first_line_of told search) ≤ longest_line search
first_line_length told None = numbers_line_length told.number told.count told.place
first_line_length told (Some search) = decided_line_length told.number told.count told.place search

module _ (e : Edition) where
  pub value_line_parts : (f : ℕ) (text : List ℕ)
      → value_line e f text ≡ (in_decimal f ++ (blank_sign ∷ [])) ++ map sign (printed_values e text) ++ (newline ∷ [])
  unfolding value_line in_digits
  value_line_parts f text =
      ap (λ (l : List ℕ). l ++ (newline ∷ [])) (sym (append_assoc (in_decimal f) (blank_sign ∷ []) (map sign (printed_values e text))))

  -- no line is longer than two of its records
  pub value_line_length : (f : ℕ) (text : List ℕ) → f < 256 → length (value_line e f text) ≤ head_size + 2 * length text
  value_line_length f text h =
      rw (value_line_parts f text) (simp (length-append, length-map) (omega (arith, byte_at_most f h, values_length e text)))

  -- one character more
  pub signs_more : (text : List ℕ) (i : ℕ) → i < length text
      → map sign (printed_values e (take (i + 1) text)) ≡ map sign (printed_values e (take i text)) ++ map sign (values_of_character e (get_or text i 0))
  signs_more text i h = rw (values_more e text i h) (map_append sign (printed_values e (take i text)) (values_of_character e (get_or text i 0)))

-- no character yet
pub first_none : (e : Edition) {d : List ℕ} {at : ℕ} → Puts d d at at (map sign (printed_values e []))
first_none edition_1 = puts_none
first_none edition_2 = puts_none

-- a part that would go past the end goes to the end
pub take_min : (n : ℕ) (l : List ℕ) → take (min n (length l)) l ≡ take n l
take_min zero l = rw zero-min
take_min (suc n) [] = take-nil (min (suc n) 0)
take_min (suc n) (x ∷ l) = rw suc-min-suc (ap (λ (t : List ℕ). x ∷ t) (take_min n l))

drop_min : (n : ℕ) (l : List ℕ) → drop (min n (length l)) l ≡ drop n l
drop_min zero l = rw zero-min
drop_min (suc n) [] = drop-nil (min (suc n) 0)
drop_min (suc n) (x ∷ l) = rw suc-min-suc (drop_min n l)

-- too few bytes for a record
no_record : (e : Edition) (n : ℕ) (s : List ℕ) → length s < head_size → value_lines e n s ≡ []
no_record e zero s h = refl
no_record e (suc n) [] h = refl
no_record e (suc n) (v ∷ []) h = refl
no_record e (suc n) (v ∷ a ∷ []) h = refl
no_record e (suc n) (v ∷ a ∷ f ∷ []) h = refl
no_record e (suc n) (v ∷ a ∷ f ∷ low ∷ []) h = refl
no_record e (suc n) (v ∷ a ∷ f ∷ low ∷ high ∷ s) h = absurd (omega arith)

one_record : (e : Edition) (n : ℕ) (s : List ℕ) → head_size ≤ length s →
    let len = get_or s 3 0 + 256 * get_or s 4 0 in
    value_lines e (suc n) s ≡ value_line e (get_or s 2 0) (take len (drop head_size s)) ++ value_lines e n (drop len (drop head_size s))
unfolding value_line
one_record e n [] h = absurd (omega arith)
one_record e n (v ∷ []) h = absurd (omega arith)
one_record e n (v ∷ a ∷ []) h = absurd (omega arith)
one_record e n (v ∷ a ∷ f ∷ []) h = absurd (omega arith)
one_record e n (v ∷ a ∷ f ∷ low ∷ []) h = absurd (omega arith)
one_record e n (v ∷ a ∷ f ∷ low ∷ high ∷ s) h = refl

-- the text of the record at `from`
abbrev pub text : List ℕ → ℕ → List ℕ
text s from = take (text_length s from) (drop (from + head_size) s)

-- as the code takes it: the part from behind the head to behind the text
pub text_part : (s : List ℕ) (from n : ℕ) → n ≡ text_length s from
    → take (from + head_size + n - (from + head_size)) (drop (from + head_size) s) ≡ text s from
text_part s from n e = rw (add-sub_cancel_left, e)

pub text_within : (s : List ℕ) (from : ℕ) → from + head_size ≤ length s → from + head_size + text_length s from ≤ length s
text_within s from h = omega (arith, min-le_right (get_or s (from + 3) 0 + 256 * get_or s (from + 4) 0) (length s - (from + head_size)))

pub text_long : (s : List ℕ) (from n : ℕ) → n ≡ text_length s from → length (text s from) ≤ n
text_long s from n e = rw (length-take, e) (min-le_left (text_length s from) (length (drop (from + head_size) s)))

record_at : (e : Edition) (s : List ℕ) (from n : ℕ) → from + head_size ≤ length s
    → value_lines e (suc n) (drop from s)
    ≡ value_line e (get_or s (from + 2) 0) (text s from) ++ value_lines e n (drop (from + head_size + text_length s from) s)
record_at e s from n h =
    one_record e n (drop from s) (simp length-drop (omega arith))
    ∙ rw (
      get_or-drop from s 2 0,
      get_or-drop from s 3 0,
      get_or-drop from s 4 0,
      drop-drop head_size from s,
      ← drop-drop (text_length s from) (from + head_size) s,
      ← length-drop (from + head_size) s,
      take_min,
      drop_min,
    )

-- Some of the lines of `whole` were put, those of the records from `from` on are left.
pub record Underway (k : Edition) (whole records d e : List ℕ) (at from end : ℕ) : Type 0 where
  pub lines : List ℕ
  pub left : ℕ
  pub enough : length records ≤ from + left
  pub puts : Puts d e at end lines
  pub rest : lines ++ value_lines k left (drop from records) ≡ whole

module _ {k : Edition} {records d : List ℕ} {at : ℕ} where
  pub none_put : (n : ℕ) → length records ≤ n → Underway k (value_lines k n records) records d d at 0 at
  none_put n h = record { lines = []; left = n; enough = omega arith; puts = puts_none; rest = refl }

  module _ {whole e : List ℕ} {from end : ℕ} (u : Underway k whole records d e at from end) where
    pub one_put : {f : List ℕ} {end' : ℕ} → from + head_size ≤ length records
        → Puts e f end end' (value_line k (get_or records (from + 2) 0) (text records from))
        → Underway k whole records d f at (from + head_size + text_length records from) end'
    one_put h p =
        let more : suc (u.left - 1) ≡ u.left = omega (arith, u.enough) in
        record {
          lines = u.lines ++ value_line k (get_or records (from + 2) 0) (text records from);
          left = u.left - 1;
          enough = omega (arith, u.enough);
          puts = puts_then u.puts p;
          rest =
              append_assoc u.lines (value_line k (get_or records (from + 2) 0) (text records from)) _
              ∙ rw (← record_at k records from (u.left - 1) h, more) u.rest;
        }

    pub all_put : length records < from + head_size → Puts d e at end whole
    all_put h = rw (← u.rest, no_record k u.left (drop from records) (simp length-drop (omega arith)), append-nil) u.puts
