-- The answer of a clash, from the bytes of the slots: the texts that the way to the last slot spells, the records of the fields that stand,
-- and what becomes of the answer buffer.
use Rattle.std.specs.Prelude.{ℕ, zero, suc, ◌+◌, ◌*◌, ◌≤◌, ◌<◌, ◌≡◌, Bool, Option, Some, None, cond, not, ◌&&◌, ◌||◌, List, [], ◌∷◌, ◌++◌, leb, ltb, eqb, length, get_or, drop}
use Rattle.paper.specs.Lists.{upto, only, keep, each}
use Rattle.paper.specs.Numbers.{most_characters, fields, situation_bytes}
use Rattle.base_codes.specs.Inner.{field_code}
use Rattle.search_slots.specs.LowFirst.{low_first_number, low_bytes}
use Rattle.search_slots.specs.Slots.{number_width, key_bytes, right_at, part}
use Rattle.search_records.specs.declared.Back.{Back}
use Rattle.search_records.specs.declared.Origin.{Origin}
use Rattle.std.specs.Option.{option_to_list}

-- the parent's number and the step in the slot with the number i
abbrev pub parent_in : List ℕ → ℕ → ℕ
parent_in work i = low_first_number (part (situation_bytes * i + key_bytes) number_width work)

abbrev pub step_in : List ℕ → ℕ → ℕ
step_in work i = get_or work (situation_bytes * i + key_bytes + number_width) 0

abbrev pub origin_in : List ℕ → ℕ → Origin
origin_in work i = record { parent = parent_in work i; step = step_in work i }

-- did this step from slot i put its character before the field f: is it a character, and the field in front of a side?
unfoldable pub puts_in : List ℕ → ℕ → ℕ → ℕ → Bool
puts_in work i step f =
    ltb step most_characters
    && (eqb (get_or work (situation_bytes * i) 0) (field_code + f) || eqb (get_or work (situation_bytes * i + right_at) 0) (field_code + f))

-- "A field's text is the characters put before it on the way from the start to the finish": from slot i back to slot 0, in at most so many
-- steps. A parent that is not before its slot leads nowhere.
abbrev pub spelt_back : ℕ → List ℕ → ℕ → ℕ → List ℕ
spelt_back zero work f i = []
spelt_back (suc n) work f zero = []
spelt_back (suc n) work f (suc i) =
    let p = parent_in work (suc i) in
    let step = step_in work (suc i) in
    let text = spelt_back n work f p in
    cond (ltb p (suc i)) (text ++ only (puts_in work p step f) step) []

abbrev pub way_spelt : List ℕ → ℕ → ℕ → List ℕ
way_spelt work i f = spelt_back i work f i

-- the buffer has the slot with the number i
pub record SlotIn (work : List ℕ) (i : ℕ) : Type 0 where
  pub room : situation_bytes * (i + 1) ≤ length work

-- one step back from slot i: to one before it, and the text at the slot is that at the other, with the character that was put
pub record StepsBack (work : List ℕ) (i f : ℕ) (back : Back) : Type 0 where
  pub falls : back.parent < i
  pub text : way_spelt work i f ≡ way_spelt work back.parent f ++ option_to_list back.put

-- "`VA`, field byte, length in two bytes (low first)"
abbrev pub record_mark : ℕ → List ℕ
record_mark f = 86 ∷ 65 ∷ f ∷ []

abbrev pub mark_width : ℕ
mark_width = 3

abbrev pub record_head : ℕ → ℕ → List ℕ
record_head f n = record_mark f ++ low_bytes number_width n

abbrev pub head_bytes : ℕ
head_bytes = mark_width + number_width

-- the record of a text as bytes: of its length the two low ones. That is 01's record of every text that a way can spell (`record_is`).
unfoldable pub record_bytes : ℕ → List ℕ → List ℕ
record_bytes f text = record_head f (length text) ++ text

-- the bytes in front of the buffer, "the rest unchanged"
abbrev pub in_front : List ℕ → List ℕ → List ℕ
in_front bytes buffer = bytes ++ drop (length bytes) buffer

-- The list l was written into the front of d, which is now e; n is its length.
pub record RecordWritten (d e : List ℕ) (n : ℕ) (l : List ℕ) : Type 0 where
  pub bytes : e ≡ in_front l d
  pub many : n ≡ length l
  pub same_length : length e ≡ length d

-- "for each field standing in the sides, by rising number": those whose first place set is not 0
unfoldable pub fields_with_sets : List ℕ → List ℕ
fields_with_sets sets = keep (λ (f : ℕ). not (eqb (get_or sets f 0) 0)) (upto fields)

module _ (sets : List ℕ) (text : ℕ → List ℕ) where
  -- "each record written directly behind the one before"
  unfoldable pub value_records : List ℕ
  value_records = each (λ (f : ℕ). record_bytes f (text f)) (fields_with_sets sets)

  -- the bytes written, or none: "answer buffer too short"
  unfoldable pub answer_given : List ℕ → Option ℕ
  answer_given buffer =
      cond (not (leb (length value_records) (length buffer))) None
      (Some (length value_records))

  -- "records, the rest unchanged", or "unchanged"
  unfoldable pub buffer_after : List ℕ → List ℕ
  buffer_after buffer =
      cond (not (leb (length value_records) (length buffer))) buffer
      (in_front value_records buffer)

  -- what is answered, and the buffer afterwards
  pub record Answered (before after : List ℕ) (answer : Option ℕ) : Type 0 where
    pub given : answer ≡ answer_given before
    pub buffer : after ≡ buffer_after before
