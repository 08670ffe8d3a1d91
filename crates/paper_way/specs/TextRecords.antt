-- Texts from answer records (document 01, `VA`): one record for each field of a list, in its order, each directly behind the one before, and nothing
-- behind the last. The bytes may be anything.
use Rattle.std.specs.Prelude.{ℕ, ◌+◌, ◌*◌, cond, not, List, [], ◌∷◌, ltb, eqb, length, get_or, take, drop}
use Rattle.paper.specs.Lists.{all}
use Rattle.paper.specs.Equation.{Texts}
use Rattle.paper.specs.Question.{Question}
use Rattle.paper.specs.Outcome.{standing}

-- the mark `VA`
abbrev pub text_mark_1 : ℕ
text_mark_1 = 86

abbrev pub text_mark_2 : ℕ
text_mark_2 = 65

-- "`VA`, field byte, length in two bytes (low first)": so many bytes stand before a text
abbrev pub text_head : ℕ
text_head = 5

-- what stands in front of bytes: the record of a field, with its text and the bytes behind it, or none
pub data TextFront : Type 0 where
  no_text : TextFront
  its_text : List ℕ → List ℕ → TextFront

-- "the values": so many, each a character where there are n of them
abbrev pub values_front : ℕ → ℕ → List ℕ → TextFront
values_front n k bytes =
    cond (ltb (length bytes) k) no_text
    (cond (not (all (λ (c : ℕ). ltb c n) (take k bytes))) no_text (its_text (take k bytes) (drop k bytes)))

-- The record of the field f. A byte is below 256.
unfoldable pub text_front : ℕ → ℕ → List ℕ → TextFront
text_front n f bytes =
    cond (ltb (length bytes) text_head) no_text
    (cond (not (eqb (get_or bytes 0 0) text_mark_1)) no_text
    (cond (not (eqb (get_or bytes 1 0) text_mark_2)) no_text
    (cond (not (eqb (get_or bytes 2 0) f)) no_text
    (cond (not (ltb (get_or bytes 3 0) 256)) no_text
    (values_front n (get_or bytes 3 0 + 256 * get_or bytes 4 0) (drop text_head bytes))))))

pub data TextsRead : Type 0 where
  no_texts : TextsRead
  texts_read : Texts → TextsRead

-- the texts, with this one for the field f
abbrev pub with_text : ℕ → List ℕ → Texts → Texts
with_text f w texts g = cond (eqb f g) w (texts g)

abbrev pub front_read : (List ℕ → List ℕ → TextsRead) → TextFront → TextsRead
front_read go_on no_text = no_texts
front_read go_on (its_text w later) = go_on w later

-- the records of these fields, behind those that gave the texts so far
abbrev pub texts_from : ℕ → Texts → List ℕ → List ℕ → TextsRead
texts_from n texts [] bytes = cond (eqb (length bytes) 0) (texts_read texts) no_texts
texts_from n texts (f ∷ fs) bytes =
    front_read (λ (w : List ℕ) (later : List ℕ). texts_from n (with_text f w texts) fs later) (text_front n f bytes)

abbrev pub no_texts_yet : Texts
no_texts_yet f = []

-- those of the fields that stand, by rising number
unfoldable pub read_texts : Question → List ℕ → TextsRead
read_texts q bytes = texts_from q.alphabet.characters no_texts_yet (standing q) bytes
