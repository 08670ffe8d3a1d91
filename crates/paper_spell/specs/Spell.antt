-- Spelling a text and reading it back (request K10): from any lists of bytes to the number, the bytes written and the buffer afterwards; and what is
-- promised of both.
use Rattle.std.specs.Prelude.{ℕ, ◌*◌, ◌≤◌, ◌<◌, ◌≡◌, ◌↔◌, true, false, cond, List, ◌++◌, ltb, length, take, drop}
use Rattle.paper_spell.specs.FullAscii.{spelt, is_text, are_values, ReadBack, no_text, text, read_back}

pub record SpellAnswer : Type 0 where
  pub number : ℕ
  pub written : ℕ
  pub out : List ℕ

abbrev pub spell_told : ℕ → ℕ → List ℕ → SpellAnswer
spell_told number written out = record { number = number; written = written; out = out }

-- "46, after it, for a short buffer"
abbrev pub put_bytes : List ℕ → List ℕ → SpellAnswer
put_bytes bytes out =
    cond (ltb (length out) (length bytes)) (spell_told 46 0 out) (spell_told 0 (length bytes) (bytes ++ drop (length bytes) out))

-- "45 for a byte above 127 to be spelt"
unfoldable pub spelling_text : List ℕ → List ℕ → SpellAnswer
spelling_text given out = cond (is_text given) (put_bytes (spelt given) out) (spell_told 45 0 out)

-- "or a spelt text the table doesn't give"
abbrev pub reading_of : ReadBack → List ℕ → SpellAnswer
reading_of no_text out = spell_told 45 0 out
reading_of (text t) out = put_bytes t out

unfoldable pub reading_spelt : List ℕ → List ℕ → SpellAnswer
reading_spelt values out = reading_of (read_back values) out

-- What is promised of spelling: of every text and every buffer.
pub record SpellPromised (given out : List ℕ) (s : SpellAnswer) : Type 0 where
  pub spells : s.number ≡ 0 → take s.written s.out ≡ spelt given
  pub values : s.number ≡ 0 → are_values (take s.written s.out) ≡ true
  pub reads_back : s.number ≡ 0 → read_back (take s.written s.out) ≡ text given
  -- "no two different texts are spelt alike"
  pub alone : s.number ≡ 0 → (other : List ℕ) → is_text other ≡ true → spelt other ≡ take s.written s.out → other ≡ given
  pub refused : (s.number ≡ 45) ↔ (is_text given ≡ false)
  pub short : (s.number ≡ 46) ↔ ((is_text given ≡ true) × (length out < length (spelt given)))
  pub enough : 2 * length given ≤ length out → s.number ≡ 46 → ⊥
  pub behind : drop s.written s.out ≡ drop s.written out
  pub unchanged : (s.number ≡ 0 → ⊥) → (s.out ≡ out) × (s.written ≡ 0)

-- What is promised of reading back: of every spelt text and every buffer.
pub record ReadPromised (values out : List ℕ) (s : SpellAnswer) : Type 0 where
  pub characters : s.number ≡ 0 → is_text (take s.written s.out) ≡ true
  -- "what is read back, spelt again, gives the same values"
  pub spelt_again : s.number ≡ 0 → spelt (take s.written s.out) ≡ values
  -- what a text is spelt as is read back as that text, and refused for a short buffer alone
  pub reads_back : (t : List ℕ) → is_text t ≡ true → spelt t ≡ values → (s.number ≡ 0 → take s.written s.out ≡ t) × (s.number ≡ 45 → ⊥)
  pub refused : (s.number ≡ 45) ↔ (read_back values ≡ no_text)
  pub short : (s.number ≡ 46) ↔ ((t : List ℕ) × ((read_back values ≡ text t) × (length out < length t)))
  pub enough : length values ≤ length out → s.number ≡ 46 → ⊥
  pub behind : drop s.written s.out ≡ drop s.written out
  pub unchanged : (s.number ≡ 0 → ⊥) → (s.out ≡ out) × (s.written ≡ 0)
