-- What reading a spelt text back puts into a lent buffer, value by value.
use Rattle.std.specs.Prelude.{ℕ, ◌≡◌, List, [], ◌∷◌, ◌++◌, Option, Some, None}
use Rattle.paper_spell.specs.FullAscii.{ReadBack, no_text, text, no_shift, character, in_front, read_from}
use Rattle.base_put.specs.Counted.{Counted}
use Rattle.spell_back.specs.declared.Step.{Step}

-- characters in front of what is read behind them
abbrev pub onto : List ℕ → ReadBack → ReadBack
onto l no_text = no_text
onto l (text t) = text (l ++ t)

-- what is read behind a shift sign that waits for its value, or behind none
abbrev pub read_behind : Option ℕ → List ℕ → ReadBack
read_behind None values = read_from no_shift values
read_behind (Some s) [] = no_text
read_behind (Some s) (v ∷ rest) = in_front (character s v) (read_from no_shift rest)

-- The value v was read behind a step: characters were put, and the rest is read behind another; or the table doesn't give it.
pub data Steps (d e : List ℕ) (before : Step) (v : ℕ) : Option Step → Type 0 where
  goes_on : (r : Step) (put : List ℕ) → Counted d e before.end r.end put
      → ((rest : List ℕ) → read_behind before.shift (v ∷ rest) ≡ onto put (read_behind r.shift rest)) → Steps d e before v (Some r)
  stops : ((rest : List ℕ) → read_behind before.shift (v ∷ rest) ≡ no_text) → Steps d e before v None

-- The whole text was put, or the table doesn't give it.
pub data Puts (d e : List ℕ) : Option ℕ → ReadBack → Type 0 where
  refused : Puts d e None no_text
  put : (t : List ℕ) (n : ℕ) → Counted d e 0 n t → Puts d e (Some n) (text t)
