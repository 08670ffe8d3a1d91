-- The part that is lent to a call: what it begins with, and what it leaves there.
use Rattle.std.specs.Prelude.{ℕ, ◌+◌, ◌-◌, ◌^◌, ◌≤◌, ◌<◌, List, length, drop, Result, Ok, Err}
use Rattle.read_pattern.specs.declared.reader.ReadPart.{ReadPart}

-- the last of the bytes
abbrev pub last_bytes : ℕ → List ℕ → List ℕ
last_bytes left s = drop (length s - left) s

-- a call may begin so: so many bytes are there, and every leaf among them can have a place's number
pub record Begins (s : List ℕ) (r : ReadPart) : Type 0 where
  pub within : r.left ≤ length s
  pub room : r.next + r.left < 2 ^ 64

-- the reading that a call leaves there, or how many bytes are left from the one at fault on
abbrev pub read_as : Result Unit ℕ → ReadPart → Result ReadPart ℕ
read_as (Ok x) r = Ok r
read_as (Err left) r = Err left
