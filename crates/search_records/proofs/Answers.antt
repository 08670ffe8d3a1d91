-- The two answers of a clash, each under its test: the buffer too short, the records written.
-- Follows from the definitions.
use Prim.Native.Nat.{ℕ, ◌≤◌, ◌<◌}
use mathlib.Core.Path.{◌≡◌}
use mathlib.Core.List.{List}
use lib.ListN.{length}
use Rattle.paper.proofs.base.Tests.{le_leb, lt_leb}
use Rattle.search_records.specs.Records.{value_records, in_front, answer_given, buffer_after, Answered}
use Rattle.std.specs.Prelude.{Some, None}

module _ (sets : List ℕ) (text : ℕ → List ℕ) (buffer : List ℕ) where
  pub too_short : length buffer < length (value_records sets text) → Answered sets text buffer buffer None
  unfolding answer_given buffer_after
  too_short h =
      let t = lt_leb (length (value_records sets text)) (length buffer) h in
      record { given = rw t; buffer = rw t }

  pub written : (after : List ℕ) (n : ℕ) → length (value_records sets text) ≤ length buffer → n ≡ length (value_records sets text)
      → after ≡ in_front (value_records sets text) buffer → Answered sets text buffer after (Some n)
  unfolding answer_given buffer_after
  written after n h m p =
      let t = le_leb (length (value_records sets text)) (length buffer) h in
      record { given = rw (t, m); buffer = rw (t, p) }
