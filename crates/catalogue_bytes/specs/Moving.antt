-- Bytes put into a catalogue and taken out of it, for all offsets and lengths.
use Rattle.std.specs.Prelude.{ℕ, ◌+◌, cond, List, ltb, length}
use Rattle.paper_catalogue.specs.Catalogue.{with_record, without_record}

-- the bytes put from the offset on, if they fit
unfoldable pub put_at : ℕ → List ℕ → List ℕ → List ℕ
put_at at bytes catalogue = cond (ltb (length catalogue) (at + length bytes)) catalogue (with_record at bytes catalogue)

-- n bytes taken away from the offset on, if they are there
unfoldable pub closed_at : ℕ → ℕ → List ℕ → List ℕ
closed_at at n catalogue = cond (ltb (length catalogue) (at + n)) catalogue (without_record at n catalogue)
