-- Where bytes are put or taken away, and where not. Follows from the test that each definition makes.
use Prim.Native.Nat.{ℕ, ◌+◌, ◌≤◌, ◌<◌}
use mathlib.Core.Path.{◌≡◌}
use mathlib.Core.List.{List}
use lib.ListN.{length}
use Rattle.paper_catalogue.specs.Catalogue.{with_record, without_record}
use Rattle.paper.proofs.base.Tests.{lt_ltb, le_ltb}
use Rattle.catalogue_bytes.specs.Moving.{put_at, closed_at}

module _ (at : ℕ) (bytes catalogue : List ℕ) where
  pub not_put : length catalogue < at + length bytes → catalogue ≡ put_at at bytes catalogue
  unfolding put_at
  not_put h = rw (lt_ltb (length catalogue) (at + length bytes) h)

  pub is_put : at + length bytes ≤ length catalogue → put_at at bytes catalogue ≡ with_record at bytes catalogue
  unfolding put_at
  is_put h = rw (le_ltb (length catalogue) (at + length bytes) h)

module _ (at n : ℕ) (catalogue : List ℕ) where
  pub not_closed : length catalogue < at + n → catalogue ≡ closed_at at n catalogue
  unfolding closed_at
  not_closed h = rw (lt_ltb (length catalogue) (at + n) h)

  pub is_closed : at + n ≤ length catalogue → closed_at at n catalogue ≡ without_record at n catalogue
  unfolding closed_at
  is_closed h = rw (le_ltb (length catalogue) (at + n) h)
