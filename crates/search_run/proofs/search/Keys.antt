-- The key that the code works out of a struct is that of the situation in it, and so is the bucket. Follows from the definitions.
use Prim.Native.Nat.{ℕ, ◌/◌, ◌%◌, ◌≤◌, ◌<◌}
use mathlib.Core.Path.{◌≡◌, ap, ◌∙◌}
use mathlib.Core.List.{List}
use lib.ListN.{length}
use Rattle.paper.specs.Numbers.{situation_bytes}
use Rattle.base_codes.specs.Coded.{Coded, as_struct, Short}
use Rattle.base_codes.specs.declared.Situation.{Situation}
use Rattle.search_buckets.specs.Buckets.{hash, bucket, buckets}
use Rattle.search_slots.specs.Slots.{key_bytes, struct_key, key}
use Rattle.search_slots.proofs.Situations.{short_key}

module _ (k : Coded) {s : Situation} (e : s ≡ as_struct k) {bytes : List ℕ} (p : bytes ≡ struct_key s) where
  pub key_put : bytes ≡ key k
  key_put = p ∙ ap struct_key e

  -- what `bucket_of` promises, of a key in a buffer that has a slot
  pub bucket_put : Short k → (work : List ℕ) {b : ℕ} → situation_bytes ≤ length work
      → (length bytes ≡ key_bytes → situation_bytes ≤ length work
      → (b < length work / situation_bytes) × (b ≡ hash bytes % (length work / situation_bytes)))
      → (b < buckets work) × (b ≡ bucket (buckets work) k)
  unfolding bucket
  bucket_put short work room h =
      let its = h (ap length key_put ∙ short_key short) room in
      (its.0, its.1 ∙ ap (λ (l : List ℕ). hash l % buckets work) key_put)
