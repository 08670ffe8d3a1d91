-- Slots looked up by buckets: the links, and the working buffer with its slots and its links.
use Rattle.std.specs.Prelude.{ℕ, zero, suc, ◌+◌, ◌*◌, ◌/◌, ◌%◌, ◌≤◌, ◌<◌, ◌≡◌, Bool, true, false, cond, Option, Some, None, List, eqb, length, get_or, take, drop}
use Rattle.std.specs.Int.Bits.{bit_xor}
use Rattle.paper.specs.Lists.{any}
use Rattle.paper.specs.Numbers.{situation_bytes}
use Rattle.base_codes.specs.Coded.{Coded, same_coded, Short}
use Rattle.search_slots.specs.LowFirst.{low_first_number}
use Rattle.search_slots.specs.Slots.{number_width, held_bytes, key_bytes, key, Slot, slot_at, part, SlotsHeld}

-- There are as many buckets as the buffer has slots. A key's bucket is its hash modulo their number. The hash is over all bytes of the
-- key, in words of eight: each is put to it by exclusive or, and each half of what that gives is multiplied by a factor of its own.
abbrev pub word_width : ℕ
word_width = 8

abbrev pub half : ℕ
half = 4294967296

abbrev pub low_factor : ℕ
low_factor = 1640531551

abbrev pub high_factor : ℕ
high_factor = 1824926689

abbrev pub spread : ℕ → ℕ
spread x = (x % half) * low_factor + (x / half) * high_factor

abbrev pub mixed : ℕ → ℕ → ℕ
mixed h w = spread (bit_xor h w)

-- the hash gone on with by so many words
abbrev pub hash_words : ℕ → ℕ → List ℕ → ℕ
hash_words zero h bytes = h
hash_words (suc n) h bytes = hash_words n (mixed h (low_first_number (take word_width bytes))) (drop word_width bytes)

abbrev pub key_words : ℕ
key_words = key_bytes / word_width

unfoldable pub hash : List ℕ → ℕ
hash k = let h = hash_words key_words 0 k in mixed h (h / half)

unfoldable pub bucket : ℕ → Coded → ℕ
bucket n k = hash (key k) % n

abbrev pub buckets : List ℕ → ℕ
buckets work = length work / situation_bytes

-- A link is the number of a slot and one, in two bytes. Behind what slot i holds stand the link to the next older slot of
-- its bucket, and the link to the newest slot of bucket i.
abbrev pub older_at : ℕ
older_at = held_bytes

abbrev pub newest_at : ℕ
newest_at = older_at + number_width

abbrev pub link : List ℕ → ℕ → ℕ
link work a = low_first_number (part a number_width work)

-- the greatest number below n that passes the test, and one; 0 where none does
abbrev pub newest : (ℕ → Bool) → ℕ → ℕ
newest p zero = 0
newest p (suc n) = cond (p n) (suc n) (newest p n)

-- is slot j in bucket b, of n?
abbrev pub in_bucket : ℕ → List Slot → ℕ → ℕ → Bool
in_bucket n ss b j = eqb (bucket n (slot_at ss j).at) b

-- a link leads to the newest slot below n that passes the test; where none does it may be anything
abbrev pub Leads : ℕ → (ℕ → Bool) → ℕ → Type 0
Leads l p n = 0 < newest p n → l ≡ newest p n

-- the links lead to the slots of each bucket from the newest to the oldest
pub record Linked (work : List ℕ) (ss : List Slot) : Type 0 where
  pub older : (i : ℕ) → i < length ss
      → Leads (link work (situation_bytes * i + older_at)) (in_bucket (buckets work) ss (bucket (buckets work) (slot_at ss i).at)) i
  pub newest_of : (b : ℕ) → situation_bytes * (b + 1) ≤ length work
      → Leads (link work (situation_bytes * b + newest_at)) (in_bucket (buckets work) ss b) (length ss)

-- the buffer has these slots and their links
pub record Kept (work : List ℕ) (ss : List Slot) : Type 0 where
  pub holds : SlotsHeld work ss
  pub linked : Linked work ss

-- "one already entered": the number of a slot that holds this situation, or that none holds it
abbrev pub EnteredAt : List Slot → Coded → Option ℕ → Type 0
EnteredAt ss k (Some i) = (i < length ss) × (same_coded (slot_at ss i).at k ≡ true)
EnteredAt ss k None = any (λ (x : Slot). same_coded x.at k) ss ≡ false

-- the link at the place `from` is copied to the place `to` and becomes one to slot n; nothing else changes
pub record LinksPut (before : List ℕ) (to from n : ℕ) (after : List ℕ) : Type 0 where
  pub same_length : length after ≡ length before
  pub copied : link after to ≡ link before from
  pub put : link after from ≡ n + 1
  pub kept : (j : ℕ) → (j ≡ to → ⊥) → (j ≡ to + 1 → ⊥) → (j ≡ from → ⊥) → (j ≡ from + 1 → ⊥) → get_or after j 0 ≡ get_or before j 0

-- a situation is looked up: its key is k's, the buffer keeps n slots, and the link is that to the newest of its bucket
pub record Sought (work bytes : List ℕ) (n newest-link : ℕ) (k : Coded) (ss : List Slot) : Type 0 where
  pub is_key : bytes ≡ key k
  pub short : Short k
  pub kept : Kept work ss
  pub many : length ss ≡ n
  pub begins : Leads newest-link (in_bucket (buckets work) ss (bucket (buckets work) k)) n
