-- Laws of the hash: one word more, none left. Follows from the definition.
use Prim.Native.Nat.{ℕ, zero, suc, ◌+◌, ◌-◌, ◌*◌, ◌/◌, ◌≤◌, ◌<◌}
use native.Mathlib.Omega.{arith}
use native.Mathlib.Nat.{mul-zero, mul-suc}
use mathlib.Core.Path.{◌≡◌, refl, sym, ap, ap₂, ◌∙◌}
use mathlib.Core.List.{List}
use lib.ListN.{length, get_or, take, drop, length-take}
use mir.Syntax.{w64}
use Rattle.std.specs.Int.{from_le_bytes}
use Rattle.std.specs.Simd.{first_chunks}
use Rattle.search_slots.specs.Slots.{key_bytes}
use Rattle.search_slots.proofs.numbers.Bytes.{eight_bytes}
use lib.Seq.{drop-drop}
use Rattle.search_slots.specs.LowFirst.{low_first_number, widest}
use Rattle.search_buckets.specs.Buckets.{word_width, half, key_words, mixed, hash_words, hash}

-- the chunk with the number i
chunk_at : (n k i : ℕ) (l d : List ℕ) → i < k → get_or (first_chunks n k l) i d ≡ take n (drop (n * i) l)
chunk_at n zero i l d h = absurd (omega arith)
chunk_at n (suc k) zero l d h = rw mul-zero
chunk_at n (suc k) (suc i) l d h =
    let e : n * suc i ≡ n + n * i = rw mul-suc (omega arith) in
    rw (e, ← drop-drop (n * i) n l) (chunk_at n k i (drop n l) d (omega arith))

-- a word of the key
pub word_at : (k : List ℕ) (words : List (List ℕ)) (w i : ℕ) (d : List ℕ) → length k ≡ key_bytes → i < length words
    → words ≡ first_chunks word_width (length k / word_width) k → length words ≡ length k / word_width → w ≡ from_le_bytes w64 (get_or words i d)
    → w ≡ low_first_number (take word_width (drop (word_width * i) k))
word_at k words w i d n h e m f =
    let g : get_or words i d ≡ take word_width (drop (word_width * i) k) = rw e (chunk_at word_width (length k / word_width) i k d (omega arith)) in
    let b : length (get_or words i d) ≤ widest = rw (g, length-take) (omega arith) in
    f ∙ eight_bytes (get_or words i d) b ∙ ap low_first_number g

-- what is left from word i on
unfoldable pub hash_left : ℕ → ℕ → List ℕ → ℕ
hash_left i h k = hash_words (key_words - i) h (drop (word_width * i) k)

pub word_next : (k : List ℕ) (i h w g : ℕ) → i < key_words → w ≡ low_first_number (take word_width (drop (word_width * i) k))
    → g ≡ mixed h w → hash_left i h k ≡ hash_left (i + 1) g k
unfolding hash_left
word_next k i h w g b e f =
    let m : key_words - i ≡ suc (key_words - (i + 1)) = omega arith in
    let d : word_width * i + word_width ≡ word_width * (i + 1) = omega arith in
    let word : mixed h (low_first_number (take word_width (drop (word_width * i) k))) ≡ g =
    sym (f ∙ ap (mixed h) e) in
    let rest : drop word_width (drop (word_width * i) k) ≡ drop (word_width * (i + 1)) k =
    drop-drop word_width (word_width * i) k ∙ ap (λ (z : ℕ). drop z k) d in
    ap (λ (n : ℕ). hash_words n h (drop (word_width * i) k)) m ∙ ap₂ (hash_words (key_words - (i + 1))) word rest

-- none is left
left_none : (k : List ℕ) (i h : ℕ) → i ≡ key_words → hash_left i h k ≡ h
unfolding hash_left
left_none k i h e =
    let n : key_words - i ≡ 0 = omega arith in
    ap (λ (m : ℕ). hash_words m h (drop (word_width * i) k)) n

-- from the first on
hash_of : (k : List ℕ) → hash k ≡ mixed (hash_left 0 0 k) (hash_left 0 0 k / half)
unfolding hash hash_left
hash_of k = refl

pub words_done : (k : List ℕ) (i h r : ℕ) → i ≡ key_words → hash_left 0 0 k ≡ hash_left i h k → r ≡ mixed h (h / half) → r ≡ hash k
words_done k i h r e f g =
    g ∙ ap (λ (x : ℕ). mixed x (x / half)) (sym (f ∙ left_none k i h e)) ∙ sym (hash_of k)
