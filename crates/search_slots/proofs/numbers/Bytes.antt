-- Laws of numbers in bytes, low first: that the bytes tell the number, one byte more written from the front, eight read at once.
-- Follows from the definitions by induction on the width.
use Prim.Native.Nat.{ℕ, zero, suc, ◌+◌, ◌-◌, ◌*◌, ◌/◌, ◌%◌, ◌^◌, ◌≤◌, ◌<◌, min}
use native.Mathlib.Omega.{arith, pow_step}
use native.Mathlib.Numerals.{add-one}
use mathlib.Core.Path.{◌≡◌, refl, sym, ap, ◌∙◌}
use mathlib.Core.List.{List, [], ◌∷◌, ◌++◌, append_assoc, append-nil}
use lib.ListN.{length, get_or, take, drop, set, replicate, length-take, length-append, length-replicate, drop_of_length-le}
use lib.Seq.{take_all, take-suc-set}
use lib.Dec.{ltb}
use mir.Syntax.{w64}
use Rattle.std.proofs.lemmas.List.{drop-replicate}
use Rattle.std.specs.Int.{from_le_bytes}
use Rattle.paper.proofs.base.Tests.{by_bool, ltb_true, ltb_false}
use Rattle.paper.proofs.base.Lists.{cons_eq}
use Rattle.search_slots.specs.LowFirst.{low_first, low_first_number, low_bytes, widest}

-- the number is back
pub number_back : (k n : ℕ) → low_first_number (low_first k n) ≡ n
number_back zero n = omega arith
number_back (suc k) n = rw (number_back k (n / 256)) (omega arith)

-- two numbers with the same bytes, whatever stands behind them
pub same_number : (k m n : ℕ) (x y : List ℕ) → low_first k m ++ x ≡ low_first k n ++ y → (m ≡ n) × (x ≡ y)
same_number zero m n x y e = (cc, cc)
same_number (suc k) m n x y e =
    let low : m % 256 ≡ n % 256 = cc in
    let rest = same_number k (m / 256) (n / 256) x y (cc) in (omega (arith, rest.0), rest.1)

-- the first bytes of a number are all, if no more than those are needed
pub low_bytes_all : (k n : ℕ) → n < 256 ^ suc k → low_bytes (suc k) n ≡ low_first k n
low_bytes_all zero n h = cons_eq (omega arith) refl
low_bytes_all (suc k) n h =
    let g : n < 256 * 256 ^ suc k = rw (pow_step 256 (suc k)) at h in
    cons_eq refl (low_bytes_all k (n / 256) (omega arith))

-- one byte more is written
pub one_more_byte : (n i rest : ℕ) (l whole : List ℕ) → i < n → length l ≡ n → whole ≡ take i l ++ low_bytes (n - i) rest
    → whole ≡ take (i + 1) (set l i (rest % 256)) ++ low_bytes (n - (i + 1)) (rest / 256)
one_more_byte n i rest l whole h e w =
    let m : n - i ≡ suc (n - (i + 1)) = omega arith in
    let k : i < length l = omega arith in
    w ∙ rw (m, add-one i, take-suc-set l i (rest % 256) k, append_assoc)

-- the last one was
pub all_bytes : (n number rest : ℕ) (l : List ℕ) → length l ≡ n
    → low_bytes n number ≡ take n l ++ low_bytes (n - n) rest → l ≡ low_bytes n number
all_bytes n number rest l e w =
    let z : n - n ≡ 0 = omega arith in
    sym (w ∙ rw (z, take_all n l (omega arith)) (append-nil l))

-- zeros behind the bytes tell nothing more
zeros_behind : (l : List ℕ) (k : ℕ) → low_first_number (l ++ replicate k 0) ≡ low_first_number l
zeros_behind [] zero = refl
zeros_behind [] (suc k) = rw (zeros_behind [] k)
zeros_behind (b ∷ l) k = rw (zeros_behind l k)

-- the byte with the number i stands in front of those behind it
byte_in_front : (l : List ℕ) (i : ℕ) → low_first_number (drop i l) ≡ get_or l i 0 + 256 * low_first_number (drop (suc i) l)
byte_in_front [] zero = refl
byte_in_front [] (suc i) = refl
byte_in_front (b ∷ l) zero = refl
byte_in_front (b ∷ l) (suc i) = byte_in_front l i

-- the number of eight bytes, as the library has it
pub eight_bytes : (l : List ℕ) → length l ≤ widest → from_le_bytes w64 l ≡ low_first_number l
eight_bytes l h =
    let none : low_first_number (drop 8 l) ≡ 0 = rw (drop_of_length-le l {i = 8} h) in
    omega (arith, byte_in_front l 0, byte_in_front l 1, byte_in_front l 2, byte_in_front l 3, byte_in_front l 4, byte_in_front l 5, byte_in_front l 6, byte_in_front l 7)

-- as many bytes as there are, and eight at most
first_eight : (n : ℕ) (l : List ℕ) → n ≡ min (length l) widest → take n l ≡ take widest l
first_eight n l e =
    by_bool (ltb n widest)
    (λ t.
    let h : length l ≤ n = omega (arith, ltb_true n widest t) in
    take_all n l h ∙ sym (take_all widest l (omega arith)))
    (λ t.
    let g : n ≡ widest = omega (arith, ltb_false n widest t) in
    rw g)

-- they are read in front of zeros
pub bytes_read : (n : ℕ) (from m : List ℕ) → n ≡ min (length from) widest → m ≡ take (n - 0) from
    → from_le_bytes w64 (m ++ drop (n - 0) (replicate widest 0)) ≡ low_first_number (take widest from)
bytes_read n from m e f =
    let z : n - 0 ≡ n = omega arith in
    let g : m ≡ take widest from = rw z at f ∙ first_eight n from e in
    let k : length m ≤ n = rw (f, z, length-take) (omega arith) in
    let l : length (m ++ drop (n - 0) (replicate widest 0)) ≤ widest = rw (z, drop-replicate, length-append, length-replicate) (omega arith) in
    eight_bytes _ l ∙ rw (z, drop-replicate, zeros_behind, g)

-- eight bytes at most are read whole
pub read_whole : (n : ℕ) (l : List ℕ) → n ≤ widest → low_first_number (take widest (take n l)) ≡ low_first_number (take n l)
read_whole n l h = ap low_first_number (take_all widest (take n l) (rw length-take (omega arith)))
