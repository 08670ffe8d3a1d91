-- Numbers in bytes, low first, of any width: masks, parents and links.
use Rattle.std.specs.Prelude.{ℕ, zero, suc, ◌+◌, ◌*◌, ◌/◌, ◌%◌, List, [], ◌∷◌}

-- a number in one byte more than so many, low first; the last byte has what is left
abbrev pub low_first : ℕ → ℕ → List ℕ
low_first zero n = n ∷ []
low_first (suc k) n = n % 256 ∷ low_first k (n / 256)

-- the number of some bytes, low first
abbrev pub low_first_number : List ℕ → ℕ
low_first_number [] = 0
low_first_number (b ∷ bytes) = b + 256 * low_first_number bytes

-- the first k bytes of a number
abbrev pub low_bytes : ℕ → ℕ → List ℕ
low_bytes zero n = []
low_bytes (suc k) n = n % 256 ∷ low_bytes k (n / 256)

-- so many bytes at most are read
abbrev pub widest : ℕ
widest = 8
