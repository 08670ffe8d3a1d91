-- The codes of the bytes of a pattern or of a side (request K10), laid in a room.
use Rattle.std.specs.Prelude.{ℕ, ◌-◌, List, ◌++◌, length, take, replicate}
use Rattle.paper.specs.Numbers.{not_a_code}
use Rattle.paper.specs.Alphabet.{Edition, codes}

-- the codes of the bytes, and 255s behind them, n in all; of more bytes than n those of the first n
unfoldable pub laid_codes : ℕ → Edition → List ℕ → List ℕ
laid_codes n e bytes = take n (codes e bytes) ++ replicate (n - length bytes) not_a_code
