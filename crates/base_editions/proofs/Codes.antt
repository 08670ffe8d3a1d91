-- The code of a byte, by where the byte stands: before the bytes that stand for codes, among them, behind them. Follows from the definition's tests.
use Prim.Native.Nat.{ℕ, ◌+◌, ◌-◌, ◌≤◌, ◌<◌}
use native.Mathlib.Omega.{arith}
use mathlib.Core.Path.{◌≡◌}
use lib.Dec.{leb, ltb}
use Rattle.paper.specs.Numbers.{fields, field_token, not_a_code}
use Rattle.paper.specs.Alphabet.{Edition, alphabet_of, codes_from, code}
use Rattle.paper.proofs.base.Tests.{le_leb, lt_leb, le_ltb, lt_ltb}

module _ (e : Edition) (b : ℕ) (h : (alphabet_of e).characters ≤ b) where
  pub before_codes : b < codes_from e → code e b ≡ not_a_code
  unfolding code
  before_codes k = rw (le_ltb b (alphabet_of e).characters h, lt_leb (codes_from e) b k)

  pub among_codes : codes_from e ≤ b → b - codes_from e < fields → code e b ≡ field_token + (b - codes_from e)
  unfolding code
  among_codes k l =
      rw (le_ltb b (alphabet_of e).characters h, le_leb (codes_from e) b k, lt_ltb b (codes_from e + fields) (omega arith))

  pub behind_codes : codes_from e ≤ b → fields ≤ b - codes_from e → code e b ≡ not_a_code
  unfolding code
  behind_codes k l =
      rw (le_ltb b (alphabet_of e).characters h, le_leb (codes_from e) b k, le_ltb b (codes_from e + fields) (omega arith))
