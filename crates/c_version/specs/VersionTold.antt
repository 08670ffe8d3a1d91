-- The version of the library in its three numbers, and the one number that tells them: 1.2.3 would be 10203. The C header, the packages and the
-- tool name the same version; `tools/version` writes it.
use Rattle.std.specs.Prelude.{ℕ, ◌+◌, ◌*◌}

abbrev pub first : ℕ
first = 0

abbrev pub second : ℕ
second = 8

abbrev pub third : ℕ
third = 0

abbrev pub in_one_number : ℕ → ℕ → ℕ → ℕ
in_one_number a b c = 10000 * a + 100 * b + c

abbrev pub version_told : ℕ
version_told = in_one_number first second third
