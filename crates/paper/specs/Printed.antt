-- How characters and numbers are printed (document 01, "The program"), as bytes. What the programs print is `paper_print`.
use Rattle.std.specs.Prelude.{ℕ, zero, suc, ◌+◌, ◌/◌, ◌%◌, cond, List, [], ◌∷◌, ◌++◌, ltb, get_or}

-- the 43 characters by value: 0 to 9, A to Z, `-`, `.`, space, `$`, `/`, `+`, `%`
abbrev pub signs : List ℕ
signs =
    48 ∷ 49 ∷ 50 ∷ 51 ∷ 52 ∷ 53 ∷ 54 ∷ 55 ∷ 56 ∷ 57 ∷ 65 ∷ 66 ∷ 67 ∷ 68 ∷ 69 ∷ 70 ∷ 71 ∷ 72 ∷ 73 ∷ 74 ∷ 75 ∷ 76 ∷ 77 ∷ 78 ∷ 79 ∷ 80 ∷ 81 ∷ 82
    ∷ 83 ∷ 84 ∷ 85 ∷ 86 ∷ 87 ∷ 88 ∷ 89 ∷ 90 ∷ 45 ∷ 46 ∷ 32 ∷ 36 ∷ 47 ∷ 43 ∷ 37 ∷ []

abbrev pub sign : ℕ → ℕ
sign c = get_or signs c 0

-- a number in decimal, with at most so many digits
abbrev pub digits : ℕ → ℕ → List ℕ
digits zero n = []
digits (suc k) n = let front = digits k (n / 10) in cond (ltb n 10) [] front ++ ((48 + n % 10) ∷ [])

abbrev pub decimal : ℕ → List ℕ
decimal n = digits 20 n

abbrev pub blank_sign : ℕ
blank_sign = 32

abbrev pub newline : ℕ
newline = 10
