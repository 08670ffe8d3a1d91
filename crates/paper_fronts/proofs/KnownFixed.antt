-- What is told of sides known by hand: the rows of docs/RULES.md, section 21, and two more.
use Prim.Native.Nat.{ℕ}
use mathlib.Core.Path.{◌≡◌, refl}
use mathlib.Core.List.{List, [], ◌∷◌, map}
use Rattle.paper.specs.Alphabet.{code}
use Rattle.paper_fronts.specs.FixedFronts.{bytes_differ, fronts_told}

pub record Row : Type 0 where
  pub edition : ℕ
  pub left : List ℕ
  pub right : List ℕ

abbrev row : ℕ → List ℕ → List ℕ → Row
row n l r = record { edition = n; left = l; right = r }

-- `LT4` and `LT5`; `LTx` and `LUx`; `xA` and `yB`; `AyB` and `AxC`; a space against a letter, `A x` and `ABx`; behind `ED` `ax` and `bx`, where 64 to
-- 71 are characters, and a space at the end against its value in Code 39: `x` 38 and `y` 39
known_apart :
    map (λ (r : Row). fronts_told r.edition r.left r.right)
    (row 0 (21 ∷ 29 ∷ 4 ∷ []) (21 ∷ 29 ∷ 5 ∷ [])
    ∷ row 0 (21 ∷ 29 ∷ 64 ∷ []) (21 ∷ 30 ∷ 64 ∷ [])
    ∷ row 0 (64 ∷ 10 ∷ []) (65 ∷ 11 ∷ [])
    ∷ row 0 (10 ∷ 65 ∷ 11 ∷ []) (10 ∷ 64 ∷ 12 ∷ [])
    ∷ row 0 (10 ∷ 38 ∷ 64 ∷ []) (10 ∷ 11 ∷ 64 ∷ [])
    ∷ row 2 (97 ∷ 192 ∷ []) (98 ∷ 192 ∷ [])
    ∷ row 2 (64 ∷ 199 ∷ []) (71 ∷ 199 ∷ [])
    ∷ row 2 (192 ∷ 38 ∷ []) (193 ∷ 39 ∷ [])
    ∷ [])
    ≡ 1 ∷ 1 ∷ 1 ∷ 1 ∷ 1 ∷ 1 ∷ 1 ∷ 1 ∷ []
unfolding code bytes_differ fronts_told
known_apart = refl

-- Nothing is said: both sides empty; the same; `LT4` and `LT4` with a space; `x` and `A`; `LTx` and `LyA`; `xA` and `yB` with a space; `xB` with a space
-- and `yA`; `xAB` and `yB`; `Lt` and `LTAx`; bytes that are no tokens, in front and behind; behind `ED` a space at an end; 200 behind `ED`; other editions
known_nothing :
    map (λ (r : Row). fronts_told r.edition r.left r.right)
    (row 0 [] []
    ∷ row 0 (21 ∷ 64 ∷ 4 ∷ []) (21 ∷ 64 ∷ 4 ∷ [])
    ∷ row 0 (21 ∷ 29 ∷ 4 ∷ []) (21 ∷ 29 ∷ 4 ∷ 38 ∷ [])
    ∷ row 0 (64 ∷ []) (10 ∷ [])
    ∷ row 0 (21 ∷ 29 ∷ 64 ∷ []) (21 ∷ 65 ∷ 10 ∷ [])
    ∷ row 0 (64 ∷ 10 ∷ []) (65 ∷ 11 ∷ 38 ∷ [])
    ∷ row 0 (64 ∷ 11 ∷ 38 ∷ []) (65 ∷ 10 ∷ [])
    ∷ row 0 (64 ∷ 10 ∷ 11 ∷ []) (65 ∷ 11 ∷ [])
    ∷ row 0 (21 ∷ 29 ∷ []) (21 ∷ 29 ∷ 10 ∷ 64 ∷ [])
    ∷ row 0 (43 ∷ []) (10 ∷ [])
    ∷ row 0 (10 ∷ 72 ∷ []) (11 ∷ [])
    ∷ row 0 (10 ∷ []) (11 ∷ 63 ∷ [])
    ∷ row 2 (192 ∷ 32 ∷ []) (193 ∷ 33 ∷ [])
    ∷ row 2 (97 ∷ 200 ∷ []) (98 ∷ [])
    ∷ row 1 (10 ∷ []) (11 ∷ [])
    ∷ row 3 (10 ∷ []) (11 ∷ [])
    ∷ [])
    ≡ 0 ∷ 0 ∷ 0 ∷ 0 ∷ 0 ∷ 0 ∷ 0 ∷ 0 ∷ 0 ∷ 0 ∷ 0 ∷ 0 ∷ 0 ∷ 0 ∷ 0 ∷ 0 ∷ []
unfolding code bytes_differ fronts_told
known_nothing = refl
