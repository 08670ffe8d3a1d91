-- Spellings known by hand, at the ends of the table's rows.
use mathlib.Core.Path.{◌≡◌, refl}
use mathlib.Core.List.{[], ◌∷◌}
use Rattle.paper_spell.specs.FullAscii.{table, spelt, no_text, read_back}

-- NUL `%U`, SOH `$A`, SUB `$Z`, ESC `%A`, US `%E`, space, `!` `/A`, `,` `/L`, `-`, `.`, `/` `/O`, `0`, `9`, `:` `/Z`, `;` `%F`, `?` `%J`, `@` `%V`, `A`,
-- `Z`, `[` `%K`, `_` `%O`, the accent `%W`, `a` `+A`, `z` `+Z`, `{` `%P`, `~` `%S`, DEL `%T`
known_ends :
    spelt (0 ∷ 1 ∷ 26 ∷ 27 ∷ 31 ∷ 32 ∷ 33 ∷ 44 ∷ 45 ∷ 46 ∷ 47 ∷ 48 ∷ 57 ∷ 58 ∷ 59 ∷ 63 ∷ 64 ∷ 65 ∷ 90 ∷ 91 ∷ 95 ∷ 96 ∷ 97 ∷ 122 ∷ 123 ∷ 126 ∷ 127 ∷ [])
    ≡ 42 ∷ 30 ∷ 39 ∷ 10 ∷ 39 ∷ 35 ∷ 42 ∷ 10 ∷ 42 ∷ 14 ∷ 38 ∷ 40 ∷ 10 ∷ 40 ∷ 21 ∷ 36 ∷ 37 ∷ 40 ∷ 24 ∷ 0 ∷ 9 ∷ 40 ∷ 35 ∷ 42 ∷ 15 ∷ 42 ∷ 19 ∷ 42 ∷ 31
    ∷ 10 ∷ 35 ∷ 42 ∷ 20 ∷ 42 ∷ 24 ∷ 42 ∷ 32 ∷ 41 ∷ 10 ∷ 41 ∷ 35 ∷ 42 ∷ 25 ∷ 42 ∷ 28 ∷ 42 ∷ 29 ∷ []
unfolding table
known_ends = refl

-- the shift signs themselves: `$` `/D`, `%` `/E`, `+` `/K`
known_shifts : spelt (36 ∷ 37 ∷ 43 ∷ []) ≡ 40 ∷ 13 ∷ 40 ∷ 14 ∷ 40 ∷ 20 ∷ []
unfolding table
known_shifts = refl

-- `%X`, which the standard has for DEL too, a lone shift sign, `/M`, and a value above 42
known_refused : (read_back (42 ∷ 33 ∷ []) ≡ no_text) × ((read_back (10 ∷ 41 ∷ []) ≡ no_text) × ((read_back (40 ∷ 22 ∷ []) ≡ no_text) × (read_back (43 ∷ []) ≡ no_text)))
unfolding table
known_refused = (refl, (refl, (refl, refl)))
