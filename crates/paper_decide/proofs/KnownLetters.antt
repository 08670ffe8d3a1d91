-- Known weights of patterns, questions whose letters differ and such whose don't, and the texts that are tried. The checker computes them.
use Prim.Native.Nat.{ℕ}
use mathlib.Core.Path.{◌≡◌, refl}
use mathlib.Core.Bool.{Bool, true, false}
use mathlib.Core.List.{List, [], ◌∷◌, map}
use Rattle.paper.specs.Pattern.{char, range, Pattern, leaf, empty, then, either, many, Held, some_text, pattern}
use Rattle.paper.specs.Places.{first_set, set_after, may_end}
use Rattle.paper.specs.Alphabet.{code_39}
use Rattle.paper.specs.Equation.{chr, fld, Side}
use Rattle.paper.specs.Question.{Question}
use Rattle.paper_decide.specs.Letters.{divisor, Weights, pattern_weights, uneven, this_one, all_but, letters_differ}
use Rattle.paper_decide.specs.OneText.{least_text, lengths_below, one_from, text_held, with_texts}

abbrev weights : ℕ → ℕ → Bool → ℕ → Weights
weights least step endless most = record { least = least; step = step; endless = endless; most = most }

abbrev digit : Pattern
digit = leaf (range 0 9)

-- with 0, and of two numbers
known_divisors : divisor 12 0 ∷ divisor 0 12 ∷ divisor 12 18 ∷ divisor 7 5 ∷ [] ≡ 12 ∷ 12 ∷ 6 ∷ 1 ∷ []
unfolding divisor
known_divisors = refl

-- Of all but the space: a digit; a space; a digit and perhaps two more; pairs of digits; 36 to 40, the space among them; nothing; spaces.
known_weights :
    map (pattern_weights (all_but 38))
    (digit ∷ leaf (char 38) ∷ then digit (either empty (then digit digit)) ∷ many (then digit digit) ∷ leaf (range 36 40) ∷ empty ∷ many (leaf (char 38)) ∷ [])
    ≡ weights 1 0 false 1 ∷ weights 0 0 false 0 ∷ weights 1 2 false 3 ∷ weights 0 2 true 0 ∷ weights 0 1 false 1 ∷ weights 0 0 false 0 ∷ weights 0 0 false 0 ∷ []
unfolding divisor
known_weights = refl

-- Of 5 alone: a digit may be one; 5 and 7, either first.
known_of_five :
    map (pattern_weights (this_one 5)) (digit ∷ leaf (char 5) ∷ leaf (range 6 9) ∷ then (leaf (char 5)) (leaf (char 7)) ∷ either (leaf (char 7)) (leaf (char 5)) ∷ [])
    ≡ weights 0 1 false 1 ∷ weights 1 0 false 1 ∷ weights 0 0 false 0 ∷ weights 1 0 false 1 ∷ weights 0 1 false 1 ∷ []
unfolding divisor
known_of_five = refl

abbrev asks : Side → Side → List Held → Question
asks l r held = record { alphabet = code_39; left = l; right = r; held = held }

abbrev three_zeros : Held
three_zeros = pattern (then (leaf (char 0)) (then (leaf (char 0)) (leaf (char 0))))

abbrev any : Held
any = pattern (many (leaf (range 0 42)))

-- x and y may hold anything. xA and Byx: one B too many on the right. xxA and Bxx. xA and Ax: they clash. xA and yx, where y may be A. xx and A: an even
-- number. x and xx, x one digit or more. A space at the end counts nothing, nor does one in the middle. x open and nothing: the least of x is no character
-- but a space. A on the left only, where x on the right holds no A.
known_letters :
    map letters_differ
    (asks (fld 0 ∷ chr 10 ∷ []) (chr 11 ∷ fld 1 ∷ fld 0 ∷ []) (any ∷ any ∷ [])
    ∷ asks (fld 0 ∷ fld 0 ∷ chr 10 ∷ []) (chr 11 ∷ fld 0 ∷ fld 0 ∷ []) (any ∷ [])
    ∷ asks (fld 0 ∷ chr 10 ∷ []) (chr 10 ∷ fld 0 ∷ []) (any ∷ [])
    ∷ asks (fld 0 ∷ chr 10 ∷ []) (fld 1 ∷ fld 0 ∷ []) (any ∷ any ∷ [])
    ∷ asks (fld 0 ∷ fld 0 ∷ []) (chr 10 ∷ []) (some_text ∷ [])
    ∷ asks (fld 0 ∷ []) (fld 0 ∷ fld 0 ∷ []) (pattern (then digit (many digit)) ∷ [])
    ∷ asks (chr 10 ∷ chr 38 ∷ []) (chr 10 ∷ []) []
    ∷ asks (chr 10 ∷ chr 38 ∷ chr 10 ∷ []) (chr 10 ∷ chr 10 ∷ []) []
    ∷ asks (fld 0 ∷ []) [] (some_text ∷ [])
    ∷ asks (chr 10 ∷ []) (fld 0 ∷ []) (pattern digit ∷ [])
    ∷ [])
    ≡ true ∷ true ∷ false ∷ false ∷ true ∷ true ∷ false ∷ false ∷ false ∷ true ∷ []
unfolding divisor uneven letters_differ
known_letters = refl

-- The texts of two or three digits, of 3 and 5 alone: the least of two; the lengths. Of an open field the lengths below 4. The least length of 3 or more, of
-- 4 or more, of 0 or more, of 9 or more; what is given for none.
known_texts :
    least_text (pattern (then digit (then digit (either empty digit)))) (3 ∷ 5 ∷ []) 2 first_set
    ∷ lengths_below (pattern (then digit (then digit (either empty digit)))) (3 ∷ 5 ∷ []) 6
    ∷ lengths_below some_text (3 ∷ []) 4
    ∷ (one_from 25 (2 ∷ 4 ∷ 6 ∷ []) 3 ∷ one_from 25 (2 ∷ 4 ∷ 6 ∷ []) 4 ∷ one_from 25 (2 ∷ 4 ∷ 6 ∷ []) 0 ∷ one_from 25 (2 ∷ 4 ∷ 6 ∷ []) 9 ∷ one_from 25 [] 3 ∷ [])
    ∷ []
    ≡ (3 ∷ 3 ∷ []) ∷ (2 ∷ 3 ∷ []) ∷ (1 ∷ 2 ∷ 3 ∷ []) ∷ (4 ∷ 4 ∷ 2 ∷ 6 ∷ 25 ∷ []) ∷ []
unfolding set_after may_end
known_texts = refl

-- A field whose texts have none of these characters keeps its pattern; so does one whose texts are longer than 24.
known_held :
    map (text_held (5 ∷ []) 0) (pattern (then digit digit) ∷ pattern (leaf (char 7)) ∷ some_text ∷ [])
    ≡ pattern (then (leaf (char 5)) (leaf (char 5))) ∷ pattern (leaf (char 7)) ∷ pattern (leaf (char 5)) ∷ []
unfolding set_after may_end
known_held = refl

-- x stands twice and gets its shortest text, of the least characters; y once and keeps its pattern; z stands twice, and both lengths of it are there.
known_with_texts :
    map (λ (n : ℕ). with_texts n (asks (fld 0 ∷ fld 1 ∷ fld 2 ∷ []) (fld 2 ∷ fld 0 ∷ []) (some_text ∷ pattern digit ∷ pattern (many digit) ∷ []))) (0 ∷ 3 ∷ [])
    ≡ map
    (λ (x : Held × Held). asks (fld 0 ∷ fld 1 ∷ fld 2 ∷ []) (fld 2 ∷ fld 0 ∷ []) (x.0 ∷ pattern digit ∷ x.1 ∷ some_text ∷ some_text ∷ some_text ∷ some_text ∷ some_text ∷ []))
    ((pattern (leaf (char 0)), pattern empty) ∷ (three_zeros, three_zeros) ∷ [])
unfolding set_after may_end with_texts
known_with_texts = refl
