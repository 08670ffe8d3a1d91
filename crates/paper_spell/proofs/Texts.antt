-- What the table's rule says of texts.
--   read_spelt_text : reading back what was spelt gives the text
--   spelt_unlike    : no two different texts are spelt alike
--   spelt_again     : what is read back, spelt again, gives the same values
--   spelt_values    : a text is spelt in values of Code 39
--   spelt_length, text_length : how many bytes are enough
-- Follows from `Table`, character by character.
use Prim.Native.Nat.{ℕ, ◌+◌, ◌*◌, ◌≤◌, ◌<◌}
use native.Mathlib.Omega.{arith}
use mathlib.Core.Path.{◌≡◌, refl, sym, ap, ◌∙◌}
use mathlib.Core.Bool.{true, false, cond, ◌&&◌}
use mathlib.Core.List.{List, [], ◌∷◌, ◌++◌}
use lib.Dec.{leb, ltb, eqb}
use lib.ListN.{length, length-append}
use Rattle.paper.specs.Numbers.{characters}
use Rattle.paper.proofs.base.Tests.{by_bool, cond_by, and_left, and_right, both_true, left_false, eqb_true, neq_eqb, ltb_true, lt_ltb}
use Rattle.paper_spell.specs.FullAscii.{ascii, no_shift, shift_of, value_of, spelt_by, spelt, is_text, are_values, is_shift, character, ReadBack, no_text, text, in_front, read_from, read_back}
use Rattle.paper_spell.proofs.Table.{own_place, small_value, alone, shifted, entry_there}

-- a shift sign is a value
shift_small : (s : ℕ) → is_shift s ≡ true → s < characters
shift_small s e = ltb_true s characters (and_right (leb 39 s) (ltb s characters) e)

-- A spelt character is read back in front of what is read behind it.
read_alone : (s v c : ℕ) (rest : List ℕ) → eqb s no_shift ≡ true → is_shift v ≡ false → character s v ≡ c
    → read_back (spelt_by s v ++ rest) ≡ in_front c (read_back rest)
read_alone s v c rest e f g = rw (e, f, ← eqb_true s no_shift e, g)

read_shifted : (s v c : ℕ) (rest : List ℕ) → eqb s no_shift ≡ false → is_shift s ≡ true → character s v ≡ c
    → read_back (spelt_by s v ++ rest) ≡ in_front c (read_back rest)
read_shifted s v c rest e f g = rw (e, f, left_false (eqb s no_shift) (is_shift v) e, g)

read_character : (c : ℕ) (rest : List ℕ) → c < ascii → read_back (spelt_by (shift_of c) (value_of c) ++ rest) ≡ in_front c (read_back rest)
read_character c rest h =
    by_bool (eqb (shift_of c) no_shift)
    (λ e. read_alone (shift_of c) (value_of c) c rest e (alone c h e) (own_place c h))
    (λ e. read_shifted (shift_of c) (value_of c) c rest e (shifted c h e) (own_place c h))

pub read_spelt_text : (t : List ℕ) → is_text t ≡ true → read_back (spelt t) ≡ text t
read_spelt_text [] e = refl
read_spelt_text (c ∷ t) e =
    let here = and_left (ltb c ascii) (is_text t) e in
    read_character c (spelt t) (ltb_true c ascii here) ∙ rw (read_spelt_text t (and_right (ltb c ascii) (is_text t) e), here)

pub spelt_unlike : (t u : List ℕ) → is_text t ≡ true → is_text u ≡ true → spelt t ≡ spelt u → t ≡ u
spelt_unlike t u e f same =
    let alike : text t ≡ text u = sym (read_spelt_text t e) ∙ ap read_back same ∙ read_spelt_text u f in cc

-- the shift sign that waits for its value
abbrev waiting : ℕ → List ℕ
waiting s = cond (eqb s no_shift) [] (s ∷ [])

-- a text that is read back is one, and is spelt as these values
abbrev Spells : List ℕ → ReadBack → Type 0
Spells values no_text = Unit {0}
Spells values (text t) = (is_text t ≡ true) × (spelt t ≡ values)

spelt_waiting : (s v : ℕ) (rest : List ℕ) → spelt_by s v ++ rest ≡ waiting s ++ (v ∷ rest)
spelt_waiting s v rest = by_bool (eqb s no_shift) (λ e. rw e) (λ e. rw e)

front_spells : (s v : ℕ) (rest : List ℕ) (r : ReadBack) → Spells rest r → Spells (waiting s ++ (v ∷ rest)) (in_front (character s v) r)
front_spells s v rest no_text p = tt
front_spells s v rest (text t) p =
    let c = character s v in
    cond_by (Spells (waiting s ++ (v ∷ rest))) (ltb c ascii)
    (λ e. let (s-there, v-there) = entry_there s v (ltb_true c ascii e) in
    (both_true e p.0, rw (s-there, v-there, p.1) (spelt_waiting s v rest)))
    (λ _. tt)

reads_spelt : (s : ℕ) (values : List ℕ) → Spells (waiting s ++ values) (read_from s values)
reads_spelt s [] = cond_by (Spells (waiting s ++ [])) (eqb s no_shift) (λ e. (refl, rw e)) (λ _. tt)
reads_spelt s (v ∷ rest) =
    cond_by (Spells (waiting s ++ (v ∷ rest))) (eqb s no_shift && is_shift v)
    (λ e. let small = shift_small v (and_right (eqb s no_shift) (is_shift v) e) in
    let none : eqb s no_shift ≡ true = and_left (eqb s no_shift) (is_shift v) e in
    let one : eqb v no_shift ≡ false = neq_eqb v no_shift (λ (z : v ≡ no_shift). omega arith) in
    rw none (rw one at (reads_spelt v rest)))
    (λ _. front_spells s v rest (read_from no_shift rest) (reads_spelt no_shift rest))

pub spelt_again : (values t : List ℕ) → read_back values ≡ text t → (is_text t ≡ true) × (spelt t ≡ values)
spelt_again values t e = rw e at (reads_spelt no_shift values)

-- "a text is spelt in values": the shift and the value of each character are among the 43
by_values : (s v : ℕ) (rest : List ℕ) → (eqb s no_shift ≡ false → s < characters) → v < characters → are_values rest ≡ true
    → are_values (spelt_by s v ++ rest) ≡ true
by_values s v rest h k e =
    by_bool (eqb s no_shift) (λ n. rw (n, lt_ltb v characters k) e) (λ n. rw (n, lt_ltb s characters (h n), lt_ltb v characters k) e)

pub spelt_values : (t : List ℕ) → is_text t ≡ true → are_values (spelt t) ≡ true
spelt_values [] e = refl
spelt_values (c ∷ t) e =
    let h = ltb_true c ascii (and_left (ltb c ascii) (is_text t) e) in
    by_values (shift_of c) (value_of c) (spelt t) (λ n. shift_small (shift_of c) (shifted c h n)) (small_value c h)
    (spelt_values t (and_right (ltb c ascii) (is_text t) e))

-- one or two values for each character
spelt_by_length : (s v : ℕ) → (1 ≤ length (spelt_by s v)) × (length (spelt_by s v) ≤ 2)
spelt_by_length s v = cond_by (λ (l : List ℕ). (1 ≤ length l) × (length l ≤ 2)) (eqb s no_shift) (λ _. (omega arith, omega arith)) (λ _. (omega arith, omega arith))

pub spelt_length : (t : List ℕ) → (length t ≤ length (spelt t)) × (length (spelt t) ≤ 2 * length t)
spelt_length [] = (omega arith, omega arith)
spelt_length (c ∷ t) =
    let one = spelt_by_length (shift_of c) (value_of c) in
    let rest = spelt_length t in
    rw (length-append (spelt_by (shift_of c) (value_of c)) (spelt t)) (omega arith, omega arith)

-- "reading back never more than the spelt text has"
pub text_length : (values t : List ℕ) → read_back values ≡ text t → length t ≤ length values
text_length values t e = let same = ap length (spelt_again values t e).1 in omega (arith, spelt_length t, same)
