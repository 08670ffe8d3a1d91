-- Two sides told apart by what is fixed in them: "Two sides whose fixed fronts (or ends, without the spaces) differ can't clash". Fixed are the
-- characters before a side's first field, and those behind its last one.
use Rattle.std.specs.Prelude.{ℕ, ◌≡◌, ◌⊎◌, Bool, true, false, cond, not, ◌&&◌, ◌||◌, List, [], ◌∷◌, map, reverse, eqb}
use Rattle.paper.specs.Lists.{all}
use Rattle.paper.specs.Alphabet.{Edition, edition_1, edition_2, alphabet_of, codes}
use Rattle.paper.specs.Equation.{chr, fld, Side, Texts, label, Same}
use Rattle.paper.specs.Question.{Question, Solution}
use Rattle.paper.specs.Sheet.{is_token, token}
use Rattle.paper.specs.Saying.{edition_byte}

-- At some place both sides have a character and the characters are different. A field ends what is fixed; so does the end of a side, behind which
-- there may be spaces.
abbrev pub fronts_differ : Side → Side → Bool
fronts_differ [] right = false
fronts_differ (fld f ∷ left) right = false
fronts_differ (chr a ∷ left) [] = false
fronts_differ (chr a ∷ left) (fld g ∷ right) = false
fronts_differ (chr a ∷ left) (chr b ∷ right) = not (eqb a b) || fronts_differ left right

-- the side begins with a character that is not the space x
abbrev pub begins_solid : ℕ → Side → Bool
begins_solid x [] = false
begins_solid x (fld f ∷ side) = false
begins_solid x (chr c ∷ side) = not (eqb c x)

-- "ends are compared only where both sides end with a character that is not the space": the sides are read from behind.
abbrev pub ends_differ : ℕ → Side → Side → Bool
ends_differ x left right =
    (begins_solid x (reverse left) && begins_solid x (reverse right)) && fronts_differ (reverse left) (reverse right)

abbrev pub fixed_differ : ℕ → Side → Side → Bool
fixed_differ x left right = fronts_differ left right || ends_differ x left right

-- what the bytes of a side say in an edition, and that each of them is a token
abbrev pub side_said : Edition → List ℕ → Side
side_said e bytes = map token (codes e bytes)

abbrev pub are_tokens : Edition → List ℕ → Bool
are_tokens e bytes = all is_token (codes e bytes)

-- the same of bytes, which are all tokens of the edition: "0 says nothing, also of bytes that are no tokens"
unfoldable pub bytes_differ : Edition → List ℕ → List ℕ → Bool
bytes_differ e left right =
    fixed_differ (alphabet_of e).space (side_said e left) (side_said e right) && (are_tokens e left && are_tokens e right)

-- 1 or 0, by the number of an edition: 0 for none, 2 for Full ASCII; of any other nothing is said
unfoldable pub fronts_told : ℕ → List ℕ → List ℕ → ℕ
fronts_told n left right =
    cond (eqb n (edition_byte edition_1)) (cond (bytes_differ edition_1 left right) 1 0)
    (cond (eqb n (edition_byte edition_2)) (cond (bytes_differ edition_2 left right) 1 0) 0)

-- What is promised of what is told: of all bytes and every number of an edition.
pub record FrontsPromised (n : ℕ) (left right : List ℕ) (r : ℕ) : Type 0 where
  pub zero_or_one : (r ≡ 0) ⊎ (r ≡ 1)
  -- "1 only if no texts at all make both sides the same label", whatever the fields may hold
  pub apart :
      r ≡ 1 → (e : Edition) → edition_byte e ≡ n → (texts : Texts)
      → Same (alphabet_of e).space (label texts (side_said e left)) (label texts (side_said e right)) → ⊥
  -- So no question with these sides has a clash.
  pub no_clash :
      r ≡ 1 → (e : Edition) → edition_byte e ≡ n → (q : Question) → q.alphabet ≡ alphabet_of e → q.left ≡ side_said e left
      → q.right ≡ side_said e right → (texts : Texts) → Solution q texts → ⊥
  -- 1 is said of tokens of an edition alone
  pub said_of : r ≡ 1 → (e : Edition) × ((edition_byte e ≡ n) × ((are_tokens e left ≡ true) × (are_tokens e right ≡ true)))
