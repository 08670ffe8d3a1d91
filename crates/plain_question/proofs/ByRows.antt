-- The tokens of a question with its hidden fields, by their rows:
--   said_rows        : what is said by some rows is said by the same rows
--   said_of_question : what is said of the pairs that are reached by the rows is said of the question
-- Follows from what the token with an inner code is by its rows.
use Prim.Native.Nat.{ℕ}
use mathlib.Core.Path.{◌≡◌, subst}
use mathlib.Core.Bool.{Bool}
use mathlib.Core.List.{List, map}
use lib.ListN.{length, get_or}
use Rattle.paper.specs.Numbers.{set_fields}
use Rattle.base_codes.specs.Inner.{no_token, tokens}
use Rattle.base_question.specs.declared.Question.{Question}
use Rattle.search_hidden.specs.Behind.{Hidden, with_hidden}
use Rattle.plain_rows.specs.Fronts.{Front}
use Rattle.search_tables.specs.Tables.{follow_of, taking_of, last_of}
use Rattle.plain_rows.specs.Rows.{rows_of}
use Rattle.plain_rows.proofs.Rows.{token_front}
use Rattle.plain_question.specs.Reached.{Reached, front_at, Meets, Says}
use Rattle.plain_question.specs.Entered.{fronts}

module _ (h : Hidden) (all : length h.fields ≡ set_fields) where
  abbrev by_rows : List ℕ → ℕ → Front
  by_rows side =
      fronts h.characters (map follow_of (rows_of h.fields)) (map taking_of (rows_of h.fields)) (map last_of (rows_of h.fields)) (tokens side)

  rows_are : (side : List ℕ) → by_rows side ≡ front_at h side
  rows_are side = λ t i. token_front h.fields all h.characters (get_or (tokens side) i no_token) t

  said_by_rows : (b : Bool)
      → Says b (Reached (by_rows h.left) (by_rows h.right) (length (tokens h.left)) 0 (length (tokens h.right)) 0)
      → Says b (Reached (front_at h h.left) (front_at h h.right) (length (tokens h.left)) 0 (length (tokens h.right)) 0)
  said_by_rows b s =
      subst (λ (r : ℕ → Front). Says b (Reached (front_at h h.left) r (length (tokens h.left)) 0 (length (tokens h.right)) 0)) (rows_are h.right)
      (subst (λ (l : ℕ → Front). Says b (Reached l (by_rows h.right) (length (tokens h.left)) 0 (length (tokens h.right)) 0)) (rows_are h.left) s)

-- the same rows of what takes each character
pub said_rows : (n : ℕ) (follow taking its : List (List ℕ)) (last left right : List ℕ) (b : Bool) → taking ≡ its
    → Says b (Reached (fronts n follow taking last (tokens left)) (fronts n follow taking last (tokens right)) (length (tokens left)) 0 (length (tokens right)) 0)
    → Says b (Reached (fronts n follow its last (tokens left)) (fronts n follow its last (tokens right)) (length (tokens left)) 0 (length (tokens right)) 0)
said_rows n follow taking its last left right b e s =
    subst
    (λ (t : List (List ℕ)). Says b (Reached (fronts n follow t last (tokens left)) (fronts n follow t last (tokens right)) (length (tokens left)) 0 (length (tokens right)) 0))
    e s

pub said_of_question : (q : Question) (h : Hidden) (n : ℕ) (follow taking : List (List ℕ)) (last : List ℕ) (b : Bool)
    → h ≡ with_hidden q → n ≡ h.characters → length h.fields ≡ set_fields
    → follow ≡ map follow_of (rows_of h.fields) → taking ≡ map taking_of (rows_of h.fields) → last ≡ map last_of (rows_of h.fields)
    → Says b (Reached (fronts n follow taking last (tokens h.left)) (fronts n follow taking last (tokens h.right)) (length (tokens h.left)) 0 (length (tokens h.right)) 0)
    → Says b (Meets q)
said_of_question q h n follow taking last b e m all f g k s =
    subst
    (λ (x : Hidden). Says b (Reached (front_at x x.left) (front_at x x.right) (length (tokens x.left)) 0 (length (tokens x.right)) 0)) e
    (said_by_rows h all b (rw (m, f, g, k) at s))
