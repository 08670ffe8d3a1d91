-- The pairs of standings that are reached (request K9), by the numbers of the tokens in front and the places. Over any tables of masks, any question; a
-- table has room for the characters of Full ASCII (request K10).
use Rattle.std.specs.Prelude.{ℕ, suc, ◌≤◌, ◌<◌, ◌≡◌, Bool, true, List, length, get_or}
use Rattle.paper.specs.Numbers.{most_characters}
use Rattle.base_codes.specs.Inner.{no_token, tokens}
use Rattle.base_question.specs.declared.Question.{Question}
use Rattle.search_hidden.specs.Behind.{Hidden, with_hidden}
use Rattle.plain_block.specs.Met.{comes_by, may_be_left}
use Rattle.plain_rows.specs.Fronts.{Front, front_of}

-- The pair of the left token i at the place p and the right token j at the place q is reached.
pub data Reached (l r : ℕ → Front) : ℕ → ℕ → ℕ → ℕ → Type 0 where
  begun : Reached l r 0 0 0 0
  left_left : (i p j q : ℕ) → Reached l r i p j q → may_be_left (l i).of p ≡ true → Reached l r (suc i) 0 j q
  right_left : (i p j q : ℕ) → Reached l r i p j q → may_be_left (r j).of q ≡ true → Reached l r i p (suc j) 0
  both_read : (i p j q c s t : ℕ) → Reached l r i p j q → (l i).lo ≤ c → c < (l i).hi → (r j).lo ≤ c → c < (r j).hi → c < most_characters
      → comes_by (l i).of p c s ≡ true → comes_by (r j).of q c t ≡ true → Reached l r i s j t

-- the token with the number i of a side by inner codes; behind the last one the side's end
abbrev pub front_at : Hidden → List ℕ → ℕ → Front
front_at h side i = front_of h.characters h.fields (get_or (tokens side) i no_token)

-- some label is read by both sides to their ends, each standing apart
abbrev pub Meets : Question → Type 0
Meets question =
    let h = with_hidden question in
    Reached (front_at h h.left) (front_at h h.right) (length (tokens h.left)) 0 (length (tokens h.right)) 0

-- a test says it exactly
pub record Says (b : Bool) (P : Type 0) : Type 0 where
  pub holds : b ≡ true → P
  pub told : P → b ≡ true
