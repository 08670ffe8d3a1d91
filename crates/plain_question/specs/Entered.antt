-- How a token comes in front: with each token of the other side, the places at which that one is then. A pair is reached from these, the two tokens
-- staying in front (`Met`).
use Rattle.std.specs.Prelude.{ℕ, suc, ◌≤◌, ◌<◌, ◌≡◌, Bool, true, List, length, get_or}
use Rattle.paper.specs.Numbers.{longest_side}
use Rattle.base_codes.specs.Inner.{no_token}
use Rattle.plain_block.specs.Met.{may_be_left, Exactly, Crosses}
use Rattle.plain_block.specs.declared.Crossed.{Crossed}
use Rattle.plain_rows.specs.Fronts.{Front}
use Rattle.plain_rows.specs.Rows.{token_of, front_by}
use Rattle.plain_question.specs.Reached.{Reached, Says}

-- the left token i comes in front with the right token j at the place q: both sides begin, or the left token before it is left
pub data LeftCame (l r : ℕ → Front) : ℕ → ℕ → ℕ → Type 0 where
  both_begin : LeftCame l r 0 0 0
  behind_left : (i p j q : ℕ) → Reached l r i p j q → may_be_left (l i).of p ≡ true → LeftCame l r (suc i) j q

-- the right token j comes in front with the left token i at the place p: the right token before it is left
pub data RightCame (l r : ℕ → Front) : ℕ → ℕ → ℕ → Type 0 where
  behind_right : (i p j q : ℕ) → Reached l r i p j q → may_be_left (r j).of q ≡ true → RightCame l r i (suc j) p

-- the tokens of a side by their rows, over n characters; behind the last one its end
abbrev pub fronts : ℕ → List (List ℕ) → List (List ℕ) → List ℕ → List ℕ → ℕ → Front
fronts n follow taking last side i = front_by follow taking last (token_of n (get_or side i no_token))

-- for each right token, the places at which the left token i came in front
abbrev pub Entered : (ℕ → Front) → (ℕ → Front) → ℕ → ℕ → List ℕ → Type 0
Entered l r n i came = (j : ℕ) → j ≤ n → Exactly (get_or came j 0) (LeftCame l r i j)

-- the characters that both tokens may read are those from lo on to below hi
pub record Common (l r : Front) (lo hi : ℕ) : Type 0 where
  pub both : (c : ℕ) → lo ≤ c → c < hi → (l.lo ≤ c) × (c < l.hi) × (r.lo ≤ c) × (c < r.hi)
  pub each : (c : ℕ) → l.lo ≤ c → c < l.hi → r.lo ≤ c → c < r.hi → (lo ≤ c) × (c < hi)

-- what is told of two tokens in front
pub record CrossesFronts (l r : Front) (m n : ℕ) (x : Crossed) : Type 0 where
  pub lo : ℕ
  pub hi : ℕ
  pub common : Common l r lo hi
  pub crosses : Crosses l.of r.of lo hi m n x

-- What is told of one left token with each right one and the end of the right side: from the places at which it came in front, those at which the next
-- one does; and whether its start is met with that of the end.
pub record Goes_on (front : Front) (r : ℕ → Front) (n : ℕ) (came then : List ℕ) (met : Bool) : Type 0 where
  pub long : length then ≡ suc longest_side
  pub entered : (l : ℕ → Front) (i : ℕ) → l i ≡ front → Entered l r n i came → Entered l r n (suc i) then
  pub ends : (l : ℕ → Front) (i : ℕ) → l i ≡ front → Entered l r n i came → Says met (Reached l r i 0 n 0)
