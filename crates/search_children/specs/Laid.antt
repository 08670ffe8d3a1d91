-- How the structs of the code hold children, sides before they are trimmed, and the tables.
use Rattle.std.specs.Prelude.{ℕ, ◌+◌, ◌≤◌, ◌≡◌, List, take}
use Rattle.paper.specs.Numbers.{longest_side}
use Rattle.base_codes.specs.Coded.{as_struct}
use Rattle.search_children.specs.Children.{Tables, Settled, dropped, above, made}
use Rattle.search_children.specs.declared.Child.{Child}
use Rattle.search_children.specs.declared.Child.TheVariants.{Dropped, Above, Made}
use Rattle.search_children.specs.declared.Tables.{Tables as Lent-tables}

-- the child in the code's terms
abbrev pub child_of : Settled → Child
child_of dropped = Dropped
child_of above = Above
child_of (made s) = Made (as_struct s)

-- a side with a character put before each of its tokens
abbrev pub widest_side : ℕ
widest_side = longest_side + longest_side

-- the first n bytes are these tokens, and no more than there is room for
pub record Has (bytes : List ℕ) (n : ℕ) (l : List ℕ) : Type 0 where
  pub few : n ≤ widest_side
  pub has : take n bytes ≡ l

-- how many characters there are, and what is worked out once of the fields
abbrev pub tables : ℕ → List (List ℕ) → List (List ℕ) → List ℕ → Tables
tables characters follow taking last = record { characters = characters; follow = follow; taking = taking; last = last }

-- the same, as it is lent
abbrev pub tables_lent : Lent-tables → Tables
tables_lent t = tables t.characters t.follow.now t.taking.now t.last
