-- What the leaves of a pattern take: each some character, and nothing but characters, of which there are `n`. Patterns that a sheet
-- can hold are so: a range has lo ≤ hi and hi is a character.
use Rattle.std.specs.Prelude.{ℕ, ◌<◌, ◌≡◌, true}
use Rattle.paper.specs.Pattern.{Leaf, takes, Pattern, leaf, empty, then, either, many, Held, some_text, pattern}

pub record LeafTakes (n : ℕ) (l : Leaf) : Type 0 where
  pub some : ℕ
  pub taken : takes l some ≡ true
  pub character : (c : ℕ) → takes l c ≡ true → c < n

abbrev pub leaves_take : ℕ → Pattern → Type 0
leaves_take n (leaf l) = LeafTakes n l
leaves_take n empty = Unit {0}
leaves_take n (then a b) = leaves_take n a × leaves_take n b
leaves_take n (either a b) = leaves_take n a × leaves_take n b
leaves_take n (many a) = leaves_take n a

-- an open field takes every character, and there is one
abbrev pub held_takes : ℕ → Held → Type 0
held_takes n some_text = 0 < n
held_takes n (pattern p) = leaves_take n p
