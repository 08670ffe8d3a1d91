-- How long the ways through a search and their texts can be (request K12): a statement about every way that the search finds, over any acceptor,
-- from any sides, with any limit on them and in any room. That the search of a question meets it is proved in `TextLength`; that its search
-- over some of its characters alone does, in `Over` of `paper_chosen`.
use Rattle.std.specs.Prelude.{ℕ, ◌≤◌, ◌<◌, length}
use mathlib.Core.List.{Memᴰ}
use Rattle.paper.specs.Numbers.{most_room, longest_text}
use Rattle.paper.specs.Search.{Entry, entries}
use Rattle.paper.specs.Equation.{Side}
use Rattle.paper.specs.Situation.{Acceptor, Situation, Move}
use Rattle.paper.specs.Way.{search_from, given, texts_of}

module _ {P : Type 0} (A : Acceptor P) (limit room : ℕ) (l r : Side) where
  -- the search enters it, and so has found its way
  abbrev pub Entered : Entry (Situation P) Move → Type 0
  Entered e = Memᴰ e (entries (search_from A limit room l r))

  pub record ShortWays : Type 0 where
    -- "No route through the search has more steps than the room has situations, less one,"
    pub steps : (e : Entry (Situation P) Move) → Entered e → length e.way < room
    -- "and each step gives a field one character at most."
    pub one_at_most : (f : ℕ) (s : Situation P) (m : Move) → length (given A f s m) ≤ 1
    -- So a text has no more characters than its way has steps,
    pub text_of_way : (e : Entry (Situation P) Move) (f : ℕ) → length (texts_of A l r e f) ≤ length e.way
    -- and as there is room for 65,535 situations at most, "a text can't pass 65,534 characters".
    pub texts : room ≤ most_room → (e : Entry (Situation P) Move) → Entered e → (f : ℕ) → length (texts_of A l r e f) ≤ longest_text
